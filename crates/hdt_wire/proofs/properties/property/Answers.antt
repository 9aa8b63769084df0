use Rattle.std.proofs.Common.{arith, sym, ap, ◌∙◌, ◌≡◌, ◌-◌, ◌+◌, ℕ, List, Option, length, take, drop}
use Rattle.std.specs.Option.{option_copied}
use Rattle.hdt_wire.specs.Property.{is_byte, item_value}
use Rattle.hdt_wire.proofs.PropertyItems.{latest_value, latest_is, counted, more, last, last_value}
use Rattle.std.specs.List.{slice_split}
use Rattle.std.proofs.lemmas.List.{take_all, drop-drop, length-drop}
use Rattle.hdt_wire.proofs.properties.property.Goals as goal

pub pieces-init : goal.pieces-init
pieces-init c = last_value c.args.key.now c.args.text.now

pub returns-in-empty : goal.returns-in-empty
returns-in-empty c =
    let key = c.args.key.now in
    let rest = c.pieces.rest.now in
    let cut = c.find_byte-cut.result in
    let found = option_copied c.pieces.found in
    let full : cut ≡ length rest =
    omega (arith, c.find_byte-cut.ensures.within, c.split_at.ensures.back_len, c.in-empty.len_below) in
    let e : option_copied c.or-found.result ≡ latest_value found (item_value key (take cut rest)) =
    latest_is c.parse_item.result c.pieces.found c.or-found.result c.or-found.ensures
    ∙ ap (latest_value found) (c.parse_item.ensures ∙ ap (item_value key) c.split_at.ensures.front) in
    e ∙ sym (last key rest found cut c.find_byte-cut.ensures.index full) ∙ c.pieces.invariant

pub pieces-preserved : goal.pieces-preserved
pieces-preserved c =
    let key = c.args.key.now in
    let rest = c.pieces.rest.now in
    let cut = c.find_byte-cut.result in
    let found = option_copied c.pieces.found in
    let e : option_copied c.or-found.result ≡ latest_value found (item_value key (take cut rest)) =
    latest_is c.parse_item.result c.pieces.found c.or-found.result c.or-found.ensures
    ∙ ap (latest_value found) (c.parse_item.ensures ∙ ap (item_value key) c.split_at.ensures.front) in
    let back = c.split_at.result.1.now in
    let next : take (length back - 1) (drop 1 back) ≡ drop (cut + 1) rest =
    take_all (length back - 1) (drop 1 back) (omega (arith, length-drop 1 back)) ∙ ap (drop 1) c.split_at.ensures.back
    ∙ drop-drop 1 cut rest in
    ap (λ (o : Option (List ℕ)). counted key o (slice_split (is_byte 59) (take (length back - 1) (drop 1 back)))) e
    ∙ ap (λ (t : List ℕ). counted key (latest_value found (item_value key (take cut rest)))
    (slice_split (is_byte 59) t)) next
    ∙ sym (more key rest found cut c.find_byte-cut.ensures.index
    (omega (arith, c.split_at.ensures.back_len, c.in-len1-up.len_at_least))) ∙ c.pieces.invariant

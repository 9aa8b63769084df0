use Rattle.std.proofs.Common.{◌≡◌, ◌+◌, ◌-◌, ℕ, List, [], ◌∷◌, ◌++◌, length, take, drop, sym, ap, ◌∙◌, arith}
use Rattle.std.proofs.Common.{append_assoc}
use Rattle.std.proofs.lemmas.List.{take_all, drop-drop, length-drop}
use Rattle.hdt_build.specs.NewHeader.{item_with_length, with_length}
use Rattle.hdt_build.proofs.HeaderProperties.{first_item, last_item}
use Rattle.hdt_build.proofs.new_header.properties_with_length.Goals as goal

pub returns-in-empty : goal.returns-in-empty
returns-in-empty c =
    let n = c.args.len in
    let rest = c.items.rest.now in
    let cut = c.item_end-cut.result in
    let full : cut ≡ length rest =
    omega (arith, c.item_end-cut.ensures.within, c.split_at.ensures.back_len, c.in-empty.len_below) in
    let put : c.put_item.new.out.items ≡ c.items.made.items ++ item_with_length n (take cut rest) =
    c.in_ok-put_item.ensures ∙ ap (λ (t : List ℕ). c.items.made.items ++ item_with_length n t)
    c.split_at.ensures.front in
    put ∙ ap (λ (t : List ℕ). c.items.made.items ++ t) (sym (last_item n rest cut c.item_end-cut.ensures.index full))
    ∙ c.items.invariant

pub items-preserved : goal.items-preserved
items-preserved c =
    let n = c.args.len in
    let rest = c.items.rest.now in
    let cut = c.item_end-cut.result in
    let back = c.split_at.result.1.now in
    let made = c.items.made.items in
    let first : List ℕ = item_with_length n (take cut rest) in
    let next : take (length back - 1) (drop 1 back) ≡ drop (cut + 1) rest =
    take_all (length back - 1) (drop 1 back) (omega (arith, length-drop 1 back)) ∙ ap (drop 1) c.split_at.ensures.back
    ∙ drop-drop 1 cut rest in
    let put : c.push.new.self.items ≡ (made ++ first) ++ (59 ∷ []) =
    c.in_ok-push-in-len1-up.ensures.items ∙ ap (λ (t : List ℕ). t ++ (59 ∷ [])) (c.in_ok-put_item.ensures
    ∙ ap (λ (t : List ℕ). made ++ item_with_length n t) c.split_at.ensures.front) in
    let more : (made ++ first) ++ ((59 ∷ []) ++ with_length n (drop (cut + 1) rest)) ≡ made ++ with_length n rest =
    append_assoc made first (59 ∷ with_length n (drop (cut + 1) rest))
    ∙ ap (λ (t : List ℕ). made ++ t) (sym (first_item n rest cut c.item_end-cut.ensures.index
    (omega (arith, c.split_at.ensures.back_len, c.in-len1-up.len_at_least)))) in
    ap (λ (t : List ℕ). t ++ with_length n (take (length back - 1) (drop 1 back))) put
    ∙ ap (λ (t : List ℕ). ((made ++ first) ++ (59 ∷ [])) ++ with_length n t) next
    ∙ append_assoc (made ++ first) (59 ∷ []) (with_length n (drop (cut + 1) rest)) ∙ more ∙ c.items.invariant

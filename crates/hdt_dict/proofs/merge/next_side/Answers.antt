use Rattle.std.proofs.Common.{[], get_or, arith, sym, ◌∙◌}
use Rattle.std.proofs.lemmas.List.{length-map}
use Rattle.hdt_front.specs.Canonical.{borrowed_texts}
use Rattle.hdt_dict.specs.Strings.{empty_string}
use Rattle.hdt_dict.specs.Laws.Strings.{string_at}
use Rattle.hdt_dict.proofs.Merging.{turned, less_alone, past_alone, equal_both}
use Rattle.hdt_dict.proofs.merge.next_side.Goals as goal

pub returns-then-j-ys-clause-first : goal.returns-then-j-ys-clause-first
returns-then-j-ys-clause-first c = λ _.
    let r = c.requires in
    let long = length-map c.args.ys.now (λ v. v.now) in
    let wide = length-map c.args.xs.now (λ v. v.now) in
    past_alone (borrowed_texts c.args.xs.now) (borrowed_texts c.args.ys.now) c.args.i c.args.j r.ys_ascending
    (grind (arith, r.some, c.if-j-ys.true, wide)) (omega (arith, c.if-j-ys.true, long)) r.ys_passed

pub returns-then-i-xs-clause-second : goal.returns-then-i-xs-clause-second
returns-then-i-xs-clause-second c = λ _.
    let r = c.requires in
    let long = length-map c.args.ys.now (λ v. v.now) in
    let wide = length-map c.args.xs.now (λ v. v.now) in
    past_alone (borrowed_texts c.args.ys.now) (borrowed_texts c.args.xs.now) c.args.j c.args.i r.xs_ascending
    (omega (arith, c.if-j-ys.false, long)) (omega (arith, c.if-i-xs.true, wide)) r.xs_passed

pub returns-clause-first : goal.returns-clause-first
returns-clause-first c = λ is.
    let r = c.requires in
    let xs = c.args.xs.now in
    let ys = c.args.ys.now in
    let x = string_at xs c.args.i empty_string [] (omega (arith, c.if-i-xs.false)) in
    let y = string_at ys c.args.j empty_string [] (omega (arith, c.if-j-ys.false)) in
    let long = length-map ys (λ v. v.now) in
    let wide = length-map xs (λ v. v.now) in
    less_alone (borrowed_texts xs) (borrowed_texts ys) c.args.i c.args.j r.ys_ascending
    (omega (arith, c.if-i-xs.false, wide)) (omega (arith, c.if-j-ys.false, long)) r.xs_passed r.ys_passed
    (rw (x, y) (sym c.cmp.ensures ∙ is))

pub returns-clause-second : goal.returns-clause-second
returns-clause-second c = λ is.
    let r = c.requires in
    let xs = c.args.xs.now in
    let ys = c.args.ys.now in
    let x = string_at xs c.args.i empty_string [] (omega (arith, c.if-i-xs.false)) in
    let y = string_at ys c.args.j empty_string [] (omega (arith, c.if-j-ys.false)) in
    let long = length-map ys (λ v. v.now) in
    let wide = length-map xs (λ v. v.now) in
    less_alone (borrowed_texts ys) (borrowed_texts xs) c.args.j c.args.i r.xs_ascending
    (omega (arith, c.if-j-ys.false, long)) (omega (arith, c.if-i-xs.false, wide)) r.ys_passed r.xs_passed
    (rw (x, y) (turned (get_or xs c.args.i empty_string).now (get_or ys c.args.j empty_string).now (sym c.cmp.ensures
    ∙ is)))

pub returns-clause-both : goal.returns-clause-both
returns-clause-both c = λ is.
    let r = c.requires in
    let xs = c.args.xs.now in
    let ys = c.args.ys.now in
    let x = string_at xs c.args.i empty_string [] (omega (arith, c.if-i-xs.false)) in
    let y = string_at ys c.args.j empty_string [] (omega (arith, c.if-j-ys.false)) in
    let long = length-map ys (λ v. v.now) in
    let wide = length-map xs (λ v. v.now) in
    equal_both (borrowed_texts xs) (borrowed_texts ys) c.args.i c.args.j r.xs_ascending r.ys_ascending
    (omega (arith, c.if-i-xs.false, wide)) (omega (arith, c.if-j-ys.false, long)) r.xs_passed r.ys_passed
    (rw (x, y) (sym c.cmp.ensures ∙ is))

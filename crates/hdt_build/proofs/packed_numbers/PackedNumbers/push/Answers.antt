use Rattle.std.proofs.Common.{◌∙◌, ◌++◌, ◌∷◌, [], List, ℕ, ap, arith}
use Rattle.hdt_build.proofs.PackedNumbers.{few_numbers, pushed_number, pushed_number_is}
use Rattle.hdt_build.proofs.packed_numbers.PackedNumbers.push.Goals as goal

pub overflow_add-self : goal.overflow_add-self
overflow_add-self c =
    let s = c.self.inside in
    omega (arith, few_numbers s.bytes.items s.greatest s.count c.self.invariant, s.bytes.ok.0)

pub returns : goal.returns
returns c =
    let s = c.self.inside in
    pushed_number_is s.bytes.items s.greatest s.count c.self.invariant c.put_vbyte.new.out.items c.args.number
    (omega (arith, c.ranges.number)) c.in_ok-put_vbyte.ensures.ok
    ∙ ap (λ (l : List ℕ). l ++ c.args.number ∷ []) c.self.view_is

pub invariant_of-self-2 : goal.invariant_of-self-2
invariant_of-self-2 c =
    let s = c.self.inside in
    rw c.max-self-inside.ensures
    (pushed_number s.bytes.items s.greatest s.count c.self.invariant c.put_vbyte.new.out.items c.args.number
    (omega (arith, c.ranges.number)) c.in_ok-put_vbyte.ensures.ok)

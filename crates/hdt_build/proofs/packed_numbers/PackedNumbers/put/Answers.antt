use Rattle.std.proofs.Common.{◌∷◌, List, ℕ, length, subst}
use Rattle.std.proofs.lemmas.Result.{on_ok_weaker}
use Rattle.hdt_wire.specs.VByte.{vbyte}
use Rattle.hdt_seq.specs.Width.{width_of}
use Rattle.hdt_seq.specs.Laws.Width.{width_fits}
use Rattle.hdt_build.specs.Inside.PackedNumbers.{HaveWritten}
use Rattle.hdt_build.proofs.PackedNumbers.{all_written, numbers_whole, written_more}
use Rattle.hdt_build.proofs.packed_numbers.PackedNumbers.put.Goals as goal

pub numbers-preserved : goal.numbers-preserved
numbers-preserved c =
    let all : List ℕ = c.args.self.now in
    let l = c.numbers in
    let head : List ℕ = 1 ∷ width_of all ∷ vbyte (length all) in
    written_more c.args.out.now.items head (width_of all) all (width_fits all) c.next.new.self c.in-Some.number l.writer
    c.push.new.self l.out.items c.push.new.out.items c.in_ok-push.ensures
    (subst (λ rest. HaveWritten c.args.out.now.items head (width_of all) all rest l.writer l.out.items)
    c.in-Some.ensures.some l.invariant)

pub returns : goal.returns
returns c =
    let all : List ℕ = c.args.self.now in
    let l = c.numbers in
    let head : List ℕ = 1 ∷ width_of all ∷ vbyte (length all) in
    on_ok_weaker c.finish.result
    (λ e. numbers_whole all c.args.out.now.items c.finish.new.out.items
    (e c.args.out.now.items head all (width_of all)
    (all_written c.args.out.now.items head (width_of all) all l.writer l.out.items
    (subst (λ rest. HaveWritten c.args.out.now.items head (width_of all) all rest l.writer l.out.items)
    c.in_default.ensures.none l.invariant))))
    c.finish.ensures

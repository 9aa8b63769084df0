use Rattle.std.proofs.Common.{◌≡◌, ap, ◌-◌, length, take, drop, arith, sym, ◌∙◌, subst, List, ℕ}
use Rattle.std.specs.Io.KnownBytes.{Appends}
use Rattle.std.proofs.lemmas.List.{length-drop, length-take}
use Rattle.std.proofs.Math.Seq.{take-add, take-length}
use Rattle.hdt_wire.specs.Counted.{inner}
use Rattle.hdt_wire.proofs.CountedWrites.{Appends-then}
use Rattle.hdt_wire.proofs.counted.Counted.write_all.Goals as goal

pub writes-preserved : goal.writes-preserved
writes-preserved g c =
    let contents = g.T.Write.contents in
    let text = c.args.text.now in
    let before = contents (inner c.args.self.now) in
    let rest : take (length text - c.writes.at) (drop c.writes.at text) ≡ drop c.writes.at text =
    ap (λ n. take n (drop c.writes.at text)) (sym (length-drop c.writes.at text))
    ∙ take-length (drop c.writes.at text) in
    let gained = subst (λ (t : List ℕ). Appends (contents (inner c.writes.self)) (contents (inner c.write.new.self))
    (take c.in-Ok.count t)) rest c.in-Ok.ensures.bytes in
    let two = Appends-then before (contents (inner c.writes.self)) (contents (inner c.write.new.self))
    (take c.writes.at text) (take c.in-Ok.count (drop c.writes.at text)) c.writes.invariant.written gained in
    record {
      within = omega (
        arith,
        c.in-Ok.ensures.bound,
        length-take (length text - c.writes.at) (drop c.writes.at text),
        length-drop c.writes.at text,
      );
      written = subst (λ (t : List ℕ). Appends before (contents (inner c.write.new.self)) t)
          (sym (take-add c.writes.at c.in-Ok.count text)) two;
      well = c.in-Ok.ensures.ok ∙ c.writes.invariant.well;
    }

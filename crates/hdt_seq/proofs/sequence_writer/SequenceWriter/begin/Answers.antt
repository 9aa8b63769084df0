use Rattle.std.proofs.Common.{◌≡◌, ◌∙◌, ◌++◌, ◌∷◌, [], ℕ, List, drop, refl, ap, arith, length, append_assoc}
use Rattle.std.proofs.Math.Seq.{drop-append_seam}
use Rattle.hdt_wire.specs.Crc.{crc8}
use Rattle.hdt_seq.proofs.SequenceWriting.{none_fit, begun}
use Rattle.hdt_seq.proofs.sequence_writer.SequenceWriter.begin.Goals as goal

pub returns : goal.returns
returns c = λ before bytes e at.
    let rest : drop c.args.head c.args.out.now.items ≡ bytes =
    ap (λ (n : ℕ). drop n c.args.out.now.items) at ∙ ap (drop (length before)) e ∙ drop-append_seam before bytes in
    let new : c.append_crc8.new.out.items ≡ (before ++ bytes) ++ crc8 bytes ∷ [] =
    c.in_ok-append_crc8.ensures.ok ∙ ap (λ (l : List ℕ). c.args.out.now.items ++ crc8 l ∷ []) rest
    ∙ ap (λ (l : List ℕ). l ++ crc8 bytes ∷ []) e in
    record {
      width_is = refl;
      start_is = omega (arith, c.len.ensures, c.append_crc8.new.out.ok, ap length (new ∙ append_assoc before bytes (crc8 bytes ∷ [])));
      fits = none_fit c.args.width;
      packs = begun before bytes c.append_crc8.new.out.items c.args.width new;
    }

use Rattle.std.proofs.Common.{◌++◌, take, List, Result, Ok, Err, ℕ, ap, ◌∙◌, ◌≡◌}
use Rattle.std.specs.Prelude.{OnOk, if◌then◌else◌}
use Rattle.std.specs.Result.{is_ok}
use Rattle.byteorder.specs.Endian.{little_bytes}
use Rattle.hdt_seq.specs.Laws.Packing.{bytes_front}
use Rattle.hdt_seq.proofs.packing.append_bytes.Goals as goal

at_ok : {T E : Type 0} (r : Result T E) (new more old : List ℕ) → new ≡ (if is_ok r then more else old)
    → OnOk r (new ≡ more)
at_ok (Ok x) new more old e = e
at_ok (Err f) new more old e = tt

pub returns-clause-ok : goal.returns-clause-ok
returns-clause-ok c =
    let written : c.write_u128.new.buf ≡ little_bytes 16 c.args.word = c.write_u128.ensures in
    let front : take c.args.count c.write_u128.new.buf ≡ little_bytes c.args.count c.args.word =
    ap (take c.args.count) written ∙ bytes_front c.args.count 16 c.args.word c.requires in
    at_ok c.extend_from_slice.result _ _ c.args.out.now.items
    (c.extend_from_slice.ensures.items
    ∙ ap (λ (t : List ℕ). if is_ok c.extend_from_slice.result then c.args.out.now.items
    ++ t else c.args.out.now.items) front)

use Rattle.std.proofs.Common.{◌≡◌, ◌∙◌, ◌++◌, ◌∷◌, [], List, ℕ, ap, subst}
use Rattle.hdt_wire.specs.Crc.{crc8}
use Rattle.hdt_build.specs.Inside.Output.{Puts}
use Rattle.hdt_build.proofs.EntryWriting.{begun_entries}
use Rattle.hdt_build.proofs.entry_writer.EntryWriter.begin.Goals as goal

pub returns : goal.returns
returns g c =
    let head : List ℕ = c.args.head.items in
    let code : c.check8-code.result ≡ crc8 head = c.check8-code.ensures ∙ ap crc8 c.as_slice.ensures.value in
    let with_code : c.push.new.self.items ≡ head ++ crc8 head ∷ [] =
    subst (λ (n : ℕ). c.push.new.self.items ≡ head ++ n ∷ []) code c.in_ok-push.ensures.items in
    let bytes : c.as_slice-2.result.now ≡ head ++ crc8 head ∷ [] = c.as_slice-2.ensures.value ∙ with_code in
    begun_entries c.args.out c.put.new.self head c.new-2.result.items c.args.width c.new.result
    (subst (Puts c.args.out c.put.new.self) bytes c.in_ok-put.ensures.ok) c.new.ensures c.new-2.ensures.items

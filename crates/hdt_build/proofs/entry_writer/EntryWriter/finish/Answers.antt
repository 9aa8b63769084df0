use Rattle.std.proofs.Common.{◌∙◌, ap, subst}
use Rattle.byteorder.specs.Endian.{little_bytes}
use Rattle.hdt_build.specs.Inside.Output.{OutputState, Puts}
use Rattle.hdt_build.specs.Inside.EntryWriting.{EntryState}
use Rattle.hdt_build.proofs.EntryWriting.{finished_entries}
use Rattle.hdt_build.proofs.entry_writer.EntryWriter.finish.Goals as goal

pub returns : goal.returns
returns g c = λ before head xs width h.
    let made = c.put_code.new.self in
    finished_entries before head xs width c.args.self c.flush.new.self h c.in_ok-flush.ensures made c.value.result
    (λ bytes is. c.value.ensures bytes (ap (λ (s : EntryState). s.crc) c.self.view_is ∙ is))
    (subst (λ (out : OutputState). Puts out made (little_bytes 4 c.value.result))
    (ap (λ (s : EntryState). s.out) c.self.view_is) c.in_ok-put_code.ensures)

use Rattle.std.proofs.Common.{◌<◌, ◌^◌, ℕ, subst, sym}
use Rattle.hdt_seq.proofs.SequenceWriting.{more_fit, pushed}
use Rattle.hdt_seq.proofs.sequence_writer.SequenceWriter.push.Goals as goal

pub returns : goal.returns
returns c = λ before head xs width lt h.
    let small = subst (λ (n : ℕ). c.args.entry < 2 ^ n) (sym h.width_is) lt in
    let done = c.in_ok-append_entry.ensures in
    record {
      width_is = h.width_is;
      start_is = h.start_is;
      fits = more_fit width xs c.args.entry h.fits lt;
      packs = pushed before head xs c.args.out.now.items c.append_entry.new.out.items width
          c.args.self.now.rest.word c.args.self.now.rest.filled c.append_entry.new.rest.word
          c.append_entry.new.rest.filled c.args.entry c.args.self.now.width c.fitting-entry.result
          h.width_is (c.fitting-entry.ensures.same small) h.packs done.word done.rest done.ok;
    }

use Rattle.hdt_build.proofs.RestOfBytes.{next_ahead}
use Rattle.hdt_build.proofs.comparing.skip_strings.Goals as goal

pub strings-preserved : goal.strings-preserved
strings-preserved c = record {
  ahead = next_ahead c.args.strings.now.ahead c.strings.strings c.next.new.self c.strings.at c.in_ok-next.ensures.ok
      c.strings.invariant.ahead;
}

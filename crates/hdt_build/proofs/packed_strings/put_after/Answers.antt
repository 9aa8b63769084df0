use Rattle.std.proofs.Common.{arith}
use Rattle.hdt_build.proofs.PackedStrings.{lcp_within}
use Rattle.hdt_build.proofs.packed_strings.put_after.Goals as goal

pub put_string-requires : goal.put_string-requires
put_string-requires c = omega (arith, c.requires, lcp_within c.args.last.now.items c.args.text.now)

use Rattle.std.proofs.Common.{append_assoc}
use Rattle.hdt_build.specs.Header.{count_line}
use Rattle.hdt_build.proofs.header.put_count.Goals as goal

pub returns : goal.returns
unfolding count_line
returns c =
    rw (
      c.in_ok-extend_from_slice-3.ensures.items,
      c.in_ok-put_decimal.ensures.ok,
      c.in_ok-extend_from_slice-2.ensures.items,
      c.in_ok-extend_from_slice.ensures.items,
      c.in_ok-push.ensures.items,
    )
    (simp append_assoc)

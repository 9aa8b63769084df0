use Rattle.std.proofs.Common.{◌∙◌}
use Rattle.hdt_build.specs.Inside.Comparing.{dictionary_control}
use Rattle.hdt_build.proofs.RestOfBytes.{rest_of_same}
use Rattle.hdt_build.proofs.comparing.rest_after_mapping.Goals as goal

pub returns : goal.returns
unfolding dictionary_control
returns c = rest_of_same dictionary_control c.as_slice.result.now c.args.bytes.now c.rest_after.result
    (c.as_slice.ensures.value ∙ rw c.new-part.ensures.items at c.in_ok-put_control.ensures.ok) c.rest_after.ensures

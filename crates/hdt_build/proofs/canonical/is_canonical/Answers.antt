use Rattle.hdt_file.specs.Graph.{layout_view}
use Rattle.hdt_build.proofs.CanonicalForm.{no_file, none_read}
use Rattle.hdt_build.proofs.canonical.is_canonical.Goals as goal

pub returns-in-Err-Fault : goal.returns-in-Err-Fault
returns-in-Err-Fault c = record {
  same = no_file c.args.block_size c.args.bytes.now (λ g layout.
      none_read layout_view g c.read.result c.in-Err-Fault.field-0 c.in-Err-Fault.field-0-0 c.in-Err-Fault.is
      c.in-Err-Fault.field-0-is (c.read.ensures.only g layout));
  tight = λ t. absurd cc;
}

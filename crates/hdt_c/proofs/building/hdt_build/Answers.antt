-- If memory for the handle runs out, the report says so.
use Rattle.std.proofs.Common.{inr}
use Rattle.hdt_build.specs.declared.fault.BuildFault.TheVariants.{OutOfMemory}
use Rattle.hdt_c.proofs.building.hdt_build.Goals as goal

pub returns-in-Err-put : goal.returns-in-Err-put
returns-in-Err-put c = inr (record {
  fault = OutOfMemory;
  is_fault = tt;
  made = c.in-Err-put.ensures.err;
  is_reported =
      c.report_of_fault.ensures;
})

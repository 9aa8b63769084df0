-- What the pointer of a handle owns: what a box of its value owns, or nothing if it is null.
use base.Fml.{Fml, ftrue}
use base.Stored.{Coded}
use denote.RawPtr.{Ptr}
use Rattle.std.specs.Prelude.{Option, Some, None}
use Rattle.std.specs.Coded.{coded_option}
use Rattle.std.specs.Box.Ownership.{box_owns}
use Rattle.std.specs.Global.{Global}
use Rattle.std_heap.specs.contracts.GlobalAllocator.TheImpl.{ghosts}
use Rattle.hdt_c.specs.declared.handle.Resource.{Resource}
use Rattle.hdt_c.specs.contracts.handle.Resource as resources

-- what the pointer owns
abbrev pub resource_ptr_owns : Global → Ptr → Option Resource → Fml
resource_ptr_owns alloc at None = ftrue
resource_ptr_owns alloc at (Some k) = box_owns (ghosts.dealloc_token alloc) resources.the_row at k

-- how an optional value is encoded in the logic
abbrev pub coded_resource : Coded (Option Resource)
coded_resource = coded_option resources.the_row.coded

-- The pointer of a handle may go to another thread: what it owns says the same to every thread.
use base.Shift.{Keyless}
use mir.Raw.{raw}
use denote.Memory.{lone}
use denote.RawPtr.{Ptr}
use denote.Struct.Struct.{exits_of}
use denote.Struct.Owning.{shape, fields, to}
use denote.Param.Send.{IsSend, AllSend, owning_send, struct_send, sendable}
use Rattle.std.specs.Prelude.{Option, Some, None}
use Rattle.std.specs.Global.{Global}
use Rattle.std.proofs.Crossing as crossing
use Rattle.std_alloc.proofs.SendSync.{lies, quiet}
use Rattle.std_heap.proofs.Global.TheSendSync as heap
use Rattle.hdt_file.proofs.graph.Graph.TheSendSync as graphs
use Rattle.hdt_c.specs.declared.handle.Resource.{Resource}
use Rattle.hdt_c.specs.contracts.handle.Resource as resources
use Rattle.hdt_c.specs.contracts.handle.ResourcePtr.{the_row, the_type}
use Rattle.hdt_c.specs.ResourceOwnership.{resource_ptr_owns}

-- a value may: a graph is only read, and any thread may free memory
resource_send : IsSend resources.the_row
resource_send = search (sendable, crossing.crosses, graphs.the_send, graphs.the_sync) depth 20

owned : (a : Global) (p : Ptr) (value : Option Resource) → Keyless (resource_ptr_owns a p value)
owned a p None = tt
owned a p (Some r) =
    (lies resources.the_row resource_send p r, crossing.frees.frees a (raw (lone resources.the_row.mir)) p)

pub send : IsSend the_row
send = let all : AllSend (fields the_type) = (search sendable, (heap.the_field_send, tt)) in
    owning_send the_type all (λ d. owned d.alloc d.at d.value)
    (λ k. quiet (to the_type) (exits_of k (fields the_type)) ((struct_send (shape the_type) all).leaving k))

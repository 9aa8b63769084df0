-- The error of reading a section.
use Rattle.std.specs.Prelude.{Option, Some, None}
use Rattle.hdt_wire.specs.declared.fault.Fault.{Fault}
use Rattle.hdt_front.specs.declared.section.ReadFault.{ReadFault}
use Rattle.hdt_front.specs.declared.section.ReadFault.TheVariants as faults

-- The error in the input; none if memory ran out.
abbrev pub read_fault_of : ReadFault → Option Fault
read_fault_of faults.OutOfMemory = None
read_fault_of (faults.Fault f) = Some f

-- Why a file could not be opened.
use Rattle.std.specs.Prelude.{Option, Some, None}
use Rattle.hdt_wire.specs.declared.fault.Fault.{Fault}
use Rattle.hdt_front.specs.declared.section.ReadFault.{ReadFault}
use Rattle.hdt_front.specs.declared.section.ReadFault.TheVariants as reads
use Rattle.hdt_file.specs.declared.fault.OpenFault.{OpenFault}
use Rattle.hdt_file.specs.declared.fault.OpenFault.TheVariants as opens

-- the error in the file; None if memory ran out, which says nothing of the file
abbrev pub open_fault_of : OpenFault → Option Fault
open_fault_of opens.OutOfMemory = None
open_fault_of (opens.Fault f) = Some f

-- the error of reading a section or a dictionary, as an error of opening the file
abbrev pub open_fault_of_part : ReadFault → OpenFault
open_fault_of_part reads.OutOfMemory = opens.OutOfMemory
open_fault_of_part (reads.Fault f) = opens.Fault f

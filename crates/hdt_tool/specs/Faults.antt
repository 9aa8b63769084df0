-- How the errors of the libraries become errors of a command.
use Rattle.hdt_build.specs.declared.fault.BuildFault.{BuildFault}
use Rattle.hdt_build.specs.declared.fault.BuildFault.TheVariants as building
use Rattle.hdt_build.specs.declared.fault.HeaderFault.{HeaderFault}
use Rattle.hdt_build.specs.declared.fault.HeaderFault.TheVariants as headers
use Rattle.hdt_build.specs.declared.fault.MergeFault.{MergeFault}
use Rattle.hdt_build.specs.declared.fault.MergeFault.TheVariants as merges
use Rattle.hdt_build.specs.declared.fault.RewriteFault.{RewriteFault}
use Rattle.hdt_build.specs.declared.fault.RewriteFault.TheVariants as rewriting
use Rattle.hdt_file.specs.declared.fault.DumpFault.{DumpFault}
use Rattle.hdt_file.specs.declared.fault.DumpFault.TheVariants as dumping
use Rattle.hdt_file.specs.declared.fault.OpenFault.{OpenFault}
use Rattle.hdt_file.specs.declared.fault.OpenFault.TheVariants as opening
use Rattle.hdt_terms.specs.declared.fault.LineFault.{LineFault}
use Rattle.hdt_terms.specs.declared.fault.LineReason.{LineReason}
use Rattle.hdt_terms.specs.declared.fault.LineReason.TheVariants as reasons
use Rattle.hdt_tool.specs.declared.fault.ToolFault.{ToolFault}
use Rattle.hdt_tool.specs.declared.fault.ToolFault.TheVariants.{File, Input, NoTriples, NotATerm, BadOptions, Read}
use Rattle.hdt_tool.specs.declared.fault.ToolFault.TheVariants.{Write, OutOfMemory}

abbrev pub tool_fault_of : OpenFault → ToolFault
tool_fault_of (opening.Fault fault) = File fault
tool_fault_of opening.OutOfMemory = OutOfMemory

abbrev pub dump_fault_of : DumpFault → ToolFault
dump_fault_of (dumping.NotATerm role n) = NotATerm role n
dump_fault_of (dumping.Write n) = Write n
dump_fault_of dumping.OutOfMemory = OutOfMemory

-- A failed reader and lack of memory are errors of their own, without a line number.
abbrev pub fault_of_reason : LineFault → LineReason → ToolFault
fault_of_reason fault reasons.Read = Read
fault_of_reason fault reasons.OutOfMemory = OutOfMemory
fault_of_reason fault reason = Input fault

abbrev pub line_fault_of : LineFault → ToolFault
line_fault_of fault = fault_of_reason fault fault.reason

abbrev pub build_fault_of : BuildFault → ToolFault
build_fault_of (building.Line fault) = line_fault_of fault
build_fault_of building.NoTriples = NoTriples
build_fault_of building.BadOptions = BadOptions
build_fault_of building.OutOfMemory = OutOfMemory
build_fault_of (building.Write n) = Write n

abbrev pub rewrite_fault_of : RewriteFault → ToolFault
rewrite_fault_of rewriting.BadOptions = BadOptions
rewrite_fault_of rewriting.OutOfMemory = OutOfMemory
rewrite_fault_of (rewriting.Write n) = Write n

abbrev pub merge_fault_of : MergeFault → ToolFault
merge_fault_of merges.BadOptions = BadOptions
merge_fault_of merges.OutOfMemory = OutOfMemory
merge_fault_of (merges.Write n) = Write n

abbrev pub tool_fault_of_header : HeaderFault → ToolFault
tool_fault_of_header (headers.File fault) = File fault
tool_fault_of_header (headers.Line fault) = line_fault_of fault
tool_fault_of_header headers.OutOfMemory = OutOfMemory

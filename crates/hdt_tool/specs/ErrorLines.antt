-- The exit status and the error message for each error.
use Rattle.std.specs.Prelude.{ℕ, List, ◌++◌, codes, string_bytes}
use Rattle.std.specs.Fmt.{decimal}
use Rattle.hdt_wire.specs.Fault.{reason_number, reason_name}
use Rattle.hdt_terms.specs.declared.fault.TermFault.{TermFault}
use Rattle.hdt_terms.specs.Reasons.{line_reason_number, line_reason_name}
use Rattle.hdt_tool.specs.declared.fault.TermArgument.{TermArgument}
use Rattle.hdt_tool.specs.declared.fault.TermArgument.TheVariants.{Term, Subject, Predicate, Object}
use Rattle.hdt_tool.specs.declared.fault.ToolFault.{ToolFault}
use Rattle.hdt_tool.specs.declared.fault.ToolFault.TheVariants as tool
use Rattle.hdt_tool.specs.declared.fault.UsageFault.{UsageFault}
use Rattle.hdt_tool.specs.declared.fault.UsageFault.TheVariants as usage
use Rattle.hdt_usage.specs.CommandTable.{role_name}

abbrev pub fault_status : ToolFault → ℕ
fault_status (tool.File fault) = 1
fault_status (tool.Input fault) = 1
fault_status tool.NoTriples = 1
fault_status tool.NoSuchTerm = 1
fault_status tool.NoMatch = 1
fault_status tool.NoSuchNumber = 1
fault_status (tool.NotATerm role n) = 1
fault_status tool.BadOptions = 2
fault_status tool.Read = 3
fault_status (tool.Write n) = 3
fault_status tool.OutOfMemory = 4

abbrev pub fault_line : ToolFault → List ℕ
fault_line (tool.File fault) = codes "hdt: fault " ++ decimal (reason_number fault.reason) ++ codes " "
    ++ reason_name fault.reason ++ codes " at " ++ decimal fault.place
fault_line (tool.Input fault) = codes "hdt: line " ++ decimal fault.line ++ codes " column " ++ decimal fault.column
    ++ codes ": "
    ++ decimal (line_reason_number fault.reason) ++ codes " " ++ line_reason_name fault.reason
fault_line tool.NoTriples = codes "hdt: no triples"
fault_line tool.NoSuchTerm = codes "hdt: no such term"
fault_line tool.NoMatch = codes "hdt: no match"
fault_line tool.NoSuchNumber = codes "hdt: no such number"
fault_line (tool.NotATerm role n) = codes "hdt: " ++ role_name role ++ codes " " ++ decimal n ++ codes " is not a term"
fault_line tool.BadOptions = codes "hdt: bad options"
fault_line tool.Read = codes "hdt: reading failed"
fault_line (tool.Write n) = codes "hdt: writing failed"
fault_line tool.OutOfMemory = codes "hdt: out of memory"

-- The name of the argument in the help text.
abbrev pub argument_name : TermArgument → List ℕ
argument_name Term = codes "TERM"
argument_name Subject = codes "S"
argument_name Predicate = codes "P"
argument_name Object = codes "O"

-- The message for an invalid term: the argument, the column, and the number and the name of the reason.
abbrev pub invalid_term_line : TermArgument → TermFault → List ℕ
invalid_term_line argument fault = codes "hdt: " ++ argument_name argument ++ codes " column " ++ decimal fault.column
    ++ codes ": "
    ++ decimal (line_reason_number fault.reason) ++ codes " " ++ line_reason_name fault.reason

-- Help is printed with status 0, since it is no failure.
abbrev pub usage_status : UsageFault → ℕ
usage_status (usage.Usage text) = 2
usage_status (usage.Help text) = 0
usage_status (usage.InvalidTerm argument fault) = 2
usage_status usage.OutOfMemory = 4

abbrev pub usage_line : UsageFault → List ℕ
usage_line (usage.Usage text) = string_bytes text
usage_line (usage.Help text) = string_bytes text
usage_line (usage.InvalidTerm argument fault) = invalid_term_line argument fault
usage_line usage.OutOfMemory = codes "hdt: out of memory"

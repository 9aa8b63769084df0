use Rattle.hdt_tool.proofs.ParsedArguments.{term_fault_of_argument}
use Rattle.hdt_tool.proofs.arguments.dictionary_string.Goals as goal

pub returns-in-Err-clause-refused : goal.returns-in-Err-clause-refused
returns-in-Err-clause-refused c =
    term_fault_of_argument c.args.argument c.args.text.now c.args.raw c.in-Err.fault c.term_fault.result c.if-raw.false
    c.term_fault.ensures c.in-Err.ensures.fault

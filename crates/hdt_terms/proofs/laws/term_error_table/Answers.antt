use Rattle.hdt_terms.proofs.TermErrorTable.{fault_in, fault_again}
use Rattle.hdt_terms.proofs.laws.term_error_table.Goals as goal

pub returns-clause-sound : goal.returns-clause-sound
returns-clause-sound c = fault_in

pub returns-clause-complete : goal.returns-clause-complete
returns-clause-complete c = fault_again

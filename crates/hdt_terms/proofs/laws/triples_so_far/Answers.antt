use Rattle.hdt_terms.proofs.TripleRuns.{ran_begins, ran_on, document_last, document_rest, fault_behind}
use Rattle.hdt_terms.proofs.laws.triples_so_far.Goals as goal

pub returns-clause-begins : goal.returns-clause-begins
returns-clause-begins c = ran_begins

pub returns-clause-goes_on : goal.returns-clause-goes_on
returns-clause-goes_on c = ran_on

pub returns-clause-last : goal.returns-clause-last
returns-clause-last c = document_last

pub returns-clause-rest : goal.returns-clause-rest
returns-clause-rest c = document_rest

pub returns-clause-fault : goal.returns-clause-fault
returns-clause-fault c = fault_behind

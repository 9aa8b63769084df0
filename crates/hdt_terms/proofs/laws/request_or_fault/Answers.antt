use Rattle.hdt_terms.specs.RequestParsing.{request_in}
use Rattle.hdt_terms.specs.Requests.{RequestLine}
use Rattle.hdt_terms.proofs.LawsLemmas.{says_or_fault, apart, one}
use Rattle.hdt_terms.proofs.RequestCompleteness.{asked_again}
use Rattle.hdt_terms.proofs.RequestLaws.{asked_found, triple_asked}
use Rattle.hdt_terms.proofs.laws.request_or_fault.Goals as goal

pub returns-clause-either : goal.returns-clause-either
returns-clause-either c = says_or_fault RequestLine request_in asked_found asked_again

pub returns-clause-apart : goal.returns-clause-apart
returns-clause-apart c = apart RequestLine request_in asked_found asked_again

pub returns-clause-one_request : goal.returns-clause-one_request
returns-clause-one_request c = one RequestLine request_in asked_found asked_again

pub returns-clause-found : goal.returns-clause-found
returns-clause-found c = asked_found

pub returns-clause-only : goal.returns-clause-only
returns-clause-only c = asked_again

pub returns-clause-triple : goal.returns-clause-triple
returns-clause-triple c = triple_asked

use Rattle.hdt_terms.proofs.RawLaws.{raw_line_found, raw_line_again}
use Rattle.hdt_terms.proofs.laws.raw_requests.Goals as goal

pub returns-clause-found : goal.returns-clause-found
returns-clause-found c = raw_line_found

pub returns-clause-only : goal.returns-clause-only
returns-clause-only c = raw_line_again

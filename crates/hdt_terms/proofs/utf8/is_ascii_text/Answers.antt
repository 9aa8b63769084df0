use Rattle.hdt_terms.proofs.TokenTests.{all_ascii}
use Rattle.std.proofs.lemmas.Bool.{eqb-true}
use Rattle.hdt_terms.proofs.utf8.is_ascii_text.Goals as goal

pub returns : goal.returns
returns c = λ yes. all_ascii c.args.bytes.now c.run_len.result (eqb-true _ _ yes) c.run_len.ensures.run

use Rattle.std.proofs.Common.{◌≡◌, Some, codes, rules}
use Rattle.std.proofs.lemmas.Result.{IfErr-weaker}
use Rattle.clap.specs.Words.{first_of, found_of, rows_of}
use Rattle.hdt_tool.proofs.ParsedArguments.{invalid_term}
use Rattle.hdt_tool.specs.declared.fault.TermArgument.TheVariants.{Term}
use Rattle.hdt_tool.proofs.arguments.required_term.Goals as goal

pub returns-in-Some-clause-refused : goal.returns-in-Some-clause-refused
returns-in-Some-clause-refused c =
    let rows = rows_of (found_of c.args.matches.now) in
    let entry : first_of (codes "TERM") rows ≡ Some c.as_bytes.result.now = search rules in
    IfErr-weaker c.dictionary_string.result _ _
    (λ r h. invalid_term Term rows c.as_bytes.result.now c.has_flag-raw.result r c.has_flag-raw.ensures.given.0
    entry h) c.dictionary_string.ensures.refused

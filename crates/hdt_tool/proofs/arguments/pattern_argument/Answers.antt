use Rattle.std.proofs.Common.{◌≡◌, List, ℕ, Some, rules, subst}
use Rattle.std.proofs.lemmas.Result.{IfErr-weaker}
use Rattle.clap.specs.Words.{first_of, found_of, rows_of}
use Rattle.hdt_tool.proofs.ParsedArguments.{invalid_part}
use Rattle.hdt_tool.proofs.arguments.pattern_argument.Goals as goal

pub returns-in-Some-clause-refused : goal.returns-in-Some-clause-refused
returns-in-Some-clause-refused c =
    let rows = rows_of (found_of c.args.matches.now) in
    let text = c.in-Some.text.now in
    let named : first_of c.name.result.now rows ≡ Some text = search rules in
    let entry = subst (λ (id : List ℕ). first_of id rows ≡ Some text) c.name.ensures named in
    IfErr-weaker c.string_or_any.result _ _
    (λ r h. invalid_part c.args.argument rows text c.has_flag-raw.result r c.has_flag-raw.ensures.given.0 entry h)
    c.string_or_any.ensures.refused

use Rattle.std.proofs.Common.{◌≢◌, List, ℕ, codes, rules, subst}
use Rattle.std.proofs.lemmas.Result.{err_from_is_err_and}
use Rattle.hdt_tool.specs.CommandLine.{RefutesOrInvalidTerm, IsFaultOfArgument}
use Rattle.hdt_tool.proofs.ParsedArguments.{map_refutes}
use Rattle.hdt_tool.proofs.arguments.string_or_any.Goals as goal

pub returns-in_err-dictionary_string-clause-refused : goal.returns-in_err-dictionary_string-clause-refused
returns-in_err-dictionary_string-clause-refused c =
    let text = c.args.text.now in
    let some : text ≢ codes "?" = search rules in
    let fault_of = IsFaultOfArgument c.args.argument c.args.raw text in
    let told = subst (λ (t : List ℕ). RefutesOrInvalidTerm (Unit {0})
    (IsFaultOfArgument c.args.argument c.args.raw t) c.in_err-dictionary_string.field-0.0) c.as_bytes.ensures.value
    c.in_err-dictionary_string.ensures.refused in
    let p = err_from_is_err_and c.from_residual.result c.from_residual.ensures.1 in
    rw (p.1, p.2) (map_refutes (Unit {0}) (Unit {0}) fault_of (λ other fault. (text ≢ codes "?") × fault_of other fault)
    c.in_err-dictionary_string.field-0.0 (λ w. w) (λ other fault h. (some, h)) told)

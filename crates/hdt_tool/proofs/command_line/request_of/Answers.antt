use Rattle.std.proofs.Common.{subst, sym}
use Rattle.std.specs.Prelude.{IfOk}
use Rattle.std.proofs.lemmas.Result.{IfErr-weaker}
use Rattle.clap.specs.Words.{Text, found_of, rows_of}
use Rattle.hdt_tool.specs.CommandLine.{IsRequestOf}
use Rattle.hdt_tool.proofs.ParsedArguments.{of_build, of_making, of_others}
use Rattle.hdt_tool.proofs.command_line.request_of.Goals as goal

pub returns-in_default-clause-refused : goal.returns-in_default-clause-refused
returns-in_default-clause-refused c =
    IfErr-weaker c.query_request.result _ _
    (λ r h. of_others c.args.name.now
    (rows_of (found_of c.args.matches.now)) r c.in_default.not-build c.in_default.not-rewrite h)
    c.query_request.ensures.refused

pub returns-in-rewrite-clause-refused : goal.returns-in-rewrite-clause-refused
returns-in-rewrite-clause-refused c =
    IfErr-weaker c.output_request.result _ _
    (λ r h. of_making c.args.name.now (rows_of (found_of c.args.matches.now)) r c.in-rewrite.is h)
    c.output_request.ensures.refused

pub returns-in-build-clause-ok : goal.returns-in-build-clause-ok
returns-in-build-clause-ok c =
    subst (λ (name : Text). IfOk c.build_request.result (IsRequestOf name (rows_of (found_of c.args.matches.now))))
    (sym c.in-build.is) c.build_request.ensures.ok

pub returns-in-build-clause-refused : goal.returns-in-build-clause-refused
returns-in-build-clause-refused c =
    IfErr-weaker c.build_request.result _ _
    (λ r h. of_build c.args.name.now (rows_of (found_of c.args.matches.now)) r c.in-build.is h)
    c.build_request.ensures.refused

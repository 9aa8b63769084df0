use Rattle.std.proofs.Common.{◌↔◌, List, ℕ, IsErrOf, subst, sym}
use Rattle.std.proofs.lemmas.Result.{IfErr-weaker, IfOk-weaker}
use Rattle.hdt_tool.specs.Changes.{change, update}
use Rattle.hdt_build.specs.Options.{AreValidOptions}
use Rattle.hdt_build.specs.declared.options.Options.{Options}
use Rattle.hdt_tool.specs.Outcomes.{IfBuild, IsFaultOfBytes, IsFaultOfInput, YieldsAppended}
use Rattle.hdt_tool.specs.declared.fault.ToolFault.TheVariants.{BadOptions}
use Rattle.hdt_tool.specs.declared.request.Action.{Action}
use Rattle.hdt_tool.specs.declared.request.Action.TheVariants.{Rewrite}
use Rattle.hdt_tool.proofs.InputFaults.{fault_of_input}
use Rattle.hdt_tool.proofs.Outputs.{rewrites}
use Rattle.hdt_tool.proofs.commands.make_file.Goals as goal

pub returns-in-Build-clause-bad : goal.returns-in-Build-clause-bad
returns-in-Build-clause-bad g c =
    subst (λ (a : Action). IfBuild a (λ (options : Options). IsErrOf c.build_file.result BadOptions
    ↔ (AreValidOptions options → ⊥))) (sym c.in-Build.is) c.build_file.ensures.bad

pub returns-in_ok-bytes-in-Rewrite-clause-ok : goal.returns-in_ok-bytes-in-Rewrite-clause-ok
returns-in_ok-bytes-in-Rewrite-clause-ok g c =
    let input = change g.R.Read.remaining c.args.input.now c.read_all.new.input in
    IfOk-weaker c.rewrite_file.result _ _
    (λ text h. subst (λ (a : Action). YieldsAppended a input text.items
    (update c.args.made.now.items c.rewrite_file.new.made.items)) (sym c.in-Rewrite.is)
    (rewrites c.in-Rewrite.block_size input c.in_ok-bytes-in-Rewrite.bytes.items c.deref.result.now text.items
    c.args.made.now.items c.rewrite_file.new.made.items c.in_ok-bytes-in-Rewrite.ensures.ok
    c.deref.ensures.value h)) c.rewrite_file.ensures.ok

pub returns-in_ok-bytes-in-Rewrite-clause-reported : goal.returns-in_ok-bytes-in-Rewrite-clause-reported
returns-in_ok-bytes-in-Rewrite-clause-reported g c =
    let input = change g.R.Read.remaining c.args.input.now c.read_all.new.input in
    let b = c.in-Rewrite.block_size in
    IfErr-weaker c.rewrite_file.result _ _
    (λ e h. subst (λ (a : Action). IsFaultOfInput a input e) (sym c.in-Rewrite.is)
    (fault_of_input (Rewrite b) input c.in_ok-bytes-in-Rewrite.bytes.items e c.in_ok-bytes-in-Rewrite.ensures.ok
    (subst (λ (bytes : List ℕ). IsFaultOfBytes (Rewrite b) bytes e) c.deref.ensures.value h)))
    c.rewrite_file.ensures.reported

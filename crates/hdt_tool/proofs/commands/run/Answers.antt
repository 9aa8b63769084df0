use Rattle.std.proofs.Common.{◌≡◌, ◌∙◌, ℕ, List, Ok, Err, IfErr, OnErr, OnOk, ap, length, rules, subst}
use Rattle.std.proofs.Common.{sym}
use Rattle.std.proofs.lemmas.Result.{err_from_is_err_and, on_ok_weaker}
use Rattle.std.specs.declared.alloc.Global.{Global}
use Rattle.std.specs.declared.vec.Vec.{Vec}
use Rattle.hdt_tool.specs.Changes.{Gains, change}
use Rattle.hdt_tool.specs.declared.fault.ToolFault.TheVariants.{BadOptions}
use Rattle.hdt_tool.proofs.Outputs.{IsWriteFault, completes, if_build, no_options, not_bad_writing, nothing_built}
use Rattle.hdt_tool.proofs.Outputs.{only_writing, read_only, reads_printed, restored, writes_prefix}
use Rattle.hdt_tool.proofs.Rewriting.{not_error, same_error, still_bad}
use Rattle.hdt_tool.proofs.commands.run.Goals as goal

pub returns-in_err-line-in-Build-clause-bad : goal.returns-in_err-line-in-Build-clause-bad
returns-in_err-line-in-Build-clause-bad g c =
    let p = err_from_is_err_and c.from_residual-in_err-line-in-Build.result
    c.from_residual-in_err-line-in-Build.ensures.1 in
    let fault = c.in_err-line-in-Build.field-0.0 in
    rw (p.1, p.2) (still_bad {T = Vec ℕ Global} {U =
    Unit {0}} c.args.request.now.action (Err fault) (Err fault) (same_error fault BadOptions)
    (same_error fault BadOptions) c.in_err-line-in-Build.ensures.bad)

pub returns-in_err-line-in-Build-clause-unread : goal.returns-in_err-line-in-Build-clause-unread
returns-in_err-line-in-Build-clause-unread g c =
    let p = err_from_is_err_and c.from_residual-in_err-line-in-Build.result
    c.from_residual-in_err-line-in-Build.ensures.1 in
    let fault = c.in_err-line-in-Build.field-0.0 in
    rw (p.1, p.2) (if_build c.args.request.now.action _ _
    (λ options unread is. unread (same_error {T = Unit {0}} {U = Vec ℕ Global} fault BadOptions is))
    c.in_err-line-in-Build.ensures.unread)

pub returns-in_ok-line-in-Build-clause-ok : goal.returns-in_ok-line-in-Build-clause-ok
returns-in_ok-line-in-Build-clause-ok g c =
    let input = change g.R.Read.remaining c.args.input.now c.make_file.new.input in
    let out = change g.W.Write.contents c.args.out.now c.write_text.new.out in
    let line = c.in_ok-line-in-Build.line.items in
    let same = c.truncate_on_error.ensures.same in
    completes c.truncate_on_error.result c.args.request.now.action input out line c.args.made.now.items
    c.make_file.new.made.items c.truncate_on_error.new.out.items
    c.in_ok-line-in-Build.ensures.ok
    (subst (λ r. OnOk r (Gains out line)) (sym same)
    (subst (λ (text : List ℕ). OnOk c.write_text.result (Gains out text)) c.deref.ensures.value
    c.write_text.ensures.ok))
    (subst (λ r. OnOk r (c.truncate_on_error.new.out.items ≡ c.make_file.new.made.items)) (sym same)
    (on_ok_weaker c.write_text.result (ap (λ v. v.items)) c.truncate_on_error.ensures.ok))

pub returns-in_ok-line-in-Build-clause-bad : goal.returns-in_ok-line-in-Build-clause-bad
returns-in_ok-line-in-Build-clause-bad g c =
    let line = c.in_ok-line-in-Build.line in
    let same = c.truncate_on_error.ensures.same in
    still_bad c.args.request.now.action (Ok line) c.truncate_on_error.result (not_error line BadOptions)
    (λ is. absurd (not_bad_writing c.write_text.result _ c.deref.result.now c.write_text.ensures.failed
    (sym same ∙ is)))
    c.in_ok-line-in-Build.ensures.bad

pub returns-in_ok-line-in-Build-clause-unread : goal.returns-in_ok-line-in-Build-clause-unread
returns-in_ok-line-in-Build-clause-unread g c =
    if_build c.args.request.now.action _ _
    (λ options _ is. absurd (not_bad_writing c.write_text.result _ c.deref.result.now c.write_text.ensures.failed
    (sym c.truncate_on_error.ensures.same ∙ is))) c.in_ok-line-in-Build.ensures.unread

pub returns-in_ok-line-in-Build-clause-write : goal.returns-in_ok-line-in-Build-clause-write
returns-in_ok-line-in-Build-clause-write g c =
    let input = change g.R.Read.remaining c.args.input.now c.make_file.new.input in
    let out = change g.W.Write.contents c.args.out.now c.write_text.new.out in
    let line = c.in_ok-line-in-Build.line.items in
    let makes = c.in_ok-line-in-Build.ensures.ok in
    let fails = subst (λ (text : List ℕ). IfErr c.write_text.result (IsWriteFault text out))
    c.deref.ensures.value c.write_text.ensures.failed in
    writes_prefix c.truncate_on_error.result c.args.request.now.action input out line makes.built makes.yields
    (subst (λ r. IfErr r (IsWriteFault line out)) (sym c.truncate_on_error.ensures.same) fails)

pub returns-in_ok-line-in-Build-clause-unwritten : goal.returns-in_ok-line-in-Build-clause-unwritten
returns-in_ok-line-in-Build-clause-unwritten g c =
    let out = change g.W.Write.contents c.args.out.now c.write_text.new.out in
    only_writing _ c.truncate_on_error.result out c.deref.result.now
    (subst (λ r. IfErr r (IsWriteFault c.deref.result.now out))
    (sym c.truncate_on_error.ensures.same) c.write_text.ensures.failed)

pub returns-in_ok-line-in-Build-clause-unchanged : goal.returns-in_ok-line-in-Build-clause-unchanged
returns-in_ok-line-in-Build-clause-unchanged g c =
    let made = c.args.made.now.items in
    let more = c.make_file.new.made.items in
    let last = c.truncate_on_error.new.out.items in
    let start = c.len-start.result in
    let long : length made ≡ start = search rules in
    let makes = c.in_ok-line-in-Build.ensures.ok in
    subst (λ r. OnErr r (last ≡ made)) (sym c.truncate_on_error.ensures.same)
    (restored c.write_text.result start made makes.built more last long makes.made c.truncate_on_error.ensures.err)

pub print_output-requires : goal.print_output-requires
print_output-requires g c = read_only _ c.in_default.not-Build c.in_default.not-Rewrite

pub returns-in_ok-print_output-in_default-clause-ok : goal.returns-in_ok-print_output-in_default-clause-ok
returns-in_ok-print_output-in_default-clause-ok g c =
    let action = c.args.request.now.action in
    let only = read_only action c.in_default.not-Build c.in_default.not-Rewrite in
    let made = c.in_ok-print_output-in_default.ensures.ok in
    record {
      text = made.text;
      makes = nothing_built action only _ made.text _ (reads_printed action _ made.text _ made.prints);
      written = made.written;
    }

pub returns-in_ok-print_output-in_default-clause-bad : goal.returns-in_ok-print_output-in_default-clause-bad
returns-in_ok-print_output-in_default-clause-bad g c =
    no_options _ _ (read_only _ c.in_default.not-Build c.in_default.not-Rewrite)

pub returns-in_ok-print_output-in_default-clause-unread : goal.returns-in_ok-print_output-in_default-clause-unread
returns-in_ok-print_output-in_default-clause-unread g c =
    no_options _ _ (read_only _ c.in_default.not-Build c.in_default.not-Rewrite)

pub returns-in_err-print_output-in_default-clause-bad : goal.returns-in_err-print_output-in_default-clause-bad
returns-in_err-print_output-in_default-clause-bad g c =
    no_options _ _ (read_only _ c.in_default.not-Build c.in_default.not-Rewrite)

pub returns-in_err-print_output-in_default-clause-unread : goal.returns-in_err-print_output-in_default-clause-unread
returns-in_err-print_output-in_default-clause-unread g c =
    no_options _ _ (read_only _ c.in_default.not-Build c.in_default.not-Rewrite)

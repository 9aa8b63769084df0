use Rattle.std.proofs.Common.{◌≡◌, ◌≢◌, ◌⊎◌, ◌∙◌, ℕ, List, Some, ap, subst, sym}
use Rattle.std.proofs.lemmas.Result.{IfErr-weaker, IfOk-weaker, err_from_is_err_and}
use Rattle.hdt_dict.specs.Dictionary.{role_strings}
use Rattle.hdt_dict.specs.Ids.{string_at_id}
use Rattle.hdt_file.specs.Graph.{graph_view, layout_view}
use Rattle.hdt_tool.specs.declared.fault.ToolFault.TheVariants.{OutOfMemory, NoSuchTerm}
use Rattle.hdt_tool.specs.declared.request.Action.{Action}
use Rattle.hdt_tool.specs.Outcomes.{IsFaultOfBytes, Prints}
use Rattle.hdt_tool.specs.ListedStrings.{IsListFault, PrintsListed}
use Rattle.hdt_tool.specs.StringsText.{PrintsNumber}
use Rattle.hdt_tool.specs.PrintedReports.{verdict}
use Rattle.hdt_tool.proofs.InputFaults.{no_counts, no_listing, no_match, no_number, no_term}
use Rattle.hdt_tool.proofs.queries.file_text.Goals as goal

pub returns-in_ok-verdict-in-Verify-clause-ok : goal.returns-in_ok-verdict-in-Verify-clause-ok
returns-in_ok-verdict-in-Verify-clause-ok c =
    let found = c.in_ok-verify-in-Verify.ensures.found in
    subst (λ (a : Action). Prints a c.args.bytes.now c.in_ok-verdict-in-Verify.field-0.items) (sym c.in-Verify.is)
    (record {
      graph = found.value;
      encoded = found.is;
      holds = c.in_ok-verdict-in-Verify.ensures
          ∙ ap verdict (sym found.viewed_as);
    })

pub returns-in_ok-verdict-in-VerifyTight-clause-ok : goal.returns-in_ok-verdict-in-VerifyTight-clause-ok
returns-in_ok-verdict-in-VerifyTight-clause-ok c =
    let found = c.in_ok-verify_tight-in-VerifyTight.ensures.found in
    subst (λ (a : Action). Prints a c.args.bytes.now c.in_ok-verdict-in-VerifyTight.field-0.items)
    (sym c.in-VerifyTight.is)
    (record {
      graph = found.value;
      encoded = found.is;
      printed = c.in_ok-verdict-in-VerifyTight.ensures
          ∙ ap verdict (sym found.viewed_as);
    })

pub returns-in-Info-clause-ok : goal.returns-in-Info-clause-ok
returns-in-Info-clause-ok c =
    IfOk-weaker c.file_info_text.result _ _
    (λ text h. subst (λ (a : Action). Prints a c.args.bytes.now text.items) (sym c.in-Info.is) h)
    c.file_info_text.ensures.ok

pub returns-in-Info-clause-err : goal.returns-in-Info-clause-err
returns-in-Info-clause-err c =
    IfErr-weaker c.file_info_text.result _ _
    (λ e h. subst (λ (a : Action). IsFaultOfBytes a c.args.bytes.now e) (sym c.in-Info.is) h)
    c.file_info_text.ensures.err

pub returns-in_ok-read-in-Nth-clause-ok : goal.returns-in_ok-read-in-Nth-clause-ok
returns-in_ok-read-in-Nth-clause-ok c =
    IfOk-weaker c.string_text.result _ _
    (λ text h. subst (λ (a : Action). Prints a c.args.bytes.now text.items) (sym c.in-Nth.is)
    (record {
      graph = layout_view c.in_ok-read-in-Nth.field-0;
      encoded = c.in_ok-read-in-Nth.ensures.found;
      holds =
          h;
    })) c.string_text.ensures.ok

pub returns-in_ok-read-in-Nth-clause-err : goal.returns-in_ok-read-in-Nth-clause-err
returns-in_ok-read-in-Nth-clause-err c =
    IfErr-weaker c.string_text.result _ _
    (λ e h. subst (λ (a : Action). IsFaultOfBytes a c.args.bytes.now e) (sym c.in-Nth.is)
    (no_number c.in-Nth.role c.in-Nth.number c.args.bytes.now
    (layout_view c.in_ok-read-in-Nth.field-0) e c.in_ok-read-in-Nth.ensures.found h)) c.string_text.ensures.err

pub returns-in_ok-read-in-Number-clause-ok : goal.returns-in_ok-read-in-Number-clause-ok
returns-in_ok-read-in-Number-clause-ok c =
    let graph = layout_view c.in_ok-read-in-Number.field-0 in
    IfOk-weaker c.number_text.result _ _
    (λ text h. subst (λ (a : Action). Prints a c.args.bytes.now text.items) (sym c.in-Number.is) (record {
      graph = graph;
      encoded = c.in_ok-read-in-Number.ensures.found;
      holds = subst (λ (x : List ℕ). PrintsNumber (role_strings graph.dictionary c.in-Number.role) x text.items)
          c.deref-in-Number.ensures.value h;
    })) c.number_text.ensures.ok

pub returns-in_ok-read-in-Number-clause-err : goal.returns-in_ok-read-in-Number-clause-err
returns-in_ok-read-in-Number-clause-err c =
    let graph = layout_view c.in_ok-read-in-Number.field-0 in
    IfErr-weaker c.number_text.result _ _
    (λ e h. subst (λ (a : Action). IsFaultOfBytes a c.args.bytes.now e) (sym c.in-Number.is)
    (no_term c.in-Number.role c.in-Number.string c.args.bytes.now graph e c.in_ok-read-in-Number.ensures.found
    (subst (λ (x : List ℕ). (e ≡ OutOfMemory)
    ⊎ ((e ≡ NoSuchTerm) × ((n : ℕ) → string_at_id (role_strings graph.dictionary c.in-Number.role) n ≢ Some x)))
    c.deref-in-Number.ensures.value h)))
    c.number_text.ensures.err

pub returns-in_ok-graph-in-Count-clause-ok : goal.returns-in_ok-graph-in-Count-clause-ok
returns-in_ok-graph-in-Count-clause-ok c =
    IfOk-weaker c.count_lines.result _ _
    (λ text h. subst (λ (a : Action). Prints a c.args.bytes.now text.items) (sym c.in-Count.is)
    (record {
      graph = graph_view c.in_ok-graph-in-Count.graph;
      encoded = c.in_ok-graph-in-Count.ensures.found;
      holds =
          h;
    })) c.count_lines.ensures.ok

pub returns-in_ok-graph-in-Count-clause-err : goal.returns-in_ok-graph-in-Count-clause-err
returns-in_ok-graph-in-Count-clause-err c =
    IfErr-weaker c.count_lines.result _ _
    (λ e h. subst (λ (a : Action). IsFaultOfBytes a c.args.bytes.now e) (sym c.in-Count.is)
    (no_counts c.in-Count.role c.in-Count.top c.in-Count.raw c.args.bytes.now
    (graph_view c.in_ok-graph-in-Count.graph) e c.in_ok-graph-in-Count.ensures.found h))
    c.count_lines.ensures.err

pub returns-in_ok-read-in-Answer-clause-ok : goal.returns-in_ok-read-in-Answer-clause-ok
returns-in_ok-read-in-Answer-clause-ok c =
    subst (λ (a : Action). Prints a c.args.bytes.now c.new-in-Answer.result.items) (sym c.in-Answer.is)
    (record {
      graph = layout_view c.in_ok-read-in-Answer.field-0;
      encoded = c.in_ok-read-in-Answer.ensures.found;
      holds = c.new-in-Answer.ensures.items;
    })

pub returns-in_ok-read-in-ListStrings-clause-ok : goal.returns-in_ok-read-in-ListStrings-clause-ok
returns-in_ok-read-in-ListStrings-clause-ok c =
    let graph = layout_view c.in_ok-read-in-ListStrings.field-0 in
    IfOk-weaker c.listed_text.result _ _
    (λ text h. subst (λ (a : Action). Prints a c.args.bytes.now text.items) (sym c.in-ListStrings.is) (record {
      graph = graph;
      encoded = c.in_ok-read-in-ListStrings.ensures.found;
      holds = subst (λ (x : List ℕ). PrintsListed
          (role_strings graph.dictionary c.in-ListStrings.role) x c.in-ListStrings.terms text.items)
          c.deref.ensures.value h;
    })) c.listed_text.ensures.ok

pub returns-in_ok-read-in-ListStrings-clause-err : goal.returns-in_ok-read-in-ListStrings-clause-err
returns-in_ok-read-in-ListStrings-clause-err c =
    let graph = layout_view c.in_ok-read-in-ListStrings.field-0 in
    IfErr-weaker c.listed_text.result _ _
    (λ e h. subst (λ (a : Action). IsFaultOfBytes a c.args.bytes.now e) (sym c.in-ListStrings.is)
    (no_listing c.in-ListStrings.role c.in-ListStrings.prefix c.in-ListStrings.terms c.args.bytes.now graph e
    c.in_ok-read-in-ListStrings.ensures.found
    (subst (λ (x : List ℕ). IsListFault (role_strings graph.dictionary c.in-ListStrings.role) x c.in-ListStrings.role
    c.in-ListStrings.terms e) c.deref.ensures.value h)))
    c.listed_text.ensures.err

pub returns-in_ok-check_match-in-Exists-clause-ok : goal.returns-in_ok-check_match-in-Exists-clause-ok
returns-in_ok-check_match-in-Exists-clause-ok c =
    subst (λ (a : Action). Prints a c.args.bytes.now c.new.result.items) (sym c.in-Exists.is)
    (record {
      graph = layout_view c.in_ok-read-in-Exists.field-0;
      encoded = c.in_ok-read-in-Exists.ensures.found;
      holds = (c.in_ok-check_match-in-Exists.ensures.ok, c.new.ensures.items);
    })

pub returns-in_err-check_match-in-Exists-clause-err : goal.returns-in_err-check_match-in-Exists-clause-err
returns-in_err-check_match-in-Exists-clause-err c =
    let p = err_from_is_err_and c.from_residual-in_err-check_match-in-Exists.result
    c.from_residual-in_err-check_match-in-Exists.ensures.1 in
    rw (p.1, p.2) (subst (λ (a : Action). IsFaultOfBytes a c.args.bytes.now c.in_err-check_match-in-Exists.field-0.0)
    (sym c.in-Exists.is)
    (no_match c.in-Exists.given c.args.bytes.now
    (layout_view c.in_ok-read-in-Exists.field-0) c.in_err-check_match-in-Exists.field-0.0
    c.in_ok-read-in-Exists.ensures.found c.in_err-check_match-in-Exists.ensures.err))

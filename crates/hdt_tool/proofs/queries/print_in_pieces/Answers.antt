use Rattle.std.proofs.Common.{inl, inr, refl, rules, subst}
use Rattle.std.proofs.lemmas.Result.{IfErr-weaker, IfOk-weaker, err_from_is_err_and}
use Rattle.hdt_dict.specs.Dictionary.{role_strings}
use Rattle.hdt_file.specs.Graph.{layout_view}
use Rattle.hdt_tool.specs.Outcomes.{PrintsInPieces}
use Rattle.hdt_tool.specs.StringsText.{string_lines}
use Rattle.hdt_tool.proofs.Pieces.{find_prints, find_told, kept_prints, kept_told, only_pieces, search_told}
use Rattle.hdt_tool.proofs.Pieces.{strings_print}
use Rattle.hdt_tool.proofs.queries.print_in_pieces.Goals as goal

pub returns-in_err-layout-clause-err : goal.returns-in_err-layout-clause-err
returns-in_err-layout-clause-err g c =
    let p = err_from_is_err_and c.from_residual.result c.from_residual.ensures.1 in
    rw (p.1, p.2) (inl (search rules, refl))

pub returns-in_ok-print_strings-in-Strings-clause-ok : goal.returns-in_ok-print_strings-in-Strings-clause-ok
returns-in_ok-print_strings-in-Strings-clause-ok g c =
    let v = layout_view c.in_ok-layout.layout in (
      string_lines 1 (role_strings v.dictionary c.in-Strings.role),
      rw c.in-Strings.is (strings_print c.in-Strings.role c.args.bytes.now v c.in_ok-layout.ensures.found, refl),
      c.in_ok-print_strings-in-Strings.ensures.ok,
    )

pub returns-in_err-print_strings-in-Strings-clause-err : goal.returns-in_err-print_strings-in-Strings-clause-err
returns-in_err-print_strings-in-Strings-clause-err g c =
    let v = layout_view c.in_ok-layout.layout in
    let p = err_from_is_err_and c.from_residual-in_err-print_strings-in-Strings.result
    c.from_residual-in_err-print_strings-in-Strings.ensures.1 in
    rw (p.1, p.2)
    (inr (
      string_lines 1 (role_strings v.dictionary c.in-Strings.role),
      rw c.in-Strings.is (strings_print c.in-Strings.role c.args.bytes.now v c.in_ok-layout.ensures.found),
      c.in_err-print_strings-in-Strings.ensures.cut,
    ))

pub returns-in_ok-print_triples-in-Find-clause-ok : goal.returns-in_ok-print_triples-in-Find-clause-ok
returns-in_ok-print_triples-in-Find-clause-ok g c =
    let v = layout_view c.in_ok-layout.layout in
    let h = c.in_ok-print_triples-in-Find.ensures.ok in (
      h.0,
      rw c.in-Find.is (
        find_prints c.in-Find.given c.in-Find.numbers _ c.args.bytes.now h.0 v c.find_format.ensures
            c.in_ok-layout.ensures.found h.1,
        refl,
      ),
      h.2,
    )

pub returns-in_err-print_triples-in-Find-clause-err : goal.returns-in_err-print_triples-in-Find-clause-err
returns-in_err-print_triples-in-Find-clause-err g c =
    let v = layout_view c.in_ok-layout.layout in
    let p = err_from_is_err_and c.from_residual-in_err-print_triples-in-Find.result
    c.from_residual-in_err-print_triples-in-Find.ensures.1 in
    rw (p.1, p.2, c.in-Find.is)
    (find_told c.in-Find.given c.in-Find.numbers _ c.args.bytes.now v _ _ _ c.find_format.ensures
    c.in_ok-layout.ensures.found c.in_err-print_triples-in-Find.ensures.err)

pub returns-in_ok-print_triples-in-Search-clause-ok : goal.returns-in_ok-print_triples-in-Search-clause-ok
returns-in_ok-print_triples-in-Search-clause-ok g c =
    let v = layout_view c.in_ok-layout.layout in
    let h = c.in_ok-print_triples-in-Search.ensures.ok in (
      h.0,
      rw c.in-Search.is
          (record { graph = v; encoded = c.in_ok-layout.ensures.found; holds = h.1 }, refl),
      h.2,
    )

pub returns-in_err-print_triples-in-Search-clause-err : goal.returns-in_err-print_triples-in-Search-clause-err
returns-in_err-print_triples-in-Search-clause-err g c =
    let v = layout_view c.in_ok-layout.layout in
    let p = err_from_is_err_and c.from_residual-in_err-print_triples-in-Search.result
    c.from_residual-in_err-print_triples-in-Search.ensures.1 in
    rw (p.1, p.2, c.in-Search.is)
    (search_told c.in-Search.given c.in-Search.format c.in-Search.most c.args.bytes.now v _ _ _
    c.in_ok-layout.ensures.found c.in_err-print_triples-in-Search.ensures.err)

pub returns-in-SkipNonTerms-clause-ok : goal.returns-in-SkipNonTerms-clause-ok
returns-in-SkipNonTerms-clause-ok g c =
    let v = layout_view c.in_ok-layout.layout in
    let asked = subst PrintsInPieces c.in-SkipNonTerms.is c.requires in
    IfOk-weaker c.print_kept_triples.result _ _
    (λ n h. (
      h.0,
      rw c.in-SkipNonTerms.is
          (kept_prints c.in-SkipNonTerms.given _ c.in-SkipNonTerms.most c.args.bytes.now h.0 n v asked
          c.in_ok-layout.ensures.found h.1),
      h.2,
    )) c.print_kept_triples.ensures.ok

pub returns-in-SkipNonTerms-clause-err : goal.returns-in-SkipNonTerms-clause-err
returns-in-SkipNonTerms-clause-err g c =
    let v = layout_view c.in_ok-layout.layout in
    let asked = subst PrintsInPieces c.in-SkipNonTerms.is c.requires in
    IfErr-weaker c.print_kept_triples.result _ _
    (λ e h. rw c.in-SkipNonTerms.is
    (kept_told c.in-SkipNonTerms.given _ c.in-SkipNonTerms.most c.args.bytes.now v e _ _ asked
    c.in_ok-layout.ensures.found h))
    c.print_kept_triples.ensures.err

pub unreachable-requires : goal.unreachable-requires
unreachable-requires g c =
    only_pieces c.args.action.now c.requires c.in_default.not-Strings c.in_default.not-Find c.in_default.not-Search
    c.in_default.not-SkipNonTerms

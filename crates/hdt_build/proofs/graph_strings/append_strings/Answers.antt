use Rattle.std.proofs.Common.{◌≡◌, ◌∙◌, ◌++◌, ◌∷◌, ℕ, ◌+◌, ◌-◌, [], List, get_or, ap, map, take}
use Rattle.std.proofs.Common.{append_assoc, sym, refl}
use Rattle.std.proofs.Common.{arith}
use Rattle.std.proofs.lemmas.List.{take_all}
use Rattle.hdt_dict.specs.Dictionary.{role_strings}
use Rattle.hdt_file.specs.Graph.{graph_view}
use Rattle.hdt_build.proofs.CursorSteps.{goes, ended}
use Rattle.hdt_build.specs.Relabelling.{relabelled}
use Rattle.hdt_build.proofs.GraphIndices.{appended, shifted_indices}
use Rattle.hdt_build.proofs.IndexTriples.{mapped_more}
use Rattle.hdt_build.proofs.StringsOfIds.{term_is}
use Rattle.hdt_build.proofs.graph_strings.append_strings.Goals as goal

pub strings-init : goal.strings-init
strings-init c = record {
  progress = rw c.strings-strings.ensures (record { within = omega arith; ahead = refl });
  added = rw (c.strings-strings.ensures, c.new-run.ensures) refl;
}

pub strings-smaller : goal.strings-smaller
strings-smaller c =
    let all = role_strings (graph_view c.args.graph.now).dictionary c.args.role in
    let go = goes all c.strings.strings c.next.new.self c.in-Some.id c.strings.invariant.progress
    (sym c.in_ok-id.ensures.id ∙ c.in-Some.is) c.in_ok-id.ensures.ok in
    omega (arith, go.fewer)

pub strings-preserved : goal.strings-preserved
strings-preserved c =
    let i = c.strings.invariant in
    let all = role_strings (graph_view c.args.graph.now).dictionary c.args.role in
    let w = c.strings.strings in
    let new = c.next.new.self in
    let go = goes all w new c.in-Some.id i.progress (sym c.in_ok-id.ensures.id ∙ c.in-Some.is)
    c.in_ok-id.ensures.ok in
    let at : w.given + 1 - 1 ≡ w.given = omega arith in
    let text : new.last ≡ get_or all w.given [] =
    go.last ∙ (term_is all (w.given + 1) (omega arith) ∙ ap (λ (k : ℕ). get_or all k []) at) in
    let f : List ℕ → List ℕ = relabelled c.args.prefix.now in
    record {
      progress = go.progress;
      added = ap (λ (xs : List (List ℕ)). c.run_from.new.terms ++ xs) c.in_ok-push_relabelled.ensures
          ∙ (sym (append_assoc c.run_from.new.terms c.in_ok-run.run' (f c.string.result.now ∷ []))
          ∙ ((λ j. c.in_ok-run.ensures j ++ f ((c.string.ensures ∙ text) j) ∷ [])
          ∙ (mapped_more f [] all w.given c.args.terms.now _ (omega (arith, go.given, go.progress.within)) i.added
          ∙ ap (λ (k : ℕ). c.args.terms.now ++ map f (take k all)) (sym go.given))));
    }

pub returns-clause-indices : goal.returns-clause-indices
returns-clause-indices c =
    let g = graph_view c.args.graph.now in
    let all = role_strings g.dictionary c.args.role in
    let i = c.strings.invariant in
    let none = ended all c.strings.strings c.in_ok-id.field-0 i.progress
    c.in_ok-id.ensures.id (λ k. c.in_default.not-Some k) in
    let added = c.in_ok-add.ensures ∙ i.added
    ∙ ap (λ (xs : List (List ℕ)). c.args.terms.now ++ map (relabelled c.args.prefix.now) xs)
    (take_all c.strings.strings.given all (omega (arith, none))) in
    shifted_indices c.args.prefix.now g c.args.role c.args.terms.now c.add.new.self added
    (omega (arith, c.len-end.ensures, c.before.drop-2.ranges)) _
    (rw (c.len-end.ensures, c.count.ensures) refl)

pub returns-clause-list : goal.returns-clause-list
returns-clause-list c =
    appended c.args.terms.now _ c.add.new.self (c.in_ok-add.ensures ∙ c.strings.invariant.added)

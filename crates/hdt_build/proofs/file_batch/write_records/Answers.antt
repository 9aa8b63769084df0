use Rattle.std.proofs.Common.{◌≡◌, ◌∙◌, ◌++◌, ◌∷◌, ℕ, ◌+◌, ◌-◌, [], List, get_or, ap, map, take}
use Rattle.std.proofs.Common.{append_assoc, arith, refl, sym}
use Rattle.std.proofs.lemmas.List.{take_all}
use Rattle.hdt_dict.specs.Dictionary.{role_strings}
use Rattle.hdt_file.specs.Graph.{layout_view}
use Rattle.hdt_build.specs.Inside.Records.{record_of}
use Rattle.hdt_build.specs.Relabelling.{relabelled}
use Rattle.hdt_build.proofs.CursorSteps.{goes, ended}
use Rattle.hdt_build.proofs.IndexTriples.{mapped_more}
use Rattle.hdt_build.proofs.StringsOfIds.{term_is}
use Rattle.hdt_build.proofs.file_batch.write_records.Goals as goal

pub strings-init : goal.strings-init
strings-init g c = record {
  progress = rw c.strings-strings.ensures (record { within = omega arith; ahead = refl });
  added = λ known. rw (c.strings-strings.ensures, c.new-run.ensures) refl;
}

pub strings-smaller : goal.strings-smaller
strings-smaller g c =
    let all = role_strings (layout_view c.args.layout.now).dictionary c.args.role in
    let go = goes all c.strings.strings c.next.new.self c.in-Some.id c.strings.invariant.progress
    (sym c.in_ok-id.ensures.id ∙ c.in-Some.is) c.in_ok-id.ensures.ok in
    omega (arith, go.fewer)

pub strings-preserved : goal.strings-preserved
strings-preserved g c =
    let i = c.strings.invariant in
    let all = role_strings (layout_view c.args.layout.now).dictionary c.args.role in
    let w = c.strings.strings in
    let new = c.next.new.self in
    let go = goes all w new c.in-Some.id i.progress (sym c.in_ok-id.ensures.id ∙ c.in-Some.is)
    c.in_ok-id.ensures.ok in
    let at : w.given + 1 - 1 ≡ w.given = omega arith in
    let text : new.last ≡ get_or all w.given [] =
    go.last ∙ (term_is all (w.given + 1) (omega arith) ∙ ap (λ (k : ℕ). get_or all k []) at) in
    let f : List ℕ → List ℕ = λ x. record_of c.args.role (relabelled c.args.prefix.now x) in
    record {
      progress = go.progress;
      added = λ known.
          ap (λ (xs : List (List ℕ)). c.run_from.new.runs ++ xs)
          (c.in_ok-push.ensures known
          ∙ ap (λ (x : List ℕ). c.in_ok-run.run' ++ x ∷ []) (c.deref.ensures.value ∙ c.in_ok-put_relabelled.ensures))
          ∙ (sym (append_assoc c.run_from.new.runs c.in_ok-run.run' (f c.string.result.now ∷ []))
          ∙ ((λ j. c.in_ok-run.ensures known j ++ f ((c.string.ensures ∙ text) j) ∷ [])
          ∙ (mapped_more f [] all w.given c.args.runs.now _ (omega (arith, go.given, go.progress.within))
          (i.added known)
          ∙ ap (λ (k : ℕ). c.args.runs.now ++ map f (take k all)) (sym go.given))));
    }

pub returns : goal.returns
returns g c known =
    let all = role_strings (layout_view c.args.layout.now).dictionary c.args.role in
    let i = c.strings.invariant in
    let none = ended all c.strings.strings c.in_ok-id.field-0 i.progress
    c.in_ok-id.ensures.id (λ k. c.in_default.not-Some k) in
    c.in_ok-push-2.ensures ∙ (ap (λ (xs : List (List ℕ)). c.strings.runs ++ xs) (c.in_ok-finish.ensures known)
    ∙ (i.added known
    ∙ ap (λ (xs : List (List ℕ)). c.args.runs.now
    ++ map (λ x. record_of c.args.role (relabelled c.args.prefix.now x)) xs)
    (take_all c.strings.strings.given all (omega (arith, none)))))

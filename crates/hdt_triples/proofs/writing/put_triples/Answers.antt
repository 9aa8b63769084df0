use Rattle.std.proofs.Common.{◌≡◌, ◌+◌, ◌++◌, ◌<◌, ◌^◌, length, arith, sym, ap, ◌∙◌, ℕ, List, [], append-nil, subst}
use Rattle.std.proofs.lemmas.Result.{on_ok_weaker}
use Rattle.hdt_wire.specs.Checks.{HasSlice}
use Rattle.hdt_wire.specs.Laws.Checks.{HasSlice-after}
use Rattle.hdt_triples.specs.TripleSequences.{BitmapTriples, Triple}
use Rattle.hdt_triples.specs.Order.{AreWritable}
use Rattle.hdt_triples.specs.Inside.SequencesView.{sequences_view}
use Rattle.hdt_triples.specs.Writing.{sequences_of, canonical_sequences, canonical_triples}
use Rattle.hdt_triples.specs.Laws.Writing.{some_marks, many_objects, triples_stand}
use Rattle.hdt_triples.proofs.writing.put_triples.Goals as goal

pub put_sequences-requires-clause-some_pairs : goal.put_sequences-requires-clause-some_pairs
unfolding sequences_view
put_sequences-requires-clause-some_pairs c =
    subst (λ (f : BitmapTriples). 0 < length f.bitmap_y) (sym c.in_ok-made.ensures)
    (some_marks c.args.triples.now c.requires).0

pub put_sequences-requires-clause-some_triples : goal.put_sequences-requires-clause-some_triples
unfolding sequences_view
put_sequences-requires-clause-some_triples c =
    subst (λ (f : BitmapTriples). 0 < length f.bitmap_z) (sym c.in_ok-made.ensures)
    (some_marks c.args.triples.now c.requires).1

-- The appended bytes follow the previous ones.
appended_stands : (old text new : List ℕ) → new ≡ old ++ text
    → HasSlice new (length old) text (length old + length text)
appended_stands old text new e =
    subst (λ (l : List ℕ). HasSlice l (length old) text (length old + length text)) (append-nil (old ++ text)
    ∙ sym e) (HasSlice-after old text [])

few_triples : (ts : List Triple) (f : BitmapTriples) → AreWritable ts → f ≡ sequences_of ts → length f.array_z < 2 ^ 64
    → length ts < 2 ^ 64
few_triples ts f can e lt = omega (arith, lt, many_objects ts can, ap (λ (f : BitmapTriples). length f.array_z) e)

pub returns-clause-triples : goal.returns-clause-triples
unfolding sequences_view
returns-clause-triples c =
    let ts = c.args.triples.now in
    let made = c.in_ok-made.made in
    let old = c.args.out.now.items in
    let new = c.put_sequences.new.out.items in
    let few = few_triples ts (sequences_view made) c.requires c.in_ok-made.ensures
    (omega (arith, made.array_z.ok.0, made.array_z.small)) in
    on_ok_weaker c.put_sequences.result (λ grown counts within low.
    triples_stand ts counts new (length old) _ c.requires within low few
    (appended_stands old (canonical_triples ts) new (grown
    ∙ ap (λ (f : BitmapTriples). old ++ canonical_sequences f) c.in_ok-made.ensures)))
    c.put_sequences.ensures.ok

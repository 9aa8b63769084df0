use Rattle.std.proofs.Common.{◌≡◌, ◌∷◌, ◌-◌, ◌++◌, ◌∙◌, List, ℕ, [], ap, append-nil, append_assoc, drop, inr, arith}
use Rattle.std.proofs.Common.{length, subst, suc, sym, take, ◌≤◌}
use Rattle.std.specs.Io.KnownBytes.{Appends}
use Rattle.std.proofs.lemmas.List.{take_all}
use Rattle.std.proofs.lemmas.Result.{err_from_is_err_and, IfErr-weaker, on_ok_weaker}
use Rattle.hdt_triples.specs.TripleSequences.{Triple}
use Rattle.hdt_triples.specs.Remaining.{remaining_matches}
use Rattle.hdt_wire.specs.Counted.{inner, failures}
use Rattle.hdt_file.specs.TextWriting.{limited}
use Rattle.hdt_tool.specs.TriplesText.{numbers_lines}
use Rattle.hdt_tool.proofs.Triples.{one_line}
use Rattle.hdt_tool.proofs.Pieces.{cut_by, less_kept, more_gained, more_within, whole_gained}
use Rattle.hdt_tool.proofs.printed_triples.print_numbers.Goals as goal

pub triples-preserved : goal.triples-preserved
triples-preserved g c =
    let contents = g.W.Write.contents in
    let l = c.triples in
    let n = l.pending.written in
    let k = l.remaining - 1 in
    let some : l.remaining ≡ suc k = omega (arith, c.triples-test.true) in
    let ahead = take k (remaining_matches c.next.new.self) in
    let first : take l.remaining (remaining_matches l.matches) ≡ c.in-Some.triple ∷ ahead =
    ap (λ (m : ℕ). take m (remaining_matches l.matches)) some
    ∙ ap (λ (ts : List Triple). take (suc k) ts) c.in-Some.ensures.steps.0 in
    let lines = numbers_lines (limited c.args.most (remaining_matches c.args.found)) in
    let rest = numbers_lines ahead in
    let behind = sym (one_line l.pending.bytes.items c.put_numbers.new.out.items (drop n lines) c.in-Some.triple
    (take l.remaining (remaining_matches l.matches)) ahead first c.in_ok-put_numbers.ensures.ok
    (sym l.invariant.rest)) in
    let h = c.in_ok-accept.ensures.ok in
    let part = h.0 in
    let left = c.accept.new.self.bytes.items in
    let moved = behind ∙ ap (λ (t : List ℕ). t ++ rest) h.2 ∙ append_assoc part left rest in
    record {
      within = subst (λ (m : ℕ). m
          ≤ length lines) (sym h.1) (more_within lines part (left ++ rest) n l.invariant.within moved);
      gained = subst (λ (m : ℕ). Appends (contents (inner c.args.out.now)) (contents (inner c.accept.new.out))
          (take m lines)) (sym h.1)
          (more_gained (contents (inner c.args.out.now)) (contents (inner l.out))
          (contents (inner c.accept.new.out)) lines part (left ++ rest) n moved l.invariant.gained h.3);
      rest = subst (λ (m : ℕ). drop m lines ≡ left ++ rest) (sym h.1) (less_kept lines part (left ++ rest) n moved);
      fits = c.in_ok-accept.ensures.fits;
      well = c.in_ok-accept.ensures.writer_unfailed ∙ l.invariant.well;
    }

pub returns-in_err-accept-clause-cut : goal.returns-in_err-accept-clause-cut
returns-in_err-accept-clause-cut g c =
    let l = c.triples in
    let n = l.pending.written in
    let k = l.remaining - 1 in
    let some : l.remaining ≡ suc k = omega (arith, c.triples-test.true) in
    let ahead = take k (remaining_matches c.next.new.self) in
    let first : take l.remaining (remaining_matches l.matches) ≡ c.in-Some.triple ∷ ahead =
    ap (λ (m : ℕ). take m (remaining_matches l.matches)) some
    ∙ ap (λ (ts : List Triple). take (suc k) ts) c.in-Some.ensures.steps.0 in
    let lines = numbers_lines (limited c.args.most (remaining_matches c.args.found)) in
    let behind = sym (one_line l.pending.bytes.items c.put_numbers.new.out.items (drop n lines) c.in-Some.triple
    (take l.remaining (remaining_matches l.matches)) ahead first c.in_ok-put_numbers.ensures.ok
    (sym l.invariant.rest)) in
    let p = err_from_is_err_and c.from_residual-in_err-accept.result c.from_residual-in_err-accept.ensures.1 in
    rw (p.1, p.2) (cut_by (λ out. g.W.Write.contents (inner out))
    (λ out. failures out) c.in_err-accept.field-0.0 c.args.out.now l.out c.accept.new.out
    lines c.put_numbers.new.out.items (numbers_lines ahead) n c.len-start.result l.invariant.within
    behind l.invariant.gained l.invariant.well c.in_err-accept.ensures.err)

pub returns-in_default-clause-ok : goal.returns-in_default-clause-ok
returns-in_default-clause-ok g c =
    let l = c.triples in
    let bytes = l.pending.bytes.items in
    let lines = numbers_lines (limited c.args.most (remaining_matches c.args.found)) in
    let behind : drop l.pending.written lines ≡ bytes =
    l.invariant.rest
    ∙ ap (λ (ts : List Triple). bytes ++ numbers_lines (take l.remaining ts)) c.in_default.ensures.steps.0.0
    ∙ ap (λ (ts : List Triple). bytes ++ numbers_lines ts) (take_all l.remaining [] (omega arith))
    ∙ append-nil bytes in
    on_ok_weaker c.flush.result
    (λ h. whole_gained _ _ _ lines bytes l.pending.written l.invariant.gained behind h) c.flush.ensures.ok

pub returns-in_default-clause-cut : goal.returns-in_default-clause-cut
returns-in_default-clause-cut g c =
    let l = c.triples in
    let bytes = l.pending.bytes.items in
    let lines = numbers_lines (limited c.args.most (remaining_matches c.args.found)) in
    let behind : drop l.pending.written lines ≡ bytes ++ [] =
    l.invariant.rest
    ∙ ap (λ (ts : List Triple). bytes ++ numbers_lines (take l.remaining ts)) c.in_default.ensures.steps.0.0
    ∙ ap (λ (ts : List Triple). bytes ++ numbers_lines ts) (take_all l.remaining [] (omega arith))
    ∙ append-nil bytes
    ∙ sym (append-nil bytes) in
    IfErr-weaker c.flush.result _ _
    (λ e h. cut_by (λ out. g.W.Write.contents (inner out)) (λ out. failures out) e c.args.out.now l.out
    c.flush.new.out lines bytes [] l.pending.written 0 l.invariant.within behind l.invariant.gained
    l.invariant.well (inr h)) c.flush.ensures.err

pub returns-clause-ok : goal.returns-clause-ok
returns-clause-ok g c =
    let l = c.triples in
    let none : l.remaining ≡ 0 = omega (arith, c.triples-test.false) in
    let bytes = l.pending.bytes.items in
    let lines = numbers_lines (limited c.args.most (remaining_matches c.args.found)) in
    let behind : drop l.pending.written lines ≡ bytes =
    l.invariant.rest
    ∙ ap (λ (m : ℕ). bytes ++ numbers_lines (take m (remaining_matches l.matches)))
    none
    ∙ append-nil bytes in
    on_ok_weaker c.flush-2.result
    (λ h. whole_gained _ _ _ lines bytes l.pending.written l.invariant.gained behind h) c.flush-2.ensures.ok

pub returns-clause-cut : goal.returns-clause-cut
returns-clause-cut g c =
    let l = c.triples in
    let none : l.remaining ≡ 0 = omega (arith, c.triples-test.false) in
    let bytes = l.pending.bytes.items in
    let lines = numbers_lines (limited c.args.most (remaining_matches c.args.found)) in
    let behind : drop l.pending.written lines ≡ bytes ++ [] =
    l.invariant.rest
    ∙ ap (λ (m : ℕ). bytes ++ numbers_lines (take m (remaining_matches l.matches)))
    none
    ∙ append-nil bytes
    ∙ sym (append-nil bytes) in
    IfErr-weaker c.flush-2.result _ _
    (λ e h. cut_by (λ out. g.W.Write.contents (inner out)) (λ out. failures out) e c.args.out.now l.out
    c.flush-2.new.out lines bytes [] l.pending.written 0 l.invariant.within behind l.invariant.gained
    l.invariant.well (inr h)) c.flush-2.ensures.err

-- Line ends of texts, of lines and of input that is consumed in parts.
use Rattle.std.proofs.Common.{◌≡◌, ℕ, suc, ◌+◌, ◌<◌, Bool, true, false, ◌&&◌, ◌||◌, not, cond, eqb, List, [], ◌∷◌, ◌++◌}
use Rattle.std.proofs.Common.{length, take, drop, get_or, Option, sym, refl, ap, ◌∙◌, arith, append_assoc, zero-add}
use Rattle.std.proofs.Common.{add-zero, add_assoc}
use Rattle.std.proofs.lemmas.Bool.{eqb-true, ne_eqb}
use Rattle.std.proofs.lemmas.List.{length-append, length-take-le, take_more, take_all}
use Rattle.std.proofs.lemmas.List.Elements.{All-head, All-tail, filter_map-append}
use Rattle.std.specs.Int.{from_bool}
use Rattle.std.proofs.KnownBytes.{Consumes-trans}
use Rattle.std.proofs.Math.Bool.{and-true, and-false}
use Rattle.hdt_terms.specs.declared.triple.Triple.{Triple}
use Rattle.hdt_terms.specs.Chars.{is_line_end}
use Rattle.hdt_terms.specs.Lines.{HasNoLineEnd, TerminatedLines, LinesWithoutTriples, count_line_ends, ends_in_cr}
use Rattle.hdt_terms.specs.LinesReader.{LinesState, Takes, take_bytes}

or_left : (a b : Bool) → a || b ≡ false → a ≡ false
or_left false b e = refl
or_left true b e = cc

or_right : (a b : Bool) → a || b ≡ false → b ≡ false
or_right false b e = e
or_right true b e = cc

-- a text without line ends

pub head_no_cr : (b : ℕ) (bs : List ℕ) → HasNoLineEnd (b ∷ bs) → eqb b 13 ≡ false
head_no_cr b bs p = or_right _ _ (All-head (λ x. is_line_end x ≡ false) b bs p)

pub head_no_lf : (b : ℕ) (bs : List ℕ) → HasNoLineEnd (b ∷ bs) → eqb b 10 ≡ false
head_no_lf b bs p = or_left _ _ (All-head (λ x. is_line_end x ≡ false) b bs p)

pub count_line_ends-no_end : (cr : Bool) (text : List ℕ) → HasNoLineEnd text → count_line_ends cr text ≡ 0
count_line_ends-no_end cr [] p = refl
count_line_ends-no_end cr (b ∷ bs) p =
    rw (head_no_cr b bs p, head_no_lf b bs p) (zero-add (count_line_ends false bs)
    ∙ count_line_ends-no_end false bs (All-tail (λ x. is_line_end x ≡ false) b bs p))

pub ends_in_cr-no_end : (cr : Bool) (text : List ℕ) → HasNoLineEnd text → 0 < length text → ends_in_cr cr text ≡ false
ends_in_cr-no_end cr [] p h = absurd (omega (arith, h))
ends_in_cr-no_end cr (b ∷ []) p h = head_no_cr b [] p
ends_in_cr-no_end cr (b ∷ c ∷ bs) p h =
    ends_in_cr-no_end (eqb b 13) (c ∷ bs) (All-tail (λ x. is_line_end x ≡ false) b (c ∷ bs) p) (omega arith)

pub cr_of_no_end : (cr : Bool) (text : List ℕ) → HasNoLineEnd text → ends_in_cr cr text ≡ (cr && eqb (length text) 0)
cr_of_no_end cr [] p = sym (and-true cr)
cr_of_no_end cr (b ∷ bs) p = ends_in_cr-no_end cr (b ∷ bs) p (omega arith)
    ∙ sym (ap (λ p. cr && p) (ne_eqb (suc (length bs)) 0 (λ z. absurd (omega (arith, z)))) ∙ and-false cr)

-- a text and its line end

one_end : (p q cr : Bool) → p || q ≡ true → (p ≡ true → q ≡ false)
    → cond {A = ℕ} (q || (p && not cr)) 1 0 + 0 ≡ cond {A = ℕ} ((cr && true) && p) 0 1
one_end true true cr h e = absurd (cc (e refl))
one_end true false true h e = refl
one_end true false false h e = refl
one_end false true true h e = refl
one_end false true false h e = refl
one_end false false cr h e = cc

not_both : (e : ℕ) → eqb e 10 ≡ true → eqb e 13 ≡ false
not_both e h = rw (eqb-true e 10 h) refl

pub none_after : (cr p q : Bool) → p ≡ false → cond {A = ℕ} ((cr && p) && q) 0 1 ≡ 1
none_after true true q e = absurd (cc e)
none_after true false q e = refl
none_after false p q e = refl

pub count_line_ends-ended : (cr : Bool) (text : List ℕ) (e : ℕ) → HasNoLineEnd text → is_line_end e ≡ true
    → count_line_ends cr (text ++ e ∷ []) ≡ cond {A = ℕ} ((cr && eqb (length text) 0) && eqb e 10) 0 1
count_line_ends-ended cr [] e p h = one_end (eqb e 10) (eqb e 13) cr h (not_both e)
count_line_ends-ended cr (b ∷ bs) e p h =
    rw (head_no_cr b bs p, head_no_lf b bs p)
    (zero-add (count_line_ends false (bs ++ e ∷ []))
    ∙ count_line_ends-ended false bs e (All-tail (λ x. is_line_end x ≡ false) b bs p) h
    ∙ sym (none_after cr (eqb (suc (length bs)) 0) (eqb e 10)
    (ne_eqb (suc (length bs)) 0 (λ z. absurd (omega (arith, z))))))

pub ends_in_cr-ended : (cr : Bool) (text : List ℕ) (e : ℕ) → ends_in_cr cr (text ++ e ∷ []) ≡ eqb e 13
ends_in_cr-ended cr [] e = refl
ends_in_cr-ended cr (b ∷ bs) e = ends_in_cr-ended (eqb b 13) bs e

-- two parts

pub ends_in_cr-append : (cr : Bool) (xs ys : List ℕ) → ends_in_cr cr (xs ++ ys) ≡ ends_in_cr (ends_in_cr cr xs) ys
ends_in_cr-append cr [] ys = refl
ends_in_cr-append cr (x ∷ xs) ys = ends_in_cr-append (eqb x 13) xs ys

pub count_line_ends-append : (cr : Bool) (xs ys : List ℕ)
    → count_line_ends cr (xs ++ ys) ≡ count_line_ends cr xs + count_line_ends (ends_in_cr cr xs) ys
count_line_ends-append cr [] ys = sym (zero-add (count_line_ends cr ys))
count_line_ends-append cr (x ∷ xs) ys = rw (count_line_ends-append (eqb x 13) xs ys) (sym (add_assoc _ _ _))

pub Takes-trans : (a b c : LinesState) (x y z : Option (List ℕ)) (bs cs : List ℕ) → Takes a b x y bs → Takes b c y z cs
    → Takes a c x z (bs ++ cs)
Takes-trans a b c x y z bs cs p q = record {
  consumed = Consumes-trans x y z bs cs p.consumed q.consumed;
  taken = omega (arith, length-append bs cs, p.taken, q.taken);
  ends = q.ends ∙ rw (p.ends, p.after_cr) (add_assoc _ _ _
      ∙ ap (λ n. a.ends + n) (sym (count_line_ends-append a.after_cr bs cs)));
  after_cr = q.after_cr ∙ rw p.after_cr (sym (ends_in_cr-append a.after_cr bs cs));
  within = q.within;
  limit = q.limit ∙ p.limit;
  failed = q.failed ∙ p.failed;
}

-- consecutive lines

pub TerminatedLines-append : (xs ys : List (Option Triple)) (bs cs : List ℕ) → TerminatedLines xs bs
    → TerminatedLines ys cs → TerminatedLines (xs ++ ys) (bs ++ cs)
TerminatedLines-append [] ys bs cs p q = rw p q
TerminatedLines-append (x ∷ xs) ys bs cs p q = (
  p.0,
  p.1,
  p.2 ++ cs,
  ap (λ l. l ++ cs) p.3 ∙ append_assoc p.0 (p.1 ∷ p.2) cs,
  p.4,
  p.5,
  p.6,
  TerminatedLines-append xs ys p.2 cs p.7 q,
)

pub LinesWithoutTriples-append : (bs cs : List ℕ) → LinesWithoutTriples bs → LinesWithoutTriples cs
    → LinesWithoutTriples (bs ++ cs)
LinesWithoutTriples-append bs cs p q = record {
  lines = p.lines ++ q.lines;
  ended = TerminatedLines-append p.lines q.lines bs cs p.ended q.ended;
  no_triples = filter_map-append (λ x. x) p.lines q.lines ∙ rw (p.no_triples, q.no_triples) refl;
}

-- the state after a line

pub one_unless : (b : Bool) → from_bool (not b) ≡ cond {A = ℕ} b 0 1
one_unless true = refl
one_unless false = refl

pub take_ended_is : (s : LinesState) (n more : ℕ) (cr : Bool) (buffered : List ℕ) → n < length s.buffered
    → HasNoLineEnd (take n s.buffered) → is_line_end (get_or s.buffered n 0) ≡ true
    → buffered ≡ drop (n + 1) s.buffered
    → more ≡ cond {A = ℕ} ((s.after_cr && eqb n 0) && eqb (get_or s.buffered n 0) 10) 0 1
    → cr ≡ eqb (get_or s.buffered n 0) 13
    → record s { buffered = buffered; taken = s.taken + (n + 1); ends = s.ends + more; after_cr = cr }
    ≡ take_bytes s (n + 1)
take_ended_is s n more cr buffered lt p h held_is more_is cr_is =
    let e : ℕ = get_or s.buffered n 0 in
    let cut : take (n + 1) s.buffered ≡ take n s.buffered ++ e ∷ [] = take_more s.buffered n 0 lt in
    let len : length (take n s.buffered) ≡ n = length-take-le n s.buffered (omega arith) in
    let ends : count_line_ends s.after_cr (take (n + 1) s.buffered) ≡ more =
    ap (count_line_ends s.after_cr) cut ∙ count_line_ends-ended s.after_cr (take n s.buffered) e p h
    ∙ rw len (sym more_is) in
    let after : ends_in_cr s.after_cr (take (n + 1) s.buffered) ≡ cr = ap (ends_in_cr s.after_cr) cut
    ∙ ends_in_cr-ended s.after_cr (take n s.buffered) e ∙ sym cr_is in
    cc

pub take_held_is : (s : LinesState) (cr : Bool) (buffered : List ℕ) → HasNoLineEnd s.buffered
    → buffered ≡ drop (length s.buffered) s.buffered → cr ≡ (s.after_cr && eqb (length s.buffered) 0)
    → record s { buffered = buffered; taken = s.taken + length s.buffered; after_cr = cr }
    ≡ take_bytes s (length s.buffered)
take_held_is s cr buffered p held_is cr_is =
    let cut : take (length s.buffered) s.buffered ≡ s.buffered =
    take_all (length s.buffered) s.buffered (omega arith) in
    let ends : s.ends + count_line_ends s.after_cr (take (length s.buffered) s.buffered) ≡ s.ends =
    rw (cut, count_line_ends-no_end s.after_cr s.buffered p) (add-zero s.ends) in
    let after : ends_in_cr s.after_cr (take (length s.buffered) s.buffered) ≡ cr = ap (ends_in_cr s.after_cr) cut
    ∙ cr_of_no_end s.after_cr s.buffered p ∙ sym cr_is in
    cc

-- Text that is written in pieces: what was written so far, and what is left.
use Rattle.std.proofs.Common.{◌≡◌, ℕ, ◌+◌, ◌-◌, ◌<◌, ◌≤◌, zero, suc, List, [], ◌∷◌, ◌++◌, length, take, drop, get_or}
use Rattle.std.proofs.Common.{Option}
use Rattle.std.proofs.Common.{◌≢◌, Bool, true, false, None, Some, Result, Ok, Err, refl, sym, ap, ◌∙◌, append_assoc}
use Rattle.std.proofs.Common.{append-nil, subst, inl, inr}
use Rattle.std.proofs.Common.{arith}
use Rattle.std.specs.Prelude.{IfErr, OnOk}
use Rattle.std.specs.Option.{unwrap_or}
use Rattle.std.specs.Io.KnownBytes.{Appends}
use Rattle.std.proofs.KnownBytes.{Appends-nil, Appends-trans}
use Rattle.std.proofs.Math.Seq.{take-add, take-append-add}
use Rattle.std.proofs.lemmas.List.{drop-take, drop_all, drop_more, length-append, take-append-drop, take-append-le}
use Rattle.std.proofs.lemmas.List.{take-take, take_all}
use Rattle.std.proofs.lemmas.List.Elements.{All-cons, All-drop, All-take}
use Rattle.hdt_wire.specs.declared.Role.{Role}
use Rattle.hdt_wire.specs.declared.Role.TheVariants.{Subject, Predicate, Object}
use Rattle.hdt_triples.specs.TripleSequences.{Triple}
use Rattle.hdt_triples.specs.Uses.{role_component}
use Rattle.hdt_file.specs.File.{GraphParts}
use Rattle.hdt_file.specs.Denoted.{denoted, denoted_triple}
use Rattle.hdt_file.specs.Text.{AreTermsOf, IsFirstNonTerm, IsFirstNonTermOfTriple, IsTextOf, TermTriple, line}
use Rattle.hdt_file.specs.TextStreaming.{CutsText, StopsAt, StopsShort, Streams}
use Rattle.hdt_file.specs.TextWriting.{AppendsLine, AppendsText, ReportsFirstNonTerm, ReportsNonTermOfTriple}
use Rattle.hdt_file.specs.TextWriting.{WritesText, limited}
use Rattle.hdt_file.specs.Writable.{AreWritableTriples, IsWritable}
use Rattle.hdt_file.specs.declared.fault.DumpFault.{DumpFault}
use Rattle.hdt_file.specs.declared.fault.DumpFault.TheVariants.{NotATerm, Write, OutOfMemory}
use Rattle.hdt_file.specs.declared.pending_text.PendingText.{PendingText}
use Rattle.hdt_file.proofs.TextByLine.{joined}

-- ---- triples that have lines have a text

terms_each : (g : GraphParts) (t : Triple) (h : IsWritable g t)
    → AreTermsOf (denoted_triple g t) ((h Subject).0, (h Predicate).0, (h Object).0)
terms_each g t h Subject = (h Subject).1
terms_each g t h Predicate = (h Predicate).1
terms_each g t h Object = (h Object).1

writable_terms : (g : GraphParts) (t : Triple) → IsWritable g t → (terms : TermTriple)
    × AreTermsOf (denoted_triple g t) terms
writable_terms g t h = (((h Subject).0, (h Predicate).0, (h Object).0), terms_each g t h)

pub text_of : (g : GraphParts) (ts : List Triple) → AreWritableTriples g ts → (text : List ℕ)
    × IsTextOf (denoted g ts) text
text_of g [] h = ([], record { terms = []; each = tt; whole = refl })
text_of g (t ∷ ts) h =
    let one = writable_terms g t (h 0 t (omega arith)) in
    let more = text_of g ts (λ k d below. h (suc k) d (omega (arith, below))) in (
      line one.0 ++ more.0,
      record {
        terms = one.0 ∷ more.1.terms;
        each = (one.1, more.1.each);
        whole = ap (λ (x : List ℕ). line one.0 ++ x) more.1.whole;
      },
    )

-- ---- one text after another

pub streams_none : (g : GraphParts) (p : PendingText) (w : Option (List ℕ)) (f : ℕ) → Streams g [] p p w w f f
streams_none g p w f = record {
  text = [];
  is = record { terms = []; each = tt; whole = refl };
  part = [];
  all = append-nil p.bytes.items;
  count = omega arith;
  written = Appends-nil w;
  well = refl;
}

-- the pending text, both texts
regrouped : (old mid new x y p q : List ℕ) → old ++ x ≡ p ++ mid → mid ++ y ≡ q ++ new
    → old ++ (x ++ y) ≡ (p ++ q) ++ new
regrouped old mid new x y p q e f =
    sym (append_assoc old x y) ∙ ap (λ l. l ++ y) e ∙ append_assoc p mid y ∙ ap (λ l. p ++ l) f
    ∙ sym (append_assoc p q new)

pub streams_then : (g : GraphParts) (xs ys : List Triple) (a b c : PendingText) (s t u : Option (List ℕ)) (i j k : ℕ)
    → Streams g xs a b s t i j → Streams g ys b c t u j k → Streams g (xs ++ ys) a c s u i k
streams_then g xs ys a b c s t u i j k first rest = record {
  text = first.text ++ rest.text;
  is = joined g xs ys first.text rest.text first.is rest.is;
  part = first.part ++ rest.part;
  all = regrouped a.bytes.items b.bytes.items c.bytes.items first.text rest.text first.part rest.part first.all
      rest.all;
  count = omega (arith, first.count, rest.count, length-append first.part rest.part);
  written = Appends-trans s t u first.part rest.part first.written rest.written;
  well = rest.well ∙ first.well;
}

stops_before : (e : DumpFault) (n : ℕ) (x y : List ℕ) (s t : Option (List ℕ)) (i j : ℕ) → StopsAt e n x s t i j
    → StopsAt e n (x ++ y) s t i j
stops_before (NotATerm role number) n x y s t i j h = h
stops_before (Write m) n x y s t i j h = record {
  count = h.count;
  is = h.is;
  within = omega (arith, h.within, length-append x y);
  written = subst (Appends s t) (sym (take-append-le h.count x y (omega (arith, h.within)))) h.written;
  once = h.once;
}
stops_before OutOfMemory n x y s t i j h = record {
  count = h.count;
  within = omega (arith, h.within, length-append x y);
  written = subst (Appends s t) (sym (take-append-le h.count x y h.within)) h.written;
  well = h.well;
}

-- an error in the first text
pub stops_first : (g : GraphParts) (xs ys : List Triple) (e : DumpFault) (a : PendingText) (s t : Option (List ℕ))
    (i j : ℕ) → AreWritableTriples g ys → StopsShort g xs e a s t i j → StopsShort g (xs ++ ys) e a s t i j
stops_first g xs ys e a s t i j lines h =
    let more = text_of g ys lines in
    record {
      text = h.text ++ more.0;
      is = joined g xs ys h.text more.0 h.is more.1;
      stops = subst (λ (l : List ℕ). StopsAt e a.written l s t i j) (append_assoc a.bytes.items h.text more.0)
          (stops_before e a.written (a.bytes.items ++ h.text) more.0 s t i j h.stops);
    }

-- an error behind bytes that were written
pub stops_past : (e : DumpFault) (n m : ℕ) (p bytes : List ℕ) (s t u : Option (List ℕ)) (i j k : ℕ) → m ≡ n + length p
    → Appends s t p → j ≡ i → StopsAt e m bytes t u j k → StopsAt e n (p ++ bytes) s u i k
stops_past (NotATerm role number) n m p bytes s t u i j k at one well h = h
stops_past (Write c) n m p bytes s t u i j k at one well h = record {
  count = length p + h.count;
  is = omega (arith, h.is, at);
  within = omega (arith, h.within, length-append p bytes);
  written = subst (Appends s u) (sym (take-append-add p bytes h.count))
      (Appends-trans s t u p (take h.count bytes) one h.written);
  once = omega (arith, h.once, well);
}
stops_past OutOfMemory n m p bytes s t u i j k at one well h = record {
  count = length p + h.count;
  within = omega (arith, h.within, length-append p bytes);
  written = subst (Appends s u) (sym (take-append-add p bytes h.count))
      (Appends-trans s t u p (take h.count bytes) one h.written);
  well = h.well ∙ well;
}

-- an error in the second text
pub stops_later : (g : GraphParts) (xs ys : List Triple) (e : DumpFault) (a b : PendingText) (s t u : Option (List ℕ))
    (i j k : ℕ) → Streams g xs a b s t i j → StopsShort g ys e b t u j k → StopsShort g (xs ++ ys) e a s u i k
stops_later g xs ys e a b s t u i j k first h =
    let same : first.part ++ (b.bytes.items ++ h.text) ≡ a.bytes.items ++ (first.text ++ h.text) =
    sym (append_assoc first.part b.bytes.items h.text) ∙ ap (λ l. l ++ h.text) (sym first.all)
    ∙ append_assoc a.bytes.items first.text h.text in
    record {
      text = first.text ++ h.text;
      is = joined g xs ys first.text h.text first.is h.is;
      stops = subst (λ (l : List ℕ). StopsAt e a.written l s u i k) same
          (stops_past e a.written b.written first.part (b.bytes.items ++ h.text) s t u i j k first.count first.written
          first.well h.stops);
    }

-- ---- the triples that are left

-- what streaming the remaining triples does, is what streaming all does
pub record ContinuesStream (g : GraphParts) (all left : List Triple) (old now : PendingText)
    (before at : Option (List ℕ)) (i j : ℕ) : Type 0 where
  pub ok : (new : PendingText) (after : Option (List ℕ)) (k : ℕ) → Streams g left now new at after j k
      → Streams g all old new before after i k
  pub stop : (e : DumpFault) (after : Option (List ℕ)) (k : ℕ) → StopsShort g left e now at after j k
      → StopsShort g all e old before after i k

pub begins : (g : GraphParts) (all : List Triple) (p : PendingText) (w : Option (List ℕ)) (i : ℕ)
    → ContinuesStream g all all p p w w i i
begins g all p w i = record { ok = λ new after k h. h; stop = λ e after k h. h }

-- after room was made for the text
pub begins_with : (g : GraphParts) (all : List Triple) (p q : PendingText) (w : Option (List ℕ)) (i : ℕ)
    → q.bytes.items ≡ p.bytes.items → q.written ≡ p.written → ContinuesStream g all all p q w w i i
begins_with g all p q w i same at = record {
  ok = λ new after k h. record {
    text = h.text;
    is = h.is;
    part = h.part;
    all = ap (λ (l : List ℕ). l ++ h.text) (sym same) ∙ h.all;
    count = omega (arith, h.count, at);
    written = h.written;
    well = h.well;
  };
  stop = λ e after k h. record {
    text = h.text;
    is = h.is;
    stops = subst (λ (n : ℕ). StopsAt e n (p.bytes.items ++ h.text) w after i k) at
        (subst (λ (l : List ℕ). StopsAt e q.written (l ++ h.text) w after i k) same h.stops);
  };
}

pub goes_on : (g : GraphParts) (all xs ys : List Triple) (a b c : PendingText) (s t u : Option (List ℕ)) (i j k : ℕ)
    → ContinuesStream g all (xs ++ ys) a b s t i j → Streams g xs b c t u j k → ContinuesStream g all ys a c s u i k
goes_on g all xs ys a b c s t u i j k h first = record {
  ok = λ new after m rest. h.ok new after m (streams_then g xs ys b c new t u after j k m first rest);
  stop = λ e after m rest. h.stop e after m (stops_later g xs ys e b c t u after j k m first rest);
}

pub stops : (g : GraphParts) (all xs ys : List Triple) (e : DumpFault) (a b : PendingText) (s t u : Option (List ℕ))
    (i j k : ℕ) → ContinuesStream g all (xs ++ ys) a b s t i j → AreWritableTriples g ys
    → StopsShort g xs e b t u j k → StopsShort g all e a s u i k
stops g all xs ys e a b s t u i j k h lines told = h.stop e u k (stops_first g xs ys e b t u j k lines told)

pub ends : (g : GraphParts) (all left : List Triple) (a b : PendingText) (s t : Option (List ℕ)) (i j : ℕ)
    → ContinuesStream g all left a b s t i j → left ≡ [] → Streams g all a b s t i j
ends g all [] a b s t i j h none = h.ok b t j (streams_none g b t j)
ends g all (x ∷ left) a b s t i j h none = absurd cc

-- memory ran out before anything was done
pub stops_here : (g : GraphParts) (ts : List Triple) (p : PendingText) (w : Option (List ℕ)) (i : ℕ)
    → AreWritableTriples g ts → StopsShort g ts OutOfMemory p w w i i
stops_here g ts p w i lines = let made = text_of g ts lines in
    record {
      text = made.0;
      is = made.1;
      stops = record { count = 0; within = omega arith; written = Appends-nil w; well = refl };
    }

-- ---- one line

only_one : (g : GraphParts) (t : Triple) → IsWritable g t → AreWritableTriples g (t ∷ [])
only_one g t line = All-cons (IsWritable g) t [] line (λ k d below. absurd (omega (arith, below)))

-- a triple that has a line has no string that is not a term
only_memory : (g : GraphParts) (t : Triple) (e : DumpFault) → IsWritable g t → ReportsNonTermOfTriple g t e
    → e ≡ OutOfMemory
only_memory g t (NotATerm role n) line h = absurd (h.0.none (line role).0 (line role).1)
only_memory g t (Write k) line h = absurd h
only_memory g t OutOfMemory line h = refl

pub line_stops : (g : GraphParts) (t : Triple) (e : DumpFault) (p : PendingText) (w : Option (List ℕ)) (i : ℕ)
    → IsWritable g t → ReportsNonTermOfTriple g t e → StopsShort g (t ∷ []) e p w w i i
line_stops g t e p w i line h =
    subst (λ (f : DumpFault). StopsShort g (t ∷ []) f p w w i i) (sym (only_memory g t e line h))
    (stops_here g (t ∷ []) p w i (only_one g t line))

line_text : (g : GraphParts) (t : Triple) (old new : List ℕ) (h : AppendsLine g t old new)
    → IsTextOf (denoted g (t ∷ [])) (line h.terms)
line_text g t old new h =
    record { terms = h.terms ∷ []; each = (h.are, tt); whole = sym (append-nil (line h.terms)) }

pub line_put : (g : GraphParts) (t : Triple) (old : PendingText) (bytes : List ℕ) (new : PendingText)
    (before after : Option (List ℕ)) (i j : ℕ) (r : Result (Unit {0}) DumpFault)
    → AppendsLine g t old.bytes.items bytes
    → OnOk r ((part : List ℕ) × (bytes ≡ part ++ new.bytes.items) × (new.written ≡ old.written + length part)
    × Appends before after part)
    → OnOk r (j ≡ i) → OnOk r (Streams g (t ∷ []) old new before after i j)
line_put g t old bytes new before after i j (Ok done) h put well = record {
  text = line h.terms;
  is = line_text g t old.bytes.items bytes h;
  part = put.0;
  all = sym h.grown ∙ put.1;
  count = put.2;
  written = put.3;
  well = well;
}
line_put g t old bytes new before after i j (Err e) h put well = tt

pub line_cut : (g : GraphParts) (t : Triple) (old : PendingText) (bytes : List ℕ) (before after : Option (List ℕ))
    (i j : ℕ) (r : Result (Unit {0}) DumpFault) → AppendsLine g t old.bytes.items bytes
    → IfErr r (λ e. StopsAt e old.written bytes before after i j)
    → IfErr r (λ e. StopsShort g (t ∷ []) e old before after i j)
line_cut g t old bytes before after i j (Ok done) h cut = tt
line_cut g t old bytes before after i j (Err e) h cut = record {
  text = line h.terms;
  is = line_text g t old.bytes.items bytes h;
  stops = subst (λ (l : List ℕ). StopsAt e old.written l before after i j) h.grown cut;
}

-- ---- the triples of a list, one by one

pub goes_on_at : (g : GraphParts) (all : List Triple) (at : ℕ) (a b c : PendingText) (s t u : Option (List ℕ))
    (i j k : ℕ) → at < length all → ContinuesStream g all (drop at all) a b s t i j
    → Streams g (get_or all at (0, 0, 0) ∷ []) b c t u j k → ContinuesStream g all (drop (at + 1) all) a c s u i k
goes_on_at g all at a b c s t u i j k lt h one =
    goes_on g all (get_or all at (0, 0, 0) ∷ []) (drop (at + 1) all) a b c s t u i j k
    (subst (λ (left : List Triple). ContinuesStream g all left a b s t i j) (drop_more all at (0, 0, 0) lt) h) one

pub stops_at : (g : GraphParts) (all : List Triple) (at : ℕ) (e : DumpFault) (a b : PendingText)
    (s t u : Option (List ℕ)) (i j k : ℕ) → at < length all → ContinuesStream g all (drop at all) a b s t i j
    → AreWritableTriples g all → StopsShort g (get_or all at (0, 0, 0) ∷ []) e b t u j k
    → StopsShort g all e a s u i k
stops_at g all at e a b s t u i j k lt h lines told =
    stops g all (get_or all at (0, 0, 0) ∷ []) (drop (at + 1) all) e a b s t u i j k
    (subst (λ (left : List Triple). ContinuesStream g all left a b s t i j) (drop_more all at (0, 0, 0) lt) h)
    (All-drop (IsWritable g) (at + 1) all lines) told

pub ends_past : (g : GraphParts) (all : List Triple) (at : ℕ) (a b : PendingText) (s t : Option (List ℕ)) (i j : ℕ)
    → length all ≤ at → ContinuesStream g all (drop at all) a b s t i j → Streams g all a b s t i j
ends_past g all at a b s t i j past h = ends g all (drop at all) a b s t i j h (drop_all at all past)

-- ---- terms of triples that are checked

-- what holds for the remaining triples, holds for all
pub record ChecksTerms (g : GraphParts) (all left : List Triple) : Type 0 where
  pub lines : AreWritableTriples g left → AreWritableTriples g all
  pub first : (e : DumpFault) → ReportsFirstNonTerm g left e → ReportsFirstNonTerm g all e

after_line : (g : GraphParts) (t : Triple) (ts : List Triple) (e : DumpFault) → IsWritable g t
    → ReportsFirstNonTerm g ts e → ReportsFirstNonTerm g (t ∷ ts) e
after_line g t ts (NotATerm role n) line h = inr (line, h)
after_line g t ts (Write k) line h = h
after_line g t ts OutOfMemory line h = tt

pub checks_more : (g : GraphParts) (all left rest : List Triple) (t : Triple) → left ≡ t ∷ rest → IsWritable g t
    → ChecksTerms g all left → ChecksTerms g all rest
checks_more g all left rest t e line h =
    let k = subst (ChecksTerms g all) e h in
    record {
      lines = λ more. k.lines (All-cons (IsWritable g) t rest line more);
      first = λ fault told. k.first fault (after_line g t rest fault line told);
    }

pub checks_none : (g : GraphParts) (all left rest : List Triple) (t : Triple) (role : Role) (n : ℕ) → left ≡ t ∷ rest
    → IsFirstNonTermOfTriple (denoted_triple g t) role → n ≡ role_component role t → ChecksTerms g all left
    → IsFirstNonTerm g all role n
checks_none g all left rest t role n e none at h =
    (subst (ChecksTerms g all) e h).first (NotATerm role n) (inl (none, at))

pub checks_all : (g : GraphParts) (all left : List Triple) → left ≡ [] → ChecksTerms g all left
    → AreWritableTriples g all
checks_all g all [] none h = h.lines (λ k d below. absurd (omega (arith, below)))
checks_all g all (t ∷ left) none h = absurd cc

-- a limit that is no limit
pub limited_by : (most : Option ℕ) (ts : List Triple) (limit : ℕ) → length ts ≤ limit
    → limited most ts ≡ take (unwrap_or most limit) ts
limited_by None ts limit long = sym (take_all limit ts long)
limited_by (Some n) ts limit long = refl

pub checks_start : (g : GraphParts) (most : Option ℕ) (ts : List Triple) (limit : ℕ) → length ts ≤ limit
    → ChecksTerms g (limited most ts) (take (unwrap_or most limit) ts)
checks_start g most ts limit long =
    let same = limited_by most ts limit long in
    record {
      lines = λ h. subst (AreWritableTriples g) (sym same) h;
      first = λ e h. subst (λ (l : List Triple). ReportsFirstNonTerm g l e) (sym same) h;
    }

-- the first of the triples that are taken
pub first_taken : (n : ℕ) (ts rest : List Triple) (t : Triple) → 0 < n → ts ≡ t ∷ rest
    → take n ts ≡ t ∷ take (n - 1) rest
first_taken zero ts rest t some e = absurd (omega (arith, some))
first_taken (suc n) ts rest t some e =
    let less : n ≡ suc n - 1 = omega arith in
    ap (take (suc n)) e ∙ ap (λ m. t ∷ take m rest) less

-- ---- the triples of a list, part by part

pub writable_first : (g : GraphParts) (n : ℕ) (ts : List Triple) → AreWritableTriples g ts
    → AreWritableTriples g (take n ts)
writable_first g n ts h = All-take (IsWritable g) n ts h

pub writable_rest : (g : GraphParts) (n : ℕ) (ts : List Triple) → AreWritableTriples g ts
    → AreWritableTriples g (drop n ts)
writable_rest g n ts h = All-drop (IsWritable g) n ts h

pub goes_on_part : (g : GraphParts) (all left : List Triple) (n : ℕ) (a b c : PendingText) (s t u : Option (List ℕ))
    (i j k : ℕ) → ContinuesStream g all left a b s t i j → Streams g (take n left) b c t u j k
    → ContinuesStream g all (drop n left) a c s u i k
goes_on_part g all left n a b c s t u i j k h first =
    goes_on g all (take n left) (drop n left) a b c s t u i j k
    (subst (λ (ts : List Triple). ContinuesStream g all ts a b s t i j) (sym (take-append-drop n left)) h) first

pub stops_part : (g : GraphParts) (all left : List Triple) (n : ℕ) (e : DumpFault) (a b : PendingText)
    (s t u : Option (List ℕ)) (i j k : ℕ) → ContinuesStream g all left a b s t i j → AreWritableTriples g left
    → StopsShort g (take n left) e b t u j k → StopsShort g all e a s u i k
stops_part g all left n e a b s t u i j k h lines told =
    stops g all (take n left) (drop n left) e a b s t u i j k
    (subst (λ (ts : List Triple). ContinuesStream g all ts a b s t i j) (sym (take-append-drop n left)) h)
    (writable_rest g n left lines) told

-- memory ran out between two parts
pub stops_there : (g : GraphParts) (all left : List Triple) (a b : PendingText) (s t : Option (List ℕ)) (i j : ℕ)
    → ContinuesStream g all left a b s t i j → AreWritableTriples g left → StopsShort g all OutOfMemory a s t i j
stops_there g all left a b s t i j h lines = h.stop OutOfMemory t j (stops_here g left b t j lines)

pub ends_none : (g : GraphParts) (all left : List Triple) (a b : PendingText) (s t : Option (List ℕ)) (i j : ℕ)
    → length left ≡ 0 → ContinuesStream g all left a b s t i j → Streams g all a b s t i j
ends_none g all [] a b s t i j none h = ends g all [] a b s t i j h refl
ends_none g all (x ∷ left) a b s t i j none h = absurd (omega (arith, none))

-- the first n of k triples, then the others
pub split_taken : (n k : ℕ) (ts : List Triple) → n ≤ k → take k ts ≡ take n ts ++ take (k - n) (drop n ts)
split_taken n k ts le =
    let whole : k ≡ n + (k - n) = omega (arith, le) in
    ap (λ m. take m ts) whole ∙ take-add n (k - n) ts

pub begins_limited : (g : GraphParts) (most : Option ℕ) (ts : List Triple) (limit : ℕ) (p : PendingText)
    (w : Option (List ℕ)) (i : ℕ) → length ts ≤ limit
    → ContinuesStream g (limited most ts) (take (unwrap_or most limit) ts) p p w w i i
begins_limited g most ts limit p w i long =
    subst (λ (all : List Triple). ContinuesStream g all (take (unwrap_or most limit) ts) p p w w i i)
    (sym (limited_by most ts limit long)) (begins g (take (unwrap_or most limit) ts) p w i)

pub goes_on_taken : (g : GraphParts) (all ts : List Triple) (n k : ℕ) (a b c : PendingText) (s t u : Option (List ℕ))
    (i j m : ℕ) → n ≤ k → ContinuesStream g all (take k ts) a b s t i j → Streams g (take n ts) b c t u j m
    → ContinuesStream g all (take (k - n) (drop n ts)) a c s u i m
goes_on_taken g all ts n k a b c s t u i j m le h first =
    goes_on g all (take n ts) (take (k - n) (drop n ts)) a b c s t u i j m
    (subst (λ (l : List Triple). ContinuesStream g all l a b s t i j) (split_taken n k ts le) h) first

pub writable_taken : (g : GraphParts) (ts : List Triple) (n k : ℕ) → n ≤ k → AreWritableTriples g (take k ts)
    → AreWritableTriples g (take n ts) × AreWritableTriples g (take (k - n) (drop n ts))
writable_taken g ts n k le h =
    let first : take n (take k ts) ≡ take n ts = take-take n k ts le in
    let whole : k ≡ n + (k - n) = omega (arith, le) in
    let rest : drop n (take k ts) ≡ take (k - n) (drop n ts) =
    ap (λ m. drop n (take m ts)) whole ∙ drop-take n (k - n) ts in (
      subst (AreWritableTriples g) first (writable_first g n (take k ts) h),
      subst (AreWritableTriples g) rest (writable_rest g n (take k ts) h),
    )

pub stops_taken : (g : GraphParts) (all ts : List Triple) (n k : ℕ) (e : DumpFault) (a b : PendingText)
    (s t u : Option (List ℕ)) (i j m : ℕ) → n ≤ k → ContinuesStream g all (take k ts) a b s t i j
    → AreWritableTriples g (take k ts) → StopsShort g (take n ts) e b t u j m → StopsShort g all e a s u i m
stops_taken g all ts n k e a b s t u i j m le h lines told =
    stops g all (take n ts) (take (k - n) (drop n ts)) e a b s t u i j m
    (subst (λ (l : List Triple). ContinuesStream g all l a b s t i j) (split_taken n k ts le) h)
    (writable_taken g ts n k le lines).1 told

-- none of the next triples is left, though some were wanted
pub ends_taken : (g : GraphParts) (all ts : List Triple) (n k : ℕ) (a b : PendingText) (s t : Option (List ℕ))
    (i j : ℕ) → 0 < n → length (take n ts) ≡ 0 → ContinuesStream g all (take k ts) a b s t i j
    → Streams g all a b s t i j
ends_taken g all ts zero k a b s t i j some none h = absurd (omega (arith, some))
ends_taken g all [] (suc n) k a b s t i j some none h =
    ends g all (take k []) a b s t i j h (take_all k [] (omega arith))
ends_taken g all (x ∷ ts) (suc n) k a b s t i j some none h = absurd (omega (arith, none))

pub ends_zero : (g : GraphParts) (all ts : List Triple) (k : ℕ) (a b : PendingText) (s t : Option (List ℕ))
    (i j : ℕ) → k ≡ 0 → ContinuesStream g all (take k ts) a b s t i j → Streams g all a b s t i j
ends_zero g all ts k a b s t i j none h =
    ends g all (take k ts) a b s t i j h (ap (λ n. take n ts) none)

pub limited_lines : (g : GraphParts) (most : Option ℕ) (ts : List Triple) (limit : ℕ) → length ts ≤ limit
    → AreWritableTriples g (limited most ts) → AreWritableTriples g (take (unwrap_or most limit) ts)
limited_lines g most ts limit long h = subst (AreWritableTriples g) (limited_by most ts limit long) h

-- a list that was cleared has only what was appended
pub window_taken : (n : ℕ) (ts old new : List Triple) → old ≡ [] → new ≡ old ++ take n ts → new ≡ take n ts
window_taken n ts old new none e = e ∙ ap (λ (l : List Triple). l ++ take n ts) none

-- ---- a text that is written to its end

pub short_written : (g : GraphParts) (ts : List Triple) (old new : List ℕ) (w n : ℕ) (s t : Option (List ℕ))
    → AppendsText g ts old new → old ≡ [] → w ≡ 0 → Appends s t new → n ≡ w + length new → WritesText g ts s t n
short_written g ts old new w n s t h none start written size =
    let same : new ≡ h.text = h.grown ∙ ap (λ (l : List ℕ). l ++ h.text) none in
    record {
      text = h.text;
      is = h.is;
      written = subst (Appends s t) same written;
      size = omega (arith, size, start, ap length same);
    }

pub short_cut : (g : GraphParts) (ts : List Triple) (e : DumpFault) (old new : List ℕ) (w : ℕ) (s t : Option (List ℕ))
    (i j : ℕ) → AppendsText g ts old new → old ≡ [] → w ≡ 0 → StopsAt e w new s t i j → CutsText g ts e s t i j
short_cut g ts e old new w s t i j h none start cut =
    let same : new ≡ h.text = h.grown ∙ ap (λ (l : List ℕ). l ++ h.text) none in
    record {
      text = h.text;
      is = h.is;
      stops = subst (λ (l : List ℕ). StopsAt e 0 l s t i j) same
          (subst (λ (m : ℕ). StopsAt e m new s t i j) start cut);
    }

pub stopped_cut : (g : GraphParts) (ts : List Triple) (e : DumpFault) (a : PendingText) (s t : Option (List ℕ))
    (i j : ℕ) → StopsShort g ts e a s t i j → a.bytes.items ≡ [] → a.written ≡ 0 → CutsText g ts e s t i j
stopped_cut g ts e a s t i j h none start = record {
  text = h.text;
  is = h.is;
  stops = subst (λ (l : List ℕ). StopsAt e 0 l s t i j) (ap (λ (l : List ℕ). l ++ h.text) none)
      (subst (λ (m : ℕ). StopsAt e m (a.bytes.items ++ h.text) s t i j) start h.stops);
}

pub stream_written : (g : GraphParts) (ts : List Triple) (a b : PendingText) (n : ℕ) (s t u : Option (List ℕ)) (i j : ℕ)
    → Streams g ts a b s t i j → a.bytes.items ≡ [] → a.written ≡ 0 → Appends t u b.bytes.items
    → n ≡ b.written + length b.bytes.items → WritesText g ts s u n
stream_written g ts a b n s t u i j h none start written size =
    let same : h.part ++ b.bytes.items ≡ h.text = sym h.all ∙ ap (λ (l : List ℕ). l ++ h.text) none in
    record {
      text = h.text;
      is = h.is;
      written = subst (Appends s u) same (Appends-trans s t u h.part b.bytes.items h.written written);
      size = omega (arith, size, h.count, start, length-append h.part b.bytes.items, ap length same);
    }

pub stream_cut : (g : GraphParts) (ts : List Triple) (e : DumpFault) (a b : PendingText) (s t u : Option (List ℕ))
    (i j k : ℕ) → Streams g ts a b s t i j → a.bytes.items ≡ [] → a.written ≡ 0
    → StopsAt e b.written b.bytes.items t u j k → CutsText g ts e s u i k
stream_cut g ts e a b s t u i j k h none start cut =
    let same : h.part ++ b.bytes.items ≡ h.text = sym h.all ∙ ap (λ (l : List ℕ). l ++ h.text) none in
    record {
      text = h.text;
      is = h.is;
      stops = subst (λ (l : List ℕ). StopsAt e 0 l s u i k) same
          (stops_past e 0 b.written h.part b.bytes.items s t u i j k (omega (arith, h.count, start)) h.written h.well
          cut);
    }

pub not_short : (short : Bool) → short ≡ false → ◌≢◌ {A = Result Bool DumpFault} (Ok short) (Ok true)
not_short short is e = absurd cc

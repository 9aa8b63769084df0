-- A line that is consumed piece by piece, and a prefix of its text.
use Rattle.std.proofs.Common.{◌≡◌, ℕ, ◌+◌, ◌-◌, ◌≤◌, Bool, true, false, List, [], ◌∷◌, ◌++◌, length, take, drop, get_or}
use Rattle.std.proofs.Common.{Option, Some, Ok, Err, inl, inr, sym, refl, ap, subst, ◌∙◌, arith, append_assoc}
use Rattle.std.proofs.Common.{append-nil, add-zero}
use Rattle.std.proofs.lemmas.Bool.{cases_lt}
use Rattle.std.proofs.lemmas.List.{length-take-le, take-append-le, take_all}
use Rattle.std.proofs.lemmas.List.Elements.{All-append, All-get_or, All-nil}
use Rattle.std.proofs.Math.Seq.{drop-length, take-append-add, take-length}
use Rattle.std.proofs.KnownBytes.{Consumes-kept, Consumes-nil, Consumes-trans, prepend_known-nil}
use Rattle.std.specs.Io.KnownBytes.{Consumes, prepend_known}
use Rattle.hdt_terms.specs.declared.fault.LineFault.{LineFault}
use Rattle.hdt_terms.specs.declared.fault.LineReason.{LineReason}
use Rattle.hdt_terms.specs.declared.fault.LineReason.TheVariants.{Syntax, NotUtf8, BadEscape, RelativeIri, IriCharacter}
use Rattle.hdt_terms.specs.declared.fault.LineReason.TheVariants.{ZeroCharacter, Read, OutOfMemory, TooLong}
use Rattle.hdt_terms.specs.Chars.{is_line_end}
use Rattle.hdt_terms.specs.Inside.LineBuffer.{IsFirstLineEnd, AppendsInput, ReadMore}
use Rattle.hdt_terms.specs.Lines.{HasNoLineEnd, ends_in_cr, count_line_ends}
use Rattle.hdt_terms.specs.LinesReader.{HasBufferedLine, IsTakenLineText, LinesState, Takes, unread_input, take_bytes}
use Rattle.hdt_terms.specs.LinesTexts.{IsNextLineError, IsUnreadLineError, TakesLinePrefix}
use Rattle.hdt_terms.proofs.LineEndCounts.{Takes-trans, count_line_ends-no_end}
use Rattle.hdt_terms.proofs.LineTaking.{AppendsInput-same, ended_taken, left_front, left_kept}

-- bytes of a line were consumed, and this is their prefix
abbrev pub Passing : ℕ → LinesState → LinesState → Option (List ℕ) → Option (List ℕ) → List ℕ → Type 0
Passing most old new before after front = (gone : List ℕ) × Takes old new before after gone × HasNoLineEnd gone
    × (front ≡ take most gone)

-- ---- the prefix of a text that grows

pub front_grows : (most : ℕ) (gone piece : List ℕ) → take most gone ++ take (most - length (take most gone)) piece
    ≡ take most (gone ++ piece)
front_grows most gone piece =
    elim (cases_lt most (length gone)) [
      | inl lt ↦
          let full : length (take most gone) ≡ most = length-take-le most gone (omega arith) in
          let none : most - length (take most gone) ≡ 0 = omega (arith, full) in
          ap (λ n. take most gone ++ take n piece) none ∙ append-nil (take most gone)
          ∙ sym (take-append-le most gone piece (omega arith))
      | inr le ↦
          let whole : take most gone ≡ gone = take_all most gone le in
          let room : length gone + (most - length gone) ≡ most = omega arith in
          ap (λ l. l ++ take (most - length l) piece) whole ∙ sym (take-append-add gone piece (most - length gone))
          ∙ ap (λ n. take n (gone ++ piece)) room
    ]

-- ---- nothing, and one piece more

pub passing_none : (most : ℕ) (s : LinesState) (before : Option (List ℕ)) (front : List ℕ)
    → s.taken + length s.buffered ≤ s.limit → front ≡ [] → Passing most s s before before front
passing_none most s before front within e = (
  [],
  record {
    consumed = Consumes-nil before;
    taken = omega arith;
    ends = sym (add-zero s.ends);
    after_cr = refl;
    within =
        within;
    limit = refl;
    failed = refl;
  },
  All-nil (λ c. is_line_end c ≡ false),
  e ∙ sym (take_all most [] (omega arith)),
)

none_left : (s : LinesState) → drop (length s.buffered) s.buffered ≡ []
none_left s = drop-length s.buffered

takes_held : (s : LinesState) (given : Option (List ℕ)) → s.taken + length s.buffered ≤ s.limit
    → Takes s (take_bytes s (length s.buffered)) (unread_input s given)
    (unread_input (take_bytes s (length s.buffered)) given) s.buffered
takes_held s given within =
    let all : take (length s.buffered) s.buffered ≡ s.buffered = take-length s.buffered in
    let cut : s.buffered ≡ s.buffered ++ drop (length s.buffered) s.buffered =
    sym (ap (λ l. s.buffered ++ l) (none_left s) ∙ append-nil s.buffered) in
    record {
      consumed = left_front s.buffered s.buffered s.buffered (drop (length s.buffered) s.buffered) given given
          (AppendsInput-same s.buffered given) cut;
      taken = refl;
      ends = ap (λ l. s.ends + count_line_ends s.after_cr l) all;
      after_cr = ap (ends_in_cr s.after_cr) all;
      within = omega (arith, ap length (none_left s));
      limit = refl;
      failed = refl;
    }

-- the complete buffer is consumed
passing_held : (most : ℕ) (old s taken : LinesState) (before given : Option (List ℕ)) (front more : List ℕ)
    → Passing most old s before (unread_input s given) front → HasNoLineEnd s.buffered
    → taken ≡ take_bytes s (length s.buffered) → more ≡ front ++ take (most - length front) s.buffered
    → Passing most old taken before (unread_input taken given) more
passing_held most old s taken before given front more p none is e =
    subst (λ (t : LinesState). Passing most old t before (unread_input t given) more) (sym is) (
      p.0 ++ s.buffered,
      Takes-trans old s (take_bytes s (length s.buffered)) before (unread_input s given)
          (unread_input (take_bytes s (length s.buffered)) given) p.0 s.buffered p.1 (takes_held s given p.1.within),
      All-append (λ c. is_line_end c ≡ false) p.0 s.buffered p.2 none,
      e ∙ ap (λ l. l ++ take (most - length l) s.buffered) p.3 ∙ front_grows most p.0 s.buffered,
    )

pub passing_all : (most : ℕ) (old s taken : LinesState) (before given : Option (List ℕ)) (front more : List ℕ) (n : ℕ)
    → Passing most old s before (unread_input s given) front → HasNoLineEnd s.buffered
    → taken ≡ take_bytes s (length s.buffered) → n ≡ length s.buffered
    → more ≡ front ++ take (most - length front) (take n s.buffered)
    → Passing most old taken before (unread_input taken given) more
passing_all most old s taken before given front more n p none is all e =
    passing_held most old s taken before given front more p none is (e
    ∙ ap (λ l. front ++ take (most - length front) l) (ap (λ k. take k s.buffered) all ∙ take-length s.buffered))

pub none_held : (s taken : LinesState) → taken ≡ take_bytes s (length s.buffered) → taken.buffered ≡ []
none_held s taken is = ap (λ (t : LinesState). t.buffered) is ∙ none_left s

-- after a read that gave more bytes, or none
read_behind : (old taken : LinesState) (before given given' : Option (List ℕ)) (bytes buffered : List ℕ) (b : Bool)
    → Takes old taken before (unread_input taken given) bytes → AppendsInput taken.buffered buffered given given'
    → taken.taken + length buffered ≤ taken.limit
    → Takes old (record taken { buffered = buffered; ended = b }) before (prepend_known buffered given') bytes
read_behind old taken before given given' bytes buffered b t grew within = record {
  consumed = Consumes-kept before (unread_input taken given) (prepend_known buffered given') bytes t.consumed
      (left_kept taken.buffered buffered given given' grew);
  taken = t.taken;
  ends = t.ends;
  after_cr = t.after_cr;
  within = within;
  limit = t.limit;
  failed = t.failed;
}

pub passing_on : (most : ℕ) (old taken new : LinesState) (before given given' : Option (List ℕ)) (front : List ℕ)
    → Passing most old taken before (unread_input taken given) front
    → ReadMore (Ok true) taken.buffered new.buffered given given' (taken.limit - taken.taken)
    → new ≡ record taken { buffered = new.buffered } → taken.taken + length taken.buffered ≤ taken.limit
    → Passing most old new before (unread_input new given') front
passing_on most old taken new before given given' front p more is within =
    subst (λ (t : LinesState). Passing most old t before (unread_input t given') front) (sym is) (
      p.0,
      read_behind old taken before given given' p.0 new.buffered taken.ended p.1 more.0 (omega (arith, more.2)),
      p.2,
      p.3,
    )

-- ---- the end of the line, and of the input

line_behind : (gone text bytes : List ℕ) (new : LinesState) (after : Option (List ℕ)) → HasNoLineEnd gone
    → IsTakenLineText text bytes new after → IsTakenLineText (gone ++ text) (gone ++ bytes) new after
line_behind gone text bytes new after none p = (
  All-append (λ c. is_line_end c ≡ false) gone text none p.0,
  elim p.1 [
    | inl w ↦ inl (w.0, w.1, ap (λ l. gone ++ l) w.2 ∙ sym (append_assoc gone text (w.0 ∷ [])), w.3)
    | inr w ↦ inr (ap (λ l. gone ++ l) w.0, w.1, w.2, w.3)
  ],
)

pub front_ended : (most : ℕ) (old s new : LinesState) (before given : Option (List ℕ)) (n : ℕ) (front more : List ℕ)
    → Passing most old s before (unread_input s given) front → s.ended ≡ false
    → IsFirstLineEnd s.buffered (Some n) → new ≡ take_bytes s (n + 1)
    → more ≡ front ++ take (most - length front) (take n s.buffered)
    → TakesLinePrefix most old new before (unread_input new given) more
front_ended most old s new before given n front more p going found is e =
    subst (λ (t : LinesState). TakesLinePrefix most old t before (unread_input t given) more) (sym is)
    (let line = ended_taken s s.buffered n given given
    (AppendsInput-same s.buffered given) found.2 p.1.within going found.0 found.1 in
    let text = take n s.buffered in
    let after = unread_input (take_bytes s (n + 1)) given in (
      p.0 ++ text,
      (
        p.0 ++ take (n + 1) s.buffered,
        Takes-trans old s (take_bytes s (n + 1)) before (unread_input s given) after p.0
            (take (n + 1) s.buffered) p.1 line.0,
        line_behind p.0 text (take (n + 1) s.buffered) (take_bytes s (n + 1)) after p.2 line.1,
      ),
      e ∙ ap (λ l. l ++ take (most - length l) text) p.3 ∙ front_grows most p.0 text,
    ))

pub front_last : (most : ℕ) (old taken read new : LinesState) (before given given' : Option (List ℕ)) (front : List ℕ)
    → Passing most old taken before (unread_input taken given) front → taken.buffered ≡ []
    → ReadMore (Ok false) taken.buffered read.buffered given given' (taken.limit - taken.taken)
    → read ≡ record taken { buffered = read.buffered } → new ≡ record read { ended = true }
    → TakesLinePrefix most old new before (unread_input new given') front
front_last most old taken read new before given given' front p none end others is =
    let buffered : read.buffered ≡ [] = end.1 ∙ none in
    let within : taken.taken + length read.buffered ≤ taken.limit = omega (arith, ap length end.1, p.1.within) in
    subst (λ (t : LinesState). TakesLinePrefix most old t before (unread_input t given') front)
    (sym (is ∙ ap (λ (r : LinesState). record r { ended = true }) others)) (
      p.0,
      (
        p.0,
        read_behind old taken before given given' p.0 read.buffered true p.1 end.0 within,
        (p.2, inr (refl, refl, buffered, rw buffered (rw prepend_known-nil end.2))),
      ),
      p.3,
    )

-- ---- errors

module _ (most : ℕ) (old taken : LinesState) (before given given' : Option (List ℕ)) (front buffered : List ℕ)
    (p : Passing most old taken before (unread_input taken given) front) (none : taken.buffered ≡ []) where
  given_up_to : Consumes before given p.0
  given_up_to = subst (λ a. Consumes before a p.0) (ap (λ l. prepend_known l given) none
      ∙ prepend_known-nil given) p.1.consumed

  within_limit : old.taken + length p.0 ≤ old.limit
  within_limit = omega (arith, p.1.taken, p.1.within, p.1.limit)

  stands_passing : (r : LineReason) → ReadMore (Err r) taken.buffered buffered given given' (taken.limit - taken.taken)
      → IsUnreadLineError r old.taken old.limit before given'
  stands_passing Syntax h = absurd h
  stands_passing NotUtf8 h = absurd h
  stands_passing BadEscape h = absurd h
  stands_passing RelativeIri h = absurd h
  stands_passing IriCharacter h = absurd h
  stands_passing ZeroCharacter h = absurd h
  stands_passing OutOfMemory h = tt
  stands_passing Read h = (refl, (p.0, p.2, Consumes-kept before given given' p.0 given_up_to h.1, within_limit))
  stands_passing TooLong h = (
    refl,
    (
      p.0,
      h.2.0,
      p.2,
      h.2.1,
      omega (arith, h.1, ap length h.0, ap length none, p.1.taken, p.1.within, p.1.limit),
      Consumes-trans before given given' p.0 h.2.0 given_up_to h.2.2,
    ),
  )

-- no line end is consumed
passing_ends : (most : ℕ) (old s : LinesState) (before after : Option (List ℕ)) (front : List ℕ)
    → Passing most old s before after front → s.ends ≡ old.ends
passing_ends most old s before after front p =
    p.1.ends ∙ ap (λ n. old.ends + n) (count_line_ends-no_end old.after_cr p.0 p.2) ∙ add-zero old.ends

pub no_memory : (most : ℕ) (old s : LinesState) (before after given : Option (List ℕ)) (front : List ℕ)
    (fault : LineFault) → Passing most old s before after front
    → fault ≡ record { line = s.ends + 1; column = 0; reason = OutOfMemory } → IsNextLineError fault old before given
no_memory most old s before after given front fault p is =
    subst (λ (f : LineFault). IsNextLineError f old before given) (sym is)
    (record { line = ap (λ n. n + 1) (passing_ends most old s before after front p); column = refl; fault_is = tt })

pub unread_on : (most : ℕ) (old taken read : LinesState) (before given given' : Option (List ℕ)) (front : List ℕ)
    (reason : LineReason) (fault : LineFault) → Passing most old taken before (unread_input taken given) front
    → taken.buffered ≡ [] → ReadMore (Err reason) taken.buffered read.buffered given given' (taken.limit - taken.taken)
    → read ≡ record taken { buffered = read.buffered }
    → fault ≡ record { line = read.ends + 1; column = 0; reason = reason } → IsNextLineError fault old before given'
unread_on most old taken read before given given' front reason fault p none h others is =
    subst (λ (f : LineFault). IsNextLineError f old before given') (sym is)
    (record {
      line = ap (λ n. n + 1) (ap (λ (r : LinesState). r.ends) others
          ∙ passing_ends most old taken before (unread_input taken given) front p);
      column = refl;
      fault_is = stands_passing most old taken before given given' front read.buffered p none reason h;
    })

-- ---- a line is buffered

-- bytes without a line end are no buffered line
pub holds_none : {P : Type 0} (s : LinesState) → HasNoLineEnd s.buffered → HasBufferedLine s → P
holds_none s none h =
    let not_end : is_line_end (get_or s.buffered h.0 0) ≡ false =
    All-get_or (λ c. is_line_end c ≡ false) s.buffered h.0 0 h.1 none in
    let bad : true ≡ false = sym h.2 ∙ not_end in absurd cc

-- A line that is consumed at once, with its end.
use Rattle.std.proofs.Common.{◌≡◌, ◌+◌, ◌-◌, ◌≤◌, ℕ, false, List, length, take, Option, Ok, Err, refl, sym, ap, subst}
use Rattle.std.proofs.Common.{inl, inr, arith}
use Rattle.std.proofs.lemmas.List.{length-take-le, take-take, take_all}
use Rattle.std.specs.Io.KnownBytes.{prepend_known}
use Rattle.hdt_terms.specs.declared.fault.LineFault.{LineFault}
use Rattle.hdt_terms.specs.declared.fault.LineReason.{LineReason}
use Rattle.hdt_terms.specs.declared.fault.LineReason.TheVariants.{Syntax, NotUtf8, BadEscape, RelativeIri, IriCharacter}
use Rattle.hdt_terms.specs.declared.fault.LineReason.TheVariants.{ZeroCharacter, Read, OutOfMemory, TooLong}
use Rattle.hdt_terms.specs.Inside.LineBuffer.{BuffersLine}
use Rattle.hdt_terms.specs.LinesReader.{LinesState, unread_input, take_line, IsTakenLineText}
use Rattle.hdt_terms.specs.LinesTexts.{TakesWholeLine, IsNextLineError, IsUnreadLineError}
use Rattle.hdt_terms.proofs.LineTaking.{line_held, stands_unread}

unread_of : (r : LineReason) (buffered new : List ℕ) (given given' : Option (List ℕ)) (taken limit : ℕ) → taken ≤ limit
    → BuffersLine (Err r) buffered new given given' (limit - taken)
    → IsUnreadLineError r taken limit (prepend_known buffered given) given'
unread_of Syntax buffered new given given' taken limit le p = absurd p
unread_of NotUtf8 buffered new given given' taken limit le p = absurd p
unread_of BadEscape buffered new given given' taken limit le p = absurd p
unread_of RelativeIri buffered new given given' taken limit le p = absurd p
unread_of IriCharacter buffered new given given' taken limit le p = absurd p
unread_of ZeroCharacter buffered new given given' taken limit le p = absurd p
unread_of OutOfMemory buffered new given given' taken limit le p = tt
unread_of Read buffered new given given' taken limit le p =
    stands_unread Read buffered new given given' taken limit le p
unread_of TooLong buffered new given given' taken limit le p =
    stands_unread TooLong buffered new given given' taken limit le p

pub buffer_fails : (r : LineReason) (s h : LinesState) (given given' : Option (List ℕ)) (fault : LineFault)
    → s.taken ≤ s.limit → BuffersLine (Err r) s.buffered h.buffered given given' (s.limit - s.taken)
    → h ≡ record s { buffered = h.buffered }
    → fault ≡ record { line = h.ends + 1; column = 0; reason = r } → IsNextLineError fault s
    (unread_input s given) given'
buffer_fails r s h given given' fault room does others is =
    subst (λ (f : LineFault). IsNextLineError f s (unread_input s given) given') (sym is)
    (record {
      line = ap (λ (t : LinesState). t.ends + 1) others;
      column = refl;
      fault_is =
          unread_of r s.buffered h.buffered given given' s.taken s.limit room does;
    })

pub whole_taken : (s h new : LinesState) (given given' : Option (List ℕ)) (n most : ℕ) (bytes : List ℕ)
    → BuffersLine (Ok n) s.buffered h.buffered given given' most → h ≡ record s { buffered = h.buffered }
    → s.taken + length h.buffered ≤ s.limit
    → s.ended ≡ false → new ≡ take_line h n → bytes ≡ take (n + 1) h.buffered
    → TakesWholeLine n s new (unread_input s given) (unread_input new given') bytes
whole_taken s h new given given' n most bytes filled others within going is bytes_is =
    let hb = h.buffered in
    let taken = line_held s h new given given' n most filled others within going is in
    let size : n ≤ length (take (n + 1) hb) =
    elim filled.1.end [
      | inl p ↦ omega (
        arith,
        length-take-le (n + 1) hb (omega (arith, p.0)),
      )
      | inr p ↦ omega (
        arith,
        ap length (take_all (n + 1) hb (omega (arith, p.0))),
        p.0,
      )
    ] in
    subst (TakesWholeLine n s new (unread_input s given) (unread_input new given')) (sym bytes_is)
    (record {
      takes = taken.0;
      is =
          subst (λ text. IsTakenLineText text (take (n + 1) hb) new (unread_input new given'))
          (sym (take-take n (n + 1) hb (omega arith))) taken.1;
      within = size;
    })

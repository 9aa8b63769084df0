-- Reading the lines of a document, and what is written for them.
use Rattle.std.proofs.Common.{◌≡◌, ◌⊎◌, ◌+◌, ◌<◌, ◌≤◌, ℕ, Bool, true, false, List, [], ◌∷◌, ◌++◌, length, take, drop}
use Rattle.std.proofs.Common.{Option, None, Some, refl, sym, ap, subst, ◌∙◌, inl, inr, arith, append_assoc, append-nil}
use Rattle.std.proofs.Common.{zero-add, add-zero, min, ◌^◌, ◌-◌}
use Rattle.std.proofs.lemmas.List.{length-append, length-take-le}
use Rattle.std.proofs.Math.Seq.{drop-append_seam, take-append_seam}
use Rattle.std.proofs.lemmas.List.Elements.{All-head, All-tail, filter_map-append}
use Rattle.std.proofs.lemmas.Grind.{flat_map-append}
use Rattle.std.proofs.KnownBytes.{Appends-nil, Appends-trans}
use Rattle.std.specs.Int.{from_bool}
use Rattle.std.specs.Io.KnownBytes.{Appends, IsAtEnd}
use Rattle.hdt_terms.specs.Chars.{is_line_end}
use Rattle.hdt_terms.specs.Lines.{HasNoLineEnd, count_line_ends, ends_in_cr}
use Rattle.hdt_terms.specs.LinesReader.{LinesState, Takes, unread_input, line_number, start}
use Rattle.hdt_terms.specs.LinesTexts.{TakesWholeLine, IsNextLineError}
use Rattle.hdt_terms.specs.Documents.{AreDocumentLines, AreEndedLines, BeginsWithLines, DocumentLine}
use Rattle.hdt_terms.specs.Documents.{FaultAfterDocumentLines, document_lines}
use Rattle.hdt_terms.specs.Lint.{GainsAllBut, GainsBytes, GainsPrefix, LintsUntilFault, fault_of_line_within}
use Rattle.hdt_terms.specs.Lint.{fault_reports}
use Rattle.hdt_terms.specs.Lint.{faulty_lines_within, kept_if, kept_line, kept_lines, last_faulty, last_faulty_of}
use Rattle.hdt_terms.specs.Lint.{lines_without_faults, numbered, report_if_faulty}
use Rattle.hdt_terms.specs.declared.fault.LineFault.{LineFault}
use Rattle.hdt_terms.specs.declared.lint.LintFault.{LintFault}
use Rattle.hdt_terms.specs.declared.lint.LintFault.TheVariants.{Write, OutOfMemory}
use Rattle.hdt_terms.proofs.LineEndCounts.{head_no_cr, head_no_lf, ends_in_cr-append, ends_in_cr-ended}
use Rattle.hdt_terms.proofs.LineEndCounts.{count_line_ends-append, count_line_ends-no_end, Takes-trans}
use Rattle.hdt_terms.proofs.TripleRuns.{nothing_taken}

-- ---- one line at the front

pub ended_front : (cr : Bool) (ends : ℕ) (text : List ℕ) (e : ℕ) (rest : List ℕ) → HasNoLineEnd text
    → is_line_end e ≡ true
    → document_lines cr ends (text ++ e ∷ rest)
    ≡ record { number = ends + count_line_ends cr (text ++ e ∷ []); text = text; end = e ∷ [] }
    ∷ document_lines (ends_in_cr cr (text ++ e ∷ [])) (ends + count_line_ends cr (text ++ e ∷ [])) rest
ended_front cr ends [] e rest p h = rw h refl
ended_front cr ends (b ∷ bs) e rest p h =
    let more = ended_front false ends bs e rest (All-tail (λ x. is_line_end x ≡ false) b bs p) h in
    rw (
      All-head (λ x. is_line_end x ≡ false) b bs p,
      head_no_cr b bs p,
      head_no_lf b bs p,
      more,
    ) (rw (zero-add (count_line_ends false (bs ++ e ∷ [])))
    (ap (λ c. record { number = ends + count_line_ends false (bs ++ e ∷ []); text = b ∷ bs; end = e ∷ [] }
    ∷ document_lines c (ends + count_line_ends false (bs ++ e ∷ [])) rest) (ends_in_cr-ended false bs e
    ∙ sym (ends_in_cr-ended cr (b ∷ bs) e))))

pub last_front : (cr : Bool) (ends : ℕ) (text : List ℕ) → HasNoLineEnd text
    → document_lines cr ends text ≡ record { number = ends + 1; text = text; end = [] } ∷ []
last_front cr ends [] p = refl
last_front cr ends (b ∷ bs) p =
    rw (
      All-head (λ x. is_line_end x ≡ false) b bs p,
      last_front false ends bs (All-tail (λ x. is_line_end x ≡ false) b bs p),
    ) refl

lines_grow : (front text : List ℕ) (e : ℕ) (lines : List DocumentLine) → AreEndedLines document_lines front lines
    → HasNoLineEnd text → is_line_end e ≡ true
    → AreEndedLines document_lines (front ++ (text ++ e ∷ [])) (lines
    ++ record { number = count_line_ends false (front ++ (text ++ e ∷ [])); text = text; end = e ∷ [] } ∷ [])
lines_grow front text e lines are p h = λ rest.
    let bytes = text ++ e ∷ [] in
    let cr = ends_in_cr false front in
    let ends = count_line_ends false front in
    ap (document_lines false 0) (append_assoc front bytes rest) ∙ are (bytes ++ rest)
    ∙ ap (λ l. lines ++ document_lines cr ends l) (append_assoc text (e ∷ []) rest)
    ∙ ap (λ l. lines ++ l) (ended_front cr ends text e rest p h)
    ∙ rw (
      count_line_ends-append false front bytes,
      ends_in_cr-append false front bytes,
    )
    (sym (append_assoc lines (record { number = ends + count_line_ends cr bytes; text = text; end = e ∷ [] }
    ∷ []) _))

lines_end : (front text : List ℕ) (lines : List DocumentLine) → AreEndedLines document_lines front lines
    → HasNoLineEnd text
    → document_lines false 0 (front ++ text)
    ≡ lines ++ record { number = count_line_ends false (front ++ text) + 1; text = text; end = [] } ∷ []
lines_end front text lines are p =
    let cr = ends_in_cr false front in
    let ends = count_line_ends false front in
    are text ∙ ap (λ l. lines ++ l) (last_front cr ends text p)
    ∙ ap (λ (k : ℕ). lines ++ record { number = k + 1; text = text; end = [] }
    ∷ []) (sym (count_line_ends-append false front text
    ∙ ap (λ (k : ℕ). ends + k) (count_line_ends-no_end cr text p) ∙ add-zero ends))

-- ---- the lines that have been read

-- These lines have been read from the input: those up to what is left, or all of them.
pub record HasReadLines (s : LinesState) (input left : Option (List ℕ)) (lines : List DocumentLine) : Type 0 where
  pub front : List ℕ
  pub takes : Takes (start 9223372036854775807) s input left front
  pub are : ((s.ended ≡ false) × AreEndedLines document_lines front lines)
      ⊎ ((s.ended ≡ true) × (document_lines false 0 front ≡ lines) × IsAtEnd left)

pub none_read : (s : LinesState) (input : Option (List ℕ)) → s ≡ start 9223372036854775807
    → HasReadLines s input (unread_input s input) []
none_read s input is =
    subst (λ (t : LinesState). HasReadLines t input (unread_input t input) []) (sym is) (record {
      front = [];
      takes = record {
        consumed = nothing_taken input;
        taken = refl;
        ends = refl;
        after_cr = refl;
        within = omega arith;
        limit = refl;
        failed = refl;
      };
      are = inl (refl, λ rest. refl);
    })

end_is : (n : ℕ) (bytes more : List ℕ) → n ≤ length bytes → bytes ≡ take n bytes ++ more → drop n bytes ≡ more
end_is n bytes more within cut =
    let len : length (take n bytes) ≡ n = length-take-le n bytes within in
    ap (drop n) cut ∙ ap (λ k. drop k (take n bytes ++ more)) (sym len) ∙ drop-append_seam (take n bytes) more

pub read_on : (n : ℕ) (s new : LinesState) (input mid after : Option (List ℕ)) (bytes : List ℕ)
    (lines : List DocumentLine) → HasReadLines s input mid lines → s.ended ≡ false
    → TakesWholeLine n s new mid after bytes
    → HasReadLines new input after (lines ++ numbered (line_number new) n bytes ∷ [])
read_on n s new input mid after bytes lines r going t =
    let takes = Takes-trans (start 9223372036854775807) s new input mid after r.front bytes r.takes t.takes in
    let ends : new.ends ≡ count_line_ends false (r.front ++ bytes) = takes.ends ∙ zero-add _ in
    elim r.are [
      | inl are ↦
          elim t.is.1 [
            | inl (e, is, cut, on) ↦
                let end : drop n bytes ≡ e ∷ [] = end_is n bytes (e ∷ []) t.within cut in
                let more = lines_grow r.front (take n bytes) e lines are.1 t.is.0 is in
                record {
                  front = r.front ++ bytes;
                  takes = takes;
                  are = inl (
                    on,
                    rw (
                      on,
                      ends,
                      end,
                    ) (subst (λ b. AreEndedLines document_lines (r.front ++ b) (lines
                        ++ record { number = count_line_ends false (r.front ++ b); text = take n bytes; end = e ∷ [] }
                        ∷ [])) (sym cut) more),
                  );
                }
            | inr (cut, done, empty, at_end) ↦
                let end : drop n bytes ≡ [] = end_is n bytes [] t.within (cut ∙ sym (append-nil _)) in
                let more = lines_end r.front (take n bytes) lines are.1 t.is.0 in
                record {
                  front = r.front ++ bytes;
                  takes = takes;
                  are =
                      inr (
                        done,
                        rw (
                          done,
                          ends,
                          end,
                        ) (subst (λ b. document_lines false 0 (r.front ++ b)
                            ≡ lines ++ record {
                              number = count_line_ends false (r.front ++ b) + 1;
                              text = take n bytes;
                              end = [];
                            } ∷ []) (sym cut) more),
                        at_end,
                      );
                }
          ]
      | inr are ↦ absurd (cc (are.0, going))
    ]

pub begins_with : (s : LinesState) (input left : Option (List ℕ)) (lines : List DocumentLine)
    → HasReadLines s input left lines → BeginsWithLines input lines
begins_with s None left lines r = tt
begins_with s (Some bytes) None lines r = absurd r.takes.consumed
begins_with s (Some bytes) (Some rest) lines r =
    elim r.are [
      | inl are ↦ (
        document_lines (ends_in_cr false r.front) (count_line_ends false r.front) rest,
        ap (document_lines false 0) r.takes.consumed ∙ are.1 rest,
      )
      | inr are ↦ (
        [],
        ap (document_lines false 0) (r.takes.consumed ∙ ap (λ l. r.front ++ l) are.2
            ∙ append-nil r.front) ∙ are.1 ∙ sym (append-nil lines),
      )
    ]

pub all_read : (s : LinesState) (input left : Option (List ℕ)) (lines : List DocumentLine)
    → HasReadLines s input left lines → s.ended ≡ true → AreDocumentLines input lines
all_read s None left lines r ended = tt
all_read s (Some bytes) None lines r ended = absurd r.takes.consumed
all_read s (Some bytes) (Some rest) lines r ended =
    elim r.are [
      | inl are ↦ absurd (cc (are.0, ended))
      | inr are ↦ ap (document_lines false 0) (r.takes.consumed ∙ ap (λ l. r.front ++ l) are.2 ∙ append-nil r.front)
          ∙ are.1
    ]

pub fault_behind : (fault : LineFault) (s : LinesState) (input mid given : Option (List ℕ)) (lines : List DocumentLine)
    → HasReadLines s input mid lines → s.ended ≡ false → IsNextLineError fault s mid given
    → FaultAfterDocumentLines fault input given lines
fault_behind fault s input mid given lines r going h =
    elim r.are [
      | inl are ↦
          record {
            front = r.front;
            left = mid;
            consumed = r.takes.consumed;
            lines_are = are.1;
            line = h.line ∙ ap (λ n. n + 1) (r.takes.ends ∙ zero-add _);
            column = h.column;
            fault_is = rw (sym (r.takes.taken ∙ zero-add _), sym r.takes.limit) h.fault_is;
          }
      | inr are ↦ absurd (cc (are.0, going))
    ]

-- ---- one more line

last_on : (longest before : ℕ) (xs ys : List DocumentLine)
    → last_faulty_of longest before (xs ++ ys) ≡ last_faulty_of longest (last_faulty_of longest before xs) ys
last_on longest before [] ys = refl
last_on longest before (x ∷ xs) ys = last_on longest (last_faulty before (fault_of_line_within longest x)) xs ys

without_on : (longest before : ℕ) (xs ys : List DocumentLine)
    → lines_without_faults longest before (xs ++ ys) ≡ lines_without_faults longest before xs
    ++ lines_without_faults longest (last_faulty_of longest before xs) ys
without_on longest before [] ys = refl
without_on longest before (x ∷ xs) ys =
    rw (without_on longest (last_faulty before (fault_of_line_within longest x)) xs ys)
    (sym (append_assoc (kept_line (last_faulty before (fault_of_line_within longest x)) x)
    (lines_without_faults longest (last_faulty before (fault_of_line_within longest x)) xs)
    (lines_without_faults longest
    (last_faulty_of longest (last_faulty before (fault_of_line_within longest x)) xs) ys)))

kept_on : (longest : ℕ) (keep : Bool) (lines : List DocumentLine) (line : DocumentLine)
    → kept_lines longest keep (lines ++ line ∷ []) ≡ kept_lines longest keep lines
    ++ kept_if keep (last_faulty (last_faulty_of longest 0 lines) (fault_of_line_within longest line)) line
kept_on longest false lines line = refl
kept_on longest true lines line =
    without_on longest 0 lines (line ∷ []) ∙ ap (λ t. lines_without_faults longest 0 lines ++ t) (append-nil _)

reported_on : (longest : ℕ) (lines : List DocumentLine) (line : DocumentLine)
    → fault_reports longest (lines ++ line ∷ [])
    ≡ fault_reports longest lines ++ report_if_faulty (fault_of_line_within longest line)
reported_on longest lines line =
    flat_map-append (λ line. report_if_faulty (fault_of_line_within longest line)) lines (line ∷ [])
    ∙ ap (λ t. fault_reports longest lines ++ t) (append-nil (report_if_faulty (fault_of_line_within longest line)))

-- A writer takes a part of the pending output.
pub wrote : (a b c : Option (List ℕ)) (text pending new : List ℕ) → GainsAllBut a b text pending
    → GainsAllBut b c pending new → GainsAllBut a c text new
wrote a b c text pending new (gone, is, gained) (part, cut, more) = (
  gone ++ part,
  is ∙ ap (λ t. gone ++ t) cut ∙ sym (append_assoc gone part new),
  Appends-trans a b c gone part gained more,
)

pub wrote_prefix : (a b c : Option (List ℕ)) (text pending : List ℕ) → GainsAllBut a b text pending
    → GainsPrefix b c pending → GainsPrefix a c text
wrote_prefix a b c text pending h more = (more.0, wrote a b c text pending more.0 h more.1)

pub wrote_all : (a b : Option (List ℕ)) (text pending : List ℕ) → GainsAllBut a b text pending → pending ≡ []
    → Appends a b text
wrote_all a b text pending h none = subst (Appends a b) (sym (h.1 ∙ ap (λ t. h.0 ++ t) none ∙ append-nil h.0)) h.2

pub no_bytes : (a : Option (List ℕ)) → GainsBytes 0 a a
no_bytes a = ([], Appends-nil a, refl)

pub more_bytes : (n m : ℕ) (a b c : Option (List ℕ)) (part : List ℕ) → m ≡ min (n + length part) (2 ^ 64 - 1)
    → Appends b c part → GainsBytes n a b → GainsBytes m a c
more_bytes n m a b c part is more (gone, gained, count) =
    (gone ++ part, Appends-trans a b c gone part gained more, omega (arith, is, count, length-append gone part))

-- Nothing is written yet.
pub wrote_none : (a : Option (List ℕ)) (text : List ℕ) → GainsAllBut a a text text
wrote_none a text = ([], refl, Appends-nil a)

pub grown : (a b : Option (List ℕ)) (text pending more new : List ℕ) → GainsAllBut a b text pending
    → new ≡ pending ++ more → GainsAllBut a b (text ++ more) new
grown a b text pending more new (gone, is, gained) e =
    (gone, ap (λ t. t ++ more) is ∙ append_assoc gone pending more ∙ ap (λ t. gone ++ t) (sym e), gained)

-- What the writers have gained for these lines, and what is pending.
pub record Linted (longest : ℕ) (keep : Bool) (lines : List DocumentLine) (a b c d : Option (List ℕ))
    (kept reported : List ℕ)
    (faulty : ℕ) : Type 0 where
  pub kept_is : GainsAllBut a b (kept_lines longest keep lines) kept
  pub reported_is : GainsAllBut c d (fault_reports longest lines) reported
  pub faulty_is : faulty ≡ last_faulty_of longest 0 lines

pub none_linted : (longest : ℕ) (keep : Bool) (a c : Option (List ℕ)) (kept reported : List ℕ) (faulty : ℕ) → kept ≡ []
    → reported ≡ [] → faulty ≡ 0 → Linted longest keep [] a a c c kept reported faulty
none_linted longest false a c kept reported faulty k t f =
    record { kept_is = ([], sym k, Appends-nil a); reported_is = ([], sym t, Appends-nil c); faulty_is = f }
none_linted longest true a c kept reported faulty k t f =
    record { kept_is = ([], sym k, Appends-nil a); reported_is = ([], sym t, Appends-nil c); faulty_is = f }

pub linted_on : (longest : ℕ) (keep : Bool) (lines : List DocumentLine) (line : DocumentLine)
    (a b c d : Option (List ℕ))
    (kept reported new_kept new_reported : List ℕ) (faulty new_faulty : ℕ)
    → Linted longest keep lines a b c d kept reported faulty
    → new_kept ≡ kept ++ kept_if keep (last_faulty faulty (fault_of_line_within longest line)) line
    → new_reported ≡ reported ++ report_if_faulty (fault_of_line_within longest line)
    → new_faulty ≡ last_faulty faulty (fault_of_line_within longest line)
    → Linted longest keep (lines ++ line ∷ []) a b c d new_kept new_reported new_faulty
linted_on longest keep lines line a b c d kept reported new_kept new_reported faulty new_faulty h k t f = record {
  kept_is =
      subst (λ text. GainsAllBut a b text new_kept) (sym (kept_on longest keep lines line))
      (grown a b (kept_lines longest keep lines) kept _ new_kept h.kept_is (k
      ∙ ap (λ n. kept ++ kept_if keep (last_faulty n (fault_of_line_within longest line)) line) h.faulty_is));
  reported_is = subst (λ text. GainsAllBut c d text new_reported) (sym (reported_on longest lines line))
      (grown c d (fault_reports longest lines) reported _ new_reported h.reported_is t);
  faulty_is = f ∙ ap (λ n. last_faulty n (fault_of_line_within longest line)) h.faulty_is
      ∙ sym (last_on longest 0 lines (line ∷ []));
}

pub counted_on : (longest : ℕ) (lines : List DocumentLine) (line : DocumentLine) (n one new : ℕ)
    → n ≡ length (faulty_lines_within longest lines)
    → one ≡ length (faulty_lines_within longest (line ∷ [])) → new ≡ n + one
    → new ≡ length (faulty_lines_within longest (lines ++ line ∷ []))
counted_on longest lines line n one new h o is =
    omega (
      arith,
      h,
      o,
      is,
      ap length (filter_map-append (fault_of_line_within longest) lines (line ∷ [])),
      length-append (faulty_lines_within longest lines) (faulty_lines_within longest (line ∷ [])),
    )

-- Before the first of no lines there is none.
pub none_before : (longest most : ℕ) (before : List DocumentLine) (last : DocumentLine) → [] ≡ before ++ last ∷ []
    → length (faulty_lines_within longest before) < most
none_before longest most [] last h = absurd cc
none_before longest most (x ∷ before) last h = absurd cc

-- Fewer than `most` lines before this one are faulty.
pub fewer_before : (longest : ℕ) (lines : List DocumentLine) (line : DocumentLine) (count most : ℕ)
    → count ≡ length (faulty_lines_within longest lines) → count < most
    → (before : List DocumentLine) (last : DocumentLine)
    → lines ++ line ∷ [] ≡ before ++ last ∷ [] → length (faulty_lines_within longest before) < most
fewer_before longest lines line count most is fewer before last h =
    let equal : length before ≡ length lines =
    omega (arith, ap length h, length-append lines (line ∷ []), length-append before (last ∷ [])) in
    let same : before ≡ lines = sym (take-append_seam before (last ∷ [])) ∙ ap (take (length before)) (sym h)
    ∙ ap (λ n. take n (lines ++ line ∷ [])) equal ∙ take-append_seam lines (line ∷ []) in
    omega (arith, is, fewer, ap (λ xs. length (faulty_lines_within longest xs)) same)

-- ---- errors

-- An error of writing, or lack of memory.
pub cut_short : (longest : ℕ) (keep : Bool) (s : LinesState) (input mid given a b c d : Option (List ℕ))
    (lines : List DocumentLine)
    (fault : LintFault) → HasReadLines s input mid lines → (fault ≡ OutOfMemory) ⊎ ((n : ℕ) × (fault ≡ Write n))
    → GainsPrefix a b (kept_lines longest keep lines) → GainsPrefix c d (fault_reports longest lines)
    → LintsUntilFault longest keep input given a b c d fault
cut_short longest keep s input mid given a b c d lines fault r (inl is) kept reported =
    subst (LintsUntilFault longest keep input given a b c d) (sym is)
    (record { lines = lines; are = begins_with s input mid lines r; behind = tt; kept = kept; reported = reported })
cut_short longest keep s input mid given a b c d lines fault r (inr (n, is)) kept reported =
    subst (LintsUntilFault longest keep input given a b c d) (sym is)
    (record { lines = lines; are = begins_with s input mid lines r; behind = tt; kept = kept; reported = reported })

pub writer_failed : (fault : LintFault) (k l m r s t v w : ℕ) (a b c d e f : Option (List ℕ)) → l ≡ k → s ≡ r
    → GainsBytes v a b → GainsBytes w d e
    → (n : ℕ) × (fault ≡ Write n)
    × (((m ≡ l + 1) × (t ≡ s) × ((before : Option (List ℕ)) → GainsBytes v before b → GainsBytes n before c))
    ⊎ ((m ≡ l) × (t ≡ s + 1) × ((before : Option (List ℕ)) → GainsBytes w before e → GainsBytes n before f)))
    → (n : ℕ) → fault ≡ Write n
    → ((m ≡ k + 1) × (t ≡ r) × GainsBytes n a c) ⊎ ((m ≡ k) × (t ≡ r + 1) × GainsBytes n d f)
writer_failed fault k l m r s t v w a b c d e f kept reported kept_count reported_count (o, is, inl one) n same =
    let equal : o ≡ n = cc in
    inl (one.0 ∙ ap (λ x. x + 1) kept, one.1 ∙ reported, subst (λ x. GainsBytes x a c) equal (one.2 a kept_count))
writer_failed fault k l m r s t v w a b c d e f kept reported kept_count reported_count (o, is, inr one) n same =
    let equal : o ≡ n = cc in
    inr (one.0 ∙ kept, one.1 ∙ ap (λ x. x + 1) reported, subst (λ x. GainsBytes x d f) equal (one.2 d reported_count))

-- Before the first line.
pub nothing_linted : (longest : ℕ) (keep : Bool) (input given a c : Option (List ℕ))
    → LintsUntilFault longest keep input given a a c c OutOfMemory
nothing_linted longest keep input given a c =
    let none = none_linted longest keep a c [] [] 0 refl refl refl in
    record {
      lines = [];
      are =
          begins_with (start 9223372036854775807) input _ [] (none_read (start 9223372036854775807) input refl);
      behind =
          tt;
      kept = ([], none.kept_is);
      reported = ([], none.reported_is);
    }

pub below_most : (count most : ℕ) (faulty : Bool) → count < most → count + from_bool faulty ≤ most
below_most count most false lt = omega (arith, lt)
below_most count most true lt = omega (arith, lt)

-- All lines were checked, or as many faulty ones as were asked for.
pub stops_at : (count most : ℕ) (s : LinesState) (input left : Option (List ℕ)) (lines : List DocumentLine)
    → HasReadLines s input left lines → count ≤ most → (most ≤ count) ⊎ (s.ended ≡ true)
    → AreDocumentLines input lines ⊎ ((count ≡ most) × BeginsWithLines input lines)
stops_at count most s input left lines r within (inl reached) =
    inr (omega (arith, reached, within), begins_with s input left lines r)
stops_at count most s input left lines r within (inr ended) = inl (all_read s input left lines r ended)

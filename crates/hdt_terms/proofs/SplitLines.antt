-- Splitting a document: the pending lines of each part, and what each writer has gained.
use Rattle.std.proofs.Common.{◌≡◌, ◌≢◌, ◌⊎◌, ◌+◌, ◌<◌, ◌≤◌, ◌||◌, ℕ, false, List, [], ◌∷◌, ◌++◌, length, map, take}
use Rattle.std.proofs.Common.{drop, get_or, slice_set, replicate, Option, None, Some, Result, Ok, Err, option_map, refl}
use Rattle.std.proofs.Common.{sym, ap, subst, ◌∙◌, inl, inr, arith, append_assoc, append-nil}
use Rattle.std.proofs.lemmas.List.{map-set, get_or-map, get_or-set_same, get_or-set_other, get_or-replicate}
use Rattle.std.proofs.lemmas.List.{length-append, length-map, length-replicate, length-set, take_all}
use Rattle.std.proofs.Math.Seq.{drop-length}
use Rattle.std.proofs.lemmas.List.Elements.{filter_map-append}
use Rattle.std.specs.List.{filter_map}
use Rattle.std.proofs.lemmas.Bool.{cases_Bool, cases_lt, eq-eqb}
use Rattle.std.specs.Prelude.{IsUtf8}
use Rattle.std.specs.Int.{from_bool}
use Rattle.std.proofs.Math.Bool.{or-false, or_assoc}
use Rattle.std.proofs.lemmas.Bool.Decides.{eqb_tells}
use Rattle.std.proofs.KnownBytes.{Appends-nil}
use Rattle.std.specs.Str.Lossy.{utf8_valid_len}
use Rattle.hdt_terms.specs.declared.fault.LineFault.{LineFault}
use Rattle.hdt_terms.specs.declared.fault.TermFault.{TermFault}
use Rattle.hdt_terms.specs.declared.fault.LineReason.TheVariants.{Read}
use Rattle.hdt_terms.specs.declared.split.SplitFault.{SplitFault}
use Rattle.hdt_terms.specs.declared.split.SplitFault.TheVariants.{Line, Write, OutOfMemory}
use Rattle.hdt_terms.specs.declared.split.SplitReport.{SplitReport}
use Rattle.hdt_terms.specs.declared.triple.Triple.{Triple}
use Rattle.hdt_terms.specs.Faults.{unless_not_utf8}
use Rattle.hdt_terms.specs.LineParsing.{as_line, is_blank_or_comment, line_in, line_triple, line_triple_at}
use Rattle.hdt_terms.specs.LineParsing.{unless_blank, with_column}
use Rattle.hdt_terms.specs.LinesReader.{IsTripleLineError, LinesState, start}
use Rattle.hdt_terms.specs.LinesTexts.{TakesWholeLine}
use Rattle.hdt_terms.specs.Documents.{DocumentLine}
use Rattle.hdt_terms.specs.Lint.{GainsAllBut, GainsPrefix, at_line, fault_of, fault_of_line, faulty_lines}
use Rattle.hdt_terms.specs.Split.{EachGains, EachGainsAllBut, EachGainsPrefix, IsSplitReadFault, IsReportOf}
use Rattle.hdt_terms.specs.Split.{SplitsUntilFault, TripleLine, has_blank_node, have_blank_nodes, last_number}
use Rattle.hdt_terms.specs.Split.{triple_line_after, last_triple_line, line_if_in_part, no_triple_line}
use Rattle.hdt_terms.specs.Split.{number_if_nonempty, part_lines, further_part_lines, triple_of_line}
use Rattle.hdt_terms.specs.Split.{triples_of_document, prefixed_line}
use Rattle.hdt_terms.proofs.LawsLemmas.{all_valid}
use Rattle.hdt_terms.proofs.LineSoundness.{fault_of_triple}
use Rattle.hdt_terms.proofs.DocumentLines.{HasReadLines, begins_with, grown, none_read, wrote, wrote_all, wrote_none}
use Rattle.hdt_terms.proofs.DocumentLines.{wrote_prefix}

-- ---- one element of a list is replaced

pub set_other : {X Y : Type 0} (f : X → Y) (xs : List X) (i j : ℕ) (x : X) (d : Y) → j ≢ i
    → get_or (map f (slice_set xs i x)) j d ≡ get_or (map f xs) j d
set_other f xs i j x d other = ap (λ l. get_or l j d) (map-set f xs i x) ∙ get_or-set_other (map f xs) i j (f x) d other

pub set_same : {X Y : Type 0} (f : X → Y) (xs : List X) (i : ℕ) (x : X) (d : Y) → i < length xs
    → get_or (map f (slice_set xs i x)) i d ≡ f x
set_same f xs i x d lt = ap (λ l. get_or l i d) (map-set f xs i x)
    ∙ get_or-set_same (map f xs) i (f x) d (omega (arith, lt, length-map xs f))

pub set_length : {X Y : Type 0} (f : X → Y) (xs : List X) (i : ℕ) (x : X)
    → length (map f (slice_set xs i x)) ≡ length (map f xs)
set_length f xs i x = length-map (slice_set xs i x) f ∙ length-set xs i x ∙ sym (length-map xs f)

-- ---- one writer takes pending lines

pub one_written : {X W : Type 0} (items : X → List ℕ) (contents : W
    → Option (List ℕ)) (pending : List X) (outs : List W) (at : ℕ) (text new_text : X) (out new_out : W)
    → at < length outs → length pending ≡ length outs
    → GainsAllBut (contents (get_or outs at out)) (contents new_out) (items (get_or pending at text))
    (items new_text)
    → EachGainsAllBut (map contents outs) (map contents (slice_set outs at new_out))
    (λ part. get_or (map items pending) part []) (map items (slice_set pending at new_text))
one_written items contents pending outs at text new_text out new_out lt len gains =
    let here : at < length pending = omega (arith, lt, len) in (
      set_length contents outs at new_out,
      set_length items pending at new_text ∙ length-map pending items ∙ len ∙ sym (length-map outs contents),
      λ part within.
          elim (eqb_tells part at) [
            | inl e ↦
                rw e.1 (rw (
                  get_or-map contents outs at out None lt,
                  set_same contents outs at new_out None lt,
                  get_or-map items pending at text [] here,
                  set_same items pending at new_text [] here,
                ) gains)
            | inr e ↦
                rw (
                  set_other contents outs at part new_out None e.1,
                  set_other items pending at part new_text [] e.1,
                )
                (wrote_none (get_or (map contents outs) part None) (get_or (map items pending) part []))
          ],
    )

pub one_failed : {X W : Type 0} (items : X → List ℕ) (contents : W
    → Option (List ℕ)) (pending : List X) (outs : List W) (at : ℕ) (text : X) (out new_out : W)
    → at < length outs → length pending ≡ length outs
    → GainsPrefix (contents (get_or outs at out)) (contents new_out) (items (get_or pending at text))
    → EachGainsPrefix (map contents outs) (map contents (slice_set outs at new_out))
    (λ part. get_or (map items pending) part [])
one_failed items contents pending outs at text out new_out lt len gains =
    let here : at < length pending = omega (arith, lt, len) in (
      set_length contents outs at new_out,
      λ part within.
          elim (eqb_tells part at) [
            | inl e ↦ rw e.1 (rw (
              get_or-map contents outs at out None lt,
              set_same contents outs at new_out None lt,
              get_or-map items pending at text [] here,
            ) gains)
            | inr e ↦
                let text = get_or (map items pending) part [] in
                rw (set_other contents outs at part new_out None e.1) (
                  text,
                  wrote_none (get_or (map contents outs) part None) text,
                )
          ],
    )

-- ---- all writers

pub each_wrote : (a b c : List (Option (List ℕ))) (text : ℕ → List ℕ) (pending new : List (List ℕ))
    → EachGainsAllBut a b text pending → EachGainsAllBut b c (λ part. get_or pending part []) new
    → EachGainsAllBut a c text new
each_wrote a b c text pending new h more = (
  more.0 ∙ h.0,
  more.1 ∙ h.0,
  λ part lt.
      wrote (get_or a part None) (get_or b part None) (get_or c part None) (text part) (get_or pending part [])
      (get_or new part []) (h.2 part lt) (more.2 part (omega (arith, lt, h.0))),
)

pub each_wrote_prefix : (a b c : List (Option (List ℕ))) (text : ℕ → List ℕ) (pending : List (List ℕ))
    → EachGainsAllBut a b text pending → EachGainsPrefix b c (λ part. get_or pending part []) → EachGainsPrefix a c text
each_wrote_prefix a b c text pending h more = (
  more.0 ∙ h.0,
  λ part lt.
      wrote_prefix (get_or a part None) (get_or b part None) (get_or c part None) (text part) (get_or pending part [])
      (h.2 part lt) (more.1 part (omega (arith, lt, h.0))),
)

pub each_wrote_all : (a b c : List (Option (List ℕ))) (text : ℕ → List ℕ) (pending : List (List ℕ))
    → EachGainsAllBut a b text pending → EachGains b c (λ part. get_or pending part []) → EachGains a c text
each_wrote_all a b c text pending h more = (
  more.0 ∙ h.0,
  λ part lt.
      let gone = wrote (get_or a part None) (get_or b part None) (get_or c part None) (text part)
      (get_or pending part []) [] (h.2 part lt) (
        get_or pending part [],
        sym (append-nil _),
        more.1 part (omega (arith, lt, h.0)),
      ) in
      wrote_all (get_or a part None) (get_or c part None) (text part) [] gone refl,
)

-- A prefix was written; the rest is pending.
pub each_pending : (a b : List (Option (List ℕ))) (text : ℕ → List ℕ) (pending : List (List ℕ))
    → EachGainsAllBut a b text pending → EachGainsPrefix a b text
each_pending a b text pending h = (h.0, λ part lt. (get_or pending part [], h.2 part lt))

-- Nothing is pending.
pub each_done : (a b : List (Option (List ℕ))) (text : ℕ → List ℕ) (pending : List (List ℕ))
    → EachGainsAllBut a b text pending → ((part : ℕ) → part < length a → get_or pending part [] ≡ [])
    → EachGains a b text
each_done a b text pending h none = (
  h.0,
  λ part lt. wrote_all (get_or a part None) (get_or b part None) (text part) (get_or pending part [])
      (h.2 part lt) (none part lt),
)

-- ---- one more line

part_from_on : (prefix : List ℕ) (parts : ℕ) (before : TripleLine) (part : ℕ) (xs ys : List DocumentLine)
    → further_part_lines prefix parts before part (xs ++ ys) ≡ further_part_lines prefix parts before part xs
    ++ further_part_lines prefix parts (last_triple_line prefix parts before xs) part ys
part_from_on prefix parts before part [] ys = refl
part_from_on prefix parts before part (x ∷ xs) ys =
    rw (part_from_on prefix parts (triple_line_after prefix parts before x) part xs ys)
    (sym (append_assoc (line_if_in_part prefix part (triple_line_after prefix parts before x) x)
    (further_part_lines prefix parts (triple_line_after prefix parts before x) part xs)
    (further_part_lines prefix parts (last_triple_line prefix parts (triple_line_after prefix parts before x) xs)
    part ys)))

part_on : (prefix : List ℕ) (parts : ℕ) (lines : List DocumentLine) (line : DocumentLine) (part : ℕ)
    → part_lines prefix parts (lines ++ line ∷ []) part ≡ part_lines prefix parts lines part
    ++ line_if_in_part prefix part
    (triple_line_after prefix parts (last_triple_line prefix parts no_triple_line lines) line) line
part_on prefix parts lines line part = part_from_on prefix parts no_triple_line part lines (line ∷ [])
    ∙ ap (λ t. part_lines prefix parts lines part ++ t) (append-nil _)

place_on : (prefix : List ℕ) (parts : ℕ) (before : TripleLine) (xs : List DocumentLine) (line : DocumentLine)
    → last_triple_line prefix parts before (xs ++ line ∷ [])
    ≡ triple_line_after prefix parts (last_triple_line prefix parts before xs) line
place_on prefix parts before [] line = refl
place_on prefix parts before (x ∷ xs) line = place_on prefix parts (triple_line_after prefix parts before x) xs line

number_on : (before : ℕ) (xs : List DocumentLine) (line : DocumentLine)
    → last_number before (xs ++ line ∷ [])
    ≡ number_if_nonempty (last_number before xs) line.number (line.text ++ line.end)
number_on before [] line = refl
number_on before (x ∷ xs) line = number_on (number_if_nonempty before x.number (x.text ++ x.end)) xs line

blank_on : (xs : List DocumentLine) (line : DocumentLine)
    → have_blank_nodes (xs ++ line ∷ []) ≡ have_blank_nodes xs || has_blank_node (triple_of_line line)
blank_on [] line = or-false (has_blank_node (triple_of_line line))
blank_on (x ∷ xs) line = ap (λ b. has_blank_node (triple_of_line x) || b) (blank_on xs line)
    ∙ sym (or_assoc (has_blank_node (triple_of_line x)) (have_blank_nodes xs) (has_blank_node (triple_of_line line)))

one_at_most : {X Y : Type 0} (h : X → Option Y) (x : X) (y : Option Y) → h x ≡ y → length (filter_map h (x ∷ [])) ≤ 1
one_at_most h x None e = rw e (omega arith)
one_at_most h x (Some y) e = rw e (omega arith)

pub at_most_one : (line : DocumentLine) → length (triples_of_document (line ∷ [])) ≤ 1
at_most_one line = one_at_most triple_of_line line (triple_of_line line) refl

report_on : (lines : List DocumentLine) (line : DocumentLine) (old new : SplitReport) (bytes : List ℕ)
    → IsReportOf lines old → bytes ≡ line.text ++ line.end → new.lines ≡ number_if_nonempty old.lines line.number bytes
    → new.triples ≡ old.triples + length (triples_of_document (line ∷ []))
    → new.has_blank_nodes ≡ old.has_blank_nodes || has_blank_node (triple_of_line line)
    → IsReportOf (lines ++ line ∷ []) new
report_on lines line old new bytes h bytes_are l t b = record {
  lines_are = l ∙ ap (λ n. number_if_nonempty n line.number bytes) h.lines_are
      ∙ ap (number_if_nonempty (last_number 0 lines) line.number) bytes_are ∙ sym (number_on 0 lines line);
  triples_are = omega (
    arith,
    h.triples_are,
    t,
    ap length (filter_map-append triple_of_line lines (line ∷ [])),
    length-append (triples_of_document lines) (triples_of_document (line ∷ [])),
  );
  blank_is = b ∙ ap (λ x. x || has_blank_node (triple_of_line line)) h.blank_is ∙ sym (blank_on lines line);
}

right_on : (lines : List DocumentLine) (line : DocumentLine) → faulty_lines lines ≡ [] → fault_of_line line ≡ None
    → faulty_lines (lines ++ line ∷ []) ≡ []
right_on lines line right none = filter_map-append fault_of_line lines (line ∷ []) ∙ rw (right, none) refl

-- ---- the lines that were collected

-- The lines of each part so far: what the writers have gained, and what is pending.
pub record Collected (prefix : List ℕ) (parts : ℕ) (lines : List DocumentLine) (before after : List (Option (List ℕ)))
    (pending : List (List ℕ)) (triple_line : TripleLine) (report : SplitReport) : Type 0 where
  pub right : faulty_lines lines ≡ []
  pub gains : EachGainsAllBut before after (part_lines prefix parts lines) pending
  pub triple_line_is : triple_line ≡ last_triple_line prefix parts no_triple_line lines
  pub report_is : IsReportOf lines report

pub none_collected : (prefix : List ℕ) (parts : ℕ) (before : List (Option (List ℕ))) (pending : List (List ℕ))
    (triple_line : TripleLine) (report : SplitReport) → length pending ≡ length before
    → ((part : ℕ) → part < length before → get_or pending part [] ≡ [])
    → triple_line ≡ no_triple_line → report ≡ record { lines = 0; triples = 0; has_blank_nodes = false }
    → Collected prefix parts [] before before pending triple_line report
none_collected prefix parts before pending triple_line report len none triple_line_is report_is = record {
  right = refl;
  gains = (refl, len, λ part lt. ([], sym (none part lt), Appends-nil (get_or before part None)));
  triple_line_is = triple_line_is;
  report_is = rw report_is (record { lines_are = refl; triples_are = refl; blank_is = refl });
}

-- The pending text of each part after one more line.
text_on : (prefix : List ℕ) (triple_line : TripleLine) (line : DocumentLine) (pending new : List (List ℕ))
    → ((part : ℕ) → part ≢ triple_line.part → get_or new part [] ≡ get_or pending part [])
    → get_or new triple_line.part [] ≡ get_or pending triple_line.part []
    ++ line_if_in_part prefix triple_line.part triple_line line → (part : ℕ)
    → get_or new part [] ≡ get_or pending part [] ++ line_if_in_part prefix part triple_line line
text_on prefix triple_line line pending new others same part = elim (eqb_tells triple_line.part part) [
  | inl e ↦ subst (λ (k : ℕ). get_or new k [] ≡ get_or pending k []
      ++ line_if_in_part prefix k triple_line line) e.1 same
  | inr e ↦ others part (λ is. e.1 (sym is)) ∙ rw e.0 (sym (append-nil (get_or pending part [])))
]

pub collected_on : (prefix : List ℕ) (parts : ℕ) (lines : List DocumentLine) (line : DocumentLine)
    (before after : List (Option (List ℕ))) (pending new : List (List ℕ)) (triple_line new_triple_line : TripleLine)
    (report new_report : SplitReport) (bytes : List ℕ)
    → Collected prefix parts lines before after pending triple_line report → fault_of_line line ≡ None
    → new_triple_line ≡ triple_line_after prefix parts triple_line line → length new ≡ length pending
    → ((part : ℕ) → part ≢ new_triple_line.part → get_or new part [] ≡ get_or pending part [])
    → get_or new new_triple_line.part [] ≡ get_or pending new_triple_line.part []
    ++ line_if_in_part prefix new_triple_line.part new_triple_line line
    → bytes ≡ line.text ++ line.end → new_report.lines ≡ number_if_nonempty report.lines line.number bytes
    → new_report.triples ≡ report.triples + length (triples_of_document (line ∷ []))
    → new_report.has_blank_nodes ≡ report.has_blank_nodes || has_blank_node (triple_of_line line)
    → Collected prefix parts (lines ++ line ∷ []) before after new new_triple_line new_report
collected_on prefix parts lines line before after pending new triple_line new_triple_line report new_report bytes h
    right triple_line_is len others same bytes_are l t b =
    let last : new_triple_line
    ≡ triple_line_after prefix parts (last_triple_line prefix parts no_triple_line lines) line =
    triple_line_is ∙ ap (λ (p : TripleLine). triple_line_after prefix parts p line) h.triple_line_is in
    record {
      right = right_on lines line h.right right;
      gains = (
        h.gains.0,
        len ∙ h.gains.1,
        λ part lt.
            subst (λ text. GainsAllBut (get_or before part None) (get_or after part None) text (get_or new part []))
            (ap (λ (p : TripleLine). part_lines prefix parts lines part ++ line_if_in_part prefix part p line) last
            ∙ sym (part_on prefix parts lines line part))
            (grown (get_or before part None) (get_or after part None) (part_lines prefix parts lines part)
            (get_or pending part []) (line_if_in_part prefix part new_triple_line line) (get_or new part [])
            (h.gains.2 part lt) (text_on prefix new_triple_line line pending new others same part)),
      );
      triple_line_is = last ∙ sym (place_on prefix parts no_triple_line lines line);
      report_is = report_on lines line report new_report bytes h.report_is bytes_are l t b;
    }

-- The line with the triple itself goes to its part.
pub own_line : (prefix : List ℕ) (part placed number : ℕ) (line : DocumentLine) → line.number ≡ number → placed ≡ number
    → line_if_in_part prefix part (record { number = placed; part = part }) line ≡ prefixed_line prefix line
own_line prefix part placed number line is e = rw (is, eq-eqb part part refl, eq-eqb placed number e) refl

-- ---- the reasons of faulty lines

abbrev NeverRead : Result (Option Triple) TermFault → Type 0
NeverRead (Ok x) = Unit {0}
NeverRead (Err f) = f.reason ≡ Read → ⊥

triple_then : (text : List ℕ) (r : Result Triple TermFault) → IsUtf8 text → line_triple text ≡ r → NeverRead (as_line r)
triple_then text (Ok triple) utf8 e = tt
triple_then text (Err f) utf8 e =
    λ is. subst (λ r. IsTripleLineError r f.column text) is (fault_of_triple text f utf8 (inr e))

never_read : (text : List ℕ) → NeverRead (line_in text)
unfolding unless_blank unless_not_utf8 line_triple
never_read text = elim (eqb_tells (utf8_valid_len text) (length text)) [
  | inl p ↦
      elim (cases_Bool (is_blank_or_comment text)) [
        | inl q ↦ rw (p.0, q) tt
        | inr q ↦ rw (p.0, q) (triple_then text (with_column text (line_triple_at text)) (all_valid text p.1) refl)
      ]
  | inr p ↦ rw p.0 (λ e. absurd cc)
]

fault_reason : (line : DocumentLine) (fault : LineFault) (r : Result (Option Triple) TermFault) → line_in line.text ≡ r
    → option_map (at_line line.number) (fault_of r) ≡ Some fault → fault.reason ≡ Read → ⊥
fault_reason line fault (Ok x) e is read = absurd cc
fault_reason line fault (Err f) e is read =
    let same : f.reason ≡ Read = cc in
    subst NeverRead e (never_read line.text) same

-- The error of a faulty line is not that the reader failed.
pub fault_never_read : (line : DocumentLine) (fault : LineFault) → fault_of_line line ≡ Some fault → fault.reason ≡ Read
    → ⊥
fault_never_read line fault is read = fault_reason line fault (line_in line.text) refl is read

-- ---- ends of a run

-- Why a line stops a run: it is faulty, or memory ran out.
abbrev pub StopsAt : SplitFault → DocumentLine → Type 0
StopsAt fault line = (fault ≡ OutOfMemory) ⊎ ((f : LineFault) × (fault ≡ Line f) × (fault_of_line line ≡ Some f))

pub not_read : (fault : SplitFault) (line : DocumentLine) → StopsAt fault line → IsSplitReadFault fault → ⊥
not_read fault line (inl is) h = subst IsSplitReadFault is h
not_read fault line (inr (f, is, wrong)) h = fault_never_read line f wrong (subst IsSplitReadFault is h)

-- Before the first line.
pub nothing_split : (prefix : List ℕ) (input given : Option (List ℕ)) (before : List (Option (List ℕ)))
    → SplitsUntilFault prefix input given before before OutOfMemory
nothing_split prefix input given before = record {
  lines = [];
  are = begins_with (start 9223372036854775807) input _ [] (none_read (start 9223372036854775807) input refl);
  right = refl;
  behind = tt;
  parts = (refl, λ part lt. ([], ([], refl, Appends-nil (get_or before part None))));
}

-- The next line stops the run.
pub stopped_at_line : (prefix : List ℕ) (s new : LinesState) (input mid after given : Option (List ℕ))
    (before outs : List (Option (List ℕ))) (pending : List (List ℕ)) (triple_line : TripleLine) (report : SplitReport)
    (lines : List DocumentLine) (line : DocumentLine) (fault : SplitFault)
    → HasReadLines s input mid lines → HasReadLines new input after (lines ++ line ∷ [])
    → Collected prefix (length before) lines before outs pending triple_line report → StopsAt fault line
    → SplitsUntilFault prefix input given before outs fault
stopped_at_line prefix s new input mid after given before outs pending triple_line report lines line fault r more h
    (inl is) =
    subst (SplitsUntilFault prefix input given before outs) (sym is)
    (record {
      lines = lines;
      are = begins_with s input mid lines r;
      right = h.right;
      behind = tt;
      parts =
          each_pending before outs (part_lines prefix (length before) lines) pending h.gains;
    })
stopped_at_line prefix s new input mid after given before outs pending triple_line report lines line fault r more h
    (inr (f, is, wrong)) =
    subst (SplitsUntilFault prefix input given before outs) (sym is)
    (record {
      lines = lines;
      are = begins_with s input mid lines r;
      right = h.right;
      behind = inl (line, begins_with new input after (lines ++ line ∷ []) more, wrong);
      parts = each_pending before outs (part_lines prefix (length before) lines) pending h.gains;
    })

-- A writer failed.
pub stopped_at_write : (prefix : List ℕ) (s : LinesState) (input mid given : Option (List ℕ))
    (before outs after : List (Option (List ℕ))) (pending : List (List ℕ)) (triple_line : TripleLine)
    (report : SplitReport) (lines : List DocumentLine) (fault : SplitFault) (part : ℕ)
    → HasReadLines s input mid lines → Collected prefix (length before) lines before outs pending triple_line report
    → fault ≡ Write part → part < length before → EachGainsPrefix outs after (λ part. get_or pending part [])
    → SplitsUntilFault prefix input given before after fault
stopped_at_write prefix s input mid given before outs after pending triple_line report lines fault part r h is lt
    gains =
    subst (SplitsUntilFault prefix input given before after) (sym is)
    (record {
      lines = lines;
      are = begins_with s input mid lines r;
      right = h.right;
      behind = lt;
      parts =
          each_wrote_prefix before outs after (part_lines prefix (length before) lines) pending h.gains gains;
    })

-- ---- counts

pub count_on : (n : ℕ) (s new : LinesState) (before after : Option (List ℕ)) (bytes : List ℕ) (count more new_count : ℕ)
    → TakesWholeLine n s new before after bytes → s.ended ≡ false → count ≤ s.taken + from_bool s.ended → more ≤ 1
    → new_count ≡ count + more
    → new_count ≤ new.taken + from_bool new.ended
count_on n s new before after bytes count more new_count t going within one is =
    let taken = t.takes.taken in
    let old : count ≤ s.taken = omega (arith, rw going at within) in
    elim t.is.1 [
      | inl (e, end, cut, on) ↦
          let len : length bytes ≡ length (take n bytes) + 1 = ap length cut ∙ length-append (take n bytes) (e ∷ []) in
          rw on (omega (arith, old, one, is, taken, len))
      | inr (cut, done, empty, at_end) ↦ rw done (omega (arith, old, one, is, taken))
    ]

pub taken_within : (s : LinesState) (input left : Option (List ℕ)) (lines : List DocumentLine)
    → HasReadLines s input left lines → s.taken < 9223372036854775808
taken_within s input left lines r = omega (arith, r.takes.within, r.takes.limit)

-- Texts that are empty, one for each part.
pub empty_texts : {X : Type 0} (items : X → List ℕ) (texts : List X) (parts : ℕ) → map items texts ≡ replicate parts []
    → (length texts ≡ parts) × ((part : ℕ) → part < parts → get_or (map items texts) part [] ≡ [])
empty_texts items texts parts e = (
  sym (length-map texts items) ∙ ap length e ∙ length-replicate parts [],
  λ part lt. ap (λ l. get_or l part []) e
      ∙ get_or-replicate parts part [] [] lt,
)

-- One more part has nothing pending.
pub empty_on : (old new : List (List ℕ)) (at : ℕ) → ((part : ℕ) → part < at → get_or old part [] ≡ [])
    → ((part : ℕ) → part ≢ at → get_or new part [] ≡ get_or old part []) → get_or new at [] ≡ [] → (part : ℕ)
    → part < at + 1 → get_or new part [] ≡ []
empty_on old new at before others here part lt = elim (eqb_tells part at) [
  | inl e ↦ subst (λ (k : ℕ). get_or new k [] ≡ []) (sym e.1) here
  | inr e ↦ others part e.1 ∙ before part (elim (cases_lt part at) [
    | inl below ↦ below
    | inr above ↦ absurd (e.1 (omega (arith, above, lt)))
  ])
]

-- A vector after a slice of all its elements was written.
pub written_back : {X : Type 0} (len : ℕ) (new old : List X) → length new ≡ length old → length old ≡ len
    → take len (new ++ drop (length new) old) ≡ new
written_back len new old same is =
    ap (λ (k : ℕ). take len (new ++ drop k old)) same ∙ ap (λ l. take len (new ++ l)) (drop-length old)
    ∙ ap (take len) (append-nil new) ∙ take_all len new (omega (arith, same, is))

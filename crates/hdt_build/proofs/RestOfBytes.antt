-- Bytes that begin with one part after another.
use Rattle.std.proofs.Common.{◌≡◌, ◌∙◌, ◌↔◌, ℕ, suc, ◌+◌, ◌<◌, ◌≤◌, Bool, false, List, [], ◌∷◌, ◌++◌, length}
use Rattle.std.proofs.Common.{drop, take, get_or}
use Rattle.std.proofs.Common.{Option, Some, None, refl, ap, sym, subst, append_assoc, arith}
use Rattle.std.specs.Prelude.{IsTrue}
use Rattle.std.specs.Str.{bytes_eq}
use Rattle.std.proofs.Math.Seq.{drop-cons, take-suc}
use Rattle.std.proofs.lemmas.List.{append_cancel_left, drop-drop, get_or-take, length-take-le}
use Rattle.std.proofs.lemmas.Slice.Eq.{bytes_eq-Decides}
use Rattle.hdt_wire.specs.Control.{HasNoZero}
use Rattle.hdt_wire.specs.declared.Role.{Role}
use Rattle.hdt_front.specs.Canonical.{canonical}
use Rattle.hdt_front.specs.Section.{AreSectionStrings}
use Rattle.hdt_front.specs.WriterState.{SectionWriterState}
use Rattle.hdt_dict.specs.Dictionary.{SectionLists, role_strings}
use Rattle.hdt_dict.specs.declared.dictionary.SectionId.{SectionId}
use Rattle.hdt_dict.specs.Iteration.{RoleIterState, step_role_iter, step_role_iter_by}
use Rattle.hdt_dict.specs.Strings.{BorrowedString}
use Rattle.hdt_dict.specs.Writing.{canonical_dictionary}
use Rattle.hdt_triples.specs.TripleSequences.{Triple}
use Rattle.hdt_triples.specs.Writing.{canonical_triples}
use Rattle.hdt_build.specs.Canonical.{canonical_file, canonical_head}
use Rattle.hdt_build.specs.Inside.Comparing.{IsRestAfter, dictionary_control}
use Rattle.hdt_build.specs.Inside.Rewriting.{section_role}

-- ---- one part after another

pub then_rest : (a b x : List ℕ) (m : BorrowedString) (r : Option BorrowedString) → x ≡ a ++ m.now
    → IsRestAfter b m.now r → IsRestAfter (a ++ b) x r
then_rest a b x m (Some rest) is h = is ∙ ap (λ (l : List ℕ). a ++ l) h ∙ sym (append_assoc a b rest.now)
then_rest a b x m None is h =
    λ rest other. h rest (append_cancel_left a m.now (b ++ rest) (sym is ∙ other ∙ append_assoc a b rest))

pub no_rest : (a b x : List ℕ) → IsRestAfter a x None → IsRestAfter (a ++ b) x None
no_rest a b x h = λ rest other. h (b ++ rest) (other ∙ append_assoc a b rest)

-- ---- the last part

pub then_same : (a b x : List ℕ) (m : BorrowedString) (same : Bool) → x ≡ a ++ m.now → (IsTrue same ↔ (m.now ≡ b))
    → IsTrue same ↔ (x ≡ a ++ b)
then_same a b x m same is h = (
  λ t. is ∙ ap (λ (l : List ℕ). a ++ l) (h.0 t),
  λ other. h.1 (append_cancel_left a m.now b (sym is ∙ other)),
)

pub not_same : (a b x : List ℕ) → IsRestAfter a x None → IsTrue false ↔ (x ≡ a ++ b)
not_same a b x h = (λ t. absurd cc, λ other. absurd (h b other))

pub same_bytes : (a b : List ℕ) (same : Bool) → same ≡ bytes_eq a b → IsTrue same ↔ (a ≡ b)
same_bytes a b same is = let d = bytes_eq-Decides a b in (λ t. d.0 (sym is ∙ t), λ e. is ∙ d.1 e)

pub rest_of_same : (part made x : List ℕ) (r : Option BorrowedString) → made ≡ part → IsRestAfter made x r
    → IsRestAfter part x r
rest_of_same part made x r is h = subst (λ (l : List ℕ). IsRestAfter l x r) is h

-- ---- the strings of a role, one after another

ahead_by : (w : RoleIterState) (xs : List (List ℕ)) → w.ahead ≡ xs → (step_role_iter_by w xs).ahead ≡ drop 1 xs
ahead_by w [] is = is
ahead_by w (x ∷ xs) is = refl

last_by : (w : RoleIterState) (xs : List (List ℕ)) (x : List ℕ) (ys : List (List ℕ)) → xs ≡ x ∷ ys
    → (step_role_iter_by w xs).last ≡ x
last_by w xs x ys is = ap (λ (zs : List (List ℕ)). (step_role_iter_by w zs).last) is

pub next_ahead : (all : List (List ℕ)) (w next : RoleIterState) (n : ℕ) → next ≡ step_role_iter w
    → w.ahead ≡ drop n all → next.ahead ≡ drop (n + 1) all
next_ahead all w next n is here =
    ap (λ (v : RoleIterState). v.ahead) is ∙ ahead_by w w.ahead refl ∙ ap (drop 1) here ∙ drop-drop 1 n all

pub next_last : (all : List (List ℕ)) (w next : RoleIterState) (n : ℕ) → next ≡ step_role_iter w
    → w.ahead ≡ drop n all → n < length all → next.last ≡ get_or all n []
next_last all w next n is here low =
    ap (λ (v : RoleIterState). v.last) is
    ∙ last_by w w.ahead (get_or all n []) (drop (suc n) all) (here ∙ drop-cons all n [] low)

pub one_more_taken : (before all strings : List (List ℕ)) (x : List ℕ) (n : ℕ) → n < length all → x ≡ get_or all n []
    → strings ≡ before ++ take n all → strings ++ x ∷ [] ≡ before ++ take (n + 1) all
one_more_taken before all strings x n low is here =
    let at : suc n ≡ n + 1 = omega arith in
    ap (λ (ys : List (List ℕ)). ys ++ x ∷ []) here ∙ append_assoc before (take n all) (x ∷ [])
    ∙ ap (λ (y : List ℕ). before ++ (take n all ++ y ∷ [])) is
    ∙ ap (λ (ys : List (List ℕ)). before ++ ys) (sym (take-suc all n [] low))
    ∙ ap (λ (k : ℕ). before ++ take k all) at

pub writer_is : (w v : SectionWriterState) (strings : List (List ℕ)) → w.block_size ≡ v.block_size
    → w.strings ≡ strings → w ≡ record v { strings = strings }
writer_is w v strings p q = λ i. record { block_size = p i; strings = q i }

-- ---- the parts of a file

pub rest_some : (a x : List ℕ) (r : Option BorrowedString) (m : BorrowedString) → r ≡ Some m → IsRestAfter a x r
    → x ≡ a ++ m.now
rest_some a x r m is h = subst (IsRestAfter a x) is h

pub no_part : (a b x : List ℕ) (r : Option BorrowedString) → r ≡ None → IsRestAfter a x r → IsRestAfter (a ++ b) x None
no_part a b x r is h = no_rest a b x (subst (IsRestAfter a x) is h)

pub some_part : (a b x : List ℕ) (r : Option BorrowedString) (m : BorrowedString) (s : Option BorrowedString)
    → r ≡ Some m → IsRestAfter a x r → IsRestAfter b m.now s → IsRestAfter (a ++ b) x s
some_part a b x r m s is h k = then_rest a b x m s (rest_some a x r m is h) k

pub dictionary_is : (b : ℕ) (d : SectionLists) → canonical_dictionary b d
    ≡ dictionary_control ++ (canonical b d.shared
    ++ (canonical b d.subjects ++ (canonical b d.predicates ++ canonical b d.objects)))
unfolding canonical_dictionary dictionary_control
dictionary_is b d = refl

pub file_is : (header : List ℕ) (b : ℕ) (d : SectionLists) (ts : List Triple) → canonical_file header b d ts
    ≡ canonical_head header ++ (canonical_dictionary b d ++ canonical_triples ts)
unfolding canonical_file
file_is header b d ts = refl

-- ---- the strings of a section

pub strings_ahead : (w : RoleIterState) (d : SectionLists) (section : SectionId) (role : Role) (n : ℕ)
    (ahead : List (List ℕ)) → role ≡ section_role section
    → w ≡ record { given = 0; last = []; ahead = role_strings d role } → ahead ≡ drop n w.ahead
    → ahead ≡ drop n (role_strings d (section_role section))
strings_ahead w d section role n ahead same is here =
    here ∙ ap (λ (v : RoleIterState). drop n v.ahead) is ∙ ap (λ (r : Role). drop n (role_strings d r)) same

pub section_texts : (all list : List (List ℕ)) (n : ℕ) → n ≤ length all → take n all ≡ list → AreSectionStrings list
    → (k : ℕ) → k < n → HasNoZero (get_or all k [])
section_texts all list n within is h k low =
    let long : length list ≡ n = sym (ap (λ (l : List (List ℕ)). length l) is) ∙ length-take-le n all within in
    let same : get_or list k [] ≡ get_or all k [] =
    sym (ap (λ (l : List (List ℕ)). get_or l k []) is) ∙ get_or-take n all k [] low in
    subst HasNoZero same (h.no_zero k (omega (arith, long, low)))

pub writer_of : (w v : SectionWriterState) (b : ℕ) (strings more : List (List ℕ))
    → w ≡ record v { strings = v.strings ++ more } → v ≡ record { block_size = b; strings = [] }
    → more ≡ strings → (let made : SectionWriterState = record { block_size = b; strings = strings } in w ≡ made)
writer_of w v b strings more is empty same =
    is ∙ (λ i. record { block_size = (empty i).block_size; strings = (empty i).strings ++ same i })

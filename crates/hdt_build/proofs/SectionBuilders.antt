-- One more string, and one more role of the last one.
use Rattle.std.proofs.Common.{◌≡◌, ◌∙◌, ℕ, ◌<◌, Bool, true, false, cond, List, [], ◌∷◌, ◌++◌, length, refl, ap}
use Rattle.std.proofs.Common.{sym, subst, arith}
use Rattle.std.specs.List.{All}
use Rattle.std.specs.Ordering.{ordering_reverse}
use Rattle.std.specs.declared.cmp.Ordering.TheVariants.{Less, Equal, Greater}
use Rattle.std.specs.Cmp.Lexicographic.{nat_list_cmp_total}
use Rattle.std.proofs.Math.Bool.{or-true}
use Rattle.std.proofs.lemmas.Map.Lookups.{exact_bytes}
use Rattle.std.proofs.lemmas.List.{get_or_append_left, get_or_push, length_push, map-append}
use Rattle.std.proofs.lemmas.List.Elements.{All-contains, All-push, Contains-push}
use Rattle.hdt_wire.specs.declared.Role.{Role}
use Rattle.hdt_wire.specs.declared.Role.TheVariants.{Subject, Predicate, Object}
use Rattle.hdt_front.specs.Order.{IsAscending, string_cmp}
use Rattle.hdt_dict.specs.Strings.{IsDictionaryString}
use Rattle.hdt_build.specs.Inside.SortedEntries.{last_of}
use Rattle.hdt_build.specs.Inside.Groups.{AreGroups, Group, IsGroup, new_group, texts_of_groups, with_role}
use Rattle.hdt_build.proofs.Deduplication.{ascends_on}

texts_push : (gs : List Group) (g : Group) → texts_of_groups (gs ++ g ∷ []) ≡ texts_of_groups gs ++ g.text ∷ []
texts_push gs g = map-append (λ (h : Group). h.text) gs (g ∷ [])

with_is : (role : Role) (g : Group) → IsDictionaryString g.text → IsGroup (with_role role g)
with_is Subject g h = record { valid = h; some = refl }
with_is Predicate g h = record { valid = h; some = or-true g.subject }
with_is Object g h = record { valid = h; some = rw (or-true g.predicate) (or-true g.subject) }

pub same_text : (role : Role) (g : Group) → (with_role role g).text ≡ g.text
same_text Subject g = refl
same_text Predicate g = refl
same_text Object g = refl

with_role_on : (gs : List Group) (g : Group) (role : Role) → All IsGroup gs → IsDictionaryString g.text
    → IsAscending (texts_of_groups gs ++ g.text ∷ []) → AreGroups (gs ++ with_role role g ∷ [])
with_role_on gs g role each valid up = record {
  ascend = rw (texts_push gs (with_role role g), same_text role g) up;
  each = All-push IsGroup gs (with_role role g) each (with_is role g valid);
}

pub begun : (gs : List Group) (x : List ℕ) (role : Role) → AreGroups gs → IsDictionaryString x
    → (0 < length (texts_of_groups gs) → string_cmp (last_of (texts_of_groups gs)) x ≡ Less)
    → AreGroups (gs ++ new_group x role ∷ [])
begun gs x role h valid below = with_role_on gs _ role h.each valid (ascends_on (texts_of_groups gs) x h.ascend below)

pub added : (gs : List Group) (g : Group) (role : Role) → AreGroups (gs ++ g ∷ [])
    → AreGroups (gs ++ with_role role g ∷ [])
added gs g role h = with_role_on gs g role
    (λ k d lt. subst IsGroup (get_or_append_left gs (g ∷ []) d k lt) (h.each k d (omega (arith, length_push gs g, lt))))
    (All-contains IsGroup (gs ++ g ∷ []) g h.each (Contains-push gs g)).valid (rw texts_push at h.ascend)

-- ---- the result of a comparison with the current string

pub equal : (has : Bool) (x y : List ℕ) → cond has (string_cmp x y) Greater ≡ Equal → (has ≡ true) × (y ≡ x)
equal true x y h = (refl, sym (exact_bytes x y h))
equal false x y h = absurd (cc)

pub last_below : (has : Bool) (closed gs : List Group) (g : Group) (x : List ℕ) → gs ≡ closed ++ cond has (g ∷ []) []
    → (has ≡ false → closed ≡ []) → cond has (string_cmp x g.text) Greater ≡ Greater
    → 0 < length (texts_of_groups gs) → string_cmp (last_of (texts_of_groups gs)) x ≡ Less
last_below true closed gs g x all first up some =
    let last : last_of (texts_of_groups closed ++ g.text ∷ []) ≡ g.text =
    get_or_push (texts_of_groups closed) g.text [] _ (omega (arith, length_push (texts_of_groups closed) g.text)) in
    nat_list_cmp_total.antisymm (last_of (texts_of_groups gs)) x
    ∙ ap ordering_reverse {y = Greater} (rw (all, texts_push closed g, last) up)
last_below false closed gs g x all first up some =
    let none : gs ≡ [] = rw (first refl) at all in
    absurd (omega (arith, subst (λ (l : List Group). 0 < length (texts_of_groups l)) none some))

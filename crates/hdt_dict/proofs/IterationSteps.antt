-- One step of an iteration over the strings of a role.
use Rattle.std.proofs.Common.{◌≡◌, ℕ, ◌+◌, ◌≤◌, Bool, true, false, not, List, [], ◌∷◌, ◌++◌, length, Option, Some, None}
use Rattle.std.proofs.Common.{refl, sym, ap, ◌∙◌, subst, arith, append-nil}
use Rattle.std.specs.Prelude.{is_some}
use Rattle.hdt_front.specs.declared.section.Section.{Section}
use Rattle.hdt_front.specs.Laws.CommonPrefix.{lcp_le_flip}
use Rattle.hdt_front.specs.Order.{lcp_len}
use Rattle.hdt_front.specs.Strings.{strings_of}
use Rattle.hdt_front.specs.Iteration.{LocatedString, IterState, strings, next_offset, first_lcp, step_iter}
use Rattle.hdt_front.specs.Iteration.{step_iter_by}
use Rattle.hdt_front.specs.SectionIteration.{located_strings}
use Rattle.hdt_front.specs.Laws.Iteration.{located_are_strings}
use Rattle.hdt_dict.specs.Iteration.{RoleIterState, step_role_iter, step_role_iter_by, next_id}

pub starts : (s : Section) (rest : List (List ℕ)) → strings (located_strings s) ++ rest ≡ strings_of s ++ rest
starts s rest = ap (λ l. l ++ rest) (located_are_strings s)

-- ---- the end of a section

ended_by : (ps : List LocatedString) (r : Option ℕ) → r ≡ next_offset ps → is_some r ≡ false → ps ≡ []
ended_by [] r e f = refl
ended_by (p ∷ ps) r e f = let g : true ≡ false = sym (ap is_some e) ∙ f in absurd (cc)

pub ended : (w : IterState) (r : Option ℕ) (b : Bool) → r ≡ next_offset w.ahead → b ≡ is_some r → b ≡ false
    → w.ahead ≡ []
ended w r b e f g = ended_by w.ahead r e (sym f ∙ g)

pub empty : (w : IterState) (r : Option ℕ) (b : Bool) → r ≡ next_offset w.ahead → is_some r ≡ not b → b ≡ true
    → w.ahead ≡ []
empty w r b e f g = ended_by w.ahead r e (f ∙ ap not g)

pub stays : (w v : IterState) → w.ahead ≡ [] → v ≡ step_iter w → v ≡ w
stays w v e f = f ∙ ap (step_iter_by w) e

pub no_strings : (ps : List LocatedString) → strings ps ≡ [] → ps ≡ []
no_strings [] e = refl
no_strings (p ∷ ps) e = absurd cc

front_kept_by : (w : IterState) (ps : List LocatedString) (k : ℕ) → k ≤ first_lcp ps w.last
    → k ≤ lcp_len w.last (step_iter_by w ps).last
front_kept_by w [] k h = omega (arith, h)
front_kept_by w (p ∷ ps) k h = lcp_le_flip k p.string w.last h

-- the next string shares this many bytes with the previous one
pub front_kept : (w v : IterState) (k : ℕ) → k ≤ first_lcp w.ahead w.last → v ≡ step_iter w → k ≤ lcp_len w.last v.last
front_kept w v k h e = subst (λ (v : IterState). k ≤ lcp_len w.last v.last) (sym e) (front_kept_by w w.ahead k h)

-- ---- the section after it

pub behind : (w u : IterState) (s : Section) → w.ahead ≡ [] → u ≡ record { last = []; ahead = located_strings s }
    → strings w.ahead ++ strings_of s ≡ strings u.ahead
behind w u s e f = ap (λ ps. strings ps ++ strings_of s) e ∙ sym (located_are_strings s)
    ∙ sym (ap (λ (u : IterState). strings u.ahead) f)

pub no_next : (old : RoleIterState) → old.ahead ≡ [] → (let r : Option ℕ = None in r) ≡ next_id old old.ahead
no_next old e = sym (ap (next_id old) e)

pub unmoved : (old : RoleIterState) → old.ahead ≡ [] → old ≡ step_role_iter old
unmoved old e = sym (ap (step_role_iter_by old) e)

-- ---- its first string

pub record Took (old : RoleIterState) (v : IterState) : Type 0 where
  pub id : (let r : Option ℕ = Some (old.given + 1) in r) ≡ next_id old old.ahead
  pub new : (let w : RoleIterState = record { given = old.given + 1; last = v.last; ahead = strings v.ahead ++ [] } in
      w) ≡ step_role_iter old
  pub fewer : length (strings v.ahead ++ []) + 1 ≡ length old.ahead

took_by : (u v : IterState) (ps : List LocatedString) (r : Option ℕ) (old : RoleIterState) → r ≡ next_offset ps
    → is_some r ≡ true → v ≡ step_iter_by u ps → old.ahead ≡ strings ps → Took old v
took_by u v [] r old e f g h = let k : false ≡ true = sym (ap is_some e) ∙ f in absurd (cc)
took_by u v (p ∷ ps) r old e f g h =
    let rest : strings v.ahead ++ [] ≡ strings ps = append-nil (strings v.ahead)
    ∙ ap (λ (v : IterState). strings v.ahead) g in
    record {
      id = sym (ap (next_id old) h);
      new =
          ap (λ (x : List ℕ). (let w : RoleIterState =
          record { given = old.given + 1; last = x; ahead = strings v.ahead ++ [] } in w))
          (ap (λ (v : IterState). v.last) g)
          ∙ ap (λ (xs : List (List ℕ)). (let w : RoleIterState =
          record { given = old.given + 1; last = p.string; ahead = xs } in w)) rest
          ∙ sym (ap (step_role_iter_by old) h);
      fewer = omega (arith, ap length rest, ap length h);
    }

pub took : (u v : IterState) (r : Option ℕ) (b : Bool) (old : RoleIterState) → r ≡ next_offset u.ahead
    → is_some r ≡ not b → b ≡ false → v ≡ step_iter u → old.ahead ≡ strings u.ahead → Took old v
took u v r b old e f g h k = took_by u v u.ahead r old e (f ∙ ap not g) h k

-- The lines of a role's strings, one after another.
use Rattle.std.proofs.Common.{◌≡◌, ℕ, ◌+◌, List, [], ◌∷◌, ◌++◌, Option, Some, ap, sym, ◌∙◌, append_assoc}
use Rattle.std.proofs.lemmas.List.{append-nil}
use Rattle.hdt_dict.specs.Iteration.{RoleIterState, step_role_iter, step_role_iter_by, next_id}
use Rattle.hdt_tool.specs.StringsText.{string_line, string_lines}

number_is : (m n : ℕ) → Some m ≡ Some n → m ≡ n
number_is m n e = cc

-- The iterator yields one string, and its line is appended to the text.
pub one_line : (w : RoleIterState) (ahead : List (List ℕ)) (n : ℕ) (text new : List ℕ) → Some n ≡ next_id w ahead
    → new ≡ text ++ string_line n (step_role_iter_by w ahead).last
    → new ++ string_lines ((step_role_iter_by w ahead).given + 1) (step_role_iter_by w ahead).ahead
    ≡ text ++ string_lines (w.given + 1) ahead
one_line w [] n text new e is = absurd cc
one_line w (x ∷ xs) n text new e is =
    let number : n ≡ w.given + 1 = number_is _ _ e in
    let rest = string_lines (w.given + 1 + 1) xs in
    ap (λ (t : List ℕ). t ++ rest) is ∙ append_assoc text (string_line n x) rest
    ∙ ap (λ (k : ℕ). text ++ (string_line k x ++ rest)) number

-- The same for the text after what has been written.
pub line_added : (w v : RoleIterState) (n : ℕ) (last text new behind : List ℕ) → Some n ≡ next_id w w.ahead
    → v ≡ step_role_iter w → last ≡ v.last → new ≡ text ++ string_line n last
    → behind ≡ text ++ string_lines (w.given + 1) w.ahead → behind ≡ new ++ string_lines (v.given + 1) v.ahead
line_added w v n last text new behind next step is added rest =
    let line : new ≡ text ++ string_line n (step_role_iter w).last =
    added ∙ ap (λ (x : List ℕ). text ++ string_line n x) (is ∙ ap (λ (p : RoleIterState). p.last) step) in
    rest ∙ sym (one_line w w.ahead n text new next line)
    ∙ ap (λ (p : RoleIterState). new ++ string_lines (p.given + 1) p.ahead) (sym step)

-- The iterator is at its end.
pub none_left : (w : RoleIterState) (ahead : List (List ℕ)) (r : Option ℕ) (k : ℕ) (text : List ℕ) → r ≡ next_id w ahead
    → ((n : ℕ) → r ≡ Some n → ⊥) → text ++ string_lines k ahead ≡ text
none_left w [] r k text e not = append-nil text
none_left w (x ∷ xs) r k text e not = absurd (not (w.given + 1) e)

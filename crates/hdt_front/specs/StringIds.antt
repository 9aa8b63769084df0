-- IDs of strings.
use Rattle.std.specs.Prelude.{ℕ, List, [], ◌∷◌, ◌+◌, Option, Some, None, option_map, cond}
use Rattle.std.specs.Str.{bytes_eq}

-- The ID of a string in a list, from 1.
unfoldable pub id_of : List (List ℕ) → List ℕ → Option ℕ
id_of [] x = None
id_of (y ∷ ys) x = cond (bytes_eq y x) (Some 1) (option_map (λ n. n + 1) (id_of ys x))

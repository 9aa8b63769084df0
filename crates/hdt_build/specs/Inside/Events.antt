-- Merging runs of records: which run each record came from.
use Rattle.std.specs.Prelude.{Option, Some, None, ℕ, zero, suc, ◌/◌, ◌%◌, List, [], ◌∷◌, ◌++◌, cond, nat_eq}
use Rattle.hdt_build.specs.Inside.Groups.{id_of_code}

-- The current element and the later ones after an event, whose first number says whether it begins a group: then the
-- next element becomes the current one.
unfoldable pub advanced : {X : Type 0} → ℕ → Option X → List X → Option X × List X
advanced zero x xs = (x, xs)
advanced (suc n) x [] = (None, [])
advanced (suc n) x (y ∷ ys) = (Some y, ys)

-- what a role makes of the current element
unfoldable pub made_of : {X Y : Type 0} → (ℕ → X → Y) → ℕ → Option X → List Y
made_of f role None = []
made_of f role (Some x) = f role x ∷ []

-- What a list has for run b. Each event is two numbers: whether it begins a group, and 4 times its run plus its role.
-- x is the current element of the list, if there is one, and xs are the later ones; f gives what a role makes of it.
unfoldable pub dealt : {X Y : Type 0} → (ℕ → X → Y) → ℕ → Option X → List X → List ℕ → List Y
dealt f b x xs [] = []
dealt f b x xs (n ∷ []) = []
dealt f b x xs (n ∷ r ∷ es) =
    let a = advanced n x xs in
    cond (nat_eq (r / 4) b) (made_of f (r % 4) a.0) [] ++ dealt f b a.0 a.1 es

-- numbers in pairs
unfoldable pub pairs_of : List ℕ → List (ℕ × ℕ)
pairs_of [] = []
pairs_of (a ∷ []) = []
pairs_of (a ∷ b ∷ rest) = (a, b) ∷ pairs_of rest

-- the ID of a record with a role, given the code of its node, its ID as a predicate, and the number of shared strings
unfoldable pub id_of_codes : ℕ → ℕ → ℕ × ℕ → ℕ
id_of_codes shared role codes = cond (nat_eq role 1) codes.1 (id_of_code shared codes.0)

-- the last element; x if there is none
unfoldable pub latest : {X : Type 0} → Option X → List X → Option X
latest x [] = x
latest x (y ∷ ys) = latest (Some y) ys

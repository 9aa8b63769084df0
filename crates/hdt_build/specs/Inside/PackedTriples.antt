-- Triples as bytes: of each, the step from the subject of the previous one, the predicate and the object as VBytes.
use Rattle.std.specs.Prelude.{◌≡◌, ℕ, zero, suc, ◌+◌, ◌-◌, ◌%◌, ◌^◌, ◌<◌, List, [], ◌∷◌, ◌++◌, drop, length}
use Rattle.std.specs.Prelude.{Result, Ok, Err}
use Rattle.std.specs.List.{All}
use Rattle.hdt_wire.specs.declared.fault.Fault.{Fault}
use Rattle.hdt_wire.specs.VByte.{vbyte, vbyte_at}
use Rattle.hdt_triples.specs.TripleSequences.{Triple}

-- ---- writing

-- the number that gives y when it is added to x modulo 2^64
abbrev pub step_to : ℕ → ℕ → ℕ
step_to x y = (y + (2 ^ 64 - x)) % 2 ^ 64

-- the bytes of triples, the first of which follows one with the subject x
unfoldable pub packed_after : ℕ → List Triple → List ℕ
packed_after x [] = []
packed_after x (t ∷ ts) = vbyte (step_to x t.0) ++ (vbyte t.1 ++ (vbyte t.2 ++ packed_after t.0 ts))

-- the subject of the last triple; x if there is none
unfoldable pub last_subject : ℕ → List Triple → ℕ
last_subject x [] = x
last_subject x (t ∷ ts) = last_subject t.0 ts

-- ---- reading

-- xs is an end of ys
abbrev pub IsEndOf : List ℕ → List ℕ → Type 0
IsEndOf xs ys = drop (length ys - length xs) ys ≡ xs

-- what was read: the number, and the bytes after it; 0 and no bytes at an error
abbrev pub number_and_rest : List ℕ → Result (ℕ × ℕ) Fault → ℕ × List ℕ
number_and_rest bytes (Ok x) = (x.0, drop x.1 bytes)
number_and_rest bytes (Err e) = (0, [])

-- the number that the bytes begin with, and those after it
unfoldable pub split_number : List ℕ → ℕ × List ℕ
split_number bytes = number_and_rest bytes (vbyte_at bytes 0)

-- the n triples that the bytes begin with, of which the first one follows one with the subject x
unfoldable pub unpacked : ℕ → ℕ → List ℕ → List Triple
unpacked zero x bytes = []
unpacked (suc n) x bytes =
    let a = split_number bytes in
    let b = split_number a.1 in
    let c = split_number b.1 in
    let s = (x + a.0) % 2 ^ 64 in
    (s, b.0, c.0) ∷ unpacked n s c.1

-- ---- a list

-- each component is below 2^64
abbrev pub FitsWords : Triple → Type 0
FitsWords t = (t.0 < 2 ^ 64) × (t.1 < 2 ^ 64) × (t.2 < 2 ^ 64)

-- the bytes are those of the triples, the last of which has this subject
pub record IsPacked (bytes : List ℕ) (subject : ℕ) (triples : List Triple) : Type 0 where
  pub bytes_are : bytes ≡ packed_after 0 triples
  pub subject_is : subject ≡ last_subject 0 triples
  pub fit : All FitsWords triples

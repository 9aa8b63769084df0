-- Laws of the entries of a log sequence, for other crates.
use Rattle.std.proofs.Common.{◌≡◌, ℕ, ◌*◌, ◌^◌, ◌<◌, ◌≤◌, length, get_or, arith}
use Rattle.std.proofs.Math.Nat.{mul-le-mul_left}
use Rattle.hdt_seq.specs.declared.numbers.Numbers.{Numbers}
use Rattle.hdt_seq.specs.PackedBits.{entry}
use Rattle.hdt_seq.specs.Laws.LittleEndian.{length-entries, get_or-entries}
use Rattle.hdt_seq.specs.Numbers.{numbers_of}

-- the count is the number of entries, which is below 2 ^ 64
pub numbers_len : (s : Numbers) → length (numbers_of s) ≡ s.count
unfolding numbers_of
numbers_len s = length-entries s.packed.now s.width s.count

pub numbers_below : (s : Numbers) → length (numbers_of s) < 2 ^ 64
numbers_below s = omega (arith, numbers_len s, s.count_fits)

-- entry i of the list is entry i of the packed bytes
pub numbers_get : (s : Numbers) (i : ℕ) → i < length (numbers_of s)
    → get_or (numbers_of s) i 0 ≡ entry s.packed.now s.width i
unfolding numbers_of
numbers_get s i lt = get_or-entries s.packed.now s.width s.count i
    (omega (arith, length-entries s.packed.now s.width s.count, lt))

-- an entry begins within the packed bytes
pub number_within : (s : Numbers) (i : ℕ) → i < length (numbers_of s) → s.width * i ≤ 8 * length s.packed.now
number_within s i lt =
    let le : i ≤ s.count = omega (arith, numbers_len s, lt) in
    omega (arith, mul-le-mul_left s.width le, s.packed_fits)

-- Laws of a section that was read.
use Rattle.std.proofs.Common.{◌≡◌, ◌≤◌, ◌+◌, ◌<◌, ℕ, [], length, arith}
use Rattle.hdt_front.specs.declared.section.Section.{Section}
use Rattle.hdt_front.specs.PackedView.{block_layout}
use Rattle.hdt_front.specs.Laws.StringSteps.{length-decoded_strings, few}
use Rattle.hdt_front.specs.Strings.{strings_of}

-- The stored number of strings is that of the decoded strings.
pub count_is : (s : Section) → length (strings_of s) ≡ s.packed.count
unfolding strings_of
count_is s = length-decoded_strings s.packed.block_size s.packed.count 0 [] s.packed.bytes.now

-- Each string takes at least one byte.
pub few_strings : (s : Section) → length (strings_of s) ≤ length s.packed.bytes.now
few_strings s = omega (arith, count_is s, few (block_layout s.packed) s.packed.count 0 [] s.packed.bytes.now s.read)

-- So the strings are fewer than the bytes of the section.
pub fewer : (at size : ℕ) (s : Section) (end : ℕ) → (at + length s.packed.bytes.now < end) × (end ≤ size)
    → (at + length (strings_of s) < end) × (end ≤ size)
fewer at size s end h = (omega (arith, few_strings s, h.0), h.1)

-- Laws of iteration over a section. Other crates use them.
use Rattle.std.proofs.Common.{◌≡◌, ℕ, zero, suc, ◌+◌, List, [], ◌∷◌, refl, ap}
use Rattle.hdt_front.specs.declared.section.Section.{Section}
use Rattle.hdt_front.specs.Decoding.{is_block_start, decoded_string, after_entry, decoded_strings}
use Rattle.hdt_front.specs.StringChecks.{BlockLayout}
use Rattle.hdt_front.specs.PackedView.{block_layout}
use Rattle.hdt_front.specs.Strings.{strings_of}
use Rattle.hdt_front.specs.Iteration.{LocatedAscend, strings, located_from}
use Rattle.hdt_front.specs.Laws.IterationSteps.{ascends_from}
use Rattle.hdt_front.specs.SectionIteration.{located_strings}

pub strings_from : (p : BlockLayout) (n i : ℕ) (before rest : List ℕ)
    → strings (located_from p n i before rest) ≡ decoded_strings p.block_size n i before rest
unfolding located_from decoded_strings
strings_from p zero i before rest = refl
strings_from p (suc n) i before rest =
    let s : List ℕ = decoded_string (is_block_start p.block_size i) before rest in
    ap (λ l. s ∷ l) (strings_from p n (i + 1) s (after_entry (is_block_start p.block_size i) rest))

-- The iterated strings are those of the section.
pub located_are_strings : (s : Section) → strings (located_strings s) ≡ strings_of s
unfolding located_strings strings_of
located_are_strings s = strings_from (block_layout s.packed) s.packed.count 0 [] s.packed.bytes.now

-- They ascend.
pub located_ascend : (s : Section) → LocatedAscend (located_strings s)
unfolding located_strings
located_ascend s = ascends_from (block_layout s.packed) s.packed.count s.packed.bytes.now s.read

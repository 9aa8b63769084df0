-- Two cursors over the sections of a role: without a second section, the second cursor is over the first one too.
use Rattle.std.proofs.Common.{◌≡◌, ℕ, ◌<◌, ◌≤◌, ◌++◌, [], length, length-append, max, get_or, Bor, Option, Some, None}
use Rattle.std.proofs.Common.{option_copied, refl, sym, ◌∙◌, arith}
use Rattle.std.specs.Option.{unwrap_or}
use Rattle.std.proofs.lemmas.List.{get_or_append_left}
use Rattle.hdt_front.specs.declared.section.Section.{Section}
use Rattle.hdt_front.specs.Strings.{strings_of, block_size}
use Rattle.hdt_dict.specs.RoleSections.{second_strings, second_block_size}

abbrev pub second_or_first : Bor Section → Option (Bor Section) → Section
second_or_first first second = (unwrap_or second first).now

-- the first strings of both are those of the role
pub same_string : (first : Bor Section) (second : Option (Bor Section)) (i : ℕ)
    → i < length (strings_of first.now ++ second_strings (option_copied second))
    → get_or (strings_of first.now ++ strings_of (second_or_first first second)) i []
    ≡ get_or (strings_of first.now ++ second_strings (option_copied second)) i []
same_string first None i h =
    let xs = strings_of first.now in
    let within : i < length xs = omega (arith, length-append xs []) in
    get_or_append_left xs xs [] i within ∙ sym (get_or_append_left xs [] [] i within)
same_string first (Some s) i h = refl

pub no_fewer : (first : Bor Section) (second : Option (Bor Section))
    → length (strings_of first.now ++ second_strings (option_copied second))
    ≤ length (strings_of first.now ++ strings_of (second_or_first first second))
no_fewer first None = let xs = strings_of first.now in omega (arith, length-append xs [], length-append xs xs)
no_fewer first (Some s) = omega arith

pub same_size : (first : Bor Section) (second : Option (Bor Section))
    → max (block_size first.now) (block_size (second_or_first first second))
    ≡ max (block_size first.now) (second_block_size (option_copied second))
same_size first None = omega arith
same_size first (Some s) = refl

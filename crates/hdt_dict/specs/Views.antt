-- What contracts see of a `Dictionary`.
use Rattle.std.specs.Prelude.{ℕ, ◌-◌, ◌&&◌, nat_le, cond, length, List, [], Option, Some, None}
use Rattle.hdt_front.specs.Strings.{strings_of, section_of, packed_block}
use Rattle.hdt_front.specs.declared.section.Section.{Section}
use Rattle.hdt_wire.specs.declared.Role.{Role}
use Rattle.hdt_wire.specs.declared.Role.TheVariants.{Subject, Predicate, Object}
use Rattle.hdt_dict.specs.declared.dictionary.Dictionary.{Dictionary}
use Rattle.hdt_dict.specs.Dictionary.{DictionaryParts}

-- its four sections
unfoldable pub dictionary_of : Dictionary → DictionaryParts
dictionary_of d = record {
  shared = section_of d.shared;
  subjects = section_of d.subjects;
  predicates =
      section_of d.predicates;
  objects = section_of d.objects;
}

-- ---- the bytes that decoding a string reads

-- the front-coded bytes of the block of the string with ID n, from 1; empty if there is no such string, or no section
abbrev pub block_bytes : Option Section → ℕ → List ℕ
block_bytes None n = []
block_bytes (Some s) n = cond (nat_le 1 n && nat_le n (length (strings_of s))) (packed_block s (n - 1)) []

-- the same over a section and one that may follow it
abbrev pub block_bytes_of_two : Section → Option Section → ℕ → List ℕ
block_bytes_of_two a b n =
    cond (nat_le n (length (strings_of a))) (block_bytes (Some a) n) (block_bytes b (n - length (strings_of a)))

-- the same for a role
unfoldable pub role_block_bytes : Dictionary → Role → ℕ → List ℕ
role_block_bytes d Subject n = block_bytes_of_two d.shared (Some d.subjects) n
role_block_bytes d Predicate n = block_bytes_of_two d.predicates None n
role_block_bytes d Object n = block_bytes_of_two d.shared (Some d.objects) n

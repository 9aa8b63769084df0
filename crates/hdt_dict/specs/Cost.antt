-- The cost of a look-up in a role, in steps, as a function of the sections.
use Rattle.std.specs.Prelude.{ℕ, ◌+◌, max}
use Rattle.hdt_front.specs.Cost.{section_search_cost}
use Rattle.hdt_wire.specs.declared.Role.{Role}
use Rattle.hdt_wire.specs.declared.Role.TheVariants.{Subject, Predicate, Object}
use Rattle.hdt_dict.specs.Dictionary.{DictionaryParts}

-- searching for a string: at most the sum over the sections of the role
unfoldable pub role_search_cost : DictionaryParts → Role → ℕ
role_search_cost d Subject = section_search_cost d.shared + section_search_cost d.subjects
role_search_cost d Predicate = section_search_cost d.predicates
role_search_cost d Object = section_search_cost d.shared + section_search_cost d.objects

-- decoding a string: at most the greatest block size of the sections of the role
unfoldable pub role_decode_cost : DictionaryParts → Role → ℕ
role_decode_cost d Subject = max d.shared.block_size d.subjects.block_size
role_decode_cost d Predicate = d.predicates.block_size
role_decode_cost d Object = max d.shared.block_size d.objects.block_size

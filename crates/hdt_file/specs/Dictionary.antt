-- The head of a file, and the dictionary after it (HDT submission; rdfhdt.org, "HDT binary format").
use Rattle.std.specs.Prelude.{ℕ, List, Result, Ok}
use Rattle.hdt_wire.specs.declared.fault.Fault.{Fault}
use Rattle.hdt_wire.specs.Checks.{◌>>=◌}
use Rattle.hdt_dict.specs.declared.dictionary.Dictionary.{Dictionary}
use Rattle.hdt_dict.specs.Dictionary.{DictionaryParts, IsDictionaryAt, dictionary_at}
use Rattle.hdt_dict.specs.Views.{dictionary_of}
use Rattle.hdt_file.specs.declared.head.Head.{Head}
use Rattle.hdt_file.specs.Head.{HeadParts, IsHead, head_parts, decode_head}

-- a `Head` and a `Dictionary` without their addresses in memory
abbrev pub front_view : Head × Dictionary × ℕ → HeadParts × DictionaryParts
front_view r = (head_parts r.0, dictionary_of r.1)

-- the head is encoded at the start of the bytes and the dictionary after it; anything may follow
abbrev pub IsHeadAndDictionary : HeadParts × DictionaryParts → List ℕ → Type 0
IsHeadAndDictionary front bytes = IsHead front.0 bytes × IsDictionaryAt front.1 bytes front.0.end

-- decodes the head and the dictionary, or returns the first error
unfoldable pub decode_head_and_dictionary : List ℕ → Result (HeadParts × DictionaryParts) Fault
decode_head_and_dictionary bytes = do
  head ← decode_head bytes
  dictionary ← dictionary_at bytes head.end
  Ok (head, dictionary)

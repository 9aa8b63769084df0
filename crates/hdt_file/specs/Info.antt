-- The sizes of a file's parts.
use Rattle.std.specs.Prelude.{◌≡◌, ℕ, ◌+◌, ◌-◌, List, [], ◌∷◌, length}
use Rattle.hdt_front.specs.Section.{SectionParts}
use Rattle.hdt_dict.specs.Dictionary.{DictionaryParts}
use Rattle.hdt_file.specs.File.{FileParts, IsFile, graph_of_file}
use Rattle.hdt_file.specs.declared.info.SectionInfo.{SectionInfo}
use Rattle.hdt_file.specs.declared.info.DictionaryInfo.{DictionaryInfo}
use Rattle.hdt_file.specs.declared.info.FileInfo.{FileInfo}

-- the sum of the lengths of the strings in bytes
unfoldable pub total_len : List (List ℕ) → ℕ
total_len [] = 0
total_len (x ∷ xs) = length x + total_len xs

-- the sizes of the section that begins at the offset
abbrev pub section_info : SectionParts → ℕ → SectionInfo
section_info s at = record {
  bytes = s.end - at;
  strings = length s.strings;
  block_size = s.block_size;
  string_bytes = total_len s.strings;
  offset_bits = s.offset_bits;
}

-- the sizes of the sections of the dictionary, the first of which begins at the offset
abbrev pub dictionary_info : DictionaryParts → ℕ → DictionaryInfo
dictionary_info d at = record {
  shared = section_info d.shared at;
  subjects = section_info d.subjects d.shared.end;
  predicates = section_info d.predicates d.subjects.end;
  objects = section_info d.objects d.predicates.end;
}

-- the sizes of the parts of a file of so many bytes, the first section of which begins at the offset
abbrev pub file_info : ℕ → FileParts → ℕ → FileInfo
file_info bytes f at = record {
  bytes = bytes;
  header_bytes = length f.head.body;
  triples = length (graph_of_file f).triples;
  dictionary = dictionary_info f.dictionary at;
  entry_bits = record { bitmap_y = 1; bitmap_z = 1; array_y = f.widths.0; array_z = f.widths.1 };
}

-- the bytes encode a file whose parts have these sizes
pub record IsFileInfo (info : FileInfo) (bytes : List ℕ) : Type 0 where
  pub file : FileParts
  pub encoded : IsFile file bytes
  pub info_is : info ≡ file_info (length bytes) file encoded.dictionary.control.end

-- The output of `info`: a line for each value, with its name, a tab and the value; with `--json` one object with the
-- same names and values.
use Rattle.std.specs.Prelude.{ℕ, ◌*◌, ◌/◌, ◌%◌, Bool, true, false, List, [], ◌∷◌, ◌++◌, codes, max}
use Rattle.std.specs.Fmt.{decimal}
use Rattle.hdt_file.specs.declared.info.SectionInfo.{SectionInfo}
use Rattle.hdt_file.specs.declared.info.DictionaryInfo.{DictionaryInfo}
use Rattle.hdt_file.specs.declared.info.EntryBits.{EntryBits}
use Rattle.hdt_file.specs.declared.info.FileInfo.{FileInfo}

-- A name, up to its value.
abbrev pub name_text : Bool → List ℕ → List ℕ
name_text true name = 34 ∷ (name ++ codes "\":")
name_text false name = name ++ 9 ∷ []

-- What follows a value.
abbrev pub value_end : Bool → List ℕ
value_end true = codes ","
value_end false = 10 ∷ []

-- A number with its name.
unfoldable pub number_text : Bool → List ℕ → ℕ → List ℕ
number_text json name n = name_text json name ++ (decimal n ++ value_end json)

-- total / count with one digit after the point, rounded down; 0.0 if both are 0.
unfoldable pub mean : ℕ → ℕ → List ℕ
mean total count = decimal (total / max count 1) ++ 46 ∷ decimal (total % max count 1 * 10 / max count 1)

-- A mean with its name.
unfoldable pub mean_text : Bool → List ℕ → ℕ → ℕ → List ℕ
mean_text json name total count = name_text json name ++ (mean total count ++ value_end json)

-- Whether a property holds.
abbrev pub flag_text : Bool → Bool → List ℕ
flag_text true true = codes "true"
flag_text true false = codes "false"
flag_text false true = codes "yes"
flag_text false false = codes "no"

-- The bytes of the file and of its header body, and the number of triples.
unfoldable pub sizes_text : Bool → FileInfo → List ℕ
sizes_text json info = number_text json (codes "bytes") info.bytes
    ++ (number_text json (codes "header-bytes") info.header_bytes
    ++ number_text json (codes "triples") info.triples)

-- The number of strings of each section.
unfoldable pub strings_text : Bool → DictionaryInfo → List ℕ
strings_text json d = number_text json (codes "shared") d.shared.strings
    ++ (number_text json (codes "subjects") d.subjects.strings
    ++ (number_text json (codes "predicates") d.predicates.strings
    ++ number_text json (codes "objects") d.objects.strings))

-- The sizes of a section.
unfoldable pub section_text : Bool → List ℕ → SectionInfo → List ℕ
section_text json section s = number_text json (section ++ codes "-bytes") s.bytes
    ++ (number_text json (section ++ codes "-block-size") s.block_size
    ++ (mean_text json (section ++ codes "-mean-length") s.string_bytes s.strings
    ++ number_text json (section ++ codes "-offset-bits") s.offset_bits))

-- The sizes of all sections.
unfoldable pub sections_text : Bool → DictionaryInfo → List ℕ
sections_text json d = section_text json (codes "shared") d.shared ++ (section_text json (codes "subjects") d.subjects
    ++ (section_text json (codes "predicates") d.predicates ++ section_text json (codes "objects") d.objects))

-- The bits of an entry of each sequence of the triples.
unfoldable pub widths_text : Bool → EntryBits → List ℕ
widths_text json bits = number_text json (codes "bitmap-y-bits") bits.bitmap_y
    ++ (number_text json (codes "bitmap-z-bits") bits.bitmap_z
    ++ (number_text json (codes "array-y-bits") bits.array_y ++ number_text json (codes "array-z-bits") bits.array_z))

-- Whether the file is tight, and whether it is canonical.
unfoldable pub flags_text : Bool → Bool → Bool → List ℕ
flags_text json tight canonical =
    name_text json (codes "tight")
    ++ (flag_text json tight ++ (value_end json ++ (name_text json (codes "canonical") ++ flag_text json canonical)))

-- What precedes the first value and what follows the last.
abbrev pub opening : Bool → List ℕ
opening true = codes "{"
opening false = []

abbrev pub closing : Bool → List ℕ
closing true = codes "}\n"
closing false = 10 ∷ []

-- The output.
unfoldable pub info_text : Bool → FileInfo → Bool → Bool → List ℕ
info_text json info tight canonical =
    opening json ++ (sizes_text json info ++ (strings_text json info.dictionary ++ (sections_text json info.dictionary
    ++ (widths_text json info.entry_bits ++ (flags_text json tight canonical ++ closing json)))))

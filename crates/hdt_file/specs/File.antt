-- A file (HDT submission; rdfhdt.org, "HDT binary format") is a head, a dictionary and triples, one after another, with
-- nothing after them.
use Rattle.std.specs.Prelude.{◌≡◌, ℕ, ◌==◌, List, length, Result, Ok}
use Rattle.hdt_wire.specs.declared.fault.Fault.{Fault}
use Rattle.hdt_wire.specs.declared.fault.Reason.TheVariants.{TrailingBytes}
use Rattle.hdt_wire.specs.Checks.{◌>>=◌, demand}
use Rattle.hdt_wire.specs.Exact.{viewed}
use Rattle.hdt_dict.specs.Dictionary.{DictionaryParts, SectionLists, IsDictionaryAt, dictionary_at}
use Rattle.hdt_dict.specs.Dictionary.{lists_of_dictionary, role_strings}
use Rattle.hdt_wire.specs.declared.Role.TheVariants.{Subject, Predicate, Object}
use Rattle.hdt_triples.specs.TripleSequences.{BitmapTriples, Triple, triples_of}
use Rattle.hdt_triples.specs.declared.pattern.Counts.{Counts}
use Rattle.hdt_triples.specs.Triples.{TripleParts, IsTriplesAt, bitmap_triples}
use Rattle.hdt_triples.specs.Views.{decode_triples}
use Rattle.hdt_file.specs.Head.{HeadParts, IsHead, decode_head}

-- a file, decoded: the bitmaps and arrays of its triples, and the width in bits of an entry of either array
pub record FileParts : Type 0 where
  pub head : HeadParts
  pub dictionary : DictionaryParts
  pub triples : BitmapTriples
  pub widths : ℕ × ℕ

-- the number of strings of each role: the IDs of a role are 1 to this number
abbrev pub role_counts : SectionLists → Counts
role_counts d = record {
  subjects = length (role_strings d Subject);
  predicates = length (role_strings d Predicate);
  objects = length (role_strings d Object);
}

-- the bytes, all of them, encode the file
pub record IsFile (file : FileParts) (bytes : List ℕ) : Type 0 where
  pub head : IsHead file.head bytes
  pub dictionary : IsDictionaryAt file.dictionary bytes file.head.end
  pub parts : TripleParts
  pub triples : IsTriplesAt (role_counts (lists_of_dictionary file.dictionary)) parts bytes file.dictionary.objects.end
  pub lists : bitmap_triples parts ≡ file.triples
  pub widths : (parts.array_y.offsets.width, parts.array_z.offsets.width) ≡ file.widths
  pub end : parts.array_z.end ≡ length bytes

-- decodes a file, or returns the first error
unfoldable pub decode_file : List ℕ → Result FileParts Fault
decode_file bytes = do
  head ← decode_head bytes
  dictionary ← dictionary_at bytes head.end
  t ← decode_triples (role_counts (lists_of_dictionary dictionary)) bytes dictionary.objects.end
  _ ← demand (t.2 == length bytes) t.2 TrailingBytes
  Ok (record { head = head; dictionary = dictionary; triples = t.0; widths = t.1 })

-- ---- the graph of a file

-- the graph of a file: the header body, the sections of the dictionary, and the triples as IDs
pub record GraphParts : Type 0 where
  pub header : List ℕ
  pub dictionary : SectionLists
  pub triples : List Triple

-- the graph of a decoded file
abbrev pub graph_of_file : FileParts → GraphParts
graph_of_file f =
    record { header = f.head.body; dictionary = lists_of_dictionary f.dictionary; triples = triples_of f.triples }

-- the bytes are a valid encoding of the graph
pub record IsLayout (bytes : List ℕ) (graph : GraphParts) : Type 0 where
  pub file : FileParts
  pub encoded : IsFile file bytes
  pub denotes : graph_of_file file ≡ graph

-- decodes a file and returns its graph, or the first error: the first check that fails
unfoldable pub decode_graph : List ℕ → Result GraphParts Fault
decode_graph bytes = viewed graph_of_file (decode_file bytes)

-- The canonical file of a graph: of all valid encodings, the one that is written.
use Rattle.std.specs.Prelude.{◌≡◌, ℕ, ◌<◌, List, [], ◌++◌, length}
use Rattle.hdt_wire.specs.declared.control.Kind.TheVariants as kinds
use Rattle.hdt_wire.specs.Control.{control}
use Rattle.hdt_dict.specs.Dictionary.{SectionLists}
use Rattle.hdt_dict.specs.Writing.{AreSections, canonical_dictionary}
use Rattle.hdt_triples.specs.TripleSequences.{Triple}
use Rattle.hdt_triples.specs.Writing.{canonical_triples}
use Rattle.hdt_file.specs.Denoted.{StringTriple}
use Rattle.hdt_build.specs.Graph.{IsEncodedGraph}
use Rattle.hdt_build.specs.Header.{length_property}

-- the head of a file: global control information without properties, that of the header with the length of the header
-- body, and the body
unfoldable pub canonical_head : List ℕ → List ℕ
canonical_head header = control kinds.Global [] ++ (control kinds.Header (length_property (length header)) ++ header)

-- the bytes of a file: the head, the dictionary with b strings a block, and the ID triples
unfoldable pub canonical_file : List ℕ → ℕ → SectionLists → List Triple → List ℕ
canonical_file header b d ts = canonical_head header ++ (canonical_dictionary b d ++ canonical_triples ts)

-- The bytes are the canonical file of a header body, a non-empty set of string triples, and a block size. The set is
-- given as a list in any order, with duplicates.
pub record IsCanonical (header : List ℕ) (graph : List StringTriple) (b : ℕ) (bytes : List ℕ) : Type 0 where
  pub dictionary : SectionLists
  pub triples : List Triple
  pub some : 0 < length graph
  pub form : IsEncodedGraph graph dictionary triples
  pub sections : AreSections dictionary
  pub bytes_are : bytes ≡ canonical_file header b dictionary triples

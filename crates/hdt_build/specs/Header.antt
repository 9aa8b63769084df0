-- The header of a file that is built (HDT submission, header): two triples in N-Triples.
use Rattle.std.specs.Prelude.{ℕ, List, ◌∷◌, ◌++◌, codes}
use Rattle.std.specs.Fmt.{decimal}

-- <BASE> <http://www.w3.org/1999/02/22-rdf-syntax-ns#type> <http://purl.org/HDT/hdt#Dataset> .
unfoldable pub type_line : List ℕ → List ℕ
type_line base = 60 ∷ (base
    ++ codes "> <http://www.w3.org/1999/02/22-rdf-syntax-ns#type> <http://purl.org/HDT/hdt#Dataset> .\n")

-- <BASE> <http://rdfs.org/ns/void#triples> "COUNT" .
unfoldable pub count_line : List ℕ → ℕ → List ℕ
count_line base count = 60
    ∷ (base ++ (codes "> <http://rdfs.org/ns/void#triples> \"" ++ (decimal count ++ codes "\" .\n")))

-- the header body of a base IRI and a count of triples: the two lines
unfoldable pub header_body : List ℕ → ℕ → List ℕ
header_body base count = type_line base ++ count_line base count

-- the property text of a header body of n bytes
unfoldable pub length_property : ℕ → List ℕ
length_property n = codes "length=" ++ (decimal n ++ codes ";")

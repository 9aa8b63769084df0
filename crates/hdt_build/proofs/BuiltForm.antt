-- The file that is built from an encoded graph.
use Rattle.std.proofs.Common.{◌∷◌, get_or, ◌≡◌, ℕ, ◌<◌, ◌∙◌, List, [], length, ap, sym, subst, Result, Ok, Err}
use Rattle.std.specs.Prelude.{IfOk}
use Rattle.hdt_dict.specs.Dictionary.{SectionLists}
use Rattle.hdt_dict.specs.Laws.Split.{split_sections}
use Rattle.hdt_dict.specs.Writing.{AreSections}
use Rattle.hdt_triples.specs.TripleSequences.{Triple}
use Rattle.hdt_build.specs.declared.options.Options.{Options}
use Rattle.hdt_build.specs.declared.options.Report.{Report}
use Rattle.hdt_build.specs.Built.{report_of, IsCanonicalWithReport, IsBuilt}
use Rattle.hdt_build.specs.Canonical.{canonical_file}
use Rattle.hdt_file.specs.Denoted.{StringTriple}
use Rattle.hdt_build.specs.Graph.{IsEncodedGraph}
use Rattle.hdt_build.specs.Header.{header_body}
use Rattle.hdt_build.specs.Reading.{HasDictionaryStrings}

-- the sections of strings that are UTF-8 without zero bytes are valid in a dictionary
pub form_sections : (g : List StringTriple) (d : SectionLists) (ts : List Triple) → IsEncodedGraph g d ts
    → HasDictionaryStrings g → AreSections d
form_sections g d ts h t = split_sections _ _ _ d h.sections t.subjects_are t.predicates_are t.objects_are

-- an encoded graph gives the canonical file of the graph, and its report
pub made_of : (g : List StringTriple) (d : SectionLists) (ts : List Triple) (header : List ℕ) (b : ℕ) (bytes : List ℕ)
    (report : Report)
    → 0 < length g → AreSections d → IsEncodedGraph g d ts → bytes ≡ canonical_file header b d ts
    → report ≡ report_of d ts bytes → IsCanonicalWithReport header g b bytes report
made_of g d ts header b bytes report some valid form file report_is = record {
  file = record {
    dictionary = d;
    triples = ts;
    some = some;
    form = form;
    sections = valid;
    bytes_are = file;
  };
  report_is = report_is;
}

-- the report of these section lengths, the number of triples and the length of the file
pub report_of_lens : (lens : List ℕ) (d : SectionLists) (ts : List Triple) (bytes : List ℕ) (n m : ℕ)
    → lens ≡ length d.shared ∷ length d.subjects ∷ length d.predicates ∷ length d.objects ∷ [] → n ≡ length ts
    → m ≡ length bytes
    → let report_is : Report =
    record {
      triples = n;
      shared = get_or lens 0 0;
      subjects = get_or lens 1 0;
      predicates = get_or lens 2 0;
      objects = get_or lens 3 0;
      bytes = m;
    } in report_is ≡ report_of d ts bytes
unfolding report_of
report_of_lens lens d ts bytes n m is count long =
    λ i. record {
      triples = count i;
      shared = get_or (is i) 0 0;
      subjects = get_or (is i) 1 0;
      predicates =
          get_or (is i) 2 0;
      objects = get_or (is i) 3 0;
      bytes = long i;
    }

-- the header body has the number of triples of the report
pub all_built : {V E : Type 0} (items : V
    → List ℕ) (r : Result (V × Report) E) (options : Options) (g : List StringTriple) (d : SectionLists)
    (ts : List Triple) (header : List ℕ)
    → 0 < length g → AreSections d → IsEncodedGraph g d ts
    → header ≡ header_body options.base.items (length ts)
    → IfOk r (λ made. items made.0 ≡ canonical_file header options.block_size d ts)
    → IfOk r (λ made. made.1 ≡ report_of d ts (items made.0))
    → IfOk r (λ made. IsBuilt options g (items made.0) made.1)
unfolding report_of
all_built items (Ok made) options g d ts header some valid form head file report_is =
    let count : length ts ≡ made.1.triples = sym (ap (λ (r : Report). r.triples) report_is) in
    subst (λ (h : List ℕ). IsCanonicalWithReport h g options.block_size (items made.0) made.1) (head
    ∙ ap (header_body options.base.items) count)
    (made_of g d ts header options.block_size (items made.0) made.1 some valid form file report_is)
all_built items (Err e) options g d ts header some valid form head file report_is = tt

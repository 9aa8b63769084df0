-- Merging files.
use Rattle.std.proofs.Common.{◌≡◌, ◌∙◌, ℕ, List, [], ◌∷◌, ◌++◌, ap, sym, subst}
use Rattle.std.specs.List.{flat_map}
use Rattle.std.proofs.lemmas.Grind.{flat_map-append}
use Rattle.std.proofs.lemmas.List.{append-nil}
use Rattle.std.proofs.lemmas.List.Folds.{flat_map-map}
use Rattle.hdt_dict.specs.Strings.{SameMembers}
use Rattle.hdt_file.specs.Denoted.{StringTriple}
use Rattle.hdt_file.specs.File.{GraphParts, IsLayout}
use Rattle.hdt_terms.specs.declared.triple.Term.{Term}
use Rattle.hdt_terms.specs.Grammar.{Encodes}
use Rattle.hdt_terms.specs.Terms.{IsGrammarTerm}
use Rattle.hdt_build.specs.declared.options.Options.{Options}
use Rattle.hdt_build.specs.declared.options.Report.{Report}
use Rattle.hdt_build.specs.Built.{BuiltGraph, IsBuilt, IsRewritten, graphs_of, joined_triples}
use Rattle.hdt_build.specs.Canonical.{IsCanonical}
use Rattle.hdt_build.specs.Header.{header_body}
use Rattle.hdt_build.specs.Documents.{BuiltDocument, prefixed_documents, prefixed_graphs, prefixed_strings}
use Rattle.hdt_build.specs.Layouts.{denoted_by, union_apart, union_of}
use Rattle.hdt_build.specs.Relabelling.{relabelled_triple, relabelled_triples}
use Rattle.hdt_build.proofs.Equal.{one_file, same_bytes}
use Rattle.hdt_build.proofs.RelabelledTerms.{document_relabelled}
use Rattle.hdt_build.proofs.RewrittenFiles.{built_layout}
use Rattle.hdt_build.proofs.Unions.{same_if_equal, same_joined, same_mapped, same_same, same_union, same_unions}

-- a file that was built has the triples that it was built from
module _ (one : (f : BuiltGraph) (g : GraphParts) → IsLayout f.bytes g → f.graph ≡ g) where
  built_members : (f : BuiltGraph) → SameMembers (denoted_by f.graph) f.triples
  built_members f =
      let layout = built_layout f.options f.triples f.bytes f.report f.right f.built f.small f.few in
      subst (λ (g : GraphParts). SameMembers (denoted_by g) f.triples) (sym (one f layout.parts layout.layout))
      layout.exactly

  pub merged_is_built : (options : Options) (files : List BuiltGraph) (x y : List ℕ) (r s : Report)
      → IsBuilt options (union_of (graphs_of files)) x r → IsBuilt options (joined_triples files) y s → x ≡ y
  merged_is_built options files x y r s p q =
      same_bytes options (union_of (graphs_of files)) (joined_triples files) x y r s
      (same_same (union_of (graphs_of files)) (flat_map (λ (f : BuiltGraph). denoted_by f.graph) files)
      (joined_triples files)
      (same_if_equal (union_of (graphs_of files)) (flat_map (λ (f : BuiltGraph). denoted_by f.graph) files)
      (flat_map-map denoted_by (λ (f : BuiltGraph). f.graph) files))
      (same_unions (λ (f : BuiltGraph). denoted_by f.graph) (λ (f : BuiltGraph). f.triples) files built_members)) p q

  -- with a prefix for the labels of each
  module _ (grammar : (text : List ℕ) (term : Term) → Encodes text term → IsGrammarTerm term) where
    prefixed_members : (d : BuiltDocument)
        → SameMembers (relabelled_triples d.prefix (denoted_by d.file.graph)) (prefixed_strings d.prefix d.triples)
    prefixed_members d =
        subst (SameMembers (relabelled_triples d.prefix (denoted_by d.file.graph)))
        (ap (relabelled_triples d.prefix) d.strings
        ∙ document_relabelled grammar d.prefix d.bytes d.triples d.document)
        (same_mapped (relabelled_triple d.prefix) (denoted_by d.file.graph) d.file.triples (built_members d.file))

    pub merged_apart : (options : Options) (ds : List BuiltDocument) (x y : List ℕ) (r s : Report)
        → IsBuilt options (union_apart (prefixed_graphs ds)) x r → IsBuilt options (prefixed_documents ds) y s → x ≡ y
    merged_apart options ds x y r s p q =
        let graph : BuiltDocument → List StringTriple =
        λ d. relabelled_triples d.prefix (denoted_by d.file.graph) in
        same_bytes options (union_apart (prefixed_graphs ds)) (prefixed_documents ds) x y r s
        (same_same (union_apart (prefixed_graphs ds)) (flat_map graph ds) (prefixed_documents ds)
        (same_if_equal (union_apart (prefixed_graphs ds)) (flat_map graph ds)
        (flat_map-map (λ (g : List ℕ × GraphParts). relabelled_triples g.0 (denoted_by g.1))
        (λ (d : BuiltDocument). (d.prefix, d.file.graph)) ds))
        (same_unions graph (λ (d : BuiltDocument). prefixed_strings d.prefix d.triples) ds prefixed_members)) p q

  pub merged_again : (options : Options) (file : BuiltGraph) (inputs others : List GraphParts) (x y : List ℕ)
      (r s : Report) → file.triples ≡ union_of inputs → IsBuilt options (union_of (file.graph ∷ others)) x r
      → IsBuilt options (union_of (inputs ++ others)) y s → x ≡ y
  merged_again options file inputs others x y r s is p q =
      same_bytes options (union_of (file.graph ∷ others)) (union_of (inputs ++ others)) x y r s
      (same_same (union_of (file.graph ∷ others)) (union_of inputs ++ union_of others) (union_of (inputs ++ others))
      (same_joined (denoted_by file.graph) (union_of inputs) (union_of others)
      (subst (SameMembers (denoted_by file.graph)) is (built_members file)))
      (same_if_equal (union_of inputs ++ union_of others) (union_of (inputs ++ others))
      (sym (flat_map-append denoted_by inputs others)))) p q

pub merged_in_any_order : (options : Options) (gs hs : List GraphParts) (x y : List ℕ) (r s : Report)
    → SameMembers gs hs → IsBuilt options (union_of gs) x r → IsBuilt options (union_of hs) y s → x ≡ y
merged_in_any_order options gs hs x y r s same p q =
    same_bytes options (union_of gs) (union_of hs) x y r s (same_union denoted_by gs hs same) p q

pub merged_alone : (options : Options) (g : GraphParts) (x y : List ℕ) (r s : Report)
    → IsBuilt options (union_of (g ∷ [])) x r → IsRewritten options.block_size g y s
    → g.header ≡ header_body options.base.items r.triples → x ≡ y
merged_alone options g x y r s p q header =
    let file : IsCanonical (header_body options.base.items r.triples) (denoted_by g) options.block_size y =
    subst (λ (head : List ℕ). IsCanonical head (denoted_by g) options.block_size y) header q.file in
    one_file (header_body options.base.items r.triples) (union_of (g ∷ [])) (denoted_by g) options.block_size x y
    (same_if_equal (union_of (g ∷ [])) (denoted_by g) (append-nil (denoted_by g))) p.file file

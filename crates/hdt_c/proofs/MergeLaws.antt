-- Arrays of handles.
use Rattle.std.proofs.Common.{◌≡◌, ◌∙◌, ℕ, ◌+◌, ◌<◌, Bool, true, false, List, [], ◌++◌, length, get_or, set, take}
use Rattle.std.proofs.Common.{ap, arith, sym}
use Rattle.std.specs.Prelude.{Option}
use Rattle.std.specs.List.{All}
use Rattle.std.proofs.Math.Seq.{map-set_same}
use Rattle.std.proofs.lemmas.List.{flat_map_more, get_or-map, length-map, length-take-le, take_more}
use Rattle.std.proofs.lemmas.List.Elements.{All-get_or}
use Rattle.hdt_file.specs.Denoted.{StringTriple}
use Rattle.hdt_file.specs.declared.graph.Graph.{Graph}
use Rattle.hdt_build.specs.Relabelling.{relabelled_triples}
use Rattle.hdt_build.proofs.Relabelled.{unrelabelled_triples}
use Rattle.hdt_c.specs.Handle.{IsOpen, SameGraph}
use Rattle.hdt_c.specs.Inside.ResourceKind.{graph_of}
use Rattle.hdt_c.specs.Merging.{SameGraphs, content, graph_prefix, merged_triples, triples_apart, triples_apart_of}
use Rattle.hdt_c.specs.Merging.{triples_in, triples_of_graph}
use Rattle.hdt_c.proofs.GraphPrefixes.{apart_more}
use Rattle.hdt_c.specs.declared.handle.HdtGraph.{HdtGraph}

-- the contents of two handles with the same graph
same_content : (old new : HdtGraph) → SameGraph old new → content new ≡ content old
same_content old new same = let a = same.0 in let b = same.1 in cc

-- the triples of the graph of a handle
abbrev graph_triples : HdtGraph → List StringTriple
graph_triples h = triples_of_graph (graph_of h.resource.value)

-- those of one more handle
one_more : (apart : Bool) (i : ℕ) (hs : List HdtGraph) (d : HdtGraph) → i < length hs
    → merged_triples apart (take i hs) ++ relabelled_triples (graph_prefix apart i) (graph_triples (get_or hs i d))
    ≡ merged_triples apart (take (i + 1) hs)
one_more true i hs d lt =
    let number : i ≡ 0 + length (take i hs) = omega (arith, lt, length-take-le i hs (omega (arith, lt))) in
    ap (λ (k : ℕ). triples_apart 0 (take i hs) ++ triples_apart_of k (get_or hs i d)) number
    ∙ (apart_more 0 (take i hs) (get_or hs i d)
    ∙ ap (λ (xs : List HdtGraph). triples_apart 0 xs) (sym (take_more hs i d lt)))
one_more false i hs d lt =
    ap (λ (ts : List StringTriple). triples_in (take i hs) ++ ts) (unrelabelled_triples (graph_triples (get_or hs i d)))
    ∙ (flat_map_more (λ (h : HdtGraph). graph_triples h) [] (take i hs) (get_or hs i d)
    ∙ ap (λ (xs : List HdtGraph). triples_in xs) (sym (take_more hs i d lt)))

module _ (old new : List HdtGraph) (i : ℕ) (d : HdtGraph) (same : SameGraphs old new) (lt : i < length new) where
  -- as many handles as before
  within : i < length old
  within = omega (
    arith,
    lt,
    length-map new content,
    length-map old content,
    ap (λ (cs : List (ℕ × Option Graph)). length cs) same,
  )

  -- a handle has the state and the graph that it had before
  same_at : content (get_or new i d) ≡ content (get_or old i d)
  same_at =
      sym (get_or-map content new i d (content d) lt)
      ∙ (ap (λ (cs : List (ℕ × Option Graph)). get_or cs i (content d)) same
      ∙ get_or-map content old i d (content d) within)

  -- the handle is open, as before
  pub open_at : All IsOpen old → IsOpen (get_or new i d)
  open_at all = ap (λ (c : ℕ × Option Graph). c.0) same_at ∙ All-get_or IsOpen old i d within all

  -- the handles after one was used
  pub same_after : (y : HdtGraph) → SameGraph (get_or new i d) y → SameGraphs old (set new i y)
  same_after y kept = map-set_same content new i y d (same_content (get_or new i d) y kept) ∙ same

  -- the triples of one more graph
  pub triples_more : (apart : Bool) (ts : List StringTriple) (prefix : List ℕ) → prefix ≡ graph_prefix apart i
      → ts ≡ merged_triples apart (take i old)
      → ts ++ relabelled_triples prefix (graph_triples (get_or new i d)) ≡ merged_triples apart (take (i + 1) old)
  triples_more apart ts prefix given is =
      let before : List StringTriple = merged_triples apart (take i old) in
      let one : graph_triples (get_or new i d) ≡ graph_triples (get_or old i d) =
      ap (λ (c : ℕ × Option Graph). triples_of_graph c.1) same_at in
      ap (λ (us : List StringTriple). us ++ relabelled_triples prefix (graph_triples (get_or new i d))) is
      ∙ (ap (λ (p : List ℕ). before ++ relabelled_triples p (graph_triples (get_or new i d))) given
      ∙ (ap (λ (us : List StringTriple). before ++ relabelled_triples (graph_prefix apart i) us) one
      ∙ one_more apart i old d within))

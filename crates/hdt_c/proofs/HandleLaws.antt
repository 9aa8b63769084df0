-- Lemmas about options and handles.
use Rattle.std.proofs.Common.{◌≡◌}
use mathlib.Core.Path.{◌∙◌}
use Rattle.std.specs.Prelude.{ℕ, List, Option, Some, None, MatchOption}
use Rattle.hdt_file.specs.declared.graph.Graph.{Graph}
use Rattle.hdt_c.specs.declared.handle.HdtGraph.{HdtGraph}
use Rattle.hdt_c.specs.declared.handle.Resource.{Resource}
use Rattle.hdt_c.specs.Handle.{IsOpened, SameGraph}
use Rattle.hdt_c.specs.Inside.ResourceKind.{graph_of}

-- what is true of None
pub of_none : {T : Type 0} (made : Option T) (A : Type 0) (P : T → Type 0) → made ≡ None → MatchOption made A P → A
of_none None A P e h = h
of_none (Some x) A P e h = absurd (cc)

-- a handle has one graph
pub same_graph : (resource : Option Resource) (taken : Resource) (r g : Graph) → resource ≡ Some taken
    → graph_of (Some taken) ≡ Some r → graph_of resource ≡ Some g → r ≡ g
same_graph resource taken r g a b e = cc

-- another handle of an opened graph is opened, too
pub shared_is_opened : (bytes : List ℕ) (old new : HdtGraph) → SameGraph old new → IsOpened bytes old
    → IsOpened bytes new
shared_is_opened bytes old new same opened = record {
  graph = opened.graph;
  resource = (same.0 ∙ opened.resource.0, same.1 ∙ opened.resource.1);
  is = opened.is;
}

use Rattle.std.proofs.Common.{◌≡◌, ℕ, ◌<◌, length, get_or}
use Rattle.hdt_wire.specs.declared.Role.TheVariants.{Object}
use Rattle.hdt_file.specs.Graph.{graph_view}
use Rattle.hdt_build.proofs.sections.object_ids.Given as goal
use Rattle.hdt_dict.specs.Dictionary.{role_strings}

abbrev pub invariant-loop-index : goal.invariant-loop-index
invariant-loop-index l = record {
  long : length l.made.items ≡ length (role_strings (graph_view l.graph).dictionary Object);
  done : (k : ℕ) → k < l.index → get_or l.made.items k 0 ≡ get_or l.subjects k 0;
}

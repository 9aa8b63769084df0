use Rattle.std.proofs.Common.{◌≡◌, ◌++◌}
use Rattle.hdt_build.proofs.batch_encoding.finished_lists.Given as goal

abbrev pub invariant-loop-list : goal.invariant-loop-list
invariant-loop-list g l = g.S.Scratch.IsKnown → l.made.items ++ l.list-iterator.rest.items ≡ l.fn.lists.items

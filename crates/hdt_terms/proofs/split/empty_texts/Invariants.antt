use Rattle.std.proofs.Common.{◌≡◌, ◌-◌, ◌≤◌, [], length, map, replicate}
use Rattle.hdt_terms.proofs.split.empty_texts.Given as goal

abbrev pub invariant-parts : goal.invariant-parts
invariant-parts l = record {
  within : length l.texts.items ≤ l.parts;
  empty : map (λ text. text.items) l.texts.items ≡ replicate (length l.texts.items) [];
}

abbrev pub decreases-parts : goal.decreases-parts
decreases-parts l = l.parts - length l.texts.items

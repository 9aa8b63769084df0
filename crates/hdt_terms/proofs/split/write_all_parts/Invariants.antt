use Rattle.std.proofs.Common.{◌≡◌, ◌-◌, ◌<◌, ◌≤◌, ℕ, [], get_or, length, map}
use Rattle.hdt_wire.specs.Counted.{inner, failures}
use Rattle.hdt_terms.specs.Split.{EachGainsAllBut}
use Rattle.hdt_terms.proofs.split.write_all_parts.Given as goal

-- The parts before this one have nothing pending.
abbrev pub invariant-parts : goal.invariant-parts
invariant-parts g l = record {
  gains : EachGainsAllBut (map (λ out. g.W.Write.contents (inner out)) l.fn.outs)
      (map (λ out. g.W.Write.contents (inner out)) l.outs)
      (λ part. get_or (map (λ text. text.items) l.fn.pending) part []) (map (λ text. text.items) l.pending);
  empty : (part : ℕ) → part < l.at → get_or (map (λ text. text.items) l.pending) part [] ≡ [];
  at : l.at ≤ length l.fn.outs;
  outs : length l.outs ≡ length l.fn.outs;
  pending : length l.pending ≡ length l.fn.outs;
  well : map failures l.outs ≡ map failures l.fn.outs;
}

abbrev pub decreases-parts : goal.decreases-parts
decreases-parts g l = length l.fn.outs - l.at

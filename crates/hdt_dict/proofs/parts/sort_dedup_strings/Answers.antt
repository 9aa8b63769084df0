use Rattle.std.proofs.lemmas.List.Filters.{dedup_is}
use Rattle.hdt_dict.proofs.BorrowedStrings.{ascending_dedup, same_dedup}
use Rattle.hdt_dict.proofs.parts.sort_dedup_strings.Goals as goal

pub returns-clause-ascending : goal.returns-clause-ascending
returns-clause-ascending c =
    rw (dedup_is _ _ _ c.dedup.ensures.filtered) (ascending_dedup _ c.sort_unstable.ensures.sorted)

pub returns-clause-same : goal.returns-clause-same
returns-clause-same c =
    rw (
      dedup_is _ _ _ c.dedup.ensures.filtered,
      ← c.in_ok-made.ensures,
    ) (same_dedup _ _ c.sort_unstable.ensures.permutation)

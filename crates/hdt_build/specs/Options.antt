-- Valid options.
use Rattle.std.specs.Prelude.{ℕ, ◌≤◌}
use Rattle.hdt_terms.specs.Terms.{IsIri}
use Rattle.hdt_build.specs.declared.options.Options.{Options}

-- a valid block size: 1 to 65,535
abbrev pub IsBlockSize : ℕ → Type 0
IsBlockSize b = (1 ≤ b) × (b ≤ 65535)

-- The block size is 1 to 65,535, and the base is an absolute IRI without characters that IRIs exclude.
pub record AreValidOptions (o : Options) : Type 0 where
  pub block_size : IsBlockSize o.block_size
  pub base : IsIri o.base.items

-- Options that are given by a base IRI and a block size.
use mathlib.Core.Path.{subst, sym, ◌∙◌}
use Rattle.std.specs.Prelude.{ℕ, List}
use Rattle.hdt_terms.specs.Terms.{IsIri}
use Rattle.hdt_build.specs.Options.{AreValidOptions, IsBlockSize}
use Rattle.hdt_build.specs.declared.options.Options.{Options}
use Rattle.hdt_c.specs.Building.{AreGivenOptions, AreInvalidOptions}

-- options are valid if others with the same base and block size are
pub valid_for : (base : List ℕ) (b : ℕ) (options other : Options) → AreGivenOptions base b options
    → AreGivenOptions base b other → AreValidOptions options → AreValidOptions other
valid_for base b options other given same valid = record {
  block_size = subst IsBlockSize (given.size_is ∙ sym same.size_is) valid.block_size;
  base = subst IsIri (given.base_is ∙ sym same.base_is) valid.base;
}

-- the options are valid, unless it is proved that they are not
pub not_invalid : (base : List ℕ) (b : ℕ) (options : Options) → AreGivenOptions base b options
    → ((AreValidOptions options → ⊥) → ⊥) → AreInvalidOptions base b → ⊥
not_invalid base b options given right invalid =
    right (λ valid. invalid.bad (valid_for base b options invalid.options given invalid.given valid))

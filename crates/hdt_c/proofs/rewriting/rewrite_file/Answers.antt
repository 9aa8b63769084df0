-- The block size is valid, or it is not and the options are not.
use mathlib.Core.Path.{ap, ◌∙◌}
use Rattle.std.proofs.Common.{inl, inr, arith}
use Rattle.std.proofs.lemmas.Bool.{cases_lt}
use Rattle.std.specs.Prelude.{◌≡◌, ◌≤◌, ◌<◌, ◌⊎◌, ℕ, Result, Ok, Err}
use Rattle.hdt_file.specs.Graph.{graph_view}
use Rattle.hdt_build.specs.Options.{IsBlockSize}
use Rattle.hdt_build.specs.declared.fault.RewriteFault.TheVariants.{BadOptions}
use Rattle.hdt_c.proofs.rewriting.rewrite_file.Goals as goal

-- a bound that is not refuted holds
stable_le : (a b : ℕ) → ((a ≤ b → ⊥) → ⊥) → (b < a) ⊎ (a ≤ b) → a ≤ b
stable_le a b stable (inl gt) = absurd (stable (λ le. omega (arith, gt, le)))
stable_le a b stable (inr le) = le

-- a block size that is not refuted is valid
stable_size : (b : ℕ) → ((IsBlockSize b → ⊥) → ⊥) → IsBlockSize b
stable_size b stable = (
  stable_le 1 b (λ no. stable (λ is. no is.0)) (cases_lt b 1),
  stable_le b 65535 (λ no. stable (λ is. no is.1)) (cases_lt 65535 b),
)

-- a success is no error
no_err : {A E : Type 0} (r : Result A E) (x : A) (e : E) → r ≡ Ok x → r ≡ Err e → ⊥
no_err r x e a b = cc

pub returns-in-Err-BadOptions-clause-err : goal.returns-in-Err-BadOptions-clause-err
returns-in-Err-BadOptions-clause-err c =
    inr (inl (record {
      graph = graph_view c.in-Ok.graph;
      layout = c.in-Ok.ensures.found;
      bad = (c.rewrite_bytes.ensures.bad).0 (c.in-Err-BadOptions.is ∙ ap Err c.in-Err-BadOptions.field-0-is);
      is_reported = c.verdict_for.ensures;
    }))

pub returns-in-Ok-rewrite_bytes-clause-ok : goal.returns-in-Ok-rewrite_bytes-clause-ok
returns-in-Ok-rewrite_bytes-clause-ok c = record {
  graph = graph_view c.in-Ok.graph;
  layout = c.in-Ok.ensures.found;
  right =
      stable_size c.args.block_size
      (λ no. no_err c.rewrite_bytes.result c.in-Ok-rewrite_bytes.made BadOptions c.in-Ok-rewrite_bytes.is
      ((c.rewrite_bytes.ensures.bad).1 no));
  is = c.in-Ok-rewrite_bytes.ensures.made;
}

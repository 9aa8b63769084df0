-- The options are not invalid, or they are and no file is made.
use mathlib.Core.Path.{ap, refl, subst, ◌∙◌}
use Rattle.std.proofs.Common.{inl, inr}
use Rattle.std.specs.Prelude.{◌≡◌, List, Result, Ok, Err}
use Rattle.hdt_build.specs.Built.{IsBuilt}
use Rattle.hdt_build.specs.declared.fault.MergeFault.TheVariants.{BadOptions}
use Rattle.hdt_build.specs.declared.options.Options.{Options}
use Rattle.hdt_file.specs.Denoted.{StringTriple}
use Rattle.hdt_c.specs.Building.{AreGivenOptions}
use Rattle.hdt_c.proofs.OptionLaws.{not_invalid}
use Rattle.hdt_c.proofs.merging.merge_file.Goals as goal

-- a success is no error
no_err : {A E : Type 0} (r : Result A E) (x : A) (e : E) → r ≡ Ok x → r ≡ Err e → ⊥
no_err r x e a b = cc

pub returns-in-Ok-finish-clause-ok : goal.returns-in-Ok-finish-clause-ok
returns-in-Ok-finish-clause-ok c =
    let options : Options = record { block_size = c.args.block_size; base = c.in-Ok-from_slice.base } in
    let given : AreGivenOptions c.args.base.now c.args.block_size options =
    record { base_is = c.in-Ok-from_slice.ensures.items; size_is = refl } in
    record {
      options = options;
      given = given;
      right =
          not_invalid c.args.base.now c.args.block_size options given
          (λ no. no_err c.finish.result c.in-Ok-finish.made BadOptions c.in-Ok-finish.is (c.finish.ensures.bad.1 no));
      built = subst (λ (ts : List StringTriple). IsBuilt options ts c.in-Ok-finish.made.0.items c.in-Ok-finish.made.1)
          c.in-Ok.ensures.added c.in-Ok-finish.ensures.made;
    }

pub returns-in-Err-BadOptions-clause-err : goal.returns-in-Err-BadOptions-clause-err
returns-in-Err-BadOptions-clause-err c =
    inr (inl (
      refl,
      record {
        options = record { block_size = c.args.block_size; base = c.in-Ok-from_slice.base };
        given = record { base_is = c.in-Ok-from_slice.ensures.items; size_is = refl };
        bad = c.finish.ensures.bad.0 (c.in-Err-BadOptions.is ∙ ap Err c.in-Err-BadOptions.field-0-is);
      },
    ))

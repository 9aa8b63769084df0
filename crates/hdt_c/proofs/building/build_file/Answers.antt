-- The reader of a slice gives the bytes of the slice.
use mathlib.Core.Path.{refl, ap, sym, subst, ◌∙◌}
use mathlib.Core.Bool.{true≢false}
use Rattle.std.specs.Prelude.{◌≡◌, ◌≢◌, ℕ, Bool, true, false, List, Option, Some, Result, Err}
use Rattle.hdt_wire.specs.Counted.{inner}
use Rattle.hdt_dict.specs.Strings.{BorrowedString}
use Rattle.hdt_build.specs.Built.{Builds}
use Rattle.hdt_build.specs.Options.{AreValidOptions}
use Rattle.hdt_build.specs.Reading.{IsBuildFaultOf}
use Rattle.hdt_build.specs.declared.fault.BuildFault.{BuildFault}
use Rattle.hdt_build.specs.declared.fault.BuildFault.TheVariants.{Line, NoTriples, BadOptions, OutOfMemory, Write}
use Rattle.hdt_build.specs.declared.options.Options.{Options}
use Rattle.hdt_c.specs.Building.{AreGivenOptions, HasBuildFault}
use Rattle.hdt_c.proofs.OptionLaws.{not_invalid}
use Rattle.hdt_c.proofs.building.build_file.Goals as goal

is_bad : BuildFault → Bool
is_bad (Line fault) = false
is_bad NoTriples = false
is_bad BadOptions = true
is_bad OutOfMemory = false
is_bad (Write n) = false

-- an error of a result is its only one
err_is : {A : Type 0} (r : Result A BuildFault) (e f : BuildFault) → r ≡ Err e → r ≡ Err f → e ≡ f
err_is r e f a b = cc

-- the error that is returned is in the options or in the text
has_fault : (text base : List ℕ) (b : ℕ) (options : Options) → AreGivenOptions base b options
    → (after : Option (List ℕ)) (fault : BuildFault)
    → (fault ≡ BadOptions → AreValidOptions options → ⊥) → (fault ≢ BadOptions → (AreValidOptions options → ⊥) → ⊥)
    → (fault ≢ BadOptions → IsBuildFaultOf (Some text) after fault)
    → HasBuildFault text base b fault
unfolding is_bad
has_fault text base b options given after (Line fault) bad right is_reported =
    let other : (Line fault) ≢ BadOptions = λ e. true≢false (sym (ap is_bad e)) in
    (not_invalid base b options given (right other), record { after = after; is_reported = is_reported other })
has_fault text base b options given after NoTriples bad right is_reported =
    let other : NoTriples ≢ BadOptions = λ e. true≢false (sym (ap is_bad e)) in
    (not_invalid base b options given (right other), record { after = after; is_reported = is_reported other })
has_fault text base b options given after BadOptions bad right is_reported =
    record { options = options; given = given; bad = bad refl }
has_fault text base b options given after OutOfMemory bad right is_reported = tt
has_fault text base b options given after (Write n) bad right is_reported =
    let other : (Write n) ≢ BadOptions = λ e. true≢false (sym (ap is_bad e)) in
    (not_invalid base b options given (right other), record { after = after; is_reported = is_reported other })

pub returns-in-Ok-clause-ok : goal.returns-in-Ok-clause-ok
returns-in-Ok-clause-ok c =
    let options : Options = record { block_size = c.args.block_size; base = c.in_ok-from_slice.field-0 } in
    record {
      options = options;
      given = record { base_is = c.in_ok-from_slice.ensures.items; size_is = refl };
      right = c.in-Ok.ensures.right;
      builds = subst (λ (input : Option (List ℕ)). Builds options input c.in-Ok.made.0.items c.in-Ok.made.1)
          (ap (λ (s : BorrowedString). Some s.now) c.new.ensures.inner) c.in-Ok.ensures.found;
    }

pub returns-clause-err : goal.returns-clause-err
returns-clause-err c =
    let options : Options = record { block_size = c.args.block_size; base = c.in_ok-from_slice.field-0 } in
    let after : Option (List ℕ) = Some (inner c.build_bytes.new.input).now in
    has_fault c.args.text.now c.args.base.now c.args.block_size options
    (record { base_is = c.in_ok-from_slice.ensures.items; size_is = refl }) after c.in-Err.fault
    (λ e. (c.build_bytes.ensures.bad).0 (c.in-Err.is ∙ ap Err e))
    (λ ne no. ne (err_is _ c.in-Err.fault BadOptions c.in-Err.is ((c.build_bytes.ensures.bad).1 no)))
    (λ ne. subst (λ (input : Option (List ℕ)). IsBuildFaultOf input after c.in-Err.fault)
    (ap (λ (s : BorrowedString). Some s.now) c.new.ensures.inner) (c.in-Err.ensures.fault ne))

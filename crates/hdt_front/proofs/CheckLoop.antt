-- The loop over the checks of strings.
use Rattle.std.proofs.Common.{◌≡◌, ℕ, suc, ◌+◌, ◌-◌, ◌<◌, List, [], Result, Ok, Err, sym, ap, ◌∙◌, arith}
use Rattle.hdt_wire.specs.declared.fault.Fault.{Fault}
use Rattle.hdt_wire.specs.Checks.{◌>>=◌}
use Rattle.hdt_front.specs.declared.section.ReadFault.{ReadFault}
use Rattle.hdt_front.specs.declared.section.ReadFault.TheVariants as faults
use Rattle.std.specs.Prelude.{IfSome}
use Rattle.hdt_front.specs.Faults.{read_fault_of}
use Rattle.hdt_front.specs.StringChecks.{BlockLayout, string_check, strings_check}

one_more : (n i : ℕ) → i < n → n - i ≡ suc (n - (i + 1))
one_more n i h = omega (arith, h)

pub prefix_then_suffix : (p : BlockLayout) (n i : ℕ) (before rest next after : List ℕ) (all : Result (Unit {0}) Fault)
    → i < n → string_check p i before rest ≡ Ok (next, after)
    → strings_check p (n - i) i before rest ≡ all → strings_check p (n - (i + 1)) (i + 1) next after ≡ all
unfolding strings_check
prefix_then_suffix p n i before rest next after all h one so_far =
    let e : strings_check p (n - i) i before rest ≡ strings_check p (n - (i + 1)) (i + 1) next after =
    ap (λ k. strings_check p k i before rest) (one_more n i h)
    ∙ ap (λ r. r >>= (λ x. strings_check p (n - (i + 1)) (i + 1) x.0 x.1)) one in
    sym e ∙ so_far

pub stops : (e : ReadFault) (p : BlockLayout) (n i : ℕ) (before rest : List ℕ) (all : Result (Unit {0}) Fault) → i < n
    → IfSome (read_fault_of e) (λ f. string_check p i before rest ≡ Err f)
    → strings_check p (n - i) i before rest ≡ all → IfSome (read_fault_of e) (λ f. all ≡ Err f)
unfolding strings_check
stops faults.OutOfMemory p n i before rest all h one so_far = tt
stops (faults.Fault f) p n i before rest all h one so_far =
    sym so_far ∙ ap (λ k. strings_check p k i before rest) (one_more n i h)
    ∙ ap (λ r. r >>= (λ x. strings_check p (n - (i + 1)) (i + 1) x.0 x.1)) one

pub at_end : (p : BlockLayout) (n i : ℕ) (before rest : List ℕ) (all : Result (Unit {0}) Fault) → i ≡ n
    → strings_check p (n - i) i before rest ≡ all → strings_check p 0 n [] rest ≡ all
unfolding strings_check
at_end p n i before rest all e so_far =
    let none : n - i ≡ 0 = omega (arith, e) in
    ap (λ k. strings_check p 0 k [] rest) (sym e) ∙ sym (ap (λ k. strings_check p k i before rest) none) ∙ so_far

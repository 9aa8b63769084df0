-- The exit status of a command line.
use Rattle.std.proofs.Common.{◌≡◌, ◌≤◌, ℕ, inl, inr}
use Rattle.std.specs.Prelude.{List, Result, Ok, Err, MatchResult, IfOk, IfErr}
use Rattle.clap.specs.Words.{Text}
use Rattle.hdt_tool.specs.declared.fault.UsageFault.{UsageFault}
use Rattle.hdt_tool.specs.declared.request.Invocation.{Invocation}
use Rattle.hdt_tool.specs.CommandLine.{IsRefused, ParsesToInvocation}
use Rattle.hdt_tool.specs.Status.{ExitsWith, IsRefusalStatus}
use Rattle.hdt_tool.proofs.Refusals.{parses_to_request}

-- The status of the invocation is one that the program may end with.
pub ends : {X E : Type 0} (texts : X → List Text) (words : Result X E) (asked : Result Invocation UsageFault)
    (status : ℕ) → IfOk asked (λ asked. MatchResult words (λ w. ParsesToInvocation (texts w) asked) (λ _. ⊥))
    → IfErr asked (λ fault. IfOk words (λ w. IsRefused (texts w) fault))
    → MatchResult asked (λ asked. status ≤ 4) (λ fault. IsRefusalStatus fault status)
    → IfOk words (λ w. ExitsWith (texts w) status)
ends texts (Ok w) (Ok asked) status wanted refused of =
    inl (record { request = asked.request; wanted = parses_to_request (texts w) asked wanted; ends = of })
ends texts (Ok w) (Err fault) status wanted refused of = inr (record { fault = fault; refused = refused; ends = of })
ends texts (Err e) asked status wanted refused of = tt

-- A request that was parsed was given.
pub was_given : {X E : Type 0} (texts : X → List Text) (words : Result X E) (asked : Result Invocation UsageFault)
    (invocation : Invocation) (Q : E → Type 0) → asked ≡ Ok invocation
    → IfOk asked (λ asked. MatchResult words (λ w. ParsesToInvocation (texts w) asked) (λ _. ⊥)) → IfErr words Q
was_given texts (Ok w) asked invocation Q is ok = tt
was_given texts (Err e) asked invocation Q is ok = absurd (rw is at ok)

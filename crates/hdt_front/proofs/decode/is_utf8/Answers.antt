use Rattle.std.proofs.Common.{◌≡◌, Bool, true, false, refl, sym}
use Rattle.std.specs.Str.{is_utf8}
use Rattle.std.proofs.lemmas.Str.{is_utf8-from_IsUtf8, IsUtf8-from_is_utf8, IsUtf8-from_ascii}
use Rattle.hdt_front.proofs.decode.is_utf8.Goals as goal

pub returns-in-Ok : goal.returns-in-Ok
returns-in-Ok c = sym (is_utf8-from_IsUtf8 c.args.bytes.now c.in-Ok.ensures.cases.1)

isnt : (b : Bool) → (b ≡ true → ⊥) → false ≡ b
isnt true h = absurd (h refl)
isnt false h = refl

pub returns-in-Err : goal.returns-in-Err
returns-in-Err c = isnt (is_utf8 c.args.bytes.now)
    (λ e. c.in-Err.ensures.cases.0 (IsUtf8-from_is_utf8 c.args.bytes.now e))

pub returns-then-is_ascii : goal.returns-then-is_ascii
returns-then-is_ascii c =
    sym (is_utf8-from_IsUtf8 c.args.bytes.now (IsUtf8-from_ascii c.args.bytes.now c.if-is_ascii.ensures.cases))

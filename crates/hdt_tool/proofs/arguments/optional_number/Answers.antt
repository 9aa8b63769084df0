use Rattle.std.proofs.Common.{◌≡◌, ℕ, Option, None, Some, Result, refl}
use Rattle.std.specs.Str.Parse.{ExplainsUnsignedError, HasUnsignedDigitsIfOk, ParsesUnsigned}
use Rattle.std.specs.declared.num.ParseIntError.{ParseIntError}
use Rattle.clap.specs.Words.{ReadsOne, Text, found_of}
use Rattle.clap.proofs.WalkLemmas.{one_text-rows}
use Rattle.hdt_tool.specs.CommandLine.{ParsesAsNumberOrNone}
use Rattle.hdt_tool.proofs.arguments.optional_number.Goals as goal

abbrev Gives : Text → Result ℕ ParseIntError → Type 0
Gives t r = ParsesUnsigned 64 10 t r × ExplainsUnsignedError 10 t r × HasUnsignedDigitsIfOk t r

read : (o : Option Text) (r : Option ℕ) → (o ≡ None → r ≡ None) → ((t : Text) → o ≡ Some t → ReadsOne Gives t r)
    → ParsesAsNumberOrNone o r
read None None none value = λ n s. s
read None (Some n) none value = let bad : Some n ≡ None = none refl in absurd cc
read (Some t) None none value = λ n s. (value t refl).1.0 (s.0, s.1)
read (Some t) (Some n) none value = let one = (value t refl).0 in (one.0.0, one.0.1, one.1)

pub returns : goal.returns
returns c = rw (← one_text-rows (found_of c.args.matches.now) c.args.id.now)
    (read _ c.get_one.result c.get_one.ensures.none c.get_one.ensures.value)

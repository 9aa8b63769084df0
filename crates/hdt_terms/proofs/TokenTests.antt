-- Tests of complete texts: a tag, a label, a UTF-8 text.
use Rattle.std.proofs.Common.{◌≡◌, ◌<◌, ◌≤◌, ℕ, Bool, true, false, eqb, inl, inr, List, [], length, take, Option, Some}
use Rattle.std.proofs.Common.{None, refl, sym, ap, subst, ◌∙◌, arith}
use Rattle.std.specs.Prelude.{IsUtf8, nat_eq, not, is_some, slice_index}
use Rattle.std.specs.Char.{is_ascii}
use Rattle.std.specs.List.{list_all}
use Rattle.std.specs.Option.{option_eq}
use Rattle.std.proofs.lemmas.Bool.{cases_eq, eq-eqb, eqb-true, ne_eqb}
use Rattle.std.proofs.lemmas.Bool.Decides.{nat_tests}
use Rattle.std.proofs.lemmas.List.Elements.{All-from_get_or}
use Rattle.std.proofs.lemmas.List.Folds.{list_all_at}
use Rattle.std.proofs.lemmas.List.Sums.{list_all-from_AllPass}
use Rattle.memchr.specs.Find.{IsFirstByte, is_byte}
use Rattle.std.specs.Str.{chars}
use Rattle.std.proofs.lemmas.List.{append-nil, take_all, get_or-take, length-take-le}
use Rattle.std.proofs.lemmas.Str.{chars-nil, IsUtf8-from_ascii}
use Rattle.hdt_terms.specs.Labels.{label_rest, label_bytes}
use Rattle.hdt_terms.specs.Tags.{tag_len}
use Rattle.hdt_terms.specs.Terms.{IsTag, IsLabel, IsText}
use Rattle.hdt_terms.specs.Inside.ByteRuns.{PassBetween, passes}
use Rattle.hdt_terms.specs.declared.byte_runs.ByteClass.TheVariants.{NonzeroAscii, AsciiNotLineEnd}
use Rattle.hdt_terms.specs.Chars.{is_line_end}
use Rattle.hdt_terms.proofs.LabelSoundness.{LabelSays, label_says, label_bytes-again}
use Rattle.hdt_terms.proofs.Bools.{and_second}
use Rattle.hdt_terms.proofs.LastQuotes.{class_other, is_other, none_there}
use Rattle.hdt_terms.proofs.StringTerms.{class_ascii}
use Rattle.hdt_terms.proofs.TagSoundness.{TagSays, tag_says, tag_len-again}

pub takes_all : (o : Option ℕ) (n : ℕ) → option_eq nat_eq o (Some n) ≡ true → o ≡ Some n
takes_all None n h = absurd cc
takes_all (Some m) n h = ap Some (eqb-true m n h)

pub taken_all : (o : Option ℕ) (n : ℕ) → o ≡ Some n → option_eq nat_eq o (Some n) ≡ true
taken_all o n e = rw e (eq-eqb n n refl)

-- a tag that has all bytes
pub tag_whole : (bytes : List ℕ) → tag_len bytes ≡ Some (length bytes) → IsTag bytes
tag_whole bytes h = subst IsTag (take_all (length bytes) bytes (omega arith)) (subst (TagSays bytes) h (tag_says bytes))

pub tag_taken : (bytes : List ℕ) → IsTag bytes → tag_len bytes ≡ Some (length bytes)
tag_taken bytes h = ap tag_len (sym (append-nil bytes))
    ∙ tag_len-again bytes [] h (record { letters = refl; part = refl })

-- a label that has all bytes
pub label_whole : (bytes : List ℕ) → IsUtf8 bytes → label_bytes (chars bytes) ≡ Some (length bytes) → IsLabel bytes
label_whole bytes utf8 h =
    subst IsLabel (take_all (length bytes) bytes (omega arith)) (subst (LabelSays bytes) h (label_says bytes utf8))

pub label_taken : (bytes : List ℕ) → IsLabel bytes → label_bytes (chars bytes) ≡ Some (length bytes)
label_taken bytes h = ap (λ (bs : List ℕ). label_bytes (chars bs)) (sym (append-nil bytes))
    ∙ label_bytes-again bytes [] h (ap label_rest chars-nil)

-- a search for U+0000 that finds none
pub no_zero : (bytes : List ℕ) (r : Option ℕ) → IsFirstByte (is_byte 0) bytes r → is_some r ≡ false
    → list_all (is_other 0) bytes ≡ true
no_zero bytes None h none = none_there 0 bytes h
no_zero bytes (Some k) h none = absurd cc

-- ---- runs of bytes of one class

all_true : (test : ℕ → Bool) (bytes : List ℕ) (n : ℕ) → length bytes ≤ n
    → ((k : ℕ) → k < n → test (slice_index bytes k) ≡ true) → list_all test bytes ≡ true
all_true test bytes n le run =
    list_all-from_AllPass test bytes (All-from_get_or (λ c. test c ≡ true) bytes 0 (λ i lt. run i (omega arith)))

-- if the bytes before n pass and the next one does not, then n is the length if and only if all pass
pub all_pass : (test : ℕ → Bool) (bytes : List ℕ) (n : ℕ) → n ≤ length bytes
    → ((k : ℕ) → k < n → test (slice_index bytes k) ≡ true)
    → (n < length bytes → test (slice_index bytes n) ≡ false) → nat_eq n (length bytes) ≡ list_all test bytes
all_pass test bytes n le run stop =
    elim (cases_eq n (length bytes)) [
      | inl same ↦ eq-eqb _ _ same ∙ sym (all_true test bytes n (omega arith) run)
      | inr less ↦ ne_eqb _ _ less ∙ sym (list_all_at test bytes n 0 (omega arith) (stop (omega arith)))
    ]

ascii_small : (c : ℕ) → passes NonzeroAscii c ≡ true → c < 128
ascii_small c h = let small = and_second (not (eqb c 0)) (is_ascii c) h in grind (arith, nat_tests, small)

line_small : (c : ℕ) → passes AsciiNotLineEnd c ≡ true → c < 128
line_small c h = let small = and_second (not (is_line_end c)) (is_ascii c) h in grind (arith, nat_tests, small)

pub line_utf8 : (bytes : List ℕ) (n : ℕ) → n ≤ length bytes → PassBetween (passes AsciiNotLineEnd) bytes 0 n
    → IsUtf8 (take n bytes)
line_utf8 bytes n le run =
    IsUtf8-from_ascii (take n bytes) (class_ascii (passes AsciiNotLineEnd) line_small (take n bytes)
    (all_true (passes AsciiNotLineEnd) (take n bytes) n (omega (arith, length-take-le n bytes le))
    (λ k lt. rw get_or-take (run k (omega arith) lt))))

pub all_ascii : (bytes : List ℕ) (n : ℕ) → n ≡ length bytes → PassBetween (passes NonzeroAscii) bytes 0 n → IsText bytes
all_ascii bytes n e run =
    let all = all_true (passes NonzeroAscii) bytes n (omega arith) (λ k lt. run k (omega arith) lt) in
    record {
      utf8 = IsUtf8-from_ascii bytes (class_ascii (passes NonzeroAscii) ascii_small bytes all);
      no_zero = class_other (passes NonzeroAscii) 0 bytes refl all;
    }

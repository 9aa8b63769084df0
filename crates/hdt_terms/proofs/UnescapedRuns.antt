-- Runs of bytes that may occur unescaped in a token.
use Rattle.std.proofs.Common.{◌≡◌, ℕ, zero, suc, ◌<◌, ◌≤◌, true, List, [], ◌∷◌, ◌++◌, length, get_or, take, drop, sym}
use Rattle.std.proofs.Common.{ap, ◌∙◌, append_assoc, arith}
use Rattle.hdt_terms.specs.declared.escaped_tokens.Token.{Token}
use Rattle.hdt_terms.specs.TermParsing.{prepend_parsed, token_content}
use Rattle.hdt_terms.specs.Grammar.{raw, is_unescaped}
use Rattle.hdt_terms.specs.Writing.{Extends}
use Rattle.hdt_terms.proofs.ContentReading.{Reading, regroup}
use Rattle.hdt_terms.proofs.ContentCompleteness.{piece_again}
use Rattle.hdt_terms.proofs.ContentErrorCompleteness.{front_none}

plain_taken : (token : Token) (n : ℕ) (bytes : List ℕ) → n ≤ length bytes
    → ((k : ℕ) → k < n → is_unescaped token (get_or bytes k 0) ≡ true)
    → token_content token 0 bytes ≡ prepend_parsed (take n bytes) (token_content token 0 (drop n bytes))
plain_taken token zero bytes le plain = front_none (token_content token 0 bytes)
plain_taken token (suc n) [] le plain = absurd (omega arith)
plain_taken token (suc n) (c ∷ rest) le plain =
    piece_again token (raw c) rest (plain 0 (omega arith))
    ∙ ap (λ (r : Reading). prepend_parsed (c ∷ []) r)
    (plain_taken token n rest (omega arith) (λ k lt. plain (suc k) (omega arith)))
    ∙ regroup (c ∷ []) (take n rest) (token_content token 0 (drop n rest))

-- a run at the front is read in one step
pub run_taken : (token : Token) (front : List ℕ) (n : ℕ) (bytes : List ℕ) → n ≤ length bytes
    → ((k : ℕ) → k < n → is_unescaped token (get_or bytes k 0) ≡ true)
    → prepend_parsed (front ++ take n bytes) (token_content token 0 (drop n bytes))
    ≡ prepend_parsed front (token_content token 0 bytes)
run_taken token front n bytes le plain =
    sym (ap (λ (r : Reading). prepend_parsed front r) (plain_taken token n bytes le plain)
    ∙ regroup front (take n bytes) (token_content token 0 (drop n bytes)))

pub longer : (xs ys ys' zs more : List ℕ) → Extends xs ys → ys' ≡ ys ++ more → Extends ys' zs → Extends xs zs
longer xs ys ys' zs more a e b = record {
  more = a.more ++ (more ++ b.more);
  whole = b.whole ∙ ap (λ l. l ++ b.more) (e ∙ ap (λ l. l ++ more) a.whole) ∙ simp append_assoc;
}

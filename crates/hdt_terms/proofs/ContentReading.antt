-- The loop that reads the content of a token, one item after another.
use Rattle.std.proofs.Common.{◌≡◌, ℕ, zero, suc, ◌≤◌, List, [], ◌∷◌, ◌++◌, length, drop, Result, Ok, Err, refl, sym, ap}
use Rattle.std.proofs.Common.{◌∙◌, append_assoc, arith}
use Rattle.std.specs.Prelude.{encode_utf8}
use Rattle.std.proofs.lemmas.List.{append-nil}
use Rattle.hdt_terms.proofs.Cases.{ok_is}
use Rattle.hdt_terms.specs.declared.fault.LineReason.TheVariants.{Syntax}
use Rattle.hdt_terms.specs.declared.fault.FailedCheck.{FailedCheck}
use Rattle.hdt_terms.specs.declared.fault.ParseError.{ParseError}
use Rattle.hdt_terms.specs.declared.fault.ParseError.TheVariants as errors
use Rattle.hdt_terms.specs.declared.escaped_tokens.TokenItem.{TokenItem}
use Rattle.hdt_terms.specs.declared.escaped_tokens.TokenItem.TheVariants.{End, Byte, Char}
use Rattle.hdt_terms.specs.declared.escaped_tokens.Token.{Token}
use Rattle.hdt_terms.specs.TermParsing.{◌>>=◌, Fails, stops, prepend_parsed, item, goes_on, skip_of, token_content}

abbrev pub Reading : Type 0
Reading = Result (List ℕ × List ℕ) FailedCheck

-- skipping the bytes of an item
pub token_content-skip : (token : Token) (k : ℕ) (bytes : List ℕ) → k ≤ length bytes
    → token_content token k bytes ≡ token_content token 0 (drop k bytes)
unfolding token_content
token_content-skip token zero bytes le = refl
token_content-skip token (suc k) [] le = absurd (omega arith)
token_content-skip token (suc k) (c ∷ bytes) le = token_content-skip token k bytes (omega arith)

pub regroup : (front xs : List ℕ) (read : Reading)
    → prepend_parsed front (prepend_parsed xs read) ≡ prepend_parsed (front ++ xs) read
regroup front xs (Ok x) = ap (λ (ys : List ℕ). Ok (ys, x.1)) (sym (append_assoc front xs x.0))
regroup front xs (Err f) = refl

pub front_ok : (front : List ℕ) (read : Result (List ℕ × List ℕ) FailedCheck) (value rest : List ℕ)
    → prepend_parsed front read ≡ Ok (value, rest) → (more : List ℕ) × (read ≡ Ok (more, rest))
    × (value ≡ front ++ more)
front_ok front (Ok y) value rest e =
    let both : (front ++ y.0, y.1) ≡ (value, rest) = ok_is _ _ e in (
      y.0,
      ap (λ (r : List ℕ). Ok (y.0, r)) (ap (λ (p : List ℕ × List ℕ). p.1) both),
      sym (ap (λ (p : List ℕ × List ℕ). p.0) both),
    )
front_ok front (Err f) value rest e = absurd cc

pub front_err : (front : List ℕ) (read : Result (List ℕ × List ℕ) FailedCheck) (s : FailedCheck)
    → prepend_parsed front read ≡ Err s → read ≡ Err s
front_err front (Ok x) s e = absurd cc
front_err front (Err t) s e = let same : t ≡ s = cc in ap Err same

-- the state before an item: what was read, and the remaining bytes
pub record At (token : Token) (front bytes tail : List ℕ) (c : ℕ) (total : Reading) : Type 0 where
  pub next : bytes ≡ c ∷ tail
  pub so_far : prepend_parsed front (token_content token 0 bytes) ≡ total

pub one_more : (token : Token) (front bytes tail : List ℕ) (c : ℕ) (total : Reading) (x : TokenItem)
    → At token front bytes tail c total → item token c tail ≡ Ok x
    → total ≡ prepend_parsed front (goes_on x tail (token_content token (skip_of x) tail))
unfolding token_content
one_more token front bytes tail c total x at h =
    sym at.so_far ∙ ap (λ (b : List ℕ). prepend_parsed front (token_content token 0 b)) at.next
    ∙ ap (λ (r : Result TokenItem FailedCheck). prepend_parsed front
    (r >>= λ x. goes_on x tail (token_content token (skip_of x) tail))) h

pub fails : (e : ParseError) (token : Token) (front bytes tail : List ℕ) (c : ℕ) (total : Reading)
    → At token front bytes tail c total → Fails e (item token c tail) → Fails e total
unfolding token_content
fails errors.OutOfMemory token front bytes tail c total at h = tt
fails (errors.Check f) token front bytes tail c total at h =
    sym at.so_far ∙ ap (λ (b : List ℕ). prepend_parsed front (token_content token 0 b)) at.next
    ∙ ap (λ (r : Result TokenItem FailedCheck). prepend_parsed front
    (r >>= λ x. goes_on x tail (token_content token (skip_of x) tail))) h

pub at_end : (token : Token) (front bytes tail : List ℕ) (c : ℕ) (total : Reading) → At token front bytes tail c total
    → item token c tail ≡ Ok End → total ≡ Ok (front, tail)
at_end token front bytes tail c total at h = one_more token front bytes tail c total End at h
    ∙ ap (λ (ys : List ℕ). Ok (ys, tail)) (append-nil front)

pub at_byte : (token : Token) (front bytes tail : List ℕ) (c b : ℕ) (total : Reading)
    → At token front bytes tail c total → item token c tail ≡ Ok (Byte b)
    → prepend_parsed (front ++ b ∷ []) (token_content token 0 tail) ≡ total
at_byte token front bytes tail c b total at h =
    sym (one_more token front bytes tail c total (Byte b) at h ∙ regroup front (b ∷ []) (token_content token 0 tail))

pub at_char : (token : Token) (front bytes tail : List ℕ) (c d k : ℕ) (total : Reading)
    → At token front bytes tail c total → item token c tail ≡ Ok (Char d k) → k ≤ length tail
    → prepend_parsed (front ++ encode_utf8 d) (token_content token 0 (drop k tail)) ≡ total
at_char token front bytes tail c d k total at h le =
    sym (one_more token front bytes tail c total (Char d k) at h
    ∙ regroup front (encode_utf8 d) (token_content token k tail)
    ∙ ap (λ (r : Reading). prepend_parsed (front ++ encode_utf8 d) r) (token_content-skip token k tail le))

pub at_nothing : (token : Token) (front bytes : List ℕ) (total : Reading) → length bytes ≡ 0
    → prepend_parsed front (token_content token 0 bytes) ≡ total → total ≡ stops Syntax []
unfolding token_content
at_nothing token front [] total e so_far = sym so_far
at_nothing token front (b ∷ bytes) total e so_far = absurd (omega arith)

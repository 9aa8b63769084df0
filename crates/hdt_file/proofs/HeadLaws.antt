-- The checks of the head, and of the dictionary after it, are exact: they return what is encoded at the start of the
-- file.
use Rattle.std.proofs.Common.{◌≡◌, ℕ, ◌^◌, ◌<◌, List, length, Option, Some, None, Ok, refl, sym, subst, arith}
use Rattle.std.specs.Prelude.{codes, IsSomeAnd}
use Rattle.std.specs.Option.{ok_or, option_and_then}
use Rattle.hdt_wire.specs.declared.fault.Fault.{Fault}
use Rattle.hdt_wire.specs.declared.control.Kind.TheVariants.{Global, Header}
use Rattle.hdt_wire.specs.Checks.{bytes_at, IsBytes}
use Rattle.hdt_wire.specs.Laws.Checks.{bind_ok, bytes_found, bytes_only}
use Rattle.hdt_wire.specs.Control.{control_at}
use Rattle.hdt_wire.specs.Exact.{Exactly}
use Rattle.hdt_wire.specs.Laws.Exact.{holds_of_ok, one_value}
use Rattle.hdt_wire.specs.Laws.ExactPrimitives.{control_exact}
use Rattle.hdt_wire.specs.Property.{property_value}
use Rattle.hdt_file.specs.Head.{IsDecimal, decimal_number, HeadParts, IsHead, StatesLength, body_length, decode_head}
use Rattle.hdt_file.proofs.DecimalLaws.{decimal_found, decimal_only}
use Rattle.hdt_dict.specs.Dictionary.{DictionaryParts, dictionary_at}
use Rattle.hdt_dict.specs.Laws.Dictionary.{dictionary_exact}
use Rattle.hdt_file.specs.Dictionary.{IsHeadAndDictionary, decode_head_and_dictionary}

-- ---- the length of the body

given : {A : Type 0} (o : Option A) (d : Fault) (y : A) → ok_or o d ≡ Ok y → o ≡ Some y
given None d y e = absurd cc
given (Some x) d y e = cc

states : (value : Option (List ℕ)) (d : Fault) (n : ℕ) → ok_or (option_and_then decimal_number value) d ≡ Ok n
    → IsSomeAnd value (λ text. IsDecimal text n)
states None d n e = absurd cc
states (Some text) d n e = (decimal_found text n (given (decimal_number text) d n e)).0

read_again : (value : Option (List ℕ)) (d : Fault) (n : ℕ) → n < 2 ^ 64 → IsSomeAnd value (λ text. IsDecimal text n)
    → ok_or (option_and_then decimal_number value) d ≡ Ok n
read_again None d n lt h = absurd h
read_again (Some text) d n lt h = rw (decimal_only text n lt h) refl

-- ---- the head

pub head_exact : (bytes : List ℕ) → IsBytes bytes → length bytes < 2 ^ 64
    → Exactly (decode_head bytes) (λ head. IsHead head bytes)
unfolding decode_head
head_exact bytes fits small = record {
  found = λ head e.
      bind_ok (control_at Global bytes 0) _ _ e (λ global e1 e.
      bind_ok (control_at Header bytes global.end) _ _ e (λ header e2 e.
      bind_ok (body_length header) _ _ e (λ count e3 e.
      bind_ok (bytes_at count bytes header.end) _ _ e (λ body e4 e.
      let b = bytes_found count bytes header.end body e4 in
      holds_of_ok (λ (h : HeadParts). IsHead h bytes) _ _ e (record {
        global = (control_exact Global bytes 0 fits).found global e1;
        header = (control_exact Header bytes global.end fits).found header e2;
        stated = subst (StatesLength header.properties) (sym b.1)
            (states (property_value header.properties (codes "length")) _ count e3);
        body = b.0;
      })))));
  only = λ head h.
      let global = (control_exact Global bytes 0 fits).only head.global h.global in
      let header = (control_exact Header bytes head.global.end fits).only head.header h.header in
      let below : length head.body < 2 ^ 64 = omega (arith, h.body.end_is, h.body.within, small) in
      let count : body_length head.header ≡ Ok (length head.body) =
      read_again (property_value head.header.properties (codes "length")) _ (length head.body) below h.stated in
      let body = bytes_only (length head.body) bytes head.header.end head.body head.end h.body refl in
      rw (global, header, count, body) refl;
}

-- bytes have at most one head at their start
pub head_unique : (bytes : List ℕ) (a b : HeadParts) → IsBytes bytes → length bytes < 2 ^ 64 → IsHead a bytes
    → IsHead b bytes → a ≡ b
head_unique bytes a b fits small p q =
    one_value (decode_head bytes) (λ (head : HeadParts). IsHead head bytes) a b (head_exact bytes fits small) p q

-- ---- the head and the dictionary

pub front_exact : (bytes : List ℕ) → IsBytes bytes → length bytes < 2 ^ 64
    → Exactly (decode_head_and_dictionary bytes) (λ f. IsHeadAndDictionary f bytes)
unfolding decode_head_and_dictionary
front_exact bytes fits small = record {
  found = λ f e.
      bind_ok (decode_head bytes) _ _ e (λ head e1 e.
      bind_ok (dictionary_at bytes head.end) _ _ e (λ dictionary e2 e.
      holds_of_ok (λ (f : HeadParts × DictionaryParts). IsHeadAndDictionary f bytes) _ _ e
      ((head_exact bytes fits small).found head e1, (dictionary_exact bytes head.end fits).found dictionary e2)));
  only = λ f h.
      let r1 = (head_exact bytes fits small).only f.0 h.0 in
      let r2 = (dictionary_exact bytes f.0.end fits).only f.1 h.1 in
      rw (r1, r2) refl;
}

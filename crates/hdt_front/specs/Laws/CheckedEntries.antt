-- What the checks of one string establish.
use Rattle.std.proofs.Common.{◌≡◌, ℕ, ◌+◌, ◌-◌, ◌/◌, ◌||◌, ◌++◌, Bool, true, false, cond, List, length, take, drop}
use Rattle.std.proofs.Common.{get_or, Result, Ok, Err, refl, sym, ap, ◌∙◌, nat_le, nat_lt, leb-true, ltb-true, eqb-true}
use Rattle.std.proofs.Common.{eqb}
use Rattle.std.specs.Prelude.{if◌then◌else◌}
use Rattle.std.specs.Str.{is_utf8}
use Rattle.hdt_wire.specs.declared.fault.Fault.{Fault}
use Rattle.hdt_wire.specs.declared.fault.Reason.TheVariants.{BlockPlace, PrefixTooLong, PackedLength, NotUtf8}
use Rattle.hdt_wire.specs.declared.fault.Reason.TheVariants.{StringsNotAscending}
use Rattle.hdt_wire.specs.Checks.{◌>>=◌, demand, len_before_zero}
use Rattle.hdt_wire.specs.VByte.{vbyte_at}
use Rattle.hdt_wire.specs.Laws.Checks.{demand_ok, bind_ok}
use Rattle.hdt_seq.specs.Sequence.{entry_offset}
use Rattle.hdt_front.specs.Decoding.{is_block_start, stored_prefix_len, bytes_from_suffix, suffix_of, decoded_string}
use Rattle.hdt_front.specs.Decoding.{after_entry, value_or}
use Rattle.hdt_front.specs.StringChecks.{BlockLayout, rest_offset, prefix_result, precedes, prefix_check, string_check}
use Rattle.hdt_front.specs.EntryFacts.{IsCheckedEntry}

pub ok_is : {A : Type 0} (x y : A) → (let r : Result A Fault = Ok x in r) ≡ Ok y → x ≡ y
ok_is x y e = cc

opened_by : (h test : Bool) (at place : ℕ) (rest : List ℕ) (r : Result (ℕ × ℕ) Fault) (x : ℕ × List ℕ)
    → (if h then demand test at BlockPlace >>= (λ _. Ok (0, rest)) else prefix_result place rest r) ≡ Ok x
    → (x ≡ (cond h 0 (value_or (0, 0) r).0, cond h rest (drop (value_or (0, 0) r).1 rest))) × (h ≡ true → test ≡ true)
    × (h ≡ false → r ≡ Ok (value_or (0, 0) r))
opened_by true true at place rest r x e = (cc, λ _. refl, λ f. absurd (cc))
opened_by true false at place rest r x e = absurd (cc)
opened_by false test at place rest (Ok y) x e = (cc, λ f. absurd (cc), λ _. refl)
opened_by false test at place rest (Err f) x e = absurd (cc)

pub entry_is_checked : (p : BlockLayout) (i : ℕ) (before rest : List ℕ) (y : List ℕ × List ℕ)
    → string_check p i before rest ≡ Ok y
    → IsCheckedEntry p i before rest
    × (y
    ≡ (decoded_string (is_block_start p.block_size i) before rest, after_entry (is_block_start p.block_size i) rest))
unfolding string_check prefix_check decoded_string after_entry suffix_of stored_prefix_len bytes_from_suffix
entry_is_checked p i before rest y e =
    bind_ok (prefix_check p i rest) _ _ e (λ x ex e.
    let o = opened_by (is_block_start p.block_size i)
    (eqb (get_or p.block_offsets (i / p.block_size) 0) (p.size - length rest))
    (entry_offset p.block_offsets_at (i / p.block_size)) (rest_offset p rest) rest (vbyte_at rest 0) x ex in
    let k : x.0 ≡ stored_prefix_len (is_block_start p.block_size i) rest = ap (λ (z : ℕ × List ℕ). z.0) o.0 in
    let t : x.1 ≡ bytes_from_suffix (is_block_start p.block_size i) rest = ap (λ (z : ℕ × List ℕ). z.1) o.0 in
    demand_ok (nat_le x.0 (length before)) (rest_offset p rest) PrefixTooLong _ _ e (λ h1 e.
    demand_ok (nat_lt (len_before_zero x.1) (length x.1)) (rest_offset p x.1) PackedLength _ _ e (λ h2 e.
    demand_ok (is_utf8 (take x.0 before ++ take (len_before_zero x.1) x.1)) (rest_offset p rest) NotUtf8 _ _ e (λ h3 e.
    demand_ok (eqb i 0 || precedes before (take x.0 before ++ take (len_before_zero x.1) x.1))
    (rest_offset p rest) StringsNotAscending _ _ e (λ h4 e.
    let S : ℕ × List ℕ → List ℕ = λ z. take z.0 before ++ take (len_before_zero z.1) z.1 in (
      record {
        start = λ h. eqb-true _ _ (o.1 h);
        number = o.2;
        fits = rw (← k) (leb-true _ _ h1);
        ends = rw (← t) (ltb-true _ _ h2);
        utf8 = sym (ap (λ z. is_utf8 (S z)) o.0) ∙ h3;
        ascends = sym (ap (λ z. eqb i 0 || precedes before (S z)) o.0) ∙ h4;
      },
      sym (ok_is _ _ e) ∙ ap (λ (z : ℕ × List ℕ). (S z, drop (len_before_zero z.1 + 1) z.1)) o.0,
    ))))))

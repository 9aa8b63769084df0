-- Laws of control information: the reader returns exactly what is encoded, and so what was written.
use Rattle.std.proofs.Common.{◌≡◌, ℕ, ◌+◌, ◌*◌, ◌/◌, ◌%◌, ◌-◌, ◌<◌, ◌^◌, Bool, true, zero, suc, bit_xor, ltb, lit<, inl}
use Rattle.std.proofs.Common.{inr, List, [], ◌∷◌, ◌++◌, length, get_or, drop, eqb, Result, Ok, refl, sym, ap, subst}
use Rattle.std.proofs.Common.{◌∙◌, arith, append_assoc, length-append}
use Rattle.std.specs.Prelude.{◌≢◌, not, fold, slice_range}
use Rattle.std.specs.Str.{bytes_eq}
use Rattle.std.specs.Fn.{iterate}
use Rattle.std.specs.List.{list_all}
use Rattle.std.proofs.lemmas.Bool.{cases_lt, cases_Bool, eqb-true, eqb-false, ltb-true}
use Rattle.std.proofs.lemmas.Bool.Decides.{Decides-eqb}
use Rattle.std.proofs.lemmas.List.{get_or_past}
use Rattle.std.proofs.lemmas.List.Sums.{AllPass-from_list_all}
use Rattle.std.proofs.lemmas.Nat.{xor_lt}
use Rattle.std.proofs.lemmas.Slice.Eq.{bytes_eq-Decides}
use Rattle.byteorder.specs.Endian.{little_number, little_bytes}
use Rattle.hdt_wire.specs.declared.fault.Fault.{Fault}
use Rattle.hdt_wire.specs.declared.fault.Reason.TheVariants.{NotHdt, WrongKind, Check16, WrongFormat}
use Rattle.hdt_wire.specs.declared.control.Kind.{Kind}
use Rattle.hdt_wire.specs.declared.control.Kind.TheVariants.{Global, Header, Dictionary, Triples}
use Rattle.hdt_wire.specs.Crc.{shift_right, crc16_step, crc16}
use Rattle.hdt_wire.specs.Checks.{bytes_at, text_at, IsBytes, HasSlice}
use Rattle.hdt_wire.specs.Laws.Checks.{demand_ok, bind_ok, not-true, IsBytes-take, IsBytes-drop, IsBytes-front}
use Rattle.hdt_wire.specs.Laws.Checks.{IsBytes-append, HasSlice-after, HasSlice-then, HasSlice-front, HasSlice-back}
use Rattle.hdt_wire.specs.Laws.Checks.{bytes_found, bytes_only, text_found, text_only}
use Rattle.hdt_wire.specs.Control.{ControlInfo, IsControlAt, control_at, control, control_without_crc}
use Rattle.hdt_wire.specs.Control.{expected_control_info, cookie, kind_code, format_text, HasNoZero}

equal : (xs ys : List ℕ) → bytes_eq xs ys ≡ true → xs ≡ ys
equal xs ys e = (bytes_eq-Decides xs ys).0 e

-- two bytes are the little-endian bytes of their number
two_bytes : (bs : List ℕ) → length bs ≡ 2 → ((k : ℕ) → get_or bs k 0 < 256) → little_bytes 2 (little_number 2 bs) ≡ bs
two_bytes [] size fits = absurd cc
two_bytes (x ∷ []) size fits = absurd (omega (arith, size))
two_bytes (x ∷ y ∷ []) size fits =
    let f0 : x < 256 = fits 0 in
    let f1 : y < 256 = fits 1 in
    let low : (x + 256 * (y + 0)) % 256 ≡ x = omega (arith, f0) in
    let high : (x + 256 * (y + 0)) / 256 % 256 ≡ y = omega (arith, f0, f1) in
    rw (low, high) refl
two_bytes (x ∷ y ∷ z ∷ bs) size fits = absurd (omega (arith, size))

abbrev done_block : ControlInfo → Result ControlInfo Fault
done_block b = Ok b

same_block : (a b : ControlInfo) → done_block a ≡ done_block b → a ≡ b
same_block a b e = cc

joined : (kind : Kind) (format properties : List ℕ) → format ≡ format_text kind
    → cookie ++ ((kind_code kind ∷ []) ++ ((format ++ 0 ∷ []) ++ (properties ++ 0 ∷ [])))
    ≡ control_without_crc kind properties
joined kind format properties is =
    ap (λ (t : List ℕ). cookie ++ (kind_code kind ∷ t)) (append_assoc format (0 ∷ []) (properties ++ 0 ∷ [])
    ∙ ap (λ (t : List ℕ). t ++ 0 ∷ (properties ++ 0 ∷ [])) is)

-- what is returned is encoded there
pub control_found : (kind : Kind) (bytes : List ℕ) (at : ℕ) (block : ControlInfo) → IsBytes bytes
    → control_at kind bytes at ≡ Ok block → IsControlAt kind block bytes at
unfolding control_at
control_found kind bytes at block fits e =
    bind_ok (bytes_at 4 bytes at) _ _ e (λ magic e1 e. demand_ok (bytes_eq magic.0 cookie) at NotHdt _ _ e (λ h1 e.
    bind_ok (bytes_at 1 bytes magic.1) _ _ e
    (λ code e2 e. demand_ok (bytes_eq code.0 (kind_code kind ∷ [])) magic.1 WrongKind _ _ e (λ h2 e.
    bind_ok (text_at bytes code.1) _ _ e (λ format e3 e.
    bind_ok (text_at bytes format.1) _ _ e (λ properties e4 e.
    bind_ok (bytes_at 2 bytes properties.1) _ _ e (λ crc_bytes e5 e.
    demand_ok (eqb (little_number 2 crc_bytes.0) (crc16 (slice_range bytes at properties.1))) properties.1 Check16 _ _ e
    (λ h3 e.
    demand_ok (bytes_eq format.0 (format_text kind)) code.1 WrongFormat _ _ e (λ h4 e.
    let s1 = bytes_found 4 bytes at magic e1 in
    let s2 = bytes_found 1 bytes magic.1 code e2 in
    let s3 = text_found bytes code.1 format e3 in
    let s4 = text_found bytes format.1 properties e4 in
    let s5 = bytes_found 2 bytes properties.1 crc_bytes e5 in
    let m1 : HasSlice bytes at cookie magic.1 =
    subst (λ (t : List ℕ). HasSlice bytes at t magic.1) (equal magic.0 cookie h1) s1.0 in
    let m2 : HasSlice bytes magic.1 (kind_code kind ∷ []) code.1 =
    subst (λ (t : List ℕ). HasSlice bytes magic.1 t code.1) (equal code.0 (kind_code kind ∷ []) h2) s2.0 in
    let t34 = HasSlice-then bytes code.1 _ format.1 _ properties.1 s3.0 s4.0 in
    let t24 = HasSlice-then bytes magic.1 _ code.1 _ properties.1 m2 t34 in
    let t14 = HasSlice-then bytes at _ magic.1 _ properties.1 m1 t24 in
    let is = equal format.0 (format_text kind) h4 in
    let front : HasSlice bytes at (control_without_crc kind properties.0) properties.1 =
    subst (λ (t : List ℕ). HasSlice bytes at t properties.1) (joined kind format.0 properties.0 is) t14 in
    let number : little_number 2 crc_bytes.0 ≡ crc16 (control_without_crc kind properties.0) =
    eqb-true _ _ h3 ∙ ap crc16 front.here in
    let tail : crc_bytes.0 ≡ little_bytes 2 (crc16 (control_without_crc kind properties.0)) =
    sym (two_bytes crc_bytes.0 s5.1
    (subst IsBytes s5.0.here (IsBytes-take (crc_bytes.1 - properties.1) (drop properties.1 bytes)
    (IsBytes-drop properties.1 bytes fits)))) ∙ ap (little_bytes 2) number in
    let m5 = subst (λ (t : List ℕ). HasSlice bytes properties.1 t crc_bytes.1) tail s5.0 in
    let size : format.1 ≡ at + 6 + length (format_text kind) =
    omega (arith, m1.end_is, m2.end_is, s3.0.end_is, length-append format.0 (0 ∷ []), ap length is) in
    let made : IsControlAt kind (record {
      format = format.0;
      properties = properties.0;
      properties_at = format.1;
      end =
          crc_bytes.1;
    }) bytes at =
    record {
      spelled = HasSlice-then bytes at _ properties.1 _ crc_bytes.1 front m5;
      no_zero = s4.1;
      format = is;
      properties_at = size;
    } in
    subst (λ (b : ControlInfo). IsControlAt kind b bytes at) (same_block _ _ e) made)))))))))

-- ---- what is encoded is returned

-- a register of 16 bits stays below 2 ^ 16
fits_shift : (register : ℕ) → register < 2 ^ 16 → shift_right 0xA001 register < 2 ^ 16
unfolding shift_right
fits_shift register small =
    let half : register / 2 < 2 ^ 16 = omega arith in
    let tapped : bit_xor (register / 2) 0xA001 < 2 ^ 16 = xor_lt 16 (register / 2) 0xA001 half (lit< tt) in
    elim (cases_Bool (eqb (register % 2) 1)) [ inl e ↦ rw e tapped | inr e ↦ rw e half ]

fits_shifts : (n register : ℕ) → register < 2 ^ 16 → iterate (shift_right 0xA001) n register < 2 ^ 16
fits_shifts zero register small = small
fits_shifts (suc n) register small = fits_shifts n (shift_right 0xA001 register) (fits_shift register small)

fits_take : (register byte : ℕ) → register < 2 ^ 16 → byte < 256 → crc16_step register byte < 2 ^ 16
unfolding crc16_step
fits_take register byte small lt = fits_shifts 8 (bit_xor register byte) (xor_lt 16 register byte small (omega arith))

fits_fold : (register : ℕ) (bytes : List ℕ) → register < 2 ^ 16 → IsBytes bytes
    → fold crc16_step register bytes < 2 ^ 16
fits_fold register [] small fits = small
fits_fold register (b ∷ bs) small fits =
    fits_fold (crc16_step register b) bs (fits_take register b small (fits 0)) (λ i. fits (suc i))

-- the CRC-16 of bytes is below 2 ^ 16
pub crc16_fits : (bytes : List ℕ) → IsBytes bytes → crc16 bytes < 2 ^ 16
crc16_fits bytes fits = fits_fold 0 bytes (lit< tt) fits

-- a number below 2 ^ 16 is that of its two little-endian bytes
number_back : (n : ℕ) → n < 2 ^ 16 → little_number 2 (little_bytes 2 n) ≡ n
number_back n small = omega (arith, small)

no_zero : (b : Bool) (n : ℕ) → not (eqb n 0) ≡ true → n ≢ 0
no_zero b n e = eqb-false _ _ (not-true _ e)

-- no format text has a zero byte
format_no_zero : (kind : Kind) → HasNoZero (format_text kind)
format_no_zero Global = λ k d lt. no_zero true _
    (AllPass-from_list_all (λ b. not (eqb b 0)) (format_text Global) refl k d lt)
format_no_zero Header = λ k d lt. no_zero true _
    (AllPass-from_list_all (λ b. not (eqb b 0)) (format_text Header) refl k d lt)
format_no_zero Dictionary =
    λ k d lt. no_zero true _ (AllPass-from_list_all (λ b. not (eqb b 0)) (format_text Dictionary) refl k d lt)
format_no_zero Triples = λ k d lt. no_zero true _
    (AllPass-from_list_all (λ b. not (eqb b 0)) (format_text Triples) refl k d lt)

same : (xs : List ℕ) → bytes_eq xs xs ≡ true
same xs = (bytes_eq-Decides xs xs).1 refl

below : (n : ℕ) (xs : List ℕ) → list_all (λ b. ltb b n) xs ≡ true → (i : ℕ) → i < length xs → get_or xs i 0 < n
below n xs e i lt = ltb-true _ _ (AllPass-from_list_all (λ b. ltb b n) xs e i 0 lt)

all_bytes : (xs : List ℕ) → list_all (λ b. ltb b 256) xs ≡ true → IsBytes xs
all_bytes xs e i =
    elim (cases_lt i (length xs)) [
      | inl lt ↦ below 256 xs e i lt
      | inr le ↦ rw (get_or_past xs i 0 le) (omega arith)
    ]

front_fits : (kind : Kind) → IsBytes (cookie ++ kind_code kind ∷ (format_text kind ++ 0 ∷ []))
front_fits Global = all_bytes (cookie ++ kind_code Global ∷ (format_text Global ++ 0 ∷ [])) refl
front_fits Header = all_bytes (cookie ++ kind_code Header ∷ (format_text Header ++ 0 ∷ [])) refl
front_fits Dictionary = all_bytes (cookie ++ kind_code Dictionary ∷ (format_text Dictionary ++ 0 ∷ [])) refl
front_fits Triples = all_bytes (cookie ++ kind_code Triples ∷ (format_text Triples ++ 0 ∷ [])) refl

-- all its numbers are bytes, if those of the properties are
control_without_crc_is_bytes : (kind : Kind) (properties : List ℕ) → IsBytes properties
    → IsBytes (control_without_crc kind properties)
control_without_crc_is_bytes kind properties fits =
    let zero_fits : IsBytes (0 ∷ []) = all_bytes (0 ∷ []) refl in
    let back = IsBytes-append properties (0 ∷ []) fits zero_fits in
    let whole = IsBytes-append (cookie ++ kind_code kind ∷ (format_text kind ++ 0 ∷ [])) (properties ++ 0
    ∷ []) (front_fits kind) back in
    let grouped : (format_text kind ++ 0 ∷ []) ++ (properties ++ 0 ∷ []) ≡ format_text kind ++ 0
    ∷ (properties ++ 0 ∷ []) = append_assoc (format_text kind) (0 ∷ []) (properties ++ 0 ∷ []) in
    subst (λ (t : List ℕ). IsBytes (cookie ++ kind_code kind ∷ t)) grouped whole

-- all numbers of encoded control information are bytes
pub control_is_bytes : (kind : Kind) (bytes : List ℕ) (at : ℕ) (properties : List ℕ) (end : ℕ) → IsBytes bytes
    → HasSlice bytes at (control kind properties) end → IsBytes (control_without_crc kind properties)
control_is_bytes kind bytes at properties end fits h =
    let part : IsBytes (slice_range bytes at end) =
    IsBytes-take (end - at) (drop at bytes) (IsBytes-drop at bytes fits) in
    IsBytes-front (control_without_crc kind properties) (little_bytes 2 (crc16 (control_without_crc kind properties)))
    (subst IsBytes h.here part)

-- what is encoded there is returned
pub control_only : (kind : Kind) (bytes : List ℕ) (at : ℕ) (properties : List ℕ) (end : ℕ)
    → IsBytes (control_without_crc kind properties) → HasNoZero properties
    → HasSlice bytes at (control kind properties) end
    → control_at kind bytes at ≡ Ok (expected_control_info kind properties at end)
unfolding control_at
control_only kind bytes at properties end fits none h =
    let format : List ℕ = format_text kind in
    let code : ℕ = crc16 (control_without_crc kind properties) in
    let tail : List ℕ = little_bytes 2 code in
    let front = HasSlice-front bytes at (control_without_crc kind properties) tail end h in
    let s5 = HasSlice-back bytes at (control_without_crc kind properties) tail end h in
    let s1 = HasSlice-front bytes at cookie (kind_code kind ∷ (format ++ 0 ∷ (properties ++ 0 ∷ []))) _ front in
    let t1 = HasSlice-back bytes at cookie (kind_code kind ∷ (format ++ 0 ∷ (properties ++ 0 ∷ []))) _ front in
    let s2 = HasSlice-front bytes (at + 4) (kind_code kind ∷ []) (format ++ 0 ∷ (properties ++ 0 ∷ [])) _ t1 in
    let t2 = HasSlice-back bytes (at + 4) (kind_code kind ∷ []) (format ++ 0 ∷ (properties ++ 0 ∷ [])) _ t1 in
    let grouped : format ++ 0 ∷ (properties ++ 0 ∷ []) ≡ (format ++ 0 ∷ []) ++ (properties ++ 0 ∷ []) =
    sym (append_assoc format (0 ∷ []) (properties ++ 0 ∷ [])) in
    let t2' = subst (λ (t : List ℕ). HasSlice bytes (at + 4 + 1) t (at + length (control_without_crc kind properties)))
    grouped t2 in
    let s3 = HasSlice-front bytes (at + 4 + 1) (format ++ 0 ∷ []) (properties ++ 0 ∷ []) _ t2' in
    let s4 = HasSlice-back bytes (at + 4 + 1) (format ++ 0 ∷ []) (properties ++ 0 ∷ []) _ t2' in
    let number : little_number 2 tail
    ≡ crc16 (slice_range bytes at (at + length (control_without_crc kind properties))) =
    number_back code (crc16_fits (control_without_crc kind properties) fits) ∙ sym (ap crc16 front.here) in
    let place : at + 4 + 1 + length (format ++ 0 ∷ []) ≡ at + 6 + length format =
    omega (arith, length-append format (0 ∷ [])) in
    let mark_read = bytes_only 4 bytes at cookie (at + 4) s1 refl in
    let code_read = bytes_only 1 bytes (at + 4) (kind_code kind ∷ []) (at + 4 + 1) s2 refl in
    let format_read = text_only bytes (at + 4 + 1) format _ s3 (format_no_zero kind) in
    let properties_read = text_only bytes (at + 4 + 1 + length (format ++ 0 ∷ [])) properties _ s4 none in
    let check_read = bytes_only 2 bytes (at + length (control_without_crc kind properties)) tail end s5 refl in
    let number_holds = (Decides-eqb _ _).1 number in
    rw (
      mark_read,
      code_read,
      same (kind_code kind ∷ []),
      format_read,
      properties_read,
      check_read,
      number_holds,
      same format,
      place,
    ) refl

-- what was written is read back, whatever precedes and follows it
pub control_again : (kind : Kind) (before after properties : List ℕ) → IsBytes properties → HasNoZero properties
    → control_at kind (before ++ control kind properties ++ after) (length before)
    ≡ Ok (expected_control_info kind properties (length before) (length before + length (control kind properties)))
control_again kind before after properties fits none =
    control_only kind (before ++ control kind properties ++ after) (length before) properties _
    (control_without_crc_is_bytes kind properties fits) none (HasSlice-after before (control kind properties) after)

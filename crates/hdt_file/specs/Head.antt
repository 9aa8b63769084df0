-- The head of a file (HDT submission, header; rdfhdt.org, "HDT binary format"): the global control information, that of
-- the header, and the header body, one after another from byte 0. The header's property `length` is the length of the
-- body in bytes.
use Rattle.std.specs.Prelude.{ℕ, List, codes, length, IsSomeAnd, Result, Ok, ◌≡◌, ◌^◌, ◌&&◌, Bool, nat_lt, Option, Some}
use Rattle.std.specs.Prelude.{None, if◌then◌else◌}
use Rattle.std.specs.Option.{ok_or, option_and_then}
use Rattle.hdt_wire.specs.declared.fault.Fault.{Fault}
use Rattle.hdt_wire.specs.declared.fault.Reason.TheVariants.{HeaderLength}
use Rattle.hdt_wire.specs.declared.control.Kind.TheVariants.{Global, Header}
use Rattle.hdt_wire.specs.Checks.{◌>>=◌, bytes_at, HasSlice}
use Rattle.hdt_wire.specs.Control.{ControlInfo, IsControlAt, control_view, control_at}
use Rattle.hdt_wire.specs.Property.{property_value}
use Rattle.hdt_file.specs.declared.head.Head.{Head}
use Rattle.std.specs.Char.{is_digit}
use Rattle.std.specs.List.{list_all}
use Rattle.std.specs.Str.Parse.{IsNumeral, digits_value}

-- the text is one digit or more and has the value v; leading zeros are allowed
pub record IsDecimal (text : List ℕ) (v : ℕ) : Type 0 where
  pub digits : IsNumeral 10 text
  pub value : digits_value 10 text ≡ v

-- whether the text is one digit or more
abbrev pub is_numeral : List ℕ → Bool
is_numeral text = nat_lt 0 (length text) && list_all (λ c. is_digit c 10) text

-- the value of the text, or None if the text is not a decimal number below 2 ^ 64
unfoldable pub decimal_number : List ℕ → Option ℕ
decimal_number text = if is_numeral text && nat_lt (digits_value 10 text) (2 ^ 64) then Some
    (digits_value 10 text) else None

-- the head, decoded: the two control informations, the header body, and the byte offset after it
pub record HeadParts : Type 0 where
  pub global : ControlInfo
  pub header : ControlInfo
  pub body : List ℕ
  pub end : ℕ

-- a `Head` without its addresses in memory
unfoldable pub head_parts : Head → HeadParts
head_parts h = record { global = control_view h.global; header = control_view h.header; body = h.body.now; end = h.end }

-- the property `length` has the value n
abbrev pub StatesLength : List ℕ → ℕ → Type 0
StatesLength properties n = IsSomeAnd (property_value properties (codes "length")) (λ text. IsDecimal text n)

-- the head is encoded at the start of the bytes; anything may follow
pub record IsHead (head : HeadParts) (bytes : List ℕ) : Type 0 where
  pub global : IsControlAt Global head.global bytes 0
  pub header : IsControlAt Header head.header bytes head.global.end
  pub stated : StatesLength head.header.properties (length head.body)
  pub body : HasSlice bytes head.header.end head.body head.end

-- the value of the property `length`, or an error if it is missing or not a decimal number below 2 ^ 64 (the input is
-- shorter than that, so no body has such a length)
abbrev pub body_length : ControlInfo → Result ℕ Fault
body_length header = ok_or (option_and_then decimal_number (property_value header.properties (codes "length")))
    (record { place = header.properties_at; reason = HeaderLength })

-- decodes the head, or returns the first error
unfoldable pub decode_head : List ℕ → Result HeadParts Fault
decode_head bytes = do
  global ← control_at Global bytes 0
  header ← control_at Header bytes global.end
  count ← body_length header
  body ← bytes_at count bytes header.end
  Ok (record { global = global; header = header; body = body.0; end = body.1 })

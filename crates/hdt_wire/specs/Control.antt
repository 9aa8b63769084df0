-- Control information (rdfhdt.org, "HDT binary format", Control Information): the cookie, the type, the format, the
-- properties, and a CRC-16 over all of these.
use Rattle.std.specs.Prelude.{◌≡◌, ◌≢◌, ℕ, ◌+◌, ◌==◌, List, [], ◌∷◌, ◌++◌, All, codes, length, take, slice_range}
use Rattle.std.specs.Prelude.{Result, Ok}
use Rattle.std.specs.Str.{bytes_eq}
use Rattle.byteorder.specs.Endian.{little_number, little_bytes}
use Rattle.hdt_wire.specs.declared.fault.Fault.{Fault}
use Rattle.hdt_wire.specs.declared.fault.Reason.TheVariants.{NotHdt, WrongKind, Check16, WrongFormat}
use Rattle.hdt_wire.specs.declared.control.Kind.{Kind}
use Rattle.hdt_wire.specs.declared.control.Kind.TheVariants.{Global, Header, Dictionary, Triples}
use Rattle.hdt_wire.specs.declared.control.Control.{Control}
use Rattle.hdt_wire.specs.Crc.{crc16}
use Rattle.hdt_wire.specs.Checks.{◌>>=◌, demand, bytes_at, text_at, HasSlice}

abbrev pub cookie : List ℕ
cookie = codes "$HDT"

abbrev pub kind_code : Kind → ℕ
kind_code Global = 1
kind_code Header = 2
kind_code Dictionary = 3
kind_code Triples = 4

abbrev pub format_text : Kind → List ℕ
format_text Global = codes "<http://purl.org/HDT/hdt#HDTv1>"
format_text Header = codes "ntriples"
format_text Dictionary = codes "<http://purl.org/HDT/hdt#dictionaryFour>"
format_text Triples = codes "<http://purl.org/HDT/hdt#triplesBitmap>"

-- properties have no zero byte
abbrev pub HasNoZero : List ℕ → Type 0
HasNoZero properties = All (λ b. b ≢ 0) properties

-- control information without its CRC; format and properties end with a zero byte
abbrev pub control_without_crc : Kind → List ℕ → List ℕ
control_without_crc kind properties = cookie ++ kind_code kind ∷ (format_text kind ++ 0 ∷ (properties ++ 0 ∷ []))

-- the bytes of control information: the CRC is last, little-endian
abbrev pub control : Kind → List ℕ → List ℕ
control kind properties =
    control_without_crc kind properties ++ little_bytes 2 (crc16 (control_without_crc kind properties))

-- the old list is a prefix of the new one
abbrev pub IsPrefixOf : List ℕ → List ℕ → Type 0
IsPrefixOf old new = take (length old) new ≡ old

-- ---- reading

-- control information: its format, its properties, their byte offset, and the offset after the CRC
pub record ControlInfo : Type 0 where
  pub format : List ℕ
  pub properties : List ℕ
  pub properties_at : ℕ
  pub end : ℕ

-- the control information of a `Control`, without addresses in memory
unfoldable pub control_view : Control → ControlInfo
control_view c = record {
  format = c.format.now;
  properties = c.properties.now;
  properties_at = c.properties_at;
  end =
      c.end;
}

-- the control information with these properties at an offset
abbrev pub expected_control_info : Kind → List ℕ → ℕ → ℕ → ControlInfo
expected_control_info kind properties at end =
    record {
      format = format_text kind;
      properties = properties;
      properties_at = at + 6 + length (format_text kind);
      end = end;
    }

-- control information of this type is encoded at the offset
pub record IsControlAt (kind : Kind) (block : ControlInfo) (bytes : List ℕ) (at : ℕ) : Type 0 where
  pub spelled : HasSlice bytes at (control kind block.properties) block.end
  pub no_zero : HasNoZero block.properties
  -- the properties begin after the cookie, the type byte, and the format with its zero byte
  pub format : block.format ≡ format_text kind
  pub properties_at : block.properties_at ≡ at + 6 + length (format_text kind)

-- the checks of control information in turn: the information, or the first error
unfoldable pub control_at : Kind → List ℕ → ℕ → Result ControlInfo Fault
control_at kind bytes at = do
  magic ← bytes_at 4 bytes at
  _ ← demand (bytes_eq magic.0 cookie) at NotHdt
  code ← bytes_at 1 bytes magic.1
  _ ← demand (bytes_eq code.0 (kind_code kind ∷ [])) magic.1 WrongKind
  format ← text_at bytes code.1
  properties ← text_at bytes format.1
  crc_bytes ← bytes_at 2 bytes properties.1
  _ ← demand (little_number 2 crc_bytes.0 == crc16 (slice_range bytes at properties.1)) properties.1 Check16
  _ ← demand (bytes_eq format.0 (format_text kind)) code.1 WrongFormat
  Ok (record { format = format.0; properties = properties.0; properties_at = format.1; end = crc_bytes.1 })

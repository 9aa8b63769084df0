-- The errors of a file: each reason has a number and a name.
use Rattle.std.specs.Prelude.{ℕ, List, ◌++◌, codes}
use Rattle.std.specs.Fmt.{decimal}
use Rattle.hdt_wire.specs.declared.fault.Fault.{Fault}
use Rattle.hdt_wire.specs.declared.fault.Reason.{Reason}
use Rattle.hdt_wire.specs.declared.fault.Reason.TheVariants.{Truncated, OverlongNumber, NumberTooLarge, NotHdt}
use Rattle.hdt_wire.specs.declared.fault.Reason.TheVariants.{WrongKind, Check16, WrongFormat, HeaderLength, TripleOrder}
use Rattle.hdt_wire.specs.declared.fault.Reason.TheVariants.{Check8, Check32, SequenceKind, Width, BitsKind}
use Rattle.hdt_wire.specs.declared.fault.Reason.TheVariants.{SectionKind, BlockSize, BlockCount, BlockPlace}
use Rattle.hdt_wire.specs.declared.fault.Reason.TheVariants.{PrefixTooLong, PackedLength, NotUtf8, StringsNotAscending}
use Rattle.hdt_wire.specs.declared.fault.Reason.TheVariants.{SectionsOverlap, NoTriples, LengthsDiffer, LastMark}
use Rattle.hdt_wire.specs.declared.fault.Reason.TheVariants.{MarkCount, SubjectRange, PredicateRange, ObjectRange}
use Rattle.hdt_wire.specs.declared.fault.Reason.TheVariants.{PredicatesNotAscending, ObjectsNotAscending, TrailingBytes}
use Rattle.hdt_wire.specs.declared.fault.Reason.TheVariants.{Unused}

-- the number, from 1
abbrev pub reason_number : Reason → ℕ
reason_number Truncated = 1
reason_number OverlongNumber = 2
reason_number NumberTooLarge = 3
reason_number NotHdt = 4
reason_number WrongKind = 5
reason_number Check16 = 6
reason_number WrongFormat = 7
reason_number HeaderLength = 8
reason_number TripleOrder = 9
reason_number Check8 = 10
reason_number Check32 = 11
reason_number SequenceKind = 12
reason_number Width = 13
reason_number BitsKind = 14
reason_number SectionKind = 15
reason_number BlockSize = 16
reason_number BlockCount = 17
reason_number BlockPlace = 18
reason_number PrefixTooLong = 19
reason_number PackedLength = 20
reason_number NotUtf8 = 21
reason_number StringsNotAscending = 22
reason_number SectionsOverlap = 23
reason_number NoTriples = 24
reason_number LengthsDiffer = 25
reason_number LastMark = 26
reason_number MarkCount = 27
reason_number SubjectRange = 28
reason_number PredicateRange = 29
reason_number ObjectRange = 30
reason_number PredicatesNotAscending = 31
reason_number ObjectsNotAscending = 32
reason_number TrailingBytes = 33
reason_number Unused = 34

-- the name, in ASCII
abbrev pub reason_name : Reason → List ℕ
reason_name Truncated = codes "Truncated"
reason_name OverlongNumber = codes "OverlongNumber"
reason_name NumberTooLarge = codes "NumberTooLarge"
reason_name NotHdt = codes "NotHdt"
reason_name WrongKind = codes "WrongKind"
reason_name Check16 = codes "Check16"
reason_name WrongFormat = codes "WrongFormat"
reason_name HeaderLength = codes "HeaderLength"
reason_name TripleOrder = codes "TripleOrder"
reason_name Check8 = codes "Check8"
reason_name Check32 = codes "Check32"
reason_name SequenceKind = codes "SequenceKind"
reason_name Width = codes "Width"
reason_name BitsKind = codes "BitsKind"
reason_name SectionKind = codes "SectionKind"
reason_name BlockSize = codes "BlockSize"
reason_name BlockCount = codes "BlockCount"
reason_name BlockPlace = codes "BlockPlace"
reason_name PrefixTooLong = codes "PrefixTooLong"
reason_name PackedLength = codes "PackedLength"
reason_name NotUtf8 = codes "NotUtf8"
reason_name StringsNotAscending = codes "StringsNotAscending"
reason_name SectionsOverlap = codes "SectionsOverlap"
reason_name NoTriples = codes "NoTriples"
reason_name LengthsDiffer = codes "LengthsDiffer"
reason_name LastMark = codes "LastMark"
reason_name MarkCount = codes "MarkCount"
reason_name SubjectRange = codes "SubjectRange"
reason_name PredicateRange = codes "PredicateRange"
reason_name ObjectRange = codes "ObjectRange"
reason_name PredicatesNotAscending = codes "PredicatesNotAscending"
reason_name ObjectsNotAscending = codes "ObjectsNotAscending"
reason_name TrailingBytes = codes "TrailingBytes"
reason_name Unused = codes "Unused"

-- an error as text: the name of its reason, and the byte offset in decimal
abbrev pub fault_text : Fault → List ℕ
fault_text fault = reason_name fault.reason ++ codes " at " ++ decimal fault.place

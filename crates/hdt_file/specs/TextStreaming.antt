-- Text that is written in pieces.
use Rattle.std.specs.Prelude.{◌≡◌, ℕ, ◌+◌, ◌<◌, ◌≤◌, List, ◌++◌, length, take, Option}
use Rattle.std.specs.Io.KnownBytes.{Appends}
use Rattle.hdt_triples.specs.TripleSequences.{Triple}
use Rattle.hdt_file.specs.Denoted.{denoted}
use Rattle.hdt_file.specs.File.{GraphParts}
use Rattle.hdt_file.specs.Text.{IsTextOf}
use Rattle.hdt_file.specs.TextWriting.{WritesText}
use Rattle.hdt_file.specs.Writable.{SkipsNonTerms}
use Rattle.hdt_file.specs.declared.fault.DumpFault.{DumpFault}
use Rattle.hdt_file.specs.declared.fault.DumpFault.TheVariants.{NotATerm, Write, OutOfMemory}
use Rattle.hdt_file.specs.declared.pending_text.PendingText.{PendingText}

-- the writer failed once, after fewer than all of the bytes, which are bytes n.. of a text
pub record FailsWithin (m n : ℕ) (bytes : List ℕ) (before after : Option (List ℕ)) (failed fails : ℕ) : Type 0 where
  pub count : ℕ
  pub is : m ≡ n + count
  pub within : count < length bytes
  pub written : Appends before after (take count bytes)
  pub once : fails ≡ failed + 1

-- a beginning of the bytes was written, without a failure
pub record WritesBeginning (bytes : List ℕ) (before after : Option (List ℕ)) (failed fails : ℕ) : Type 0 where
  pub count : ℕ
  pub within : count ≤ length bytes
  pub written : Appends before after (take count bytes)
  pub well : fails ≡ failed

-- what an error says of the bytes that were to be written, which are bytes n.. of a text: the writer failed among them,
-- or memory ran out
abbrev pub StopsAt : DumpFault → ℕ → List ℕ → Option (List ℕ) → Option (List ℕ) → ℕ → ℕ → Type 0
StopsAt (NotATerm role number) n bytes before after failed fails = ⊥
StopsAt (Write m) n bytes before after failed fails = FailsWithin m n bytes before after failed fails
StopsAt OutOfMemory n bytes before after failed fails = WritesBeginning bytes before after failed fails

-- the text of the triples follows the pending text: a first part of both was written, and the rest is pending
pub record Streams (g : GraphParts) (ts : List Triple) (old new : PendingText) (before after : Option (List ℕ))
    (failed fails : ℕ) : Type 0 where
  pub text : List ℕ
  pub is : IsTextOf (denoted g ts) text
  pub part : List ℕ
  pub all : old.bytes.items ++ text ≡ part ++ new.bytes.items
  pub count : new.written ≡ old.written + length part
  pub written : Appends before after part
  pub well : fails ≡ failed

-- the error, while the text of the triples was written after the pending text
pub record StopsShort (g : GraphParts) (ts : List Triple) (e : DumpFault) (old : PendingText)
    (before after : Option (List ℕ)) (failed fails : ℕ) : Type 0 where
  pub text : List ℕ
  pub is : IsTextOf (denoted g ts) text
  pub stops : StopsAt e old.written (old.bytes.items ++ text) before after failed fails

-- the writer failed, or memory ran out, after a beginning of the text of the triples
pub record CutsText (g : GraphParts) (ts : List Triple) (e : DumpFault) (before after : Option (List ℕ))
    (failed fails : ℕ) : Type 0 where
  pub text : List ℕ
  pub is : IsTextOf (denoted g ts) text
  pub stops : StopsAt e 0 text before after failed fails

-- the text of those of the triples that have a line, up to a limit, was written, and n without one were skipped
pub record WritesWritable (g : GraphParts) (most : Option ℕ) (ts : List Triple) (before after : Option (List ℕ))
    (n : ℕ) : Type 0 where
  pub kept : List Triple
  pub skips : SkipsNonTerms g most ts kept n
  pub size : ℕ
  pub written : WritesText g kept before after size

-- the writer failed, or memory ran out, after a beginning of that text
pub record CutsWritable (g : GraphParts) (most : Option ℕ) (ts : List Triple) (e : DumpFault)
    (before after : Option (List ℕ)) (failed fails : ℕ) : Type 0 where
  pub kept : List Triple
  pub skipped : ℕ
  pub skips : SkipsNonTerms g most ts kept skipped
  pub cut : CutsText g kept e before after failed fails

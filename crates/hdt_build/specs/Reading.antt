-- The graph of an N-Triples document, and errors in it.
use Rattle.std.specs.Prelude.{◌≡◌, ◌≢◌, ◌⊎◌, ℕ, List, [], map, Option, ⊤}
use Rattle.std.specs.List.{All}
use Rattle.hdt_dict.specs.Strings.{IsDictionaryString}
use Rattle.hdt_terms.specs.declared.fault.LineReason.TheVariants.{OutOfMemory, Read}
use Rattle.hdt_terms.specs.declared.fault.LineFault.{LineFault}
use Rattle.hdt_terms.specs.declared.triple.Triple.{Triple}
use Rattle.hdt_terms.specs.Documents.{IsDocumentInput, FaultInDocument}
use Rattle.hdt_terms.specs.Terms.{dictionary_string}
use Rattle.hdt_build.specs.declared.fault.BuildFault.{BuildFault}
use Rattle.hdt_build.specs.declared.fault.BuildFault.TheVariants as faults
use Rattle.hdt_build.specs.declared.fault.ScratchFault.{ScratchFault}
use Rattle.hdt_build.specs.declared.fault.ScratchFault.TheVariants as scratches
use Rattle.hdt_file.specs.Denoted.{StringTriple}
use Rattle.hdt_build.specs.Graph.{subjects_of, predicates_of, objects_of}

-- the greatest length of an input in bytes: 2^63 - 1
abbrev pub most : ℕ
most = 9223372036854775807

-- the dictionary strings of a triple's terms
abbrev pub term_strings : Triple → StringTriple
term_strings t = (dictionary_string t.s, dictionary_string t.p, dictionary_string t.o)

-- the input is a document, and these are its triples as dictionary strings, in input order, with duplicates
pub record IsInputGraph (input : Option (List ℕ)) (graph : List StringTriple) : Type 0 where
  pub triples : List Triple
  pub document : IsDocumentInput most input triples
  pub strings : graph ≡ map term_strings triples

-- all strings are UTF-8 without zero bytes
pub record HasDictionaryStrings (graph : List StringTriple) : Type 0 where
  pub subjects_are : All IsDictionaryString (subjects_of graph)
  pub predicates_are : All IsDictionaryString (predicates_of graph)
  pub objects_are : All IsDictionaryString (objects_of graph)

-- what an error means for the input before and after the call, if the options are valid
abbrev pub IsBuildFaultOf : Option (List ℕ) → Option (List ℕ) → BuildFault → Type 0
IsBuildFaultOf before after (faults.Line fault) = FaultInDocument fault most before after × (fault.reason ≢ OutOfMemory)
IsBuildFaultOf before after faults.NoTriples = IsDocumentInput most before []
IsBuildFaultOf before after faults.BadOptions = ⊥
IsBuildFaultOf before after faults.OutOfMemory = ⊤
IsBuildFaultOf before after (faults.Write n) = ⊥

-- the error of a line, as an error of building
abbrev pub IsConvertedTo : LineFault → BuildFault → Type 0
IsConvertedTo fault converted = ((fault.reason ≡ OutOfMemory) × (converted ≡ faults.OutOfMemory))
    ⊎ ((fault.reason ≢ OutOfMemory) × (converted ≡ faults.Line fault))

-- the error is that the reader failed
abbrev pub ReadFailed : BuildFault → Type 0
ReadFailed (faults.Line fault) = fault.reason ≡ Read
ReadFailed faults.NoTriples = ⊥
ReadFailed faults.BadOptions = ⊥
ReadFailed faults.OutOfMemory = ⊥
ReadFailed (faults.Write n) = ⊥

-- ---- errors of building with scratch

-- if this is an error of building, P is true of it
abbrev pub IfBuildFault : {E : Type 0} → (BuildFault → Type 0) → ScratchFault E → Type 0
IfBuildFault P (scratches.Build e) = P e
IfBuildFault P (scratches.Scratch e) = ⊤
IfBuildFault P scratches.Damaged = ⊤

-- this is an error of building, and P is true of it
abbrev pub IsBuild : {E : Type 0} → (BuildFault → Type 0) → ScratchFault E → Type 0
IsBuild P (scratches.Build e) = P e
IsBuild P (scratches.Scratch e) = ⊥
IsBuild P scratches.Damaged = ⊥

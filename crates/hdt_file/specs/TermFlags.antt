-- Which strings of a graph are terms that their roles allow, as flags in the order of their IDs.
use Rattle.std.specs.Prelude.{ℕ, zero, suc, ◌&&◌, Bool, true, false, List, replicate, slice_index_or}
use Rattle.hdt_wire.specs.declared.Role.{Role}
use Rattle.hdt_wire.specs.declared.Role.TheVariants.{Subject, Predicate, Object}
use Rattle.hdt_dict.specs.Dictionary.{role_strings}
use Rattle.hdt_triples.specs.TripleSequences.{Triple}
use Rattle.hdt_file.specs.File.{GraphParts}
use Rattle.hdt_file.specs.Text.{HasTerm, HasNoTerm, Pairwise}
use Rattle.hdt_file.specs.declared.term_flags.RoleFlags.{RoleFlags}
use Rattle.hdt_file.specs.declared.term_flags.RoleFlags.TheVariants.{AllTerms, Each}
use Rattle.hdt_file.specs.declared.term_flags.TermFlags.{TermFlags}

-- whether the string is a term that the role allows
abbrev pub IsTermFlag : Role → List ℕ → Bool → Type 0
IsTermFlag role string true = HasTerm role string
IsTermFlag role string false = HasNoTerm role string

-- a flag for each string of the role
abbrev pub AreRoleFlags : GraphParts → Role → List Bool → Type 0
AreRoleFlags g role flags = Pairwise (IsTermFlag role) (role_strings g.dictionary role) flags

-- the flags as a list
abbrev pub flag_list : RoleFlags → List Bool
flag_list (AllTerms n) = replicate n true
flag_list (Each flags) = flags.items

-- the flags of the three roles
pub record AreTermFlags (g : GraphParts) (flags : TermFlags) : Type 0 where
  pub subjects : AreRoleFlags g Subject (flag_list flags.subjects)
  pub predicates : AreRoleFlags g Predicate (flag_list flags.predicates)
  pub objects : AreRoleFlags g Object (flag_list flags.objects)

-- the flag of string n, from 1; false if there is none
abbrev pub term_flag : List Bool → ℕ → Bool
term_flag flags zero = false
term_flag flags (suc i) = slice_index_or flags i false

-- whether the flags of all three strings are true
abbrev pub is_writable : TermFlags → Triple → Bool
is_writable flags t = term_flag (flag_list flags.subjects) t.0 && term_flag (flag_list flags.predicates) t.1
    && term_flag (flag_list flags.objects) t.2

-- Strings with their roles, in ascending order; the sections that they make, and the codes of their IDs there.
use Rattle.std.specs.Prelude.{◌≡◌, ◌↔◌, ℕ, ◌/◌, ◌%◌, ◌+◌, Bool, true, false, ◌&&◌, ◌||◌, not, cond, ◌==◌}
use Rattle.std.specs.Prelude.{List, [], ◌∷◌, ◌++◌, map, Option, Some, None}
use Rattle.std.specs.List.{All, Contains, filter}
use Rattle.std.specs.declared.cmp.Ordering.TheVariants.{Less}
use Rattle.hdt_wire.specs.declared.Role.{Role}
use Rattle.hdt_wire.specs.declared.Role.TheVariants.{Subject, Predicate, Object}
use Rattle.hdt_front.specs.Order.{IsAscending, string_cmp}
use Rattle.hdt_dict.specs.Dictionary.{SectionLists}
use Rattle.hdt_dict.specs.Strings.{IsDictionaryString}
use Rattle.hdt_dict.specs.Writing.{AreSections}
use Rattle.hdt_front.specs.WriterState.{SectionWriterState}
use Rattle.hdt_build.specs.declared.grouped_sections.Roles.{Roles}
use Rattle.hdt_dict.specs.Split.{IsSplit, lists_of_writers}
use Rattle.hdt_build.specs.Inside.Rewriting.{IsIdOf}

-- ---- groups

-- a string, and the roles that it has
pub record Group : Type 0 where
  pub text : List ℕ
  pub subject : Bool
  pub predicate : Bool
  pub object : Bool

abbrev pub group_of : List ℕ → Roles → Group
group_of text roles =
    record { text = text; subject = roles.subject; predicate = roles.predicate; object = roles.object }

-- whether it has a role
abbrev pub has_role : Role → Group → Bool
has_role Subject g = g.subject
has_role Predicate g = g.predicate
has_role Object g = g.object

-- with one more role
abbrev pub with_role : Role → Group → Group
with_role Subject g = record g { subject = true }
with_role Predicate g = record g { predicate = true }
with_role Object g = record g { object = true }

-- a string with one role
abbrev pub new_group : List ℕ → Role → Group
new_group text role =
    with_role role (record { text = text; subject = false; predicate = false; object = false })

abbrev pub texts_of_groups : List Group → List (List ℕ)
texts_of_groups gs = map (λ g. g.text) gs

-- the string is one that a dictionary can have, and has a role
pub record IsGroup (g : Group) : Type 0 where
  pub valid : IsDictionaryString g.text
  pub some : (g.subject || (g.predicate || g.object)) ≡ true

-- groups whose strings ascend
pub record AreGroups (gs : List Group) : Type 0 where
  pub ascend : IsAscending (texts_of_groups gs)
  pub each : All IsGroup gs

-- a group that passes the test has the string x
abbrev pub HasPassing : (Group → Bool) → List Group → List ℕ → Type 0
HasPassing test gs x = (g : Group) × Contains gs g × (test g ≡ true) × (g.text ≡ x)

-- a group has the string x in a role
abbrev pub HasRole : List Group → Role → List ℕ → Type 0
HasRole gs role = HasPassing (has_role role) gs

-- the list has the strings that groups have in a role
abbrev pub AreRoleStrings : List Group → Role → List (List ℕ) → Type 0
AreRoleStrings gs role xs = (x : List ℕ) → HasRole gs role x ↔ Contains xs x

-- x is less than the last string
abbrev pub IsBelowLast : List ℕ → List Group → Type 0
IsBelowLast x gs = (front : List Group) × (g : Group) × (gs ≡ front ++ g ∷ []) × (string_cmp x g.text ≡ Less)

-- ---- sections

-- the strings of the groups that pass the test
abbrev pub passing_texts : (Group → Bool) → List Group → List (List ℕ)
passing_texts test gs = texts_of_groups (filter test gs)

-- the sections of groups
abbrev pub lists_of_groups : List Group → SectionLists
lists_of_groups gs = record {
  shared = passing_texts (λ g. g.subject && g.object) gs;
  subjects = passing_texts (λ g. g.subject && not g.object) gs;
  predicates = passing_texts (λ g. g.predicate) gs;
  objects = passing_texts (λ g. g.object && not g.subject) gs;
}

-- each list with the other appended
abbrev pub joined_lists : SectionLists → SectionLists → SectionLists
joined_lists d e = record {
  shared = d.shared ++ e.shared;
  subjects = d.subjects ++ e.subjects;
  predicates = d.predicates ++ e.predicates;
  objects = d.objects ++ e.objects;
}

-- ---- codes

-- The code of a subject or an object: twice its ID in the shared section, or twice its ID in its other section, plus 1.
-- It is 0 if the string is neither.
abbrev pub IsNodeCode : SectionLists → List ℕ → Bool → Bool → ℕ → Type 0
IsNodeCode d x true true code = (code % 2 ≡ 0) × IsIdOf d.shared x (code / 2)
IsNodeCode d x true false code = (code % 2 ≡ 1) × IsIdOf d.subjects x (code / 2)
IsNodeCode d x false true code = (code % 2 ≡ 1) × IsIdOf d.objects x (code / 2)
IsNodeCode d x false false code = code ≡ 0

-- the ID of a predicate; 0 if the string is none
abbrev pub IsPredicateId : SectionLists → List ℕ → Bool → ℕ → Type 0
IsPredicateId d x true id = IsIdOf d.predicates x id
IsPredicateId d x false id = id ≡ 0

-- the numbers are two for each group: the code, and the ID of the predicate
unfoldable pub HaveCodes : SectionLists → List Group → List ℕ → Type 0
HaveCodes d [] numbers = numbers ≡ []
HaveCodes d (g ∷ gs) [] = ⊥
HaveCodes d (g ∷ gs) (code ∷ []) = ⊥
HaveCodes d (g ∷ gs) (code ∷ id ∷ numbers) =
    IsNodeCode d g.text g.subject g.object code × IsPredicateId d g.text g.predicate id × HaveCodes d gs numbers

-- the ID of a code among the strings of a role, which follow so many shared strings
abbrev pub id_of_code : ℕ → ℕ → ℕ
id_of_code shared code = cond (code % 2 == 0) (code / 2) (code / 2 + shared)

-- the ID of a role, from the two numbers of a group
abbrev pub id_in_role : Role → ℕ → ℕ → ℕ → ℕ
id_in_role Subject shared code id = id_of_code shared code
id_in_role Predicate shared code id = id
id_in_role Object shared code id = id_of_code shared code

-- the code and the ID that were given out; none if there was no string before
abbrev pub numbers_of_codes : Option (ℕ × ℕ) → List ℕ
numbers_of_codes None = []
numbers_of_codes (Some codes) = codes.0 ∷ codes.1 ∷ []

-- ---- writing

-- the block size and the strings of each section
pub record SectionStates : Type 0 where
  pub shared : SectionWriterState
  pub subjects : SectionWriterState
  pub predicates : SectionWriterState
  pub objects : SectionWriterState

abbrev pub lists_of_states : SectionStates → SectionLists
lists_of_states s = lists_of_writers s.shared s.subjects s.predicates s.objects

-- each has n strings a block
pub record HaveSize (n : ℕ) (s : SectionStates) : Type 0 where
  pub shared : s.shared.block_size ≡ n
  pub subjects : s.subjects.block_size ≡ n
  pub predicates : s.predicates.block_size ≡ n
  pub objects : s.objects.block_size ≡ n

-- a group was written, with this code and this ID
pub record IsGroupWritten (g : Group) (old new : SectionStates) (codes : ℕ × ℕ) : Type 0 where
  pub lists : lists_of_states new ≡ joined_lists (lists_of_states old) (lists_of_groups (g ∷ []))
  pub code : IsNodeCode (lists_of_states new) g.text g.subject g.object codes.0
  pub id : IsPredicateId (lists_of_states new) g.text g.predicate codes.1
  pub blocks : (n : ℕ) → HaveSize n old → HaveSize n new

-- the sections, of n strings a block, have all groups, and the numbers were given out for them
pub record AreWritten (n : ℕ) (sections : SectionStates) (gs : List Group) (numbers : List ℕ) : Type 0 where
  pub lists : lists_of_states sections ≡ lists_of_groups gs
  pub codes : HaveCodes (lists_of_states sections) gs numbers
  pub blocks : HaveSize n sections

-- the sections have all groups, and are valid
pub record AreFinished (n : ℕ) (sections : SectionStates) (gs : List Group) (numbers : List ℕ) : Type 0 where
  pub groups : AreGroups gs
  pub written : AreWritten n sections gs numbers
  pub valid : AreSections (lists_of_states sections)
  pub split : (ss ps os : List (List ℕ)) → AreRoleStrings gs Subject ss → AreRoleStrings gs Predicate ps
      → AreRoleStrings gs Object os → IsSplit ss ps os (lists_of_states sections)

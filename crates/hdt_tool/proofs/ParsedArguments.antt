-- What valid arguments give, and which usage errors are possible if they are not valid.
use Rattle.std.proofs.Common.{◌≡◌, ℕ, Bool, true, false, List, Option, Some, codes, refl, sym, ap, subst, inl, inr, ◌⊎◌}
use Rattle.std.proofs.Common.{◌++◌, ◌∷◌, [], None, ◌∙◌, map, string_bytes}
use Rattle.std.specs.declared.alloc.Global.{Global}
use Rattle.std.specs.declared.string.String.{String}
use Rattle.std.specs.Prelude.{◌≢◌, IsSome, IsSomeAnd}
use Rattle.std.specs.Str.{bytes_eq}
use Rattle.std.proofs.lemmas.Slice.Eq.{bytes_eq-Decides}
use Rattle.clap.specs.Words.{Row, Text, first_of, one_of}
use Rattle.hdt_terms.specs.declared.fault.TermFault.{TermFault}
use Rattle.hdt_terms.specs.Faults.{out_of_memory}
use Rattle.hdt_terms.specs.TermErrors.{IsTermError}
use Rattle.hdt_tool.specs.declared.fault.UsageFault.{UsageFault}
use Rattle.hdt_tool.specs.declared.fault.TermArgument.{TermArgument}
use Rattle.hdt_tool.specs.declared.fault.UsageFault.TheVariants.{Usage, Help, InvalidTerm, OutOfMemory}
use Rattle.hdt_build.specs.declared.options.Options.{Options}
use Rattle.hdt_tool.specs.declared.request.Action.{Action}
use Rattle.hdt_tool.specs.declared.request.Request.{Request}
use Rattle.hdt_tool.specs.declared.request.Action.TheVariants as action
use Rattle.hdt_tool.specs.declared.request.MergeOptions.{MergeOptions}
use Rattle.hdt_tool.specs.declared.request.SplitOptions.{SplitOptions}
use Rattle.hdt_tool.specs.CommandLine.{IsQueryAction, ParsesAsMergeOptions, ParsesAsSplitOptions, IsRequestOf}
use Rattle.hdt_tool.specs.CommandLine.{IsQueryRequest}
use Rattle.hdt_tool.specs.CommandLine.{IsOutputRequest, IsOutputAction, Refutes, RefutesOrInvalidTerm}
use Rattle.hdt_tool.specs.CommandLine.{IsFaultOfArgument, IsInvalidTerm, IsInvalidPatternTerm, IsUsed, HasInvalidTerm}
use Rattle.hdt_tool.specs.CommandLine.{ParsesAsBlankNodes, ParsesAsBuildOptions, IsBuildAction, IsFaultOfTerm}
use Rattle.hdt_tool.specs.CommandLine.{IsUsageText, further_paths}
use Rattle.hdt_tool.specs.declared.request.BlankNodes.{BlankNodes}
use Rattle.hdt_tool.specs.ErrorLines.{argument_name}

some_is : (a b : Text) → Some a ≡ Some b → a ≡ b
some_is a b e = cc

-- An error that refutes P, or is one of Q, also refutes every W that implies P, or is one of every Z that contains Q.
pub map_refutes : (P W : Type 0) (Q Z : TermArgument → TermFault → Type 0) (r : UsageFault) → (W → P)
    → ((argument : TermArgument) (fault : TermFault) → Q argument fault → Z argument fault) → RefutesOrInvalidTerm P Q r
    → RefutesOrInvalidTerm W Z r
map_refutes P W Q Z (Help said) f g h = absurd h
map_refutes P W Q Z (Usage said) f g h = λ w. h (f w)
map_refutes P W Q Z (InvalidTerm argument fault) f g h = g argument fault h
map_refutes P W Q Z OutOfMemory f g h = tt

pub without_or : (P W : Type 0) (Q : TermArgument → TermFault → Type 0) (r : UsageFault) → (W → P) → Refutes P r
    → RefutesOrInvalidTerm W Q r
without_or P W Q r f h = map_refutes P W (λ _ _. ⊥) Q r f (λ argument fault none. absurd none) h

pub without : (P W : Type 0) (r : UsageFault) → (W → P) → Refutes P r → Refutes W r
without P W r f h = without_or P W (λ _ _. ⊥) r f h

-- The error of parsing a text as a term.
pub term_fault_of_argument : (argument : TermArgument) (text : List ℕ) (raw : Bool) (fault : TermFault) (r : UsageFault)
    → raw ≡ false → IsFaultOfTerm argument fault r → (fault ≡ out_of_memory) ⊎ IsTermError text fault
    → RefutesOrInvalidTerm (Unit {0}) (IsFaultOfArgument argument raw text) r
term_fault_of_argument argument text raw fault (InvalidTerm other told) unused k (inl e) =
    absurd (k.2 (ap (λ (f : TermFault). f.reason) e))
term_fault_of_argument argument text raw fault (InvalidTerm other told) unused k (inr f) =
    (k.0, unused, subst (IsTermError text) (sym k.1) f)
term_fault_of_argument argument text raw fault OutOfMemory unused k h = tt
term_fault_of_argument argument text raw fault r unused k h = absurd k

-- The error is one of the argument's entry.
in_entry : (argument : TermArgument) (rows : List Row) (text : List ℕ) (flag : Bool) (other : TermArgument)
    (fault : TermFault) → (IsUsed (one_of (codes "raw") rows) → flag ≡ true)
    → first_of (argument_name argument) rows ≡ Some text → IsFaultOfArgument argument flag text other fault
    → IsInvalidTerm rows argument fault
in_entry argument rows text flag other fault on is h = (
  λ used. let bad : true ≡ false = sym (on used) ∙ h.1 in absurd cc,
  subst (λ (e : Option Text). IsSomeAnd e (λ t. IsTermError t fault)) (sym is) h.2,
)

pub invalid_term : (argument : TermArgument) (rows : List Row) (text : List ℕ) (flag : Bool) (r : UsageFault)
    → (IsUsed (one_of (codes "raw") rows) → flag ≡ true)
    → first_of (argument_name argument) rows ≡ Some text
    → RefutesOrInvalidTerm (Unit {0}) (IsFaultOfArgument argument flag text) r
    → RefutesOrInvalidTerm (IsSome (first_of (argument_name argument) rows)) (λ other fault. (other ≡ argument)
    × IsInvalidTerm rows argument fault) r
invalid_term argument rows text flag r on is h =
    map_refutes _ _ _ _ r (λ _. tt) (λ other fault f. (f.0, in_entry argument rows text flag other fault on is f)) h

pub invalid_part : (argument : TermArgument) (rows : List Row) (text : List ℕ) (flag : Bool) (r : UsageFault)
    → (IsUsed (one_of (codes "raw") rows) → flag ≡ true)
    → first_of (argument_name argument) rows ≡ Some text
    → RefutesOrInvalidTerm (Unit {0}) (λ other fault. (text ≢ codes "?")
    × IsFaultOfArgument argument flag text other fault) r
    → RefutesOrInvalidTerm (IsSome (first_of (argument_name argument) rows)) (λ other fault. (other ≡ argument)
    × IsInvalidPatternTerm rows argument fault) r
invalid_part argument rows text flag r on is h =
    map_refutes _ _ _ _ r (λ _. tt)
    (λ other fault f. (
      f.1.0,
      (λ any. f.0 (some_is _ _ (sym is ∙ any)), in_entry argument rows text flag other fault on is f.1),
    )) h

-- ---- what every action needs

-- Two different names.
pub differ : {P : Type 0} (name a b : Text) → name ≡ a → name ≡ b → bytes_eq a b ≡ false → P
differ name a b p q apart = let same : bytes_eq a b ≡ true = (bytes_eq-Decides a b).1 (sym p ∙ q) in
    let bad : true ≡ false = sym same ∙ apart in absurd cc

-- ---- `rewrite`

-- Only `rewrite` reads IN and writes OUT.
only_rewrite : (name : Text) (rows : List Row) (a : Action) → name ≢ codes "rewrite" → IsOutputAction name rows a → ⊥
only_rewrite name rows (action.Rewrite b) other h = other h.0
only_rewrite name rows a other h = h

none_on_file : (name : Text) (rows : List Row) → name ≡ codes "rewrite" → (a : Action) → IsQueryAction name rows a → ⊥
none_on_file name rows is (action.Find given numbers) (inl h) = differ name _ _ is h.named refl
none_on_file name rows is (action.Find given numbers) (inr h) = differ name _ _ is h.0 refl
none_on_file name rows is (action.SkipNonTerms given count most) (inl h) = differ name _ _ is h.named refl
none_on_file name rows is (action.SkipNonTerms given count most) (inr h) = differ name _ _ is h.0 refl
none_on_file name rows is (action.Search given format most) h = differ name _ _ is h.named refl
none_on_file name rows is (action.Count role top raw) h = differ name _ _ is h.named refl
none_on_file name rows is (action.Answer options) h = differ name _ _ is h.named refl
none_on_file name rows is (action.Build options) h = h
none_on_file name rows is (action.Rewrite b) h = h
none_on_file name rows is a h = differ name _ _ is h.0 refl

rewrites : (name : Text) (rows : List Row) → name ≡ codes "rewrite" → (request : Request)
    → IsRequestOf name rows request → IsOutputRequest name rows request
rewrites name rows is request (inl h) = absurd (none_on_file name rows is request.action h.action)
rewrites name rows is request (inr (inl h)) = h
rewrites name rows is request (inr (inr h)) = differ name _ _ is h.named refl

-- A usage error of `rewrite` is one of the command line.
pub of_making : (name : Text) (rows : List Row) (r : UsageFault) → name ≡ codes "rewrite"
    → Refutes ((request : Request) × IsOutputRequest name rows request) r
    → RefutesOrInvalidTerm ((request : Request) × IsRequestOf name rows request) (HasInvalidTerm name rows) r
of_making name rows r is h =
    without_or _ _ (HasInvalidTerm name rows) r (λ w. (w.0, rewrites name rows is w.0 w.1)) h

reads : (name : Text) (rows : List Row) → name ≢ codes "build" → name ≢ codes "rewrite" → (request : Request)
    → IsRequestOf name rows request → IsQueryRequest name rows request
reads name rows build rewrite request (inl h) = h
reads name rows build rewrite request (inr (inl h)) = absurd (only_rewrite name rows request.action rewrite h.action)
reads name rows build rewrite request (inr (inr h)) = absurd (build h.named)

-- So is one of the other commands.
pub of_others : (name : Text) (rows : List Row) (r : UsageFault) → name ≢ codes "build" → name ≢ codes "rewrite"
    → RefutesOrInvalidTerm ((request : Request) × IsQueryRequest name rows request) (HasInvalidTerm name rows) r
    → RefutesOrInvalidTerm ((request : Request) × IsRequestOf name rows request) (HasInvalidTerm name rows) r
of_others name rows r build rewrite h =
    map_refutes _ _ _ _ r (λ w. (w.0, reads name rows build rewrite w.0 w.1)) (λ argument fault m. m) h

-- ---- `build`

-- What the arguments of `build` have.
pub record HasBuildArguments (rows : List Row) : Type 0 where
  pub file : IsSome (first_of (codes "FILE") rows)
  pub options : (o : Options) × ParsesAsBuildOptions rows o
  pub blank_nodes : (b : Option BlankNodes) × ParsesAsBlankNodes (first_of (codes "blank-nodes") rows) b
  pub paths : (others : List Text) × (out : Text) × (further_paths rows ≡ others ++ out ∷ [])

inputs_needed : (rows : List Row) (a : Action) → IsQueryAction (codes "build") rows a
    → (options : MergeOptions) × (b : Option BlankNodes) × ParsesAsMergeOptions rows options
    × ParsesAsBlankNodes (first_of (codes "blank-nodes") rows) b
inputs_needed rows (action.Find given numbers) (inl h) = differ _ _ _ refl h.named refl
inputs_needed rows (action.Find given numbers) (inr h) = differ _ _ _ refl h.0 refl
inputs_needed rows (action.SkipNonTerms given count most) (inl h) = differ _ _ _ refl h.named refl
inputs_needed rows (action.SkipNonTerms given count most) (inr h) = differ _ _ _ refl h.0 refl
inputs_needed rows (action.Search given format most) h = differ _ _ _ refl h.named refl
inputs_needed rows (action.Count role top raw) h = differ _ _ _ refl h.named refl
inputs_needed rows (action.Answer options) h = differ _ _ _ refl h.named refl
inputs_needed rows (action.Build options) h = absurd h
inputs_needed rows (action.Rewrite b) h = absurd h
inputs_needed rows (action.BuildInputs options blank) h = (options, blank, h.1, h.2)
inputs_needed rows a h = differ _ _ _ refl h.0 refl

build_needed_alone : (rows : List Row) (a : Action) → IsBuildAction rows a
    → (o : Options) × ParsesAsBuildOptions rows o
build_needed_alone rows (action.Build options) h = (options, h)
build_needed_alone rows a h = absurd h

only_out : (rows : List Row) (out : Option (String Global))
    → IsSomeAnd out (λ path. further_paths rows ≡ string_bytes path ∷ [])
    → (others : List Text) × (out : Text) × (further_paths rows ≡ others ++ out ∷ [])
only_out rows None h = absurd h
only_out rows (Some path) h = ([], string_bytes path, h)

pub build_needed : (rows : List Row) (request : Request) → IsRequestOf (codes "build") rows request
    → HasBuildArguments rows
build_needed rows request (inl h) =
    let needed = inputs_needed rows request.action h.action in
    record {
      file = subst IsSome (sym h.file) refl;
      options = (needed.0.options, needed.2.file);
      blank_nodes = (needed.1, needed.3);
      paths = (map string_bytes needed.0.others.items, string_bytes needed.0.out, needed.2.paths);
    }
build_needed rows request (inr (inl h)) =
    absurd (only_rewrite _ rows request.action (λ is. differ _ _ _ refl is refl) h.action)
build_needed rows request (inr (inr h)) = record {
  file = subst IsSome (sym h.file) refl;
  options = build_needed_alone rows request.action h.action;
  blank_nodes = (None, h.blank_nodes);
  paths = only_out rows request.out h.out;
}

-- A usage error of `build` is one of the command line.
pub of_build : (name : Text) (rows : List Row) (r : UsageFault) → name ≡ codes "build"
    → Refutes ((request : Request) × IsRequestOf (codes "build") rows request) r
    → RefutesOrInvalidTerm ((request : Request) × IsRequestOf name rows request) (HasInvalidTerm name rows) r
of_build name rows r is h =
    without_or _ _ (HasInvalidTerm name rows) r
    (λ w. (w.0, subst (λ (n : Text). IsRequestOf n rows w.0) is w.1)) h

no_last : {X : Type 0} (xs : List X) (x : X) → [] ≡ xs ++ x ∷ [] → ⊥
no_last [] x e = cc
no_last (y ∷ ys) x e = cc

-- Without OUT there is no request.
pub no_out : (rows : List Row) (said : Text) (r : UsageFault) → further_paths rows ≡ [] → IsUsageText said r
    → Refutes ((request : Request) × IsRequestOf (codes "build") rows request) r
no_out rows said (Usage text) none h = λ w.
    let needed = build_needed rows w.0 w.1 in
    no_last needed.paths.0 needed.paths.1 (sym none ∙ needed.paths.2)
no_out rows said OutOfMemory none h = tt
no_out rows said r none h = absurd h

-- ---- `split`

-- `split` needs its options.
pub split_needed : (name : Text) (rows : List Row) → name ≡ codes "split" → (a : Action) → IsQueryAction name rows a
    → (options : SplitOptions) × ParsesAsSplitOptions rows options
split_needed name rows is (action.Find given numbers) (inl h) = differ name _ _ is h.named refl
split_needed name rows is (action.Find given numbers) (inr h) = differ name _ _ is h.0 refl
split_needed name rows is (action.SkipNonTerms given count most) (inl h) = differ name _ _ is h.named refl
split_needed name rows is (action.SkipNonTerms given count most) (inr h) = differ name _ _ is h.0 refl
split_needed name rows is (action.Search given format most) h = differ name _ _ is h.named refl
split_needed name rows is (action.Count role top raw) h = differ name _ _ is h.named refl
split_needed name rows is (action.Answer options) h = differ name _ _ is h.named refl
split_needed name rows is (action.Build options) h = absurd h
split_needed name rows is (action.Rewrite b) h = absurd h
split_needed name rows is (action.Split options) h = (options, h.1)
split_needed name rows is a h = differ name _ _ is h.0 refl

-- ---- `merge`

-- `merge` needs its options.
pub merge_needed : (name : Text) (rows : List Row) → name ≡ codes "merge" → (a : Action) → IsQueryAction name rows a
    → (options : MergeOptions) × (b : Option BlankNodes) × ParsesAsMergeOptions rows options
    × ParsesAsBlankNodes (first_of (codes "blank-nodes") rows) b
merge_needed name rows is (action.Find given numbers) (inl h) = differ name _ _ is h.named refl
merge_needed name rows is (action.Find given numbers) (inr h) = differ name _ _ is h.0 refl
merge_needed name rows is (action.SkipNonTerms given count most) (inl h) = differ name _ _ is h.named refl
merge_needed name rows is (action.SkipNonTerms given count most) (inr h) = differ name _ _ is h.0 refl
merge_needed name rows is (action.Search given format most) h = differ name _ _ is h.named refl
merge_needed name rows is (action.Count role top raw) h = differ name _ _ is h.named refl
merge_needed name rows is (action.Answer options) h = differ name _ _ is h.named refl
merge_needed name rows is (action.Build options) h = absurd h
merge_needed name rows is (action.Rewrite b) h = absurd h
merge_needed name rows is (action.Merge options blank) h = (options, blank, h.1, h.2)
merge_needed name rows is a h = differ name _ _ is h.0 refl

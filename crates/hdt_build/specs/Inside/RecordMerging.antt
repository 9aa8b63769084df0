-- Merging runs of records to sections.
use Rattle.std.specs.Prelude.{◌≡◌, ◌↔◌, ◌⊎◌, ◌<◌, ◌++◌, ℕ, List, [], None, length, slice_index_or}
use Rattle.std.specs.List.{Contains}
use Rattle.hdt_wire.specs.declared.Role.{Role}
use Rattle.hdt_build.specs.declared.grouped_sections.Pushed.{Pushed}
use Rattle.hdt_build.specs.declared.grouped_sections.Pushed.TheVariants.{Refused, Added, Began}
use Rattle.hdt_build.specs.Inside.Events.{dealt, latest}
use Rattle.hdt_build.specs.Inside.GroupedSections.{BuilderState, HasGroups}
use Rattle.hdt_build.specs.Inside.Groups.{AreFinished, Group, HasRole, numbers_of_codes, SectionStates, texts_of_groups}
use Rattle.hdt_build.specs.Inside.Records.{AreRecordRuns, record_of, record_with}
use Rattle.hdt_build.specs.Inside.TripleRuns.{joined_runs}

-- the groups have the records of the runs, and the events deal them to the runs
pub record AreGroupsOf (runs : List (List (List ℕ))) (gs : List Group) (events : List ℕ) : Type 0 where
  pub each : (b : ℕ) → b < length runs
      → slice_index_or runs b [] ≡ dealt record_with b None (texts_of_groups gs) events
  pub roles : (role : Role) (x : List ℕ) → HasRole gs role x ↔ Contains (joined_runs runs) (record_of role x)

-- The sections are those of some groups, with these codes. If the contents of scratch are known, the groups are those
-- of the runs.
pub record AreMergedRecords (known : Type 0) (n : ℕ) (runs : List (List (List ℕ))) (sections : SectionStates)
    (numbers events : List ℕ) : Type 0 where
  pub groups : List Group
  pub codes : List ℕ
  pub finished : AreFinished n sections groups codes
  pub codes_are : known → AreRecordRuns runs → codes ≡ numbers
  pub groups_are : known → AreRecordRuns runs → AreGroupsOf runs groups events

-- ---- while runs are merged

-- The events deal the first records of run k to it; `rest` remains. The groups so far have these texts.
pub record Deals (k : ℕ) (run rest texts : List (List ℕ)) (events : List ℕ) : Type 0 where
  pub done : List (List ℕ)
  pub run_is : run ≡ done ++ rest
  pub goes_on : (ys : List (List ℕ)) (es : List ℕ) → dealt record_with k None (texts ++ ys) (events ++ es)
      ≡ done ++ dealt record_with k (latest None texts) ys es

-- the groups have the records of the runs, but for those that remain
pub record AreGroupsSoFar (runs rests : List (List (List ℕ))) (gs : List Group) (events : List ℕ) : Type 0 where
  pub long : length rests ≡ length runs
  pub each : (b : ℕ) → b < length runs
      → Deals b (slice_index_or runs b []) (slice_index_or rests b []) (texts_of_groups gs) events
  pub from_runs : (role : Role) (x : List ℕ) → HasRole gs role x → Contains (joined_runs runs) (record_of role x)
  pub in_groups : (role : Role) (x : List ℕ) → Contains (joined_runs runs) (record_of role x)
      → HasRole gs role x ⊎ Contains (joined_runs rests) (record_of role x)

-- the state of a merge: what remains of the runs, the builder, and the numbers and events that were written
pub record IsMerging (known : Type 0) (n : ℕ) (runs rests : List (List (List ℕ))) (b : BuilderState)
    (numbers events : List ℕ) : Type 0 where
  pub groups : List Group
  pub codes : List ℕ
  pub has : HasGroups n b groups codes
  pub codes_are : known → AreRecordRuns runs → codes ≡ numbers
  pub groups_are : known → AreRecordRuns runs → AreGroupsSoFar runs rests groups events

-- what was written for a push
abbrev pub IsNoted : Type 0 → Pushed → ℕ → List ℕ → List ℕ → Type 0
IsNoted known Refused begins before after = ⊥
IsNoted known Added begins before after = (begins ≡ 0) × (known → after ≡ before)
IsNoted known (Began codes) begins before after = (begins ≡ 1) × (known → after ≡ before ++ numbers_of_codes codes)

-- the state when nothing remains
pub record IsMergedTo (known : Type 0) (n : ℕ) (runs : List (List (List ℕ))) (b : BuilderState)
    (numbers events : List ℕ) : Type 0 where
  pub rests : List (List (List ℕ))
  pub merging : IsMerging known n runs rests b numbers events
  pub none : (k : ℕ) → k < length rests → slice_index_or rests k [] ≡ []

use Rattle.std.proofs.Common.{◌∙◌, ap}
use Rattle.std.proofs.lemmas.List.{get_or_default}
use Rattle.hdt_front.specs.Iteration.{LocatedString}
use Rattle.hdt_front.specs.Laws.Iteration.{located_are_strings}
use Rattle.hdt_front.specs.SectionIteration.{located_strings}
use Rattle.hdt_front.specs.Strings.{section_of}
use Rattle.hdt_front.specs.declared.section.Section.{Section}
use Rattle.hdt_dict.specs.Iteration.{AreLocated}
use Rattle.hdt_dict.proofs.DisjointChecks.{nowhere, placed_is}
use Rattle.hdt_dict.proofs.dictionary.Dictionary.located_strings.Goals as goal

are_located : (s : Section) → AreLocated (section_of s) (located_strings s)
unfolding section_of located_strings
are_located s = record {
  strings_are = located_are_strings s;
  places_are = λ i d below. ap (λ (p : LocatedString). p.place) (get_or_default (located_strings s) i d nowhere below
      ∙ placed_is s i below);
}

pub returns : goal.returns
returns c = rw (← c.section.ensures, c.new.ensures) (are_located c.section.result.now)

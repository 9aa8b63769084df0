use Rattle.std.proofs.Common.{[], refl}
use Rattle.std.specs.List.Sorted.{IsStrictlySortedBy}
use Rattle.std.proofs.lemmas.List.Elements.{All-nil}
use Rattle.hdt_build.specs.Inside.Groups.{HaveCodes, IsGroup}
use Rattle.hdt_build.proofs.grouped_sections.SectionBuilder.new.Goals as goal

pub returns : goal.returns
unfolding HaveCodes IsStrictlySortedBy
returns g c = record {
  closed = [];
  all = refl;
  first = λ _. refl;
  written = record {
    lists = c.in_ok-new_sections.ensures.none;
    codes = refl;
    blocks = c.in_ok-new_sections.ensures.size;
  };
  groups = record { ascend = tt; each = All-nil IsGroup };
}

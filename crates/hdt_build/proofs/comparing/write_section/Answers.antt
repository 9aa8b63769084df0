use Rattle.std.proofs.Common.{◌≤◌, ◌∙◌, ℕ, List, length, take, ap, subst, sym}
use Rattle.hdt_file.specs.Graph.{layout_view}
use Rattle.hdt_build.specs.Inside.Comparing.{section_list}
use Rattle.hdt_build.proofs.RestOfBytes.{section_texts, strings_ahead, writer_of}
use Rattle.hdt_build.proofs.comparing.write_section.Goals as goal

pub push_strings-requires : goal.push_strings-requires
push_strings-requires c =
    let ahead = strings_ahead c.strings-strings.result (layout_view c.args.layout.now).dictionary c.args.section
    c.section_role.result c.section_range-skipped.result.0 c.skip_strings.new.strings.ahead c.section_role.ensures
    c.strings-strings.ensures c.in_ok-skip_strings.ensures in
    let within = subst (λ (l : List (List ℕ)). c.section_range-skipped.result.1 ≤ length l) (sym ahead)
    c.section_range-skipped.ensures.within in
    record {
      within = within;
      texts = section_texts c.skip_strings.new.strings.ahead
          (section_list (layout_view c.args.layout.now).dictionary c.args.section) c.section_range-skipped.result.1
          within (ap (take c.section_range-skipped.result.1) ahead ∙ c.section_range-skipped.ensures.strings)
          c.requires.strings;
    }

pub returns : goal.returns
returns c =
    let ahead = strings_ahead c.strings-strings.result (layout_view c.args.layout.now).dictionary c.args.section
    c.section_role.result c.section_range-skipped.result.0 c.skip_strings.new.strings.ahead c.section_role.ensures
    c.strings-strings.ensures c.in_ok-skip_strings.ensures in
    writer_of c.push_strings.new.out c.new-out.result c.args.block_size
    (section_list (layout_view c.args.layout.now).dictionary c.args.section)
    (take c.section_range-skipped.result.1 c.skip_strings.new.strings.ahead) c.in_ok-push_strings.ensures
    c.new-out.ensures
    (ap (take c.section_range-skipped.result.1) ahead ∙ c.section_range-skipped.ensures.strings)

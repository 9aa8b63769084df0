use Rattle.std.proofs.Common.{[], drop}
use Rattle.hdt_front.specs.Laws.FrontCodingSteps.{Ascending}
use Rattle.hdt_front.specs.Canonical.{borrowed_texts}
use Rattle.hdt_front.proofs.section.are_section_strings.Given as goal

abbrev pub invariant-loop-i : goal.invariant-loop-i
invariant-loop-i l = record {
  forth : Ascending l.i l.before (drop l.i (borrowed_texts l.strings)) → Ascending 0 [] (borrowed_texts l.strings);
  back : Ascending 0 [] (borrowed_texts l.strings) → Ascending l.i l.before (drop l.i (borrowed_texts l.strings));
}

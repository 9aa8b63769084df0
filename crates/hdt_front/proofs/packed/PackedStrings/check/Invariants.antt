use Rattle.std.proofs.Common.{◌≡◌, ◌≤◌, ◌-◌, ◌%◌, length, [], true}
use Rattle.std.specs.Str.{is_utf8}
use Rattle.hdt_front.specs.StringChecks.{strings_check}
use Rattle.hdt_front.specs.PackedView.{block_layout}
use Rattle.hdt_front.proofs.packed.PackedStrings.check.Given as goal

abbrev pub invariant-loop-i : goal.invariant-loop-i
invariant-loop-i l = record {
  index : l.index_in_block ≡ l.i % l.self.block_size;
  utf8 : is_utf8 l.before.items ≡ true;
  left : length l.rest ≤ length l.self.bytes.now;
  rows : strings_check (block_layout l.self) (l.self.count - l.i) l.i l.before.items l.rest
      ≡ strings_check (block_layout l.self) l.self.count 0 [] l.self.bytes.now;
}

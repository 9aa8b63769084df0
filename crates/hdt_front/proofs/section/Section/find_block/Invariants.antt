use Rattle.std.proofs.Common.{◌≡◌, ◌≤◌, ◌<◌, ◌+◌, ◌-◌, ◌*◌, get_or, [], length, drop}
use Rattle.hdt_wire.specs.Checks.{len_before_zero}
use Rattle.std.specs.declared.cmp.Ordering.TheVariants.{Greater}
use Rattle.hdt_front.specs.Strings.{strings_of, blocks_of}
use Rattle.hdt_seq.specs.Width.{digits}
use Rattle.hdt_front.specs.EntryFacts.{bytes_from_entry}
use Rattle.hdt_front.specs.Inside.Searching.{IsBefore, Compares}
use Rattle.hdt_front.specs.Order.{lcp_len}
use Rattle.hdt_front.proofs.section.Section.find_block.Given as goal

abbrev pub invariant-loop-low : goal.invariant-loop-low
invariant-loop-low l = record {
  in_order : l.low ≤ l.high;
  inside : l.high ≤ blocks_of l.self;
  before : 0 < l.low → IsBefore l.bound (get_or (strings_of l.self) ((l.low - 1) * l.self.packed.block_size) []) l.x
      l.low_lcp;
  ends : 0 < l.low → len_before_zero l.last < length l.last;
  rest : 0 < l.low → drop (len_before_zero l.last + 1) l.last
      ≡ bytes_from_entry l.self.packed.block_size ((l.low - 1) * l.self.packed.block_size + 1) l.self.packed.bytes.now;
  next : l.high < blocks_of l.self
      → Compares l.bound (get_or (strings_of l.self) (l.high * l.self.packed.block_size) []) l.x Greater;
  some_low : 0 < l.low_lcp → 0 < l.low;
  some_high : 0 < l.high_lcp → l.high < blocks_of l.self;
  high_lcp : 0 < l.high_lcp
      → lcp_len (get_or (strings_of l.self) (l.high * l.self.packed.block_size) []) l.x ≡ l.high_lcp;
  cost : l.steps + digits (l.high - l.low) ≤ l.fn.steps + digits (blocks_of l.self);
  more : l.fn.steps ≤ l.steps;
}

abbrev pub decreases-loop-low : goal.decreases-loop-low
decreases-loop-low l = l.high - l.low

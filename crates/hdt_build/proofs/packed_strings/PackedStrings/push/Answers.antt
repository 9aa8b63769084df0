use Rattle.std.proofs.Common.{◌∙◌, [], List, ℕ, ap}
use Rattle.hdt_front.specs.Order.{lcp_len}
use Rattle.hdt_build.specs.Inside.PackedStrings.{final_string}
use Rattle.hdt_build.proofs.packed_strings.PackedStrings.push.Goals as goal

pub push_after-requires : goal.push_after-requires
push_after-requires c =
    let last = c.deref.ensures.value ∙ (c.self.invariant.last_is ∙ ap (final_string []) c.self.view_is) in
    c.common_prefix-same.ensures.greatest ∙ ap (λ (x : List ℕ). lcp_len x c.args.text.now) last

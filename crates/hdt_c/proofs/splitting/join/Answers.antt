-- The texts so far and their ends.
use Rattle.std.proofs.Common.{ℕ, ◌++◌, ap, ◌∙◌, arith, length}
use Rattle.std.specs.Global.{Vec}
use Rattle.std.specs.Prelude.{List}
use Rattle.hdt_dict.specs.StringBatch.{ends_from}
use Rattle.hdt_c.proofs.JoinLaws.{bytes_push, ends_push}
use Rattle.hdt_c.proofs.splitting.join.Goals as goal

pub outs-init : goal.outs-init
unfolding ends_from
outs-init c = record { bytes = c.new-bytes.ensures.items; ends = c.new-ends.ensures.items }

pub outs-preserved : goal.outs-preserved
outs-preserved c =
    let bytes = bytes_push c.outs.yielded c.in-Some.out c.outs.bytes.items c.extend_from_slice.new.self.items
    c.outs.invariant.bytes
    (c.in_ok-extend_from_slice.ensures.items
    ∙ ap (λ (l : List ℕ). c.outs.bytes.items ++ l) (c.deref.ensures.value
    ∙ ap (λ (t : Vec ℕ). t.items) c.into_inner-text.ensures)) in
    record {
      bytes = bytes;
      ends = ends_push c.outs.yielded c.in-Some.out c.outs.ends.items c.push.new.self.items c.len.result
          c.outs.invariant.ends c.in_ok-push.ensures.items
          (omega (arith, c.len.ensures, c.extend_from_slice.new.self.ok.0, ap (λ (l : List ℕ). length l) bytes));
    }

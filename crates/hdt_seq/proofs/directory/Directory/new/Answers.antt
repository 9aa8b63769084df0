use Rattle.std.proofs.Common.{ℕ, arith, ap, sym, ◌∙◌, ◌≡◌, ◌<◌, ◌+◌, ◌*◌, ◌++◌, ◌∷◌, [], List, min, length, slice_index}
use Rattle.std.proofs.Common.{get_or, ◌⊎◌, inl, inr, eq-or-lt_of_le, length-append}
use Rattle.std.proofs.Math.Seq.{get_or-append_seam}
use Rattle.std.proofs.lemmas.List.{get_or_append_left}
use Rattle.hdt_seq.specs.RankSelect.{ones_before}
use Rattle.hdt_seq.specs.Laws.RankSelect.{ones_before_at_0, ones_before_le}
use Rattle.hdt_seq.specs.Bits.{bits_of}
use Rattle.hdt_seq.proofs.GroupCounts.{at_least}
use Rattle.hdt_seq.proofs.directory.Directory.new.Goals as goal

-- one more count keeps all counts right
one_more : (xs : List ℕ) (t : ℕ) (n : ℕ) (f : ℕ → ℕ) → length xs ≡ n → ((g : ℕ) → g < n → get_or xs g 0 ≡ f g) → t ≡ f n
    → (g : ℕ) → (g ≡ n) ⊎ (g < n) → get_or (xs ++ t ∷ []) g 0 ≡ f g
one_more xs t n f len each is g (inl e) = ap (λ k. get_or (xs ++ t ∷ []) k 0) (e ∙ sym len)
    ∙ get_or-append_seam xs t [] 0 ∙ is ∙ ap f (sym e)
one_more xs t n f len each is g (inr l) = get_or_append_left xs (t ∷ []) 0 g (omega (arith, l, len)) ∙ each g l

pub loop-group-init : goal.loop-group-init
loop-group-init c =
    let bits = bits_of c.args.bits.now in
    let items : c.push.new.self.items ≡ 0 ∷ [] = c.in_ok-push.ensures.items
    ∙ ap (λ xs. xs ++ 0 ∷ []) c.in_ok-counts.ensures.items in
    record {
      at_is = omega arith;
      counted = sym (ones_before_at_0 bits);
      many = ap length items;
      each = λ g h. (let z : g ≡ 0 = omega (arith, h) in ap (λ xs. slice_index xs g) items
          ∙ ap (λ k. slice_index (0 ∷ []) k) z ∙ sym (ones_before_at_0 bits)
          ∙ ap (λ k. ones_before bits (512 * k)) (sym z));
    }

pub overflow_add-total : goal.overflow_add-total
overflow_add-total c = omega (
  arith,
  c.loop-group.invariant.counted,
  c.ones_in_range-total.ensures.is,
  ones_before_le (bits_of c.args.bits.now) (c.loop-group.at + c.min.result),
)

pub loop-group-preserved : goal.loop-group-preserved
loop-group-preserved c =
    let bits = bits_of c.args.bits.now in
    let l = c.loop-group in
    let more = c.ones_in_range-total.result in
    let items = c.in_ok-push-2.ensures.items in
    let at : l.at + c.min.result ≡ min (512 * (l.group + 1)) (length bits) =
    omega (arith, l.invariant.at_is, c.min.ensures, c.len-in-loop-group.ensures) in
    let counted : l.total + more ≡ ones_before bits (l.at + c.min.result) =
    omega (arith, l.invariant.counted, c.ones_in_range-total.ensures.is) in
    let total : l.total + more ≡ ones_before bits (512 * (l.group + 1)) = counted ∙ ap (ones_before bits) at
    ∙ at_least bits (512 * (l.group + 1)) in
    record {
      at_is = at;
      counted = counted;
      many = ap length items ∙ length-append l.counts.items ((l.total + more) ∷ []) ∙ ap (λ n. n + 1) l.invariant.many;
      each = λ g h. ap (λ xs. slice_index xs g) items
          ∙ one_more l.counts.items (l.total + more) (l.group + 1) (λ k. ones_before bits (512 * k)) l.invariant.many
          (λ k w. l.invariant.each k (omega (arith, w))) total g (eq-or-lt_of_le h);
    }

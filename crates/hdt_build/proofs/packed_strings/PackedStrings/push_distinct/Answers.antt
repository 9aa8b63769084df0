use Rattle.std.proofs.Common.{◌≡◌, ◌∙◌, [], ℕ, ◌<◌, List, length, refl, ap, sym, arith}
use Rattle.hdt_front.specs.Order.{lcp_len, string_cmp}
use Rattle.std.proofs.Common.{inl, inr}
use Rattle.std.specs.declared.cmp.Ordering.TheVariants.{Equal}
use Rattle.std.proofs.lemmas.Map.Lookups.{exact_bytes}
use Rattle.hdt_front.specs.Laws.CommonPrefix.{lcp_symmetric}
use Rattle.hdt_build.specs.Inside.SortedEntries.{last_of}
use Rattle.hdt_build.specs.Inside.PackedStrings.{final_string}
use Rattle.hdt_build.proofs.PackedStrings.{last_is_last}
use Rattle.hdt_build.proofs.packed_strings.PackedStrings.push_distinct.Goals as goal

pub push_after-requires : goal.push_after-requires
push_after-requires c =
    let last = c.deref.ensures.value
    ∙ (c.self.invariant.last_is ∙ ap (final_string []) c.self.view_is) in
    omega (
      arith,
      c.cmp_from-order.ensures.same,
      lcp_symmetric c.args.text.now c.deref.result.now,
      ap (λ (l : List ℕ). lcp_len l c.args.text.now) last,
    )

pub returns-in-Less-clause-less : goal.returns-in-Less-clause-less
returns-in-Less-clause-less c = λ _.
    let some : 0 < length c.args.self.now = omega (arith, c.if-len-eq0.false, c.len-len.ensures) in
    let last : c.deref.result.now ≡ last_of c.args.self.now = c.deref.ensures.value
    ∙ (c.self.invariant.last_is ∙ ap (final_string []) c.self.view_is ∙ last_is_last [] c.args.self.now some) in
    (some, ap (string_cmp c.args.text.now) (sym last) ∙ sym c.cmp_from-order.ensures.order ∙ c.in-Less.is)

pub returns-in-Equal-clause-joined : goal.returns-in-Equal-clause-joined
returns-in-Equal-clause-joined c =
    let some : 0 < length c.args.self.now = omega (arith, c.if-len-eq0.false, c.len-len.ensures) in
    let last : c.deref.result.now ≡ last_of c.args.self.now = c.deref.ensures.value
    ∙ (c.self.invariant.last_is ∙ ap (final_string []) c.self.view_is ∙ last_is_last [] c.args.self.now some) in
    let same : string_cmp c.args.text.now (last_of c.args.self.now) ≡ Equal =
    ap (string_cmp c.args.text.now) (sym last) ∙ sym c.cmp_from-order.ensures.order ∙ c.in-Equal.is in
    inl (refl, (some, sym (exact_bytes c.args.text.now (last_of c.args.self.now) same)))

pub returns-in_ok-push_after-in-Greater-clause-joined : goal.returns-in_ok-push_after-in-Greater-clause-joined
returns-in_ok-push_after-in-Greater-clause-joined c =
    inr (
      c.in_ok-push_after-in-Greater.ensures,
      λ some.
          let last : c.deref.result.now ≡ last_of c.args.self.now = c.deref.ensures.value
          ∙ (c.self.invariant.last_is ∙ ap (final_string []) c.self.view_is ∙ last_is_last [] c.args.self.now some) in
          ap (string_cmp c.args.text.now) (sym last) ∙ sym c.cmp_from-order.ensures.order ∙ c.in-Greater.is,
    )

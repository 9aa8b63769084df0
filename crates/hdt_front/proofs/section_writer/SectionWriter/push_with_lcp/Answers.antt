use Rattle.std.proofs.Common.{◌≡◌, ◌++◌, ◌∷◌, [], false, Result, Ok, Err, List, ℕ, ap, sym, ◌∙◌, arith}
use Rattle.std.specs.Prelude.{OnOk, is_err}
use Rattle.hdt_front.specs.WriterState.{SectionWriterState, last_string}
use Rattle.hdt_front.specs.Order.{lcp_len}
use Rattle.hdt_front.proofs.WriterSteps.{one_more, few}
use Rattle.hdt_front.proofs.section_writer.SectionWriter.push_with_lcp.Goals as goal

holds : {A E P : Type 0} (r : Result A E) → is_err r ≡ false → OnOk r P → P
holds (Ok x) e h = h
holds (Err x) e h = absurd (cc)

pub push_entry-pushed-requires : goal.push_entry-pushed-requires
push_entry-pushed-requires c =
    c.requires.same ∙ ap (λ (w : SectionWriterState). lcp_len (last_string w) c.args.string.now) (sym c.self.view_is)
    ∙ ap (λ (l : List ℕ). lcp_len l c.args.string.now) (sym c.self.invariant.last)

pub overflow_add-self : goal.overflow_add-self
overflow_add-self c =
    let s = c.self.inside in
    omega (
      arith,
      few s.block_size s.count s.last.items s.starts.items s.packed.items c.self.invariant,
      s.packed.ok.0,
      s.packed.small,
    )

pub invariant_of-self-2 : goal.invariant_of-self-2
invariant_of-self-2 c =
    let s = c.self.inside in
    let f = c.push_entry-pushed in
    let n = f.new in
    let ok = sym c.is_err.ensures.value ∙ c.if-is_err.false in
    (one_more s.block_size s.count c.args.string.now s.last.items s.starts.items s.packed.items n.last.items
    n.starts.items n.packed.items c.self.invariant c.requires.no_zero (omega (arith, n.packed.ok.0, n.packed.small))
    (holds f.result ok f.ensures.packed) (holds f.result ok f.ensures.starts) (holds f.result ok f.ensures.last)).kept

pub returns-clause-ok : goal.returns-clause-ok
returns-clause-ok c =
    let s = c.self.inside in
    let f = c.push_entry-pushed in
    let n = f.new in
    let ok = sym c.is_err.ensures.value ∙ c.if-is_err.false in
    let more =
    one_more s.block_size s.count c.args.string.now s.last.items s.starts.items s.packed.items n.last.items
    n.starts.items n.packed.items c.self.invariant c.requires.no_zero (omega (arith, n.packed.ok.0, n.packed.small))
    (holds f.result ok f.ensures.packed) (holds f.result ok f.ensures.starts) (holds f.result ok f.ensures.last) in
    let made : List (List ℕ) → SectionWriterState =
    λ strings. record { block_size = c.self.inside.block_size; strings = strings } in
    ap made more.strings_are ∙ ap (λ (w : SectionWriterState). record w {
      strings =
          w.strings ++ c.args.string.now ∷ [];
    }) c.self.view_is

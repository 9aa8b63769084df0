use Rattle.std.proofs.Common.{◌≡◌, ◌∙◌, ◌++◌, ◌∷◌, [], List, ℕ, Result, Ok, Err, false, ap, length, sym, arith}
use Rattle.std.specs.Prelude.{OnOk, is_err}
use Rattle.hdt_front.specs.Order.{lcp_len}
use Rattle.hdt_build.specs.Inside.PackedStrings.{final_string}
use Rattle.hdt_build.proofs.PackedStrings.{few, none_packed, pushed, pushed_is}
use Rattle.hdt_build.proofs.packed_strings.PackedStrings.push_after.Goals as goal

holds : {A E P : Type 0} (r : Result A E) → is_err r ≡ false → OnOk r P → P
holds (Ok x) e h = h
holds (Err x) e h = absurd (cc)

pub put_after-pushed-requires : goal.put_after-pushed-requires
put_after-pushed-requires c =
    let last_is = c.self.invariant.last_is ∙ ap (final_string []) c.self.view_is in
    c.requires ∙ ap (λ (x : List ℕ). lcp_len x c.args.text.now) (sym last_is)

pub overflow_add-self : goal.overflow_add-self
overflow_add-self c =
    let s = c.self.inside in
    omega (arith, few s.bytes.items s.last.items s.count c.self.invariant, s.bytes.ok.0)

pub invariant_of-self : goal.invariant_of-self
invariant_of-self c = rw (c.clear.ensures.items, c.clear-then-is_err.ensures.items) none_packed

pub invariant_of-self-2 : goal.invariant_of-self-2
invariant_of-self-2 c =
    let s = c.self.inside in
    let r = c.put_after-pushed.result in
    let good : is_err r ≡ false = sym c.is_err.ensures.value ∙ c.if-is_err.false in
    let last_is = c.self.invariant.last_is ∙ ap (final_string []) c.self.view_is in
    let same = c.requires ∙ ap (λ (x : List ℕ). lcp_len x c.args.text.now) (sym last_is) in
    let bytes = rw same at (holds r good c.put_after-pushed.ensures.bytes) in
    let last = holds r good c.put_after-pushed.ensures.last in
    rw last (pushed s.bytes.items s.last.items s.count c.self.invariant c.put_after-pushed.new.out.items c.args.text.now
    (omega (arith, ap length last, c.put_after-pushed.new.last.ok.0)) bytes)

pub returns : goal.returns
returns c =
    let s = c.self.inside in
    let r = c.put_after-pushed.result in
    let good : is_err r ≡ false = sym c.is_err.ensures.value ∙ c.if-is_err.false in
    let last_is = c.self.invariant.last_is ∙ ap (final_string []) c.self.view_is in
    let same = c.requires ∙ ap (λ (x : List ℕ). lcp_len x c.args.text.now) (sym last_is) in
    let bytes = rw same at (holds r good c.put_after-pushed.ensures.bytes) in
    let last = holds r good c.put_after-pushed.ensures.last in
    pushed_is s.bytes.items s.last.items s.count c.self.invariant c.put_after-pushed.new.out.items c.args.text.now
    (omega (arith, ap length last, c.put_after-pushed.new.last.ok.0)) bytes
    ∙ ap (λ (l : List (List ℕ)). l ++ c.args.text.now ∷ []) c.self.view_is

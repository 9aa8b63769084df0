use Rattle.std.proofs.Common.{◌≡◌, ◌<◌, ◌+◌, ◌-◌, ◌∙◌, ap, sym, subst, length, get_or, [], ℕ, List, arith}
use Rattle.hdt_front.specs.Decoding.{is_block_start}
use Rattle.hdt_front.specs.SeekerState.{SeekerState, seeker_at}
use Rattle.hdt_front.specs.Strings.{strings_of}
use Rattle.hdt_front.specs.Laws.Strings.{count_is}
use Rattle.hdt_front.specs.Laws.IterationSteps.{string_made}
use Rattle.hdt_front.proofs.SeekerLemmas.{passes, string_before}
use Rattle.hdt_front.proofs.seeker.Seeker.advance.Goals as goal

pub nonzero_rem-starts_block : goal.nonzero_rem-starts_block
nonzero_rem-starts_block c =
    let s = c.self.inside.section in
    let inside : c.self.inside.at < length (strings_of s) =
    subst (λ (w : SeekerState). w.at < length (strings_of w.section)) (sym c.self.view_is) c.requires in
    omega (arith, s.packed.some (omega (arith, inside, count_is s)))

pub split_entry-kept-requires : goal.split_entry-kept-requires
split_entry-kept-requires c =
    let s = c.self.inside.section in
    let inside : c.self.inside.at < length (strings_of s) =
    subst (λ (w : SeekerState). w.at < length (strings_of w.section)) (sym c.self.view_is) c.requires in
    (passes s c.self.inside.at c.self.inside.last.items c.self.inside.rest.now
    (omega (arith, inside, count_is s)) c.self.invariant.1 c.self.invariant.2).ends

pub overflow_add-self : goal.overflow_add-self
overflow_add-self c =
    let s = c.self.inside.section in
    let inside : c.self.inside.at < length (strings_of s) =
    subst (λ (w : SeekerState). w.at < length (strings_of w.section)) (sym c.self.view_is) c.requires in
    omega (arith, inside, count_is s, s.packed.count_fits)

pub invariant_of-self-2 : goal.invariant_of-self-2
invariant_of-self-2 c =
    let s = c.self.inside.section in
    let inside : c.self.inside.at < length (strings_of s) =
    subst (λ (w : SeekerState). w.at < length (strings_of w.section)) (sym c.self.view_is) c.requires in
    let p = passes s c.self.inside.at c.self.inside.last.items c.self.inside.rest.now
    (omega (arith, inside, count_is s)) c.self.invariant.1 c.self.invariant.2 in
    let made = string_made (is_block_start s.packed.block_size c.self.inside.at) c.self.inside.last.items
    c.self.inside.rest.now c.decode_over.new.string.items c.split_entry-kept.result.1.now
    c.split_entry-kept.result.0
    c.in_ok-decode_over.ensures.ok c.split_entry-kept.ensures.kept c.split_entry-kept.ensures.text in
    (omega (arith, inside, count_is s), made ∙ p.string, c.split_entry-kept.ensures.rest ∙ p.after)

pub returns-clause-ok : goal.returns-clause-ok
returns-clause-ok c =
    let s = c.self.inside.section in
    let inside : c.self.inside.at < length (strings_of s) =
    subst (λ (w : SeekerState). w.at < length (strings_of w.section)) (sym c.self.view_is) c.requires in
    let p = passes s c.self.inside.at c.self.inside.last.items c.self.inside.rest.now
    (omega (arith, inside, count_is s)) c.self.invariant.1 c.self.invariant.2 in
    let made = string_made (is_block_start s.packed.block_size c.self.inside.at) c.self.inside.last.items
    c.self.inside.rest.now c.decode_over.new.string.items c.split_entry-kept.result.1.now
    c.split_entry-kept.result.0
    c.in_ok-decode_over.ensures.ok c.split_entry-kept.ensures.kept c.split_entry-kept.ensures.text in
    let same : c.self.inside.at ≡ c.self.inside.at + 1 - 1 = omega arith in
    let string = made ∙ p.string ∙ sym (string_before s c.self.inside.at (omega (arith, inside, count_is s)))
    ∙ ap (λ k. get_or (strings_of s) k []) same in
    ap (λ (l : List ℕ). (let w : SeekerState = record { section = s; at = c.self.inside.at + 1; last = l } in w)) string
    ∙ ap (λ (w : SeekerState). seeker_at w.section (w.at + 1)) c.self.view_is

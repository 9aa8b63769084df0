use Rattle.std.proofs.Common.{◌≡◌, ◌-◌, ◌++◌, [], ℕ, List, length, max, slice_index, slice_index_or, Bor, option_copied}
use Rattle.std.proofs.Common.{append_assoc, ap, sym, ◌∙◌, arith, subst}
use Rattle.std.proofs.lemmas.List.{append-nil}
use Rattle.hdt_front.specs.Strings.{strings_of, block_size}
use Rattle.hdt_front.specs.SeekerState.{SeekerState}
use Rattle.hdt_front.specs.declared.section.Section.{Section}
use Rattle.hdt_dict.specs.Inside.Seeking.{AreAtString}
use Rattle.hdt_dict.specs.RoleSections.{second_strings, second_block_size}
use Rattle.hdt_dict.specs.StringBatch.{ends_from}
use Rattle.hdt_dict.proofs.Concatenation.{before_next, before_within, ends_more, left_behind, one_more, texts_more}
use Rattle.hdt_dict.proofs.SectionCursors.{no_fewer, same_size, same_string}
use Rattle.hdt_dict.proofs.string_batch.append_batch.Goals as goal

pub loop-at-init : goal.loop-at-init
unfolding ends_from
loop-at-init c = record {
  first = ap (λ (w : SeekerState). w.section) c.new-in_first.ensures;
  second = ap (λ (w : SeekerState). w.section) c.new-in_second.ensures
      ∙ ap (λ (s : Bor Section). s.now) c.unwrap_or.ensures;
  size =
      ap (λ (w : SeekerState). max (block_size w.section) (block_size c.new-in_second.result.section))
      c.new-in_first.ensures
      ∙ ap (λ (w : SeekerState). max (block_size c.args.sections.now.first.now) (block_size w.section))
      c.new-in_second.ensures
      ∙ ap (λ (w : Bor Section). max (block_size c.args.sections.now.first.now) (block_size w.now)) c.unwrap_or.ensures
      ∙ same_size c.args.sections.now.first c.args.sections.now.second;
  texts = sym (append-nil c.args.out.now.items);
  places = sym (append-nil c.args.ends.now.items);
  cost = omega arith;
  once = λ n a. (
    record {
      in_first = λ h. (
        ap (λ (w : SeekerState). w.at) c.new-in_first.ensures,
        ap (λ (w : SeekerState). w.at) c.new-in_second.ensures,
      );
      in_second = λ h. absurd (omega (arith, h));
    },
    omega arith,
  );
  more = omega arith;
}

pub append_next-requires-clause-within : goal.append_next-requires-clause-within
append_next-requires-clause-within c =
    let l = c.loop-at in
    let s = c.args.sections.now in
    omega (
      arith,
      (c.requires l.at c.loop-at-test.true).1,
      no_fewer s.first s.second,
      ap (λ w. length (strings_of w ++ strings_of l.in_second.section)) l.invariant.first,
      ap (λ w. length (strings_of s.first.now ++ strings_of w)) l.invariant.second,
    )

pub returns-in_err-append_next-clause-err : goal.returns-in_err-append_next-clause-err
returns-in_err-append_next-clause-err c =
    left_behind c.from_residual.result c.args.out.now.items c.append_next.new.out.items _
    (c.in_err-append_next.ensures.err ∙ c.loop-at.invariant.texts)

pub returns-in_err-append_next-clause-places : goal.returns-in_err-append_next-clause-places
returns-in_err-append_next-clause-places c =
    left_behind c.from_residual.result c.args.ends.now.items c.loop-at.ends.items _ c.loop-at.invariant.places

pub returns-in_err-append_next-clause-once : goal.returns-in_err-append_next-clause-once
returns-in_err-append_next-clause-once c = λ n a.
    let here = a c.loop-at.at c.loop-at-test.true in
    let o = c.loop-at.invariant.once n a in
    omega (arith, c.append_next.ensures.near _ o.0 here.0, o.1, here.1)

pub returns-in_err-push-clause-err : goal.returns-in_err-push-clause-err
returns-in_err-push-clause-err c =
    let l = c.loop-at in
    let string : List ℕ = slice_index_or (strings_of l.in_first.section ++ strings_of l.in_second.section)
    (slice_index c.args.ids.now l.at - 1) [] in
    left_behind c.from_residual-in_err-push.result c.args.out.now.items c.append_next.new.out.items _
    (c.in_ok-append_next.ensures.ok ∙ ap (λ (t : List ℕ). t ++ string) l.invariant.texts
    ∙ append_assoc c.args.out.now.items _ string)

pub returns-in_err-push-clause-places : goal.returns-in_err-push-clause-places
returns-in_err-push-clause-places c =
    left_behind c.from_residual-in_err-push.result c.args.ends.now.items c.push.new.self.items _
    (c.in_err-push.ensures.items ∙ c.loop-at.invariant.places)

pub returns-in_err-push-clause-once : goal.returns-in_err-push-clause-once
returns-in_err-push-clause-once c = λ n a.
    let here = a c.loop-at.at c.loop-at-test.true in
    let o = c.loop-at.invariant.once n a in
    omega (arith, c.append_next.ensures.near _ o.0 here.0, o.1, here.1)

pub loop-at-preserved : goal.loop-at-preserved
loop-at-preserved c =
    let l = c.loop-at in
    let first = c.args.sections.now.first in let second = c.args.sections.now.second in
    let xs : List (List ℕ) = strings_of first.now ++ second_strings (option_copied second) in
    let id = c.requires l.at c.loop-at-test.true in
    let string = c.in_ok-append_next.ensures.ok ∙ ap (λ (s : List ℕ). l.out.items ++ s)
    (ap (λ s. slice_index_or (strings_of s ++ strings_of l.in_second.section) (slice_index c.args.ids.now l.at - 1) [])
    l.invariant.first
    ∙ ap (λ s. slice_index_or (strings_of first.now ++ strings_of s) (slice_index c.args.ids.now l.at - 1) [])
    l.invariant.second
    ∙ same_string first second (slice_index c.args.ids.now l.at - 1) (omega (arith, id.0, id.1))) in
    let texts = texts_more xs c.args.ids.now l.at c.args.out.now.items l.out.items c.append_next.new.out.items
    c.loop-at-test.true l.invariant.texts string in
    let size : c.len.result ≡ length c.append_next.new.out.items =
    omega (arith, c.len.ensures, c.append_next.new.out.ok.0) in
    record {
      first = c.append_next.ensures.sections.0 ∙ l.invariant.first;
      second = c.append_next.ensures.sections.1 ∙ l.invariant.second;
      size = ap (λ s. max (block_size s) (block_size c.append_next.new.second.section)) c.append_next.ensures.sections.0
          ∙ ap (λ s. max (block_size l.in_first.section) (block_size s)) c.append_next.ensures.sections.1
          ∙ l.invariant.size;
      texts = texts;
      places = ends_more xs c.args.ids.now l.at c.len.result c.args.out.now.items c.append_next.new.out.items
          c.args.ends.now.items l.ends.items c.push.new.self.items c.loop-at-test.true texts size l.invariant.places
          c.in_ok-push.ensures.items;
      cost = omega (
        arith,
        l.invariant.cost,
        c.append_next.ensures.cost,
        one_more l.at (max (block_size first.now) (second_block_size (option_copied second))),
        l.invariant.size,
      );
      once = λ n a.
          let here = a l.at c.loop-at-test.true in
          let o = l.invariant.once n a in (
            subst (λ k. AreAtString c.append_next.new.first c.append_next.new.second k)
                (sym (before_next c.args.ids.now l.at)) (c.in_ok-append_next.ensures.at_string _ o.0 here.0),
            omega (arith, c.append_next.ensures.near _ o.0 here.0, o.1, before_next c.args.ids.now l.at),
          );
      more = omega (arith, l.invariant.more, c.append_next.ensures.more);
    }

pub returns-clause-once : goal.returns-clause-once
returns-clause-once c = λ n a. omega (
  arith,
  (c.loop-at.invariant.once n a).1,
  before_within c.args.ids.now n c.loop-at.at a (omega (arith, c.loop-at.auto.at-end)),
)

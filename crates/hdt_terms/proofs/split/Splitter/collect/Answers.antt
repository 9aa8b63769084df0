use Rattle.std.proofs.Common.{[], ◌∙◌, refl}
use Rattle.std.proofs.lemmas.List.{get_or-map}
use Rattle.hdt_terms.specs.Lint.{numbered}
use Rattle.hdt_terms.proofs.SplitLines.{own_line, set_other, set_same}
use Rattle.hdt_terms.proofs.split.Splitter.collect.Goals as goal

pub returns-in_err-append_line-clause-others : goal.returns-in_err-append_line-clause-others
returns-in_err-append_line-clause-others c =
    λ part other. set_other _ c.args.pending.now c.args.self.now.part part c.append_line.new.text [] other

pub returns-in_ok-append_line-clause-others : goal.returns-in_ok-append_line-clause-others
returns-in_ok-append_line-clause-others c =
    λ part other. set_other _ c.args.pending.now c.args.self.now.part part c.append_line.new.text [] other

pub returns-in_ok-append_line-clause-text : goal.returns-in_ok-append_line-clause-text
returns-in_ok-append_line-clause-text c =
    let k = c.args.self.now.part in
    let line = numbered c.args.number c.args.n c.args.self.now.line.items in
    set_same (λ text. text.items) c.args.pending.now k c.append_line.new.text [] c.requires.part
    ∙ c.in_ok-append_line.ensures
    ∙ rw (
      c.deref.ensures.value,
      own_line c.args.prefix.now k c.args.self.now.number c.args.number line refl c.if-self-number.true,
      get_or-map (λ text. text.items) c.args.pending.now k c.index-pending-self.result [] c.requires.part,
    ) refl

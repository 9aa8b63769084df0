use Rattle.std.proofs.Common.{[], ◌∙◌, ◌+◌, ap, arith, map, set, sym}
use Rattle.std.proofs.lemmas.List.{get_or-map, map-set}
use Rattle.std.proofs.Math.Seq.{map-set_same}
use Rattle.hdt_wire.specs.Counted.{inner, failures}
use Rattle.hdt_terms.proofs.SplitLines.{one_failed, one_written, set_other, set_same}
use Rattle.hdt_terms.proofs.split.write_part.Goals as goal

pub returns-in-Ok-clause-ok : goal.returns-in-Ok-clause-ok
returns-in-Ok-clause-ok g c =
    one_written (λ text. text.items) (λ out. g.W.Write.contents (inner out)) c.args.pending.now c.args.outs.now
    c.args.at c.index-pending-at.result c.write_if_long.new.text c.index-outs-at.result c.write_if_long.new.out
    c.requires.within.0 c.requires.len c.in-Ok.ensures.ok

pub returns-in-Ok-clause-others : goal.returns-in-Ok-clause-others
returns-in-Ok-clause-others g c =
    λ part other. set_other _ c.args.pending.now c.args.at part c.write_if_long.new.text [] other

pub returns-in-Ok-clause-whole : goal.returns-in-Ok-clause-whole
returns-in-Ok-clause-whole g c =
    λ least. set_same (λ text. text.items) c.args.pending.now c.args.at c.write_if_long.new.text []
    (omega (arith, c.requires.within.0, c.requires.len)) ∙ c.in-Ok.ensures.whole least

pub returns-in-Ok-clause-writer_unfailed : goal.returns-in-Ok-clause-writer_unfailed
returns-in-Ok-clause-writer_unfailed g c =
    map-set_same failures c.args.outs.now c.args.at c.write_if_long.new.out c.index-outs-at.result
    c.in-Ok.ensures.writer_unfailed

pub returns-in-Err-clause-others : goal.returns-in-Err-clause-others
returns-in-Err-clause-others g c =
    λ part other. set_other _ c.args.pending.now c.args.at part c.write_if_long.new.text [] other

pub returns-in-Err-clause-part : goal.returns-in-Err-clause-part
returns-in-Err-clause-part g c =
    one_failed (λ text. text.items) (λ out. g.W.Write.contents (inner out)) c.args.pending.now c.args.outs.now c.args.at
    c.index-pending-at.result c.index-outs-at.result c.write_if_long.new.out c.requires.within.0 c.requires.len
    c.in-Err.ensures.part

pub returns-in-Err-clause-failed : goal.returns-in-Err-clause-failed
returns-in-Err-clause-failed g c =
    map-set failures c.args.outs.now c.args.at c.write_if_long.new.out
    ∙ ap (set (map failures c.args.outs.now) c.args.at) (c.in-Err.ensures.failed
    ∙ ap (λ n. n + 1) (sym (get_or-map failures c.args.outs.now c.args.at c.index-outs-at.result 0
    c.requires.within.0)))

use Rattle.std.proofs.Common.{inl, inr}
use Rattle.hdt_tool.proofs.Dialogues.{gone_on, taken_fault, ended_fault, taken_front}
use Rattle.std.proofs.lemmas.Result.{IfErr-weaker}
use Rattle.hdt_tool.specs.Dialogue.{max_input_bytes}
use Rattle.hdt_tool.proofs.dialogue.next_line.Goals as goal

pub returns-clause-more : goal.returns-clause-more
returns-clause-more g c = λ all done gone ok.
    elim gone [
      | inl h ↦
          let line = taken_front c.next_prefix.result _ _ _ _ _ _ _ ok
          (c.next_prefix.ensures.answers c.requires h.0) in (
            line.0,
            line.2,
            gone_on c.lines_so_far.ensures.goes_on c.lines_so_far.ensures.last c.args.lines.now c.next_prefix.new.self
                all _ _ done line.0 h.0 line.1 (inl h),
          )
      | inr h ↦ let ended = (c.next_prefix.ensures.ended c.requires h.0).0 in absurd (cc (ok, ended))
    ]

pub returns-clause-fault : goal.returns-clause-fault
returns-clause-fault g c = λ all done gone.
    elim gone [
      | inl h ↦
          IfErr-weaker c.next_prefix.result _ _
          (λ f next. c.lines_so_far.ensures.fault f max_input_bytes c.args.lines.now all _ _ done h.1 next)
          (taken_fault c.next_prefix.result _ _ _ _ _ _ _ (c.next_prefix.ensures.answers c.requires h.0))
      | inr h ↦ let ended = (c.next_prefix.ensures.ended c.requires h.0).0 in ended_fault _ c.next_prefix.result ended
    ]

use Rattle.std.proofs.Common.{[], Err}
use Rattle.std.proofs.lemmas.Result.{IfErr-weaker, IfOk-weaker, err_from_is_err_and}
use Rattle.hdt_tool.specs.Changes.{change}
use Rattle.hdt_tool.specs.Outcomes.{PrintsWithCount, ReadsWith}
use Rattle.hdt_tool.proofs.Outputs.{not_in_pieces, nothing_built, reads_printed, writes_prefix}
use Rattle.hdt_tool.proofs.Pieces.{pieces_halt, pieces_reported, pieces_write}
use Rattle.hdt_tool.proofs.commands.print_output.Goals as goal

pub returns-then-prints_in_pieces-clause-ok : goal.returns-then-prints_in_pieces-clause-ok
returns-then-prints_in_pieces-clause-ok g c =
    IfOk-weaker c.print_in_pieces.result _ _
    (λ n h. record {
      text = h.0;
      prints = record {
        bytes = c.in_ok-bytes.bytes.items;
        read = c.in_ok-bytes.ensures.ok;
        holds = rw c.deref.ensures.value at h.1;
      };
      written = h.2;
    }) c.print_in_pieces.ensures.ok

pub returns-then-prints_in_pieces-clause-write : goal.returns-then-prints_in_pieces-clause-write
returns-then-prints_in_pieces-clause-write g c =
    IfErr-weaker c.print_in_pieces.result _ _
    (λ e h. pieces_write _ _ _ _ _ e _
    (c.prints_in_pieces.ensures.0 c.if-prints_in_pieces.true) c.in_ok-bytes.ensures.ok c.deref.ensures.value h)
    c.print_in_pieces.ensures.err

pub returns-then-prints_in_pieces-clause-reported : goal.returns-then-prints_in_pieces-clause-reported
returns-then-prints_in_pieces-clause-reported g c =
    IfErr-weaker c.print_in_pieces.result _ _
    (λ e h. pieces_reported _ _ _ _ _ e _ c.in_ok-bytes.ensures.ok c.deref.ensures.value h)
    c.print_in_pieces.ensures.err

pub returns-then-prints_in_pieces-clause-unwritten : goal.returns-then-prints_in_pieces-clause-unwritten
returns-then-prints_in_pieces-clause-unwritten g c =
    IfErr-weaker c.print_in_pieces.result _ _
    (λ e h. pieces_halt _ _ _ _ _ e _
    (c.prints_in_pieces.ensures.0 c.if-prints_in_pieces.true) c.in_ok-bytes.ensures.ok c.deref.ensures.value h)
    c.print_in_pieces.ensures.err

pub text_and_count-requires-clause-whole : goal.text_and_count-requires-clause-whole
text_and_count-requires-clause-whole g c =
    not_in_pieces c.args.action.now _ c.prints_in_pieces.ensures.1 c.if-prints_in_pieces.false

pub returns-clause-ok : goal.returns-clause-ok
returns-clause-ok g c =
    let made = c.in_ok-text in
    record {
      text = made.text.items;
      prints = record {
        bytes = c.in_ok-bytes.bytes.items;
        read = c.in_ok-bytes.ensures.ok;
        holds = rw c.deref-2.ensures.value at made.ensures.ok;
      };
      written = rw c.deref-3.ensures.value at c.in_ok-write_text.ensures.ok;
    }

pub returns-in_err-write_text-clause-write : goal.returns-in_err-write_text-clause-write
returns-in_err-write_text-clause-write g c =
    let action = c.args.action.now in
    let made = c.in_ok-text in
    let text = made.text.items in
    let counted : ReadsWith (change g.R.Read.remaining c.args.input.now c.read_all.new.input)
    (λ bytes. PrintsWithCount action bytes text made.count) = record {
      bytes = c.in_ok-bytes.bytes.items;
      read = c.in_ok-bytes.ensures.ok;
      holds = rw c.deref-2.ensures.value at made.ensures.ok;
    } in
    let makes = nothing_built action c.requires _ text [] (reads_printed action _ text made.count counted) in
    let p = err_from_is_err_and c.from_residual-in_err-write_text.result
    c.from_residual-in_err-write_text.ensures.1 in
    rw (p.1, p.2) (writes_prefix (Err c.in_err-write_text.field-0.0) _ _ _ text makes.built makes.yields
    (rw c.deref-3.ensures.value at c.in_err-write_text.ensures.failed))

use Rattle.std.proofs.Common.{◌∙◌, ◌∷◌, [], length, ap, arith}
use Rattle.std.proofs.lemmas.List.{length-append}
use Rattle.hdt_file.specs.Graph.{layout_view}
use Rattle.hdt_build.specs.Relabelling.{relabelled}
use Rattle.hdt_build.proofs.WindowLaws.{one_more}
use Rattle.hdt_build.proofs.window_strings.put_strings.Goals as goal

pub ids-preserved : goal.ids-preserved
ids-preserved c =
    let l = c.ids in
    let g = layout_view c.args.layout.now in
    let role = c.args.role in
    record {
      strings = one_more c.args.prefix.now g role c.args.ids.now l.at l.strings c.push.new.self c.deref.result.now
          c.in_ok-push.ensures.ok l.invariant.count l.invariant.strings
          (c.deref.ensures.value ∙ (c.in_ok-relabel.ensures
          ∙ ap (relabelled c.args.prefix.now) (c.in_ok-put_string.ensures.ok g role l.invariant.all)));
      all = c.put_string.ensures.same ∙ l.invariant.all;
      count = omega (
        arith,
        ap length c.in_ok-push.ensures.ok,
        length-append l.strings (c.deref.result.now ∷ []),
        l.invariant.count,
      );
    }

use Rattle.std.proofs.Common.{◌≤◌, ◌∙◌, length, sym, arith}
use Rattle.hdt_triples.specs.Remaining.{remaining_matches}
use Rattle.hdt_file.specs.TermFlags.{is_writable}
use Rattle.hdt_file.proofs.WritableLaws.{collected, limited_kept}
use Rattle.hdt_file.proofs.writable.collect_writable.Goals as goal

pub returns-clause-kept : goal.returns-clause-kept
returns-clause-kept c =
    let w = is_writable c.args.flags.now in
    let all = remaining_matches c.args.found in
    let long : length all ≤ 18446744073709551615 = omega (arith, c.requires.fits) in
    rw (c.in_ok-triples.ensures.items, c.unwrap_or.ensures) at c.in_ok-skipped.ensures.kept
    ∙ sym (limited_kept w c.args.most all 18446744073709551615 long)

pub returns-clause-skipped : goal.returns-clause-skipped
returns-clause-skipped c =
    let w = is_writable c.args.flags.now in
    let all = remaining_matches c.args.found in
    let long : length all ≤ 18446744073709551615 = omega (arith, c.requires.fits) in
    collected w c.args.most all (remaining_matches c.append_writable.new.matches) c.in_ok-skipped.skipped
    18446744073709551615 long (rw c.unwrap_or.ensures at c.in_ok-skipped.ensures.skipped)

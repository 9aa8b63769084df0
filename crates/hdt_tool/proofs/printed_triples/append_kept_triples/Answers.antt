use Rattle.std.proofs.Common.{subst, sym}
use Rattle.hdt_file.specs.File.{GraphParts}
use Rattle.hdt_file.specs.Writable.{AreWritableTriples}
use Rattle.hdt_tool.proofs.printed_triples.append_kept_triples.Goals as goal

pub append_triples_text-requires-clause-lines : goal.append_triples_text-requires-clause-lines
append_triples_text-requires-clause-lines c =
    subst (λ (g : GraphParts). AreWritableTriples g c.args.triples.now) (sym c.layout.ensures.seen) c.requires.lines

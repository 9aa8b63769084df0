use Rattle.std.proofs.Common.{◌≡◌, List, [], ◌∷◌, ◌++◌, rules, subst, sym}
use Rattle.hdt_triples.specs.TripleSequences.{Triple}
use Rattle.hdt_file.specs.Graph.{graph_view}
use Rattle.hdt_file.specs.Writable.{AreWritableTriples}
use Rattle.hdt_tool.proofs.Dialogues.{kept_answered}
use Rattle.hdt_tool.proofs.answerer.Answerer.skipping_answer.Goals as goal

pub append_kept_triples-requires-clause-lines : goal.append_kept_triples-requires-clause-lines
append_kept_triples-requires-clause-lines c =
    subst (λ (ts : List Triple). AreWritableTriples (graph_view c.args.self.now.graph.now) ts)
    (sym c.deref.ensures.value) c.in_ok-kept.ensures.lines

pub returns-clause-ok : goal.returns-clause-ok
returns-clause-ok c =
    let pushed : c.truncate_on_error.new.out.items ≡ c.append_kept_triples.new.out.items ++ 10 ∷ [] = search rules in
    kept_answered _ c.args.self.now.options c.is_count-count.result _ c.in_ok-kept.kept.triples.items
    c.deref.result.now c.in_ok-kept.kept.skipped _ _ _ c.is_count-count.ensures
    c.requires.skips c.in_ok-kept.ensures.kept c.deref.ensures.value c.in_ok-append_kept_triples.ensures.ok pushed

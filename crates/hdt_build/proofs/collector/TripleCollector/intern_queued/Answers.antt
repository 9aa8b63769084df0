use Rattle.std.proofs.Common.{◌∙◌, ◌++◌, map, ap}
use Rattle.hdt_build.specs.Graph.{mapped_triple, string_triples_of}
use Rattle.hdt_build.proofs.IndexTriples.{joined_is, joined_within, moved_is, moved_within}
use Rattle.hdt_build.proofs.collector.TripleCollector.intern_queued.Goals as goal

pub returns-clause-graph : goal.returns-clause-graph
returns-clause-graph c =
    let d = c.args.self.now in
    let ys = c.intern_all.new.self in
    let ns = c.intern_all.new.lookups.indices.items in
    let found = c.in_ok-intern_all.ensures in
    rw (c.in_ok-extend_mapped.ensures, c.as_slice-indices.ensures.value, c.as_slice.ensures.value)
    (joined_is d.terms ys found.list d.ids.items c.requires.interned (map (mapped_triple ns ns ns) d.queue.ids.items)
    ∙ ap (λ ts. string_triples_of d.terms d.ids.items
    ++ ts) (moved_is d.queue.strings ys ns found.indices d.queue.ids.items c.requires.queued))

pub returns-clause-sound : goal.returns-clause-sound
returns-clause-sound c =
    let d = c.args.self.now in
    let ys = c.intern_all.new.self in
    let ns = c.intern_all.new.lookups.indices.items in
    let found = c.in_ok-intern_all.ensures in
    record {
      interned =
          rw (c.in_ok-extend_mapped.ensures, c.as_slice-indices.ensures.value, c.as_slice.ensures.value)
          (joined_within d.terms ys found.list d.ids.items c.requires.interned
          (map (mapped_triple ns ns ns) d.queue.ids.items)
          (moved_within d.queue.strings ys ns found.indices d.queue.ids.items c.requires.queued));
      queued = c.in_ok-clear.ensures.sound;
    }

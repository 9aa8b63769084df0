use Rattle.std.proofs.Common.{◌∙◌, ap, arith}
use Rattle.hdt_triples.specs.TripleSequences.{Triple}
use Rattle.hdt_build.specs.Graph.{string_triples_of}
use Rattle.hdt_build.proofs.IndexTriples.{goes_on, sound_more, graph_more}
use Rattle.hdt_build.proofs.queue.Queue.add.Goals as goal

pub returns-clause-graph : goal.returns-clause-graph
returns-clause-graph c =
    let xs = c.args.self.now.strings in
    let a = c.in_ok-i.ensures.list in
    let b = c.in_ok-j.ensures.list in
    let e = c.in_ok-k.ensures.list in
    let t : Triple = (c.in_ok-i.i, c.in_ok-j.j, c.in_ok-k.k) in
    ap (string_triples_of c.push_string-2.new.list) c.in_ok-push.ensures.items
    ∙ graph_more xs c.push_string-2.new.list (goes_on _ _ _ a (goes_on _ _ _ b e)) c.args.self.now.ids.items c.requires
    t c.args.s.now c.args.p.now c.args.o.now
    (e.kept _ (omega (arith, c.in_ok-i.ensures.within, b.longer))
    ∙ (b.kept _ c.in_ok-i.ensures.within ∙ c.in_ok-i.ensures.is)) (e.kept _ c.in_ok-j.ensures.within
    ∙ c.in_ok-j.ensures.is) c.in_ok-k.ensures.is

pub returns-clause-sound : goal.returns-clause-sound
returns-clause-sound c =
    let xs = c.args.self.now.strings in
    let a = c.in_ok-i.ensures.list in
    let b = c.in_ok-j.ensures.list in
    let e = c.in_ok-k.ensures.list in
    rw c.in_ok-push.ensures.items
    (sound_more xs c.push_string-2.new.list (goes_on _ _ _ a (goes_on _ _ _ b e)) c.args.self.now.ids.items c.requires
    (c.in_ok-i.i, c.in_ok-j.j, c.in_ok-k.k)
    (omega (arith, c.in_ok-i.ensures.within, b.longer, e.longer))
    (omega (arith, c.in_ok-j.ensures.within, e.longer)) c.in_ok-k.ensures.within)

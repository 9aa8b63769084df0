use Rattle.std.proofs.Common.{◌≡◌, ℕ, List, Bool, false, refl, sym, ap, subst, ◌∙◌, ◌++◌, ◌∷◌, ◌||◌, [], ⊎_elim, arith}
use Rattle.hdt_terms.specs.declared.triple.Term.{Term}
use Rattle.hdt_terms.specs.Grammar.{Encodes}
use Rattle.hdt_terms.specs.Split.{is_blank_string, prefix_label}
use Rattle.hdt_terms.specs.Terms.{IsGrammarTerm}
use Rattle.hdt_file.specs.Denoted.{StringTriple}
use Rattle.hdt_build.specs.Documents.{is_blank_node, prefixed_triple}
use Rattle.hdt_build.specs.Reading.{most, term_strings, HasDictionaryStrings}
use Rattle.hdt_build.proofs.DocumentReading.{at_end, either, run_begins, run_on, texts_more}
use Rattle.hdt_build.proofs.DocumentReading.{line_of, triple_size, converted_fault, not_read}
use Rattle.hdt_build.proofs.PrefixedLabels.{blank_string, prefixed_string, prefixed_text, text_of}
use Rattle.hdt_build.proofs.StringsOfIds.{same_strings}
use Rattle.hdt_build.proofs.reading.collect_triples.Goals as goal

pub triples-init : goal.triples-init
triples-init g c =
    record {
      failed = ap (λ s. s.failed) c.in_ok-lines.ensures;
      sound = c.requires.sound;
      texts = c.requires.texts;
      run = run_begins _ c.args.prefix.now c.in_ok-lines.lines _ _ c.in_ok-lines.ensures
          (c.triples_so_far.ensures.begins most _);
      count = refl;
    }

pub triples-smaller : goal.triples-smaller
triples-smaller g c =
    let inv = c.triples.invariant in
    let read = c.in-Ok-true.ensures in
    let going : c.triples.lines.ended ≡ false =
    ⊎_elim (λ end. absurd (cc ((read.ended inv.failed end).0, c.in-Ok-true.field-0-test))) (λ e. e)
    (either c.triples.lines.ended) in
    let taken = rw c.in-Ok-true.field-0-test at read.answers inv.failed going in
    let size = triple_size _ _ c.triples.lines c.next_strings.new.self taken.0 taken.2 in
    omega (arith, size.0, size.1, size.2)

pub triples-preserved : goal.triples-preserved
triples-preserved g c =
    let inv = c.triples.invariant in
    let read = c.in-Ok-true.ensures in
    let going : c.triples.lines.ended ≡ false =
    ⊎_elim (λ end. absurd (cc ((read.ended inv.failed end).0, c.in-Ok-true.field-0-test))) (λ e. e)
    (either c.triples.lines.ended) in
    let taken = rw c.in-Ok-true.field-0-test at read.answers inv.failed going in
    let new = c.next_strings.new.self in
    let s = c.next_strings.new.s.items in
    let p = c.next_strings.new.p.items in
    let o = c.next_strings.new.o.items in
    let prefix = c.args.prefix.now in
    let triple = taken.0 in
    let known = g.C.Collector.IsKnown in
    let graph = g.C.Collector.triples c.triples.collector in
    let line = line_of _ _ c.triples.lines new triple taken.2 in
    let grammar = λ (word : List ℕ) (term : Term) (spelled : Encodes word term).
    c.text_encodes_one_term.ensures.grammar word term spelled in
    let subject = grammar line.1.s triple.s line.1.subject.0 in
    let predicate = grammar line.1.p triple.p line.1.predicate.0 in
    let object = grammar line.1.o triple.o line.1.object in
    let text = λ (term : Term) (h : IsGrammarTerm term). c.strings_are_texts.ensures.text term
    (c.strings_are_texts.ensures.grammar term h) in
    let added : StringTriple = term_strings (prefixed_triple prefix triple) in
    let is : (let l : StringTriple = (prefix_label prefix s, p, prefix_label prefix o) in l ≡ added) =
    same_strings _ _ _ _ _ _
    (ap (prefix_label prefix) taken.1.s_is ∙ prefixed_string prefix triple.s subject) taken.1.p_is
    (ap (prefix_label prefix) taken.1.o_is ∙ prefixed_string prefix triple.o object) in
    let more : known → g.C.Collector.triples c.add_prefixed.new.collector ≡ graph ++ added ∷ [] =
    λ k. rw (
      c.as_slice-s.ensures.value,
      c.as_slice-p.ensures.value,
      c.as_slice-o.ensures.value,
    ) at c.in_ok-add_prefixed-in-Ok-true.ensures.graph k ∙ (λ i. graph ++ is i ∷ []) in
    let blank : c.has_blank_node-has_blank_nodes.result
    ≡ (c.triples.has_blank_nodes || (is_blank_node triple.s || is_blank_node triple.o)) =
    rw (c.as_slice-s.ensures.value, c.as_slice-o.ensures.value) at c.has_blank_node-has_blank_nodes.ensures
    ∙ ap (λ (b : Bool). c.triples.has_blank_nodes || b)
    (λ i. (ap is_blank_string taken.1.s_is ∙ blank_string triple.s subject) i
    || (ap is_blank_string taken.1.o_is ∙ blank_string triple.o object) i) in
    record {
      failed = taken.2.2.failed ∙ inv.failed;
      sound = c.in_ok-add_prefixed-in-Ok-true.ensures.sound;
      texts =
          λ k. subst HasDictionaryStrings (sym (more k)) (texts_more graph added (inv.texts k)
          (prefixed_text prefix triple.s c.requires.prefix subject (text triple.s subject))
          (text_of _ (text triple.p predicate))
          (prefixed_text prefix triple.o c.requires.prefix object (text triple.o object)));
      run =
          run_on known prefix c.triples.lines new _ _ _ (g.C.Collector.triples c.args.collector) graph
          (g.C.Collector.triples c.add_prefixed.new.collector) triple added c.triples.has_blank_nodes
          c.has_blank_node-has_blank_nodes.result inv.run going more refl blank
          (λ triples ran e. c.triples_so_far.ensures.goes_on most c.triples.lines new _ _ _ triples triple ran taken.2
          e)
          (λ triples ran e. c.triples_so_far.ensures.last most c.triples.lines new _ _ _ triples triple ran taken.2 e)
          taken.2;
      count = read.reader_unfailed ∙ inv.count;
    }

abbrev pub returns-in-Ok-false-clause-document : goal.returns-in-Ok-false-clause-document
returns-in-Ok-false-clause-document g c =
    let inv = c.triples.invariant in
    record {
      triples = inv.run.triples;
      document = ⊎_elim (λ end. inv.run.ended end)
          (λ going. c.triples_so_far.ensures.rest most c.triples.lines c.next_strings.new.self _ _ _ inv.run.triples
          (inv.run.going going) (rw c.in-Ok-false.field-0-test at c.in-Ok-false.ensures.answers inv.failed going))
          (either c.triples.lines.ended);
      blank = inv.run.blank_is;
    }

pub returns-in-Ok-false-clause-found : goal.returns-in-Ok-false-clause-found
returns-in-Ok-false-clause-found g c known =
    let read = returns-in-Ok-false-clause-document g c in
    record {
      triples = read.triples;
      document = read.document;
      strings = c.triples.invariant.run.strings known;
      blank = read.blank;
    }

pub returns-in-Ok-false-clause-end : goal.returns-in-Ok-false-clause-end
returns-in-Ok-false-clause-end g c =
    let inv = c.triples.invariant in
    let read = c.in-Ok-false.ensures in
    ⊎_elim
    (λ end. let last = inv.run.end end in
    rw (read.ended inv.failed end).2 (at_end c.triples.lines.buffered _ last.0 last.1))
    (λ going. let rest = rw c.in-Ok-false.field-0-test at read.answers inv.failed going in
    at_end c.next_strings.new.self.buffered _ rest.7 rest.8)
    (either c.triples.lines.ended)

pub returns-in-Err-clause-fault : goal.returns-in-Err-clause-fault
returns-in-Err-clause-fault g c =
    let inv = c.triples.invariant in
    let read = c.in-Err.ensures in
    let going : c.triples.lines.ended ≡ false =
    ⊎_elim (λ end. absurd (cc (read.ended inv.failed end).0)) (λ e. e) (either c.triples.lines.ended) in
    converted_fault _ _ c.in-Err.fault c.build_fault.result c.build_fault.ensures
    (c.triples_so_far.ensures.fault c.in-Err.fault most c.triples.lines _ _ _ inv.run.triples (inv.run.going going)
    (read.answers inv.failed going))

pub returns-in-Err-clause-reader_reported : goal.returns-in-Err-clause-reader_reported
returns-in-Err-clause-reader_reported g c =
    λ no. c.in-Err.ensures.reader_reported (not_read c.in-Err.fault c.build_fault.result c.build_fault.ensures no)
    ∙ c.triples.invariant.count

use Rattle.std.proofs.Common.{◌≡◌, ℕ, List, length, Result, Ok, Err, refl, sym, ap, ◌∙◌, arith}
use Rattle.std.proofs.lemmas.Result.{err_from_is_err_and}
use Rattle.hdt_wire.specs.declared.fault.Fault.{Fault}
use Rattle.hdt_terms.specs.declared.triple.Triple.{Triple}
use Rattle.hdt_terms.specs.Lines.{Document}
use Rattle.hdt_file.specs.File.{GraphParts, IsLayout, decode_file, decode_graph}
use Rattle.hdt_file.specs.Graph.{layout_view}
use Rattle.hdt_file.specs.Head.{HeadParts, IsHead, decode_head, head_parts}
use Rattle.hdt_build.specs.Built.{report_of}
use Rattle.hdt_build.specs.NewHeader.{IsBodyFault, IsHeaderFaultOf, ReplacesHeader, with_new_header}
use Rattle.hdt_build.specs.declared.options.Report.{Report}
use Rattle.hdt_build.specs.declared.fault.HeaderFault.{HeaderFault}
use Rattle.hdt_build.specs.declared.fault.HeaderFault.TheVariants.{File, Line, OutOfMemory}
use Rattle.hdt_build.proofs.ReplacedHeaders.{replaced_layout}
use Rattle.hdt_build.proofs.new_header.with_header.Goals as goal

-- an error of the head is the first one of the file
head_fault : (bytes : List ℕ) (fault : Fault) → decode_head bytes ≡ Err fault → decode_graph bytes ≡ Err fault
unfolding decode_graph decode_file
head_fault bytes fault e = rw e refl

body_fault : (body bytes : List ℕ) (e : HeaderFault) → ((graph : GraphParts) × IsLayout bytes graph)
    → IsBodyFault body e → IsHeaderFaultOf body bytes e
body_fault body bytes (File fault) valid h = absurd h
body_fault body bytes (Line fault) valid h = (valid, h)
body_fault body bytes OutOfMemory valid h = tt

abbrev done : HeadParts → Result HeadParts Fault
done h = Ok h

one_value : (a b : HeadParts) → done a ≡ done b → a ≡ b
one_value a b e = cc

-- the head that was read is that of the file
replaces : (body bytes made : List ℕ) (graph : GraphParts) (head : HeadParts)
    → ((h : HeadParts) → IsHead h bytes → done h ≡ done head) → ((triples : List Triple) × Document body triples)
    → made ≡ with_new_header head body bytes → IsLayout bytes graph → ReplacesHeader body bytes graph made
replaces body bytes made graph head one document is h = record {
  layout = h;
  triples = document.0;
  document = document.1;
  made_is = is ∙ ap (λ (x : HeadParts). with_new_header x body bytes)
      (sym (one_value h.file.head head (one h.file.head h.encoded.head)));
}

pub returns-in_err-head-clause-fault : goal.returns-in_err-head-clause-fault
returns-in_err-head-clause-fault c =
    let p = err_from_is_err_and c.from_residual.result c.from_residual.ensures.1 in
    rw (p.1, p.2) (head_fault c.args.bytes.now c.in_err-head.field-0.0 c.in_err-head.ensures.exact)

pub returns-in_err-check_body-clause-fault : goal.returns-in_err-check_body-clause-fault
returns-in_err-check_body-clause-fault c =
    let p = err_from_is_err_and c.from_residual-in_err-check_body.result c.from_residual-in_err-check_body.ensures.1 in
    rw (p.1, p.2) (body_fault c.args.body.now c.args.bytes.now c.in_err-check_body.field-0.0
    (layout_view c.in_ok-read.field-0, c.in_ok-read.ensures.found) c.in_err-check_body.ensures.fault)

-- the report of a file with n bytes
abbrev counted : GraphParts → ℕ → Report
counted g n = record {
  triples = length g.triples;
  shared = length g.dictionary.shared;
  subjects = length g.dictionary.subjects;
  predicates = length g.dictionary.predicates;
  objects = length g.dictionary.objects;
  bytes = n;
}

pub returns-clause-made : goal.returns-clause-made
unfolding report_of
returns-clause-made c =
    let g : GraphParts = layout_view c.in_ok-read.field-0 in
    let size : c.in_ok-made.made.len ≡ length c.in_ok-made.made.items = omega arith in (
      g,
      replaces c.args.body.now c.args.bytes.now c.in_ok-made.made.items (layout_view c.in_ok-read.field-0)
          (head_parts c.in_ok-head.head) c.in_ok-head.ensures.only c.in_ok-check_body.ensures.document
          c.in_ok-made.ensures c.in_ok-read.ensures.found,
      rw (c.lens.ensures, c.len.ensures) (ap (counted g) size),
    )

pub returns-clause-graph : goal.returns-clause-graph
returns-clause-graph c = λ graph h.
    replaced_layout c.args.body.now c.args.bytes.now c.in_ok-made.made.items graph (omega arith)
    (replaces c.args.body.now c.args.bytes.now c.in_ok-made.made.items graph (head_parts c.in_ok-head.head)
    c.in_ok-head.ensures.only c.in_ok-check_body.ensures.document c.in_ok-made.ensures h)

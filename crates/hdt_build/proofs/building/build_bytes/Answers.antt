use Rattle.std.proofs.lemmas.Result.{err_from_is_err_and}
use Rattle.std.proofs.Common.{◌≡◌, refl}
use Rattle.hdt_build.specs.Inside.Collecting.{collected_triples}
use Rattle.hdt_build.specs.Options.{AreValidOptions}
use Rattle.hdt_build.specs.declared.fault.BuildFault.TheVariants.{BadOptions}
use Rattle.hdt_build.proofs.DocumentReading.{input_graph, no_triples}
use Rattle.hdt_build.proofs.building.build_bytes.Goals as goal

pub returns-then-not-are_valid_options-clause-unread : goal.returns-then-not-are_valid_options-clause-unread
returns-then-not-are_valid_options-clause-unread g c = λ _. refl

pub returns-then-not-are_valid_options-clause-reader_reported
    : goal.returns-then-not-are_valid_options-clause-reader_reported
returns-then-not-are_valid_options-clause-reader_reported g c = λ _. refl

pub returns-in_err-collector : goal.returns-in_err-collector
returns-in_err-collector g c =
    let p = err_from_is_err_and c.from_residual-in_err-collector.result c.from_residual-in_err-collector.ensures.1 in
    let error = c.in_err-collector.ensures in
    let right : AreValidOptions c.args.options.now = c.are_valid_options.ensures.0 c.if-not-are_valid_options.false in
    let other = λ (is : c.in_err-collector.field-0.0 ≡ BadOptions). (rw is at error.fault) in
    rw (p.1, p.2) (record {
      found = tt;
      right = tt;
      end = tt;
      bad = (λ is _. other cc, λ bad. absurd (bad right));
      unread = λ is. absurd (other cc);
      fault = λ _. error.fault;
      read = error.read;
      reader_reported = error.reader_reported;
      reader_unfailed = tt;
    })

pub returns-then-is_empty-clause-fault : goal.returns-then-is_empty-clause-fault
returns-then-is_empty-clause-fault g c =
    λ _. no_triples _ (collected_triples c.in_ok-collector.collector)
    (input_graph _ _ _ _ c.in_ok-empty.ensures.graph c.in_ok-collector.ensures.found)
    (c.is_empty.ensures.0 c.if-is_empty.true)

pub returns-in_err-built : goal.returns-in_err-built
returns-in_err-built g c =
    let p = err_from_is_err_and c.from_residual-in_err-built.result c.from_residual-in_err-built.ensures.1 in
    let right : AreValidOptions c.args.options.now = c.are_valid_options.ensures.0 c.if-not-are_valid_options.false in
    rw (p.1, p.2) (record {
      found = tt;
      right = tt;
      end = tt;
      bad = (λ is _. absurd (cc), λ bad. absurd (bad right));
      unread = λ is. absurd (cc);
      fault = λ _. tt;
      read = λ no. absurd no;
      reader_reported = λ _. c.in_ok-collector.ensures.reader_unfailed;
      reader_unfailed = tt;
    })

pub returns-clause-found : goal.returns-clause-found
returns-clause-found g c = record {
  graph = collected_triples c.in_ok-collector.collector;
  read = input_graph _ _ _ _ c.in_ok-empty.ensures.graph c.in_ok-collector.ensures.found;
  built = c.in_ok-built.ensures;
}

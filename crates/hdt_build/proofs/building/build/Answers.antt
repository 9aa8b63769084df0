use Rattle.std.proofs.lemmas.Result.{err_from_is_err_and}
use Rattle.std.proofs.Common.{◌≡◌, refl}
use Rattle.hdt_build.proofs.building.build.Goals as goal

pub returns-in-Ok-clause-written : goal.returns-in-Ok-clause-written
returns-in-Ok-clause-written g c = record {
  bytes = c.in_ok-bytes.bytes.items;
  builds = c.in_ok-bytes.ensures.found;
  written = rw c.as_slice.ensures.value at c.in-Ok.ensures.ok;
}

pub returns-in-Ok-clause-reader_unfailed : goal.returns-in-Ok-clause-reader_unfailed
returns-in-Ok-clause-reader_unfailed g c = c.in_ok-bytes.ensures.reader_unfailed

pub returns-in-Ok-clause-right : goal.returns-in-Ok-clause-right
returns-in-Ok-clause-right g c = c.in_ok-bytes.ensures.right

pub returns-in-Ok-clause-end : goal.returns-in-Ok-clause-end
returns-in-Ok-clause-end g c = c.in_ok-bytes.ensures.end

pub returns-in-Ok-clause-writer_unfailed : goal.returns-in-Ok-clause-writer_unfailed
returns-in-Ok-clause-writer_unfailed g c = c.in-Ok.ensures.writer_unfailed

pub returns-clause-fault : goal.returns-clause-fault
returns-clause-fault g c = λ _ other. absurd (other c.in-Err.count refl)

pub returns-clause-reader_reported : goal.returns-clause-reader_reported
returns-clause-reader_reported g c = λ _. c.in_ok-bytes.ensures.reader_unfailed

pub returns-clause-write : goal.returns-clause-write
returns-clause-write g c = λ n is.
    let same : n ≡ c.in-Err.count = cc in
    let part = rw c.as_slice.ensures.value at c.in-Err.ensures.part in
    rw same (
      c.in-Err.ensures.failed,
      record {
        bytes = c.in_ok-bytes.bytes.items;
        report = c.in_ok-bytes.report;
        builds = c.in_ok-bytes.ensures.found;
        part = part.0;
        written = part.1;
      },
    )

pub returns-clause-unwritten : goal.returns-clause-unwritten
returns-clause-unwritten g c = λ other. absurd (other c.in-Err.count refl)

pub returns-in_err-bytes : goal.returns-in_err-bytes
returns-in_err-bytes g c =
    let p = err_from_is_err_and c.from_residual.result c.from_residual.ensures.1 in
    let error = c.in_err-bytes.ensures in
    rw (p.1, p.2) (record {
      written = tt;
      right = tt;
      end = tt;
      bad = (λ is. error.bad.0 (cc), λ bad. let is = error.bad.1 bad in cc);
      unread = λ is. error.unread (cc);
      fault = λ other _. error.fault other;
      read = error.read;
      reader_reported = error.reader_reported;
      reader_unfailed = tt;
      write = λ n is. absurd (rw is at (error.fault (λ bad. cc)));
      writer_unfailed = tt;
      unwritten = λ _. refl;
    })

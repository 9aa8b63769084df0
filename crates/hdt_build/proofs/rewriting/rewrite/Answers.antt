use Rattle.std.proofs.lemmas.Result.{err_from_is_err_and}
use Rattle.std.proofs.Common.{◌≡◌, refl}
use Rattle.hdt_build.proofs.rewriting.rewrite.Goals as goal

pub returns-in-Ok-clause-written : goal.returns-in-Ok-clause-written
returns-in-Ok-clause-written g c = record {
  bytes = c.in_ok-bytes.bytes.items;
  rewritten = c.in_ok-bytes.ensures.made;
  written = rw c.as_slice.ensures.value at c.in-Ok.ensures.ok;
}

pub returns-in-Ok-clause-writer_unfailed : goal.returns-in-Ok-clause-writer_unfailed
returns-in-Ok-clause-writer_unfailed g c = c.in-Ok.ensures.writer_unfailed

pub returns-clause-write : goal.returns-clause-write
returns-clause-write g c = λ n is.
    let same : n ≡ c.in-Err.count = cc in
    let part = rw c.as_slice.ensures.value at c.in-Err.ensures.part in
    rw same (
      c.in-Err.ensures.failed,
      record {
        bytes = c.in_ok-bytes.bytes.items;
        report = c.in_ok-bytes.report;
        rewritten = c.in_ok-bytes.ensures.made;
        part = part.0;
        written = part.1;
      },
    )

pub returns-clause-unwritten : goal.returns-clause-unwritten
returns-clause-unwritten g c = λ other. absurd (other c.in-Err.count refl)

pub returns-in_err-bytes : goal.returns-in_err-bytes
returns-in_err-bytes g c =
    let p = err_from_is_err_and c.from_residual.result c.from_residual.ensures.1 in
    let fault = c.in_err-bytes.ensures in
    rw (p.1, p.2) (record {
      written = tt;
      bad = (λ is. fault.bad.0 (cc), λ bad. let is = fault.bad.1 bad in cc);
      write = λ n is. absurd (fault.unwritten n is);
      writer_unfailed = tt;
      unwritten = λ _. refl;
    })

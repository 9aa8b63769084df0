use Rattle.std.proofs.Common.{sym, arith, inl, inr}
use Rattle.hdt_triples.proofs.InvertedIndexLaws.{no_key, key_part}
use Rattle.hdt_triples.proofs.listed_triples.list_of_key.Goals as goal
use Rattle.hdt_triples.proofs.listed_triples.list_of_key.Goals.{then-key-eq0-via-then-key-eq0}
use Rattle.hdt_triples.proofs.listed_triples.list_of_key.Goals.{then-key-eq0-via-else-key-eq0+then-key-starts}

pub returns-then-key-eq0-clause-is : goal.returns-then-key-eq0-clause-is
returns-then-key-eq0-clause-is c = λ xs greatest lists keys.
    elim c.then-key-eq0.branch [
      | then-key-eq0-via-then-key-eq0 w ↦ sym
          (no_key xs greatest c.args.key keys (inl (omega (arith, w.if-key-eq0.true))))
      | then-key-eq0-via-else-key-eq0+then-key-starts w ↦ sym
          (no_key xs greatest c.args.key keys (inr (omega (arith, w.if-key-starts.true, lists.starts_len))))
    ]

pub returns-clause-is : goal.returns-clause-is
returns-clause-is c = λ xs greatest lists keys. rw (
  c.read_list-from.ensures.is,
  c.read_list-to.ensures.is,
)
    (key_part xs greatest c.args.key c.args.starts.now c.args.flat.now lists (omega (arith, c.if-key-eq0.false))
    (omega (arith, c.if-key-starts.false, lists.starts_len)))

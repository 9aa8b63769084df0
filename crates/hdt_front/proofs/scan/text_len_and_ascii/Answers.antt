use Rattle.hdt_front.proofs.SimdLoads.{ascii_text_at_front}
use Rattle.hdt_front.proofs.scan.text_len_and_ascii.Goals as goal

pub returns-then-bytes-plain-eq0-clause-len : goal.returns-then-bytes-plain-eq0-clause-len
returns-then-bytes-plain-eq0-clause-len c =
    (ascii_text_at_front c.args.bytes.now c.ascii_len-plain.result c.ascii_len-plain.ensures.plain c.if-plain-bytes.true
    c.if-bytes-plain-eq0.true).0

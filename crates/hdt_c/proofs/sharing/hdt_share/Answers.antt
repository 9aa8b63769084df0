-- Handles may go from thread to thread.
use Rattle.hdt_c.proofs.bytes.HdtBytes.TheSendSync as bytes
use Rattle.hdt_c.proofs.handle.HdtGraph.TheSendSync as graphs
use Rattle.hdt_c.proofs.sharing.hdt_share.Goals as goal

pub returns-then-other-eq1-clause-sent : goal.returns-then-other-eq1-clause-sent
returns-then-other-eq1-clause-sent c = (graphs.the_send, bytes.the_send)

pub returns-in-None-clause-sent : goal.returns-in-None-clause-sent
returns-in-None-clause-sent c = (graphs.the_send, bytes.the_send)

pub returns-in-Ok-clause-sent : goal.returns-in-Ok-clause-sent
returns-in-Ok-clause-sent c = (graphs.the_send, bytes.the_send)

pub returns-in-Err-clause-sent : goal.returns-in-Err-clause-sent
returns-in-Err-clause-sent c = (graphs.the_send, bytes.the_send)

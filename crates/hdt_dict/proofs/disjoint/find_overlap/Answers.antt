use Rattle.hdt_dict.proofs.disjoint.find_overlap.Goals as goal

pub returns : goal.returns
returns c = rw (← c.in_ok-list.ensures.is, ← c.in_ok-one.ensures.is, ← c.in_ok-two.ensures.is) c.first_common.ensures

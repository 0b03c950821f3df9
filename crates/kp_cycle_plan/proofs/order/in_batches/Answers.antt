use Rattle.kp_cycle_plan.proofs.order.in_batches.Goals as goal

pub returns-clause-all : goal.returns-clause-all
returns-clause-all c = λ j a. c.in_ok-take_rest.ensures.taken.there j (c.in_ok-take_rest.ensures.all j a)

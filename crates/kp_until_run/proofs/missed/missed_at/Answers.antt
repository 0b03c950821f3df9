use Rattle.kp_until_run.proofs.missed.missed_at.Goals as goal

pub returns-in-Others : goal.returns-in-Others
returns-in-Others c = rw c.in-Others.is (c.others_missed.ensures c.args.retired c.args.cycles)

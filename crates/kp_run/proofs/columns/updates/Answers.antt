use Rattle.std.proofs.{Common.◌<◌, Common.◌≤◌, Common.◌∙◌, Common.sym, Common.arith, lemmas.Bool.le-ltb}
use Rattle.kp_pipeline.proofs.Lists.{bit-at}
use Rattle.kp_sched.specs.Rows.{bit_of}
use Rattle.kp_run.proofs.Gathering.{bit_past}
use Rattle.kp_run.proofs.columns.updates.Goals as goal

pub returns-then-k-n : goal.returns-then-k-n
returns-then-k-n c =
    let h : c.args.k < c.args.n = omega (arith, c.if-k-n.true) in
    c.is_set.ensures ∙ sym (bit-at (bit_of c.args.ue) c.args.n c.args.k h)

pub returns-else-k-n : goal.returns-else-k-n
returns-else-k-n c =
    let h : c.args.n ≤ c.args.k = omega (arith, c.if-k-n.false) in
    le-ltb c.args.k c.args.n h ∙ sym (bit_past (bit_of c.args.ue) c.args.n 0 c.args.k h)

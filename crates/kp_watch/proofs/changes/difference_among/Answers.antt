use Rattle.std.proofs.Common.{Option, sym, subst}
use Rattle.kp_seq.specs.Running.{state}
use Rattle.kp_implements.specs.Naming.{value_shown}
use Rattle.kp_watch.{specs.inner.Comparing.ComparesTarget, proofs.Comparing.lower_first}
use Rattle.kp_run.specs.declared.difference.Difference.{Difference}
use Rattle.kp_watch.proofs.changes.difference_among.Goals as goal

pub returns : goal.returns
returns c =
    let m = c.args.machine.now in
    let t = c.args.t in
    let shown = value_shown m.job c.args.sim.now.net c.args.sim.now.state t in
    subst (λ (r : Option Difference). ComparesTarget m.job shown (state m t) c.args.cycle t r) (sym c.lower.ensures)
    (lower_first m.job shown (state m t) c.args.cycle t c.args.noted c.another-other.result (λ a there not_first not_other. c.requires.elsewhere a there not_first (c.another-other.ensures a not_first not_other)) c.difference_where-first.result c.difference_where-second.result
    c.difference_where-first.ensures c.difference_where-second.ensures)

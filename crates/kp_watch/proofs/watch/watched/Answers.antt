use Rattle.std.proofs.Common.{◌≡◌, ap, sym, subst}
use Rattle.kp_cycle.specs.Steps.{Running}
use Rattle.kp_net.specs.Netlist.{Net, run}
use Rattle.kp_run.specs.Cycles.{inputs_to}
use Rattle.kp_watch.specs.inner.Beside.{AreTables}
use Rattle.kp_watch.proofs.watch.watched.Goals as goal

pub open-requires-clause-samples : goal.open-requires-clause-samples
open-requires-clause-samples c =
    (c.in_ok-tables.ensures (run c.args.net.now (inputs_to c.args.job.now.design.job c.args.count)).rows c.in_ok-columns.ensures).columns.count

pub compare-found-requires-clause-tables : goal.compare-found-requires-clause-tables
compare-found-requires-clause-tables c =
    let job = c.args.job.now.design.job in
    let net = c.args.net.now in
    let same : c.in_ok-both.both.sim.net ≡ net = ap (λ (s : Running). s.net) c.in_ok-both.ensures.come.sim in
    subst (λ (m : Net). AreTables job m (run m (inputs_to job c.args.count)).rows c.in_ok-tables.tables) (sym same)
    (c.in_ok-tables.ensures (run net (inputs_to job c.args.count)).rows c.in_ok-columns.ensures)

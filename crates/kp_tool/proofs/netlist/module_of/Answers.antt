use Rattle.std.proofs.lemmas.Result.{err_from_is_err_and}
use Rattle.kp_tool.{specs.Compared.jobs, proofs.Modules.refused_misread, proofs.Modules.refused_other}
use Rattle.kp_tool.proofs.netlist.module_of.Goals as goal

pub returns-in_err-net : goal.returns-in_err-net
returns-in_err-net c =
    let p = err_from_is_err_and c.from_residual.result c.from_residual.ensures.1 in
    rw (p.1, p.2) (refused_misread c.args.design.now.job c.args.text.now c.args.from _ c.in_err-net.ensures)

pub returns-in-Some : goal.returns-in-Some
returns-in-Some c =
    rw c.refusal.ensures (refused_other c.args.design.now.job c.args.text.now c.args.from c.in_ok-net.net c.in_ok-net.ensures c.in-Some.ensures.exact)

pub returns-in-None : goal.returns-in-None
returns-in-None c = jobs c.in_ok-net.ensures c.in-None.ensures.exact

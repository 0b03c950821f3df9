use Rattle.kp_tool.proofs.Modules.{misreads}
use Rattle.kp_tool.proofs.netlist.netlist_of.Goals as goal

pub returns-in-Err : goal.returns-in-Err
returns-in-Err c = misreads c.args.design.now.job c.args.text.now c.args.from c.in-Err.refused _ c.misread.ensures c.in-Err.ensures

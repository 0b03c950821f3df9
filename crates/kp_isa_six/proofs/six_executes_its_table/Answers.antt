use Rattle.std.proofs.Common.{None}
use Rattle.kp_isa_six.{specs.Text.six_head, specs.Six.six, specs.Executing.IsReady, specs.Executing.Follows, proofs.Executing.processor}
use Rattle.kp_tool.proofs.Executing.{executes_as}
use Rattle.kp_isa_six.proofs.six_executes_its_table.Goals as goal

pub returns : goal.returns
returns c = executes_as six_head (six None) IsReady Follows processor

use Rattle.std.proofs.Common.{None}
use Rattle.kp_isa_dlx.specs.{Text.dlxs_head, Dlxs.dlxs}
use Rattle.kp_isa.{specs.Dlx.IsReady, specs.Dlx.Follows, proofs.Dlx.processor}
use Rattle.kp_tool.proofs.Executing.{executes_as}
use Rattle.kp_tool.proofs.processors.dlxs_executes_its_instruction_set.Goals as goal

pub returns : goal.returns
returns c = executes_as dlxs_head (dlxs None) IsReady Follows processor

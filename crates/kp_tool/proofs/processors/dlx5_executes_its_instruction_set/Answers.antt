use Rattle.std.proofs.Common.{None}
use Rattle.kp_isa_dlx5.specs.{Text.dlx5_head, Dlx5.dlx5}
use Rattle.kp_isa.{specs.Dlx5.IsReady, specs.Dlx5.Follows, proofs.DlxWithSlot.processor}
use Rattle.kp_tool.proofs.Executing.{executes_as}
use Rattle.kp_tool.proofs.processors.dlx5_executes_its_instruction_set.Goals as goal

pub returns : goal.returns
returns c = executes_as dlx5_head (dlx5 None) IsReady Follows processor

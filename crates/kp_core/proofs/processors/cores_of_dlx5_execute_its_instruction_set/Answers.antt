use Rattle.std.proofs.Common.{None}
use Rattle.kp_isa_dlx5.specs.Text.{dlx5_head}
use Rattle.kp_isa_dlx5.specs.Dlx5.{dlx5}
use Rattle.kp_isa.{specs.Dlx5.IsReady, specs.Dlx5.Follows, proofs.DlxWithSlot.processor}
use Rattle.kp_core.proofs.Executing.{core_is}
use Rattle.kp_core.proofs.processors.cores_of_dlx5_execute_its_instruction_set.Goals as goal

pub returns : goal.returns
returns c = λ file input text is. core_is dlx5_head (dlx5 None) IsReady Follows processor input text is file

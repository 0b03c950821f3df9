use Rattle.std.proofs.Common.{None}
use Rattle.kp_isa_dlx.specs.Text.{dlxs_head}
use Rattle.kp_isa_dlx.specs.Dlxs.{dlxs}
use Rattle.kp_isa.{specs.Dlx.IsReady, specs.Dlx.Follows, proofs.Dlx.processor}
use Rattle.kp_core.proofs.Executing.{core_is}
use Rattle.kp_core.proofs.processors.cores_of_dlxs_execute_its_instruction_set.Goals as goal

pub returns : goal.returns
returns c = λ file input text is. core_is dlxs_head (dlxs None) IsReady Follows processor input text is file

use Rattle.std.proofs.Common.{None}
use Rattle.kp_isa_rvm.specs.Rv32im.{rv32im}
use Rattle.kp_isa.{specs.RiscV.rv32im_head, specs.RiscV.IsReady, specs.RiscV.FollowsWithM, proofs.RiscV.rv32im_is}
use Rattle.kp_core.proofs.Executing.{core_is}
use Rattle.kp_core.proofs.processors.cores_of_rv32im_execute_risc_v.Goals as goal

pub returns : goal.returns
returns c = λ file input text is. core_is rv32im_head (rv32im None) IsReady FollowsWithM rv32im_is.processor input text is file

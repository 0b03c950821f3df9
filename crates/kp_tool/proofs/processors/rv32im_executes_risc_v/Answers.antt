use Rattle.std.proofs.Common.{None}
use Rattle.kp_isa_rvm.specs.Rv32im.{rv32im}
use Rattle.kp_isa.{specs.RiscV.rv32im_head, specs.RiscV.IsReady, specs.RiscV.FollowsWithM, proofs.RiscV.rv32im_is}
use Rattle.kp_tool.proofs.Executing.{executes_as}
use Rattle.kp_tool.proofs.processors.rv32im_executes_risc_v.Goals as goal

pub returns : goal.returns
returns c = executes_as rv32im_head (rv32im None) IsReady FollowsWithM rv32im_is.processor

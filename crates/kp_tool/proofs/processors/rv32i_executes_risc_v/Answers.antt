use Rattle.std.proofs.Common.{ℕ, List, None}
use Rattle.kp_isa_rv.specs.{Rv32i.rv32i, Rv32ib.rv32ib, Rv32ip.rv32ip}
use Rattle.kp_isa.specs.RiscV.{rv32i_head, rv32ib_head, rv32ip_head, IsHeadOfRiscV, IsReady, Follows, IsRv32iFrom, IsRv32i, ShowsRv32i}
use Rattle.kp_isa.proofs.RiscV.{rv32i_is, rv32ib_is, rv32ip_is}
use Rattle.kp_tool.{specs.Executing.ExecutesAs, proofs.Executing.executes_as}
use Rattle.kp_tool.proofs.processors.rv32i_executes_risc_v.Goals as goal

of_head : (head : List ℕ) → IsHeadOfRiscV head → ExecutesAs IsRv32iFrom IsRv32i ShowsRv32i head
of_head _ IsHeadOfRiscV.of_rv32i = executes_as rv32i_head (rv32i None) IsReady Follows rv32i_is.processor
of_head _ IsHeadOfRiscV.of_rv32ib = executes_as rv32ib_head (rv32ib None) IsReady Follows rv32ib_is.processor
of_head _ IsHeadOfRiscV.of_rv32ip = executes_as rv32ip_head (rv32ip None) IsReady Follows rv32ip_is.processor

pub returns : goal.returns
returns c = of_head

use Rattle.std.proofs.Common.{ℕ, List, Option, None}
use Rattle.kp_isa_rv.specs.{Rv32i.rv32i, Rv32ib.rv32ib, Rv32ip.rv32ip}
use Rattle.kp_described.specs.Sections.{IsWith}
use Rattle.kp_isa.specs.RiscV.{rv32i_head, rv32ib_head, rv32ip_head, IsHeadOfRiscV, IsReady, Follows, IsRv32iFrom}
use Rattle.kp_isa.proofs.RiscV.{rv32i_is, rv32ib_is, rv32ip_is}
use Rattle.kp_core.specs.{Cores.IsCoreWith, Due.DueFor, Words.write}
use Rattle.kp_core.specs.declared.request.Form.TheVariants.{Module}
use Rattle.kp_core.proofs.Executing.{core_is}
use Rattle.kp_core.proofs.processors.cores_of_rv32i_execute_risc_v.Goals as goal

of_head : (head : List ℕ) → IsHeadOfRiscV head → (file : Option (List ℕ)) (input text : List ℕ) → IsWith head input → DueFor (write Module file) input 0 text → IsCoreWith IsRv32iFrom input text
of_head _ IsHeadOfRiscV.of_rv32i file input text is = core_is rv32i_head (rv32i None) IsReady Follows rv32i_is.processor input text is file
of_head _ IsHeadOfRiscV.of_rv32ib file input text is = core_is rv32ib_head (rv32ib None) IsReady Follows rv32ib_is.processor input text is file
of_head _ IsHeadOfRiscV.of_rv32ip file input text is = core_is rv32ip_head (rv32ip None) IsReady Follows rv32ip_is.processor input text is file

pub returns : goal.returns
returns c = of_head

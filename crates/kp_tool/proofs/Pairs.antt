-- The netlists of the two modules in an input of at most 16 MiB: they are well-formed, and if both are of one job they can be compared.
use Rattle.std.proofs.Common.{◌≤◌, ℕ, List, take, drop, length, Ok, length-drop, arith}
use Rattle.std.proofs.lemmas.List.{length-take}
use Rattle.kp_ast.specs.declared.tree.Job.{Job}
use Rattle.kp_net.specs.{Netlist.Net, Parts.NetOk}
use Rattle.kp_implements.specs.Shows.{IsOfJob}
use Rattle.kp_vlog.proofs.Sound.{denoted_named, denoted_right}
use Rattle.kp_equiv.{specs.Verdicts.IsComparable, proofs.Jobs.comparable}
use Rattle.kp_tool.specs.Read.{ReadsVerilog}

module _ (input : List ℕ) (short : length input ≤ 16777216) where
  pub first_right : (rest middle : ℕ) (a : Net) → ReadsVerilog (take middle input) rest (Ok a) → NetOk a
  first_right rest middle a p =
      let fits : length (drop rest (take middle input)) ≤ 16777216 = omega (arith, length-drop rest (take middle input), length-take middle input) in
      denoted_right rest (drop rest (take middle input)) a fits p

  pub second_right : (middle : ℕ) (b : Net) → ReadsVerilog input middle (Ok b) → NetOk b
  second_right middle b q =
      let fits : length (drop middle input) ≤ 16777216 = omega (arith, length-drop middle input) in
      denoted_right middle (drop middle input) b fits q

pub comparable_pair : (input : List ℕ) (rest middle : ℕ) (a b : Net) (job : Job) → ReadsVerilog (take middle input) rest (Ok a) → ReadsVerilog input middle (Ok b)
    → IsOfJob a job → IsOfJob b job → IsComparable a b
comparable_pair input rest middle a b job p q is js =
    comparable a b job (denoted_named rest (drop rest (take middle input)) a p) (denoted_named middle (drop middle input) b q) is js

-- THE LINE THAT REPORTS a comparison.
use Rattle.std.specs.Prelude.{ℕ, List, ◌++◌, length, codes, decimal}
use Rattle.kp_net.specs.Netlist.{Net}
use Rattle.kp_equiv.specs.declared.verdict.Verdict.{Verdict, TheVariants.Same, TheVariants.Differs}
use Rattle.kp_equiv.specs.Agreement.{Root, Ports, Register, File, Full, Ue, Back, roots, root}

-- a register and a file are named as in the Verilog text
abbrev pub root_name : Root → List ℕ
root_name Ports = codes "ports"
root_name (Register name) = name
root_name (File name) = name
root_name Full = codes "full"
root_name Ue = codes "ue"
root_name Back = codes "back"

-- `same roots 6`, or `not shown equal r_X`
unfoldable pub verdict_line : Net → Net → Verdict → List ℕ
verdict_line a b Same = codes "same roots " ++ decimal (length (roots a b)) ++ codes "\n"
verdict_line a b (Differs n) = codes "not shown equal " ++ root_name (root a b n) ++ codes "\n"

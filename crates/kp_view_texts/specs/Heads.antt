-- How what is said of a violated rule begins.
use Rattle.std.specs.Prelude.{ℕ, List, ◌++◌, codes, decimal}
use Rattle.kp_base.specs.declared.refusal.{Family.Family, Refusal.Refusal}

-- the letter of the language whose rule is violated: descriptions, Verilog or assembler programs
abbrev pub letter : Family → List ℕ
letter Family.E = codes "E"
letter Family.V = codes "V"
letter Family.A = codes "A"

-- the file, the place and the rule: `mini5.kp:11:13: error E9: `
unfoldable pub rule_head : List ℕ → Refusal → List ℕ
rule_head file refusal =
    file ++ codes ":" ++ decimal refusal.place.line ++ codes ":" ++ decimal refusal.place.col ++ codes ": error " ++ letter refusal.family
    ++ decimal refusal.number ++ codes ": "

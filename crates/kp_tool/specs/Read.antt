-- The outcome of `read`.
use Rattle.std.specs.Prelude.{◌<◌, ◌≤◌, ℕ, List, length, drop, Ok, Err, Result}
use Rattle.kp_base.specs.declared.refusal.Refusal.{Refusal}
use Rattle.kp_net.specs.Netlist.{Net}
use Rattle.kp_vlog.specs.{Canon.canon, Denote.Denotes, Verdict.IsRefused}
use Rattle.kp_frontend.specs.Judging.{most_bytes, too_long}
use Rattle.kp_report.specs.Texts.{refusal_line}
use Rattle.kp_tool.specs.Saying.{Says}

-- what the rules of Verilog decide about the text that starts at an offset: the netlist that it denotes, or the first rule that it violates
abbrev pub ReadsVerilog : List ℕ → ℕ → Result Net Refusal → Type 0
ReadsVerilog input from (Ok net) = Denotes from (drop from input) net
ReadsVerilog input from (Err refusal) = IsRefused input from refusal

-- the outcome of `read` on a Verilog text: the canonical text of its netlist, or the rule
abbrev pub DueOfVerilog : Result Net Refusal → ℕ → List ℕ → Type 0
DueOfVerilog (Ok net) status text = Says 0 (canon net) status text
DueOfVerilog (Err refusal) status text = Says 6 (refusal_line refusal) status text

-- the outcome of `read` on an input
pub data DueOfRead (input : List ℕ) (status : ℕ) (text : List ℕ) : Type 0 where
  -- E3
  read_over : most_bytes < length input → Says 2 (refusal_line too_long) status text → DueOfRead input status text
  read_within : (verdict : Result Net Refusal) → length input ≤ most_bytes → ReadsVerilog input 0 verdict → DueOfVerilog verdict status text
      → DueOfRead input status text

-- THE NAMES of a netlist's registers, files and sample ports.
use Rattle.std.specs.Prelude.{ℕ, List, map}
use Rattle.kp_net.specs.{Names.Differ, Netlist.Net}

abbrev pub reg_names : Net → List (List ℕ)
reg_names net = map (λ r. r.name) net.parts.regs

abbrev pub file_names : Net → List (List ℕ)
file_names net = map (λ f. f.name) net.parts.files

abbrev pub sample_names : Net → List (List ℕ)
sample_names net = map (λ s. s.name) net.parts.samples

-- no two registers, no two files and no two sample ports have the same name
pub record HasNames (net : Net) : Type 0 where
  pub regs : Differ (reg_names net)
  pub files : Differ (file_names net)
  pub samples : Differ (sample_names net)

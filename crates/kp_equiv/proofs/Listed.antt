-- The names in a list are those of a netlist.
use Rattle.std.proofs.Common.{◌≡◌, ◌∙◌, ℕ, List, map, ap}
use Rattle.kp_net.specs.{declared.netlist.NetFile.NetFile, declared.netlist.NetReg.NetReg, declared.netlist.Parts.Parts, Netlist.Net}
use Rattle.kp_equiv.specs.Named.{reg_names, file_names}

pub regs_listed : (a : Net) (p : Parts) (rs : List NetReg) (names : List (List ℕ)) → p ≡ a.parts → rs ≡ p.regs → names ≡ map (λ (r : NetReg). r.name) rs → names ≡ reg_names a
regs_listed a p rs names e f g = g ∙ ap (map (λ (r : NetReg). r.name)) (f ∙ ap (λ (x : Parts). x.regs) e)

pub files_listed : (a : Net) (p : Parts) (fs : List NetFile) (names : List (List ℕ)) → p ≡ a.parts → fs ≡ p.files → names ≡ map (λ (f : NetFile). f.name) fs → names ≡ file_names a
files_listed a p fs names e f g = g ∙ ap (map (λ (f : NetFile). f.name)) (f ∙ ap (λ (x : Parts). x.files) e)

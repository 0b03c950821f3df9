use Rattle.std.proofs.Common.{◌≡◌, ◌++◌, drop, map}
use Rattle.kp_net.specs.declared.netlist.NetFile.{NetFile}
use Rattle.kp_equiv.proofs.names.Names.of_files.Given as goal

abbrev pub invariant-loop-file : goal.invariant-loop-file
invariant-loop-file l = map (λ n. n.now) l.names.items ++ map (λ (x : NetFile). x.name) (drop l.file-index l.files) ≡ map (λ (x : NetFile). x.name) l.files

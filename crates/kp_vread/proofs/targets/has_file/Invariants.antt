use Rattle.std.proofs.Common.{◌≡◌, drop, codes, ◌++◌}
use Rattle.kp_vread.specs.Matching.{has_file}
use Rattle.kp_vread.proofs.targets.has_file.Given as goal

abbrev pub invariant-loop-file : goal.invariant-loop-file
invariant-loop-file l = has_file (drop l.file-index l.files) (codes "f_" ++ l.name) l.width l.address ≡ has_file l.files (codes "f_" ++ l.name) l.width l.address

use Rattle.std.proofs.Common.{◌≡◌, drop}
use Rattle.kp_machine.specs.Slots.{targets_of}
use Rattle.kp_vread.specs.Matching.{of_files}
use Rattle.kp_vread.proofs.job_match.of_files.Given as goal

abbrev pub invariant-loop-file : goal.invariant-loop-file
invariant-loop-file l = of_files (targets_of l.decls) l.file (drop l.file l.files) ≡ of_files (targets_of l.decls) 0 l.files

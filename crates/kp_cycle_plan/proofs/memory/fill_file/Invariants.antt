use Rattle.std.proofs.Common.{◌≡◌, ◌++◌, [], get_or, set, take, drop}
use Rattle.kp_cycle_plan.proofs.memory.fill_file.Given as goal

abbrev pub invariant-loop-i : goal.invariant-loop-i
invariant-loop-i l = l.memory ≡ record l.fn.memory { files = set l.fn.memory.files l.file (take l.i l.words ++ drop l.i (get_or l.fn.memory.files l.file [])) }

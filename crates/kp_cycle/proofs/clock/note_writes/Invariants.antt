use Rattle.std.proofs.Common.{◌≡◌, ◌<◌, ℕ, length, get_or, None}
use Rattle.std.specs.Prelude.{if◌then◌else◌}
use Rattle.kp_net.specs.Parts.{no_file}
use Rattle.kp_cycle_plan.specs.Storage.{port_noted}
use Rattle.kp_cycle.proofs.clock.note_writes.Given as goal

abbrev pub invariant-loop-i : goal.invariant-loop-i
invariant-loop-i l = (length l.written ≡ length l.net.parts.files)
    × ((f : ℕ) → f < l.i → get_or l.written f None ≡ (if l.is_reset then None else port_noted (get_or l.net.parts.files f no_file).port l.memory.nodes))

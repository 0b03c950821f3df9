-- A netlist that runs until a condition holds.
use Rattle.std.specs.Prelude.{◌≡◌, ℕ, ◌-◌, ◌<◌, ◌≤◌, List, length, get_or}
use Rattle.kp_ast.specs.declared.tree.Job.{Job}
use Rattle.kp_machine.specs.Slots.{sample_stages}
use Rattle.kp_net.specs.Netlist.{Net, run}
use Rattle.kp_run.specs.Cycles.{HasRows, after_cycles, inputs_to}
use Rattle.kp_until_run.specs.Ending.{retired_in}
use Rattle.kp_until_run.specs.inner.Pasts.{IsPast}
use Rattle.kp_until_run.specs.declared.race.Race.{Race}

-- the least number of cycles, up to n, in which as many instructions retire
pub record IsReached (job : Job) (n count cycles : ℕ) : Type 0 where
  pub within : cycles ≤ n
  pub reached : retired_in job cycles ≡ count
  pub least : (m : ℕ) → m < cycles → retired_in job m < count

-- those for the instructions that retire in n cycles, and for one to four fewer
pub record AreReached (job : Job) (n : ℕ) (reached : List ℕ) : Type 0 where
  pub many : length reached ≡ 5
  pub each : (q : ℕ) → q < 5 → q ≤ retired_in job n → IsReached job n (retired_in job n - q) (get_or reached q 0)

-- after n cycles of a run over at most `limit` cycles
pub record IsAt (job : Job) (net : Net) (limit n : ℕ) (r : Race) : Type 0 where
  pub sim : r.sim ≡ after_cycles job net n
  pub rows : HasRows job net n (run net (inputs_to job n)).rows r.monitor
  pub past : IsPast job net limit n r.past
  pub reached : AreReached job n r.reached
  pub room : length r.room.items ≡ length (sample_stages job.decls)
  pub written : length r.written.items ≡ length net.parts.files

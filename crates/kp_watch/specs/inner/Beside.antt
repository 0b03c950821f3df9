-- A netlist and the machines of its job after some cycles of a run.
use Rattle.std.specs.Prelude.{◌≡◌, ℕ, List, [], length, Option, MatchOption}
use Rattle.kp_base.specs.declared.row.Row.{Row}
use Rattle.kp_bits.specs.Word.{word}
use Rattle.kp_ast.specs.declared.tree.Job.{Job}
use Rattle.kp_net.specs.Netlist.{Net, last_of}
use Rattle.kp_sched.specs.Rows.{rows_seen}
use Rattle.kp_machine.specs.Words.{target}
use Rattle.kp_run.specs.{Columns.AreColumns, Cycles.HasRows, Cycles.inputs_to, Cycles.own_trace, Homes.AreHomes, Places.places_in}
use Rattle.kp_run.specs.declared.difference.Difference.{Difference}
use Rattle.kp_watch.specs.{Watching.own_due, Watching.Agrees, Watching.IsFirstDifference, declared.compare.Tables.Tables, declared.lockstep.Beside.Beside}
use Rattle.kp_watch.specs.inner.{Machines.given, Machines.HaveRun, Machines.AreNeeded, Results.AreResults}

-- what stays the same in all cycles
pub record AreTables (job : Job) (net : Net) (rows : List Row) (tables : Tables) : Type 0 where
  pub places : tables.places.items ≡ places_in job net
  pub homes : AreHomes job tables.homes.items
  pub columns : AreColumns job rows tables.columns.items
  pub results : AreResults job tables.results.items
  pub needed : AreNeeded job tables.needed.items

-- both have run T cycles, whose rows are stored
pub record HaveCome (job : Job) (net : Net) (tables : Tables) (T : ℕ) (both : Beside) : Type 0 where
  pub sim : both.sim ≡ record { net = net; state = last_of net (inputs_to job T); slots = [] }
  pub rows : HasRows job net T both.rows.items both.monitor
  pub machines : HaveRun job (given tables.columns.items) (rows_seen job.stages.value both.rows.items) T both.machines.items
  pub room : length both.room.items ≡ length tables.columns.items
  pub noted : length both.written.items ≡ length net.parts.files

-- the difference that is returned for a run of n cycles
abbrev pub IsRecorded : Job → Net → ℕ → Difference → Type 0
IsRecorded job net n d =
    IsFirstDifference job net n d.cycle d.target d.address
    × (d.found ≡ word (target job d.target).width ((own_trace job net n).visible d.cycle d.target d.address))
    × (d.due ≡ word (target job d.target).width (own_due job net n d.cycle d.target d.address))

abbrev pub Answers : Job → Net → ℕ → Option Difference → Type 0
Answers job net n result = MatchOption result (Agrees job net n) (IsRecorded job net n)

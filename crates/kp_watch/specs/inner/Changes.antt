-- The words that may have changed in a cycle: those that the netlist or the machine of their target wrote.
use Rattle.std.specs.Prelude.{◌≡◌, ◌≢◌, ℕ, ◌+◌, ◌<◌, nat_lt, ◌&&◌, if◌then◌else◌, List, [], length, get_or, map, Option, Some, None}
use Rattle.std.specs.List.{All}
use Rattle.kp_ast.specs.declared.tree.Job.{Job}
use Rattle.kp_cycle.specs.Steps.{written_in}
use Rattle.kp_machine.specs.{Slots.targets_of, Words.HasWord, Words.target}
use Rattle.kp_net.specs.Netlist.{Net, last_of}
use Rattle.kp_sched.specs.Monitors.{Kept}
use Rattle.kp_implements.specs.{Naming.value_shown, Shows.IsOfJob}
use Rattle.kp_seq.specs.{Running.Running, Recorded.Recorded}
use Rattle.kp_run.specs.{Cycles.input_at, Cycles.inputs_to, Homes.home_of, Homes.AreHomes, Places.place_in, Places.places_in, declared.places.Place.Place}
use Rattle.kp_run.specs.declared.places.Place.TheVariants.{Register, File}
use Rattle.kp_watch.specs.{declared.lockstep.Beside.Beside, declared.compare.Tables.Tables, inner.Machines.due_by}
use Rattle.kp_watch.specs.inner.Results.{result_in, AreResults}

-- the addresses that the write ports of a netlist wrote in cycle T
pub record AreNoted (job : Job) (net : Net) (T : ℕ) (written : List (Option ℕ)) : Type 0 where
  pub count : length written ≡ length net.parts.files
  pub each : (f : ℕ) → f < length net.parts.files → get_or written f None ≡ written_in net (input_at job T) (last_of net (inputs_to job T)) f

-- the address of a target that the netlist may have changed: that of a register is 0
abbrev pub noted_at : List (Option ℕ) → Place → Option ℕ
noted_at written (Register r) = Some 0
noted_at written (File f words) = get_or written f None

-- the address that result `number` of the last instruction of machine `home` wrote, if this machine has executed one
abbrev pub last_write : Kept → ℕ → Recorded → ℕ → Option ℕ
last_write monitor home recorded number = if nat_lt home monitor.stages && nat_lt 0 (get_or monitor.passed home 0) then get_or recorded.writes number None else None

abbrev pub no_record : Recorded
no_record = record { reads = []; writes = []; settings = [] }

abbrev pub record_by : List Running → ℕ → Recorded
record_by machines k = get_or (map (λ m. m.last) machines) k no_record

-- the address of target t that its machine wrote last
abbrev pub wrote_by : Job → Kept → List Running → ℕ → Option ℕ
wrote_by job monitor machines t = last_write monitor (home_of job t) (record_by machines (home_of job t)) (result_in job t)

-- all other words agree in the netlist and the machines
abbrev pub AgreeElsewhere : Job → Beside → Type 0
AgreeElsewhere job both = (t a : ℕ) → HasWord job t a → noted_at both.written.items (place_in both.sim.net (target job t)) ≢ Some a → wrote_by job both.monitor both.machines.items t ≢ Some a
    → value_shown job both.sim.net both.sim.state t a ≡ due_by job both.machines.items t a

-- what a comparison of written words reads
pub record IsComparable (job : Job) (tables : Tables) (both : Beside) : Type 0 where
  pub of_job : IsOfJob both.sim.net job
  pub places : tables.places.items ≡ places_in job both.sim.net
  pub homes : AreHomes job tables.homes.items
  pub results : AreResults job tables.results.items
  pub count : length both.machines.items ≡ job.stages.value + 1
  pub jobs : All (λ m. m.job ≡ job) both.machines.items
  pub noted : length both.written.items ≡ length both.sim.net.parts.files
  pub recorded : (t : ℕ) → t < length (targets_of job.decls) → home_of job t < both.monitor.stages → 0 < get_or both.monitor.passed (home_of job t) 0
      → result_in job t < length (record_by both.machines.items (home_of job t)).writes
  pub elsewhere : AgreeElsewhere job both

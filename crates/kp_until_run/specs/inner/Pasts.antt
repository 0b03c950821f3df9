-- The states of the sequential machine in a run, by the updates of its targets.
use Rattle.std.specs.Prelude.{◌≡◌, ℕ, ◌+◌, ◌-◌, ◌^◌, ◌<◌, ◌≤◌, List, length, get_or}
use Rattle.kp_ast.specs.declared.tree.Job.{Job}
use Rattle.kp_bits.specs.Word.{Word, word}
use Rattle.kp_implements.specs.Naming.{value_shown}
use Rattle.kp_machine.specs.{Slots.targets_of, Words.HasWord, Words.target}
use Rattle.kp_net.specs.Netlist.{Net, last_of}
use Rattle.kp_pipeline.specs.{Machine.State, Rows.bit, Rows.bits, Rows.one_if, Rows.passed}
use Rattle.kp_run.specs.{Cycles.inputs_to, Homes.AreHomes, Homes.home_of, Places.places_in, inner.Lanes.passes_after}
use Rattle.kp_sched.specs.Rows.{bit_of}
use Rattle.kp_until.specs.declared.until.Until.{Until, TheVariants.Halt}
use Rattle.kp_until.specs.Untils.{Holds}
use Rattle.kp_until_run.specs.Ending.{own_rows, retired_in, states_in, CountsFor}
use Rattle.kp_until_run.specs.inner.Histories.{Remembers}
use Rattle.kp_until_run.specs.declared.{history.History.History, hunt.Found.Found, past.Past.Past}

-- ---- updates of targets

-- how many updates target t has had in n cycles
abbrev pub updates_in : Job → (cycles target : ℕ) → ℕ
updates_in job n t = passes_after job (own_rows job n) n (home_of job t)

-- the words of target t after c instructions of a run over `limit` cycles
abbrev pub words_after : Job → (limit target count address : ℕ) → Word
words_after job limit t c a = word (target job t).width (states_in job limit c t a)

-- in each state of a run over `limit` cycles a netlist shows the words after the updates so far
abbrev pub Shown : Job → Net → ℕ → Type 0
Shown job net limit = (T t a : ℕ) → T ≤ limit → HasWord job t a → value_shown job net (last_of net (inputs_to job T)) t a ≡ states_in job limit (updates_in job T t) t a

-- these stages update in cycle n
abbrev pub Updates : Job → ℕ → ℕ → Type 0
Updates job n ue = (k : ℕ) → k < job.stages.value
    → passed (own_rows job (n + 1)) k (n + 1) ≡ passed (own_rows job n) k n + one_if (bit (bits (bit_of ue) job.stages.value 0) k)

-- A target has been updated by the instructions that have retired in n cycles and by at most 12 more; one without a result stays.
pub record AreNear (job : Job) (limit n : ℕ) : Type 0 where
  pub some : (t : ℕ) → home_of job t < job.stages.value → retired_in job n ≤ updates_in job n t
  pub few : (t : ℕ) → home_of job t < job.stages.value → updates_in job n t ≤ retired_in job n + 12
  pub stays : (t i a : ℕ) → job.stages.value ≤ home_of job t → states_in job limit i t a ≡ states_in job limit 0 t a

-- ---- histories

-- the history of target t after n cycles of a run over `limit` cycles
pub record IsHistory (job : Job) (limit n t : ℕ) (h : History) : Type 0 where
  pub count : h.count ≡ updates_in job n t
  pub words : Remembers (words_after job limit t) (2 ^ (target job t).address) h

-- and those of all targets
pub record AreHistories (job : Job) (limit n : ℕ) (hs : List History) : Type 0 where
  pub count : length hs ≡ length (targets_of job.decls)
  pub each : (t : ℕ) (d : History) → t < length (targets_of job.decls) → IsHistory job limit n t (get_or hs t d)

pub record IsPast (job : Job) (net : Net) (limit n : ℕ) (p : Past) : Type 0 where
  pub places : p.places.items ≡ places_in job net
  pub homes : AreHomes job p.homes.items
  pub histories : AreHistories job limit n p.histories.items

-- ---- conditions

-- for a condition that holds after r instructions, so many fewer are counted
pub record CountsBack (job : Job) (s : ℕ → State) (u : Until) (r back : ℕ) : Type 0 where
  pub few : back ≤ 4
  pub within : back ≤ r
  pub counts : CountsFor job s u r (r - back)

-- no condition holds after r instructions
abbrev pub NoneAt : Job → (ℕ → State) → List Until → ℕ → Type 0
NoneAt job s untils r = (m : ℕ) → m < length untils → Holds job s r (get_or untils m Halt) → ⊥

-- or after fewer
abbrev pub NoneBelow : Job → (ℕ → State) → List Until → ℕ → Type 0
NoneBelow job s untils r = (i m : ℕ) → i < r → m < length untils → Holds job s i (get_or untils m Halt) → ⊥

-- the first of the conditions that holds after r instructions
pub record IsFoundAt (job : Job) (s : ℕ → State) (untils : List Until) (r : ℕ) (f : Found) : Type 0 where
  pub which : f.which < length untils
  pub holds : Holds job s r (get_or untils f.which Halt)
  pub before : (m : ℕ) → m < f.which → Holds job s r (get_or untils m Halt) → ⊥
  pub count : CountsBack job s (get_or untils f.which Halt) r f.back

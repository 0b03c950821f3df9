-- WHAT THE RULES GUARANTEE of a job: how its targets are written, and which widths, stages and pipes its tables can have.
use Rattle.std.specs.Prelude.{◌≡◌, ℕ, suc, ◌+◌, ◌<◌, ◌≤◌, length, Option, Some, None, true, false}
use Rattle.kp_ast.specs.declared.tree.{Named.Named, ResultDecl.ResultDecl, Job.Job}
use Rattle.kp_pipeline.specs.{Trimming.Alive, Ends.Ends}
use Rattle.kp_machine.specs.Slots.{targets_of, pipes_of, hints_of, samples_of, number_of, is_register}
use Rattle.kp_machine.specs.Machine.{machine_of, result_for}
use Rattle.kp_design.specs.{declared.layout.Port.Port, Spans.put_after, Spans.set_after}
use Rattle.kp_design.specs.{Spans.set_by, Spans.is_alive, Numbers.target_at, Numbers.pipe_at, Numbers.hint_at, Numbers.sample_at, Numbers.guesses_of, Numbers.guess_at}

-- How a target is written, by its result.
abbrev pub pipe_number : Job → Option Named → Option ℕ
pipe_number job None = None
pipe_number job (Some n) = Some (number_of (pipes_of job.decls) n.name)

abbrev pub port_for : Job → ℕ → Option ResultDecl → Option Port
port_for job t None = None
port_for job t (Some r) = Some (record {
  write = r.stage.value;
  known = (machine_of job).known_from t;
  set = set_after r.name.name 0 job.blocks;
  enable = pipe_number job r.enable;
  address = pipe_number job r.address;
})

abbrev pub port_at : Job → ℕ → Option Port
port_at job t = port_for job t (result_for job t)

-- A valid width of values.
pub record IsWidth (w : ℕ) : Type 0 where
  pub positive : 1 ≤ w
  pub at_most : w ≤ 64

-- The enable pipe has one bit, and the address pipe the width of the file's addresses.
abbrev pub EnableFits : Job → Option ℕ → Type 0
EnableFits job None = Unit {0}
EnableFits job (Some q) = (q < length (pipes_of job.decls)) × ((pipe_at job q).width ≡ 1)

abbrev pub AddressFits : Job → ℕ → Option ℕ → Type 0
AddressFits job t None = is_register (target_at job t) ≡ true
AddressFits job t (Some q) = (is_register (target_at job t) ≡ false) × (q < length (pipes_of job.decls)) × ((pipe_at job q).width ≡ (target_at job t).address)

abbrev pub ResultFits : Job → ℕ → Option Port → Type 0
ResultFits job t None = Unit {0}
ResultFits job t (Some p) = (p.write < job.stages.value) × EnableFits job p.enable × AddressFits job t p.address

-- A job fits: it has 2 to 12 stages, all its widths are valid, and each result, guess and hint has its stages in
-- order. A pipe matters only up to its last use, and no stage before its put puts it. A result isn't set before the
-- first stage that sets it.
pub record Fits (job : Job) : Type 0 where
  pub at_least : 2 ≤ job.stages.value
  pub at_most : job.stages.value ≤ 12
  pub targets : (t : ℕ) → t < length (targets_of job.decls) → IsWidth (target_at job t).width
  pub addresses : (t : ℕ) → t < length (targets_of job.decls) → (target_at job t).address ≤ 16
  pub pipes : (x : ℕ) → x < length (pipes_of job.decls) → IsWidth (pipe_at job x).width
  pub hints : (h : ℕ) → h < length (hints_of job.decls) → IsWidth (hint_at job h).width
  pub samples : (x : ℕ) → x < length (samples_of job.decls) → IsWidth (sample_at job x).width
  pub results : (t : ℕ) → t < length (targets_of job.decls) → ResultFits job t (port_at job t)
  pub guess_widths : (g : ℕ) → g < length (guesses_of job) → IsWidth (guess_at job g).width
  pub guesses : (g : ℕ) → g < length (guesses_of job) → (guess_at job g).stage + 2 ≤ (guess_at job g).write
  pub lasting : Alive (machine_of job) (is_alive job)
  pub no_put : (k x : ℕ) (s p : ℕ → ℕ) → x < length (pipes_of job.decls) → suc k < put_after (pipe_at job x).name 0 job.blocks
      → Ends (λ puts sets. puts x ≡ None) ((machine_of job).body k s p)
  pub no_set : (k t : ℕ) (s p : ℕ → ℕ) → suc k < set_by job (result_for job t) → Ends (λ puts sets. sets t ≡ None) ((machine_of job).body k s p)
  pub aims : (h : ℕ) → h < length (hints_of job.decls) → (machine_of job).hint_stage h < job.stages.value

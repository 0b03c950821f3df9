-- What the run after a reset depends on, and how a longer run begins.
use Rattle.std.proofs.Common.{◌≡◌, ℕ, zero, suc, ◌≤◌, Bool, true, false, List, [], ◌∷◌, ◌++◌, length, get_or, take, refl, sym, ap, subst, ◌∙◌, arith}
use Rattle.std.specs.Prelude.{if◌then◌else◌}
use Rattle.std.proofs.{Math.Path.fun_ext, Math.Seq.take-append_seam}
use Rattle.kp_ast.specs.declared.tree.Job.{Job}
use Rattle.kp_stage.specs.{Start.start_of, Counts.summary_of}
use Rattle.kp_pipeline.specs.{Accepted.Accepted, Machine.State as Values, Pipeline.Inputs, Pipeline.pipeline_start, Rows.Row, Rows.Trace, Rows.pipe, Rows.rows_from, Rows.state_after as after_cycles, Timeline.start_hold}
use Rattle.kp_pipeline.proofs.{Timeline.same-rows, Taken.rows-length, Taken.rows-longer}
use Rattle.kp_machine.specs.{Slots.is_register, Machine.machine_of, Machine.state_of, Machine.start_hints, Machine.pipe_of, Machine.inputs_at, Machine.inputs_from, Words.target}
use Rattle.kp_machine.proofs.Guessless.{guessless}
use Rattle.kp_net.specs.Netlist.{Net, Input, State, state_after}
use Rattle.kp_sched.specs.Runs.{ShowsAlike}
use Rattle.kp_implements.specs.{Naming.file_of, Naming.value_shown, Traces.AreQuiet, Traces.inputs_seen}
use Rattle.kp_implements.specs.Anew.{BeginsAnew, HasMemory, left_by_reset, trace_from}
use Rattle.kp_tool.specs.{ConstantTime.HasSameRecord, Restarting.RestartsAlike}
use Rattle.kp_tool.proofs.ConstantTime.{timeline-same}

by_kind : (register : Bool) (start r q f g : ℕ) → f ≡ g → (if register then start else (if register then r else f)) ≡ (if register then start else (if register then q else g))
by_kind true start r q f g e = refl
by_kind false start r q f g e = e

-- the same memory leaves the same state
same_left : (job : Job) (net : Net) (a b : State) → a.files ≡ b.files → left_by_reset job (value_shown job net a) ≡ left_by_reset job (value_shown job net b)
unfolding value_shown
same_left job net a b e = fun_ext (λ t. fun_ext (λ x. by_kind (is_register (target job t)) _ _ _ _ _ (ap (λ (files : List (List ℕ)). get_or (get_or files (file_of net (target job t)) []) x 0) e)))

both_alike : (job : Job) (a b c : Trace) → ShowsAlike job a c → ShowsAlike job b c → ShowsAlike job a b
both_alike job a b c p q = record {
  rows = p.rows ∙ sym q.rows;
  values = λ T t x h w. p.values T t x h w ∙ sym (q.values T t x (subst (λ (rows : List Row). T ≤ length rows) (p.rows ∙ sym q.rows) h) w);
}

module _ (net : Net) (job : Job) (acc : Accepted (machine_of job)) (begins : BeginsAnew net job) where
  -- the run of the netlist from a reset on, and that of the machine
  abbrev after : State → Input → List Input → Trace
  after st i ins = trace_from job net (state_after net i st) ins

  abbrev from : Values → List Input → Trace
  from s ins = pipe (machine_of job) s (start_hints job) (inputs_seen job ins)

  abbrev left : State → Values
  left st = left_by_reset job (value_shown job net st)

  same_memory : (a b : State) (i j : Input) (ins : List Input) → HasMemory net a → HasMemory net b → a.files ≡ b.files → i.reset ≡ true → j.reset ≡ true
      → AreQuiet ins → ShowsAlike job (after a i ins) (after b j ins)
  same_memory a b i j ins there here same raised raised_too quiet =
      both_alike job (after a i ins) (after b j ins) (from (left a) ins) (begins.runs a i ins there raised quiet)
      (subst (λ (s : Values). ShowsAlike job (after b j ins) (from s ins)) (sym (same_left job net a b same)) (begins.runs b j ins here raised_too quiet))

  same_time : (a b : State) (i j : Input) (ins : List Input) → HasMemory net a → HasMemory net b → i.reset ≡ true → j.reset ≡ true → AreQuiet ins
      → (summary_of job).guesses ≡ 0 → (summary_of job).samples ≡ 0 → ((n : ℕ) → HasSameRecord (machine_of job) (left a) (left b) n)
      → (after a i ins).rows ≡ (after b j ins).rows
  same_time a b i j ins there here raised raised_too quiet guesses samples same =
      let plain = guessless job guesses samples in
      (begins.runs a i ins there raised quiet).rows
      ∙ (same-rows (machine_of job) (left a) (start_hints job) (inputs_seen job ins) acc plain
      ∙ (timeline-same (machine_of job) (left a) (left b) same (inputs_seen job ins) start_hold start_hold (λ k h. refl)
      ∙ (sym (same-rows (machine_of job) (left b) (start_hints job) (inputs_seen job ins) acc plain) ∙ sym (begins.runs b j ins here raised_too quiet).rows)))

  pub restarts_alike : RestartsAlike net job
  restarts_alike = record { memory = same_memory; time = same_time }

-- more cycles have more inputs,
more_inputs : (job : Job) (c m n : ℕ) → m ≤ n → (more : List Inputs) × (inputs_from job c n ≡ inputs_from job c m ++ more)
more_inputs job c zero n b = (inputs_from job c n, refl)
more_inputs job c (suc m) zero b = absurd (omega arith)
more_inputs job c (suc m) (suc n) b = let x = more_inputs job (suc c) m n (omega arith) in (x.0, ap (λ (ins : List Inputs). inputs_at job c ∷ ins) x.1)

many_inputs : (job : Job) (c n : ℕ) → length (inputs_from job c n) ≡ n
many_inputs job c zero = refl
many_inputs job c (suc n) = ap suc (many_inputs job (suc c) n)

-- and begin with the same rows
pub shorter_begins : (job : Job) (m n : ℕ) → m ≤ n → (pipe_of job (inputs_from job 0 m)).rows ≡ take m (pipe_of job (inputs_from job 0 n)).rows
shorter_begins job m n b =
    let start = pipeline_start (state_of job (start_of job)) (start_hints job) in
    let few : List Row = rows_from (machine_of job) start (inputs_from job 0 m) in
    let x = more_inputs job 0 m n b in
    let later : List Row = rows_from (machine_of job) (after_cycles (machine_of job) start (inputs_from job 0 m) (length (inputs_from job 0 m))) x.0 in
    let y : rows_from (machine_of job) start (inputs_from job 0 m ++ x.0) ≡ few ++ later = rows-longer (machine_of job) start (inputs_from job 0 m) x.0 in
    let z : length few ≡ m = rows-length (machine_of job) start (inputs_from job 0 m) ∙ many_inputs job 0 m in
    sym (ap (λ (ins : List Inputs). take m (rows_from (machine_of job) start ins)) x.1 ∙ (ap (take m) y ∙ (ap (λ (l : ℕ). take l (few ++ later)) (sym z) ∙ take-append_seam few later)))

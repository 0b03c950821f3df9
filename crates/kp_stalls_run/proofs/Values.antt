-- The values that were guessed, in the lines of a run.
use Rattle.std.proofs.Common.{◌≡◌, ◌∙◌, ℕ, zero, suc, ◌+◌, ◌<◌, ◌≤◌, List, [], ◌∷◌, map, set, length, length-append, get_or, Option, Some, None, Bool, true, false, cond, refl, ap, sym, subst, arith, ⊎_elim}
use Rattle.std.proofs.lemmas.Bool.{cases_lt, or_parts}
use Rattle.std.proofs.lemmas.List.{ext_get_or, get_or_default, get_or-map, get_or-set_other, get_or-set_same, length-map}
use Rattle.std.{proofs.lemmas.Option.same_Some, specs.Prelude.◌==◌, specs.Prelude.IsSome, specs.Prelude.is_some, specs.Prelude.replicate}
use Rattle.std.specs.List.{All, list_any}
use Rattle.kp_bits.specs.Word.{Word}
use Rattle.kp_ast.specs.declared.tree.Job.{Job}
use Rattle.kp_pipeline.specs.{Machine.Machine, Pipeline.Inputs, Pipeline.PipelineState, Pipeline.cycle, Pipeline.pipeline_start}
use Rattle.kp_pipeline.specs.{RightPath.Moment, RightPath.first_moment, RightPath.next_moment, Rows.state_after, Trimming.trimmed}
use Rattle.kp_diagram.specs.Claims.{stalls_of}
use Rattle.kp_stage.specs.Start.{start_of}
use Rattle.kp_machine.specs.Machine.{inputs_at, inputs_from, machine_of, start_hints, state_of}
use Rattle.kp_machine.proofs.Cases.{by_test}
use Rattle.kp_net.specs.Netlist.{Net, Input, State, cells_of, last_of, stalled, start_of as net_start, state_after as state_after_net}
use Rattle.kp_cycle.specs.Steps.{Running, saved_in}
use Rattle.kp_run.{specs.Cycles.input_at, specs.Cycles.inputs_to, proofs.Steps.state_next, proofs.Prefixes.state_is}
use Rattle.kp_synth.specs.Carrying.{Carries}
use Rattle.kp_synth_registers.specs.Holding.{Holds, inputs_of}
use Rattle.kp_implements.specs.Traces.{AreQuiet, inputs_seen}
use Rattle.kp_design.specs.Spans.{is_alive}
use Rattle.kp_synth_registers.specs.Keys.{keys_of}
use Rattle.kp_stalls.specs.declared.cause.{Cause.Cause, Cause.TheVariants.Value, Cause.TheVariants.Squashed, Guess.Guess, Line.Line, Wait.Wait, Wrong.Wrong}
use Rattle.kp_stalls.specs.{Claims.moment_at, Occupants.report}
use Rattle.kp_sites.specs.Sites.{sited}
use Rattle.kp_stalls_run.specs.Claims.{moment_in}
use Rattle.kp_stalls_run.specs.Runs.{cause_with, given_in, guess_with, guessed_in, line_with, run_lines, settled, state_at, wrong_with}
use Rattle.kp_stalls_run.specs.inner.Replays.{HoldsState, names_guess, names_one, no_line, run_at}
use Rattle.kp_stalls_run.proofs.{Naming.same_wrongs, Reporting.all_reported}

-- THE STATE of a moment, and that after a part of the inputs.
moment_state : (m : Machine) (now : Moment) (ins : List Inputs) (T : ℕ) → (moment_at m now ins T).state ≡ state_after m now.state ins T
moment_state m now ins zero = refl
moment_state m now [] (suc T) = refl
moment_state m now (i ∷ ins) (suc T) = moment_state m (next_moment m now i) ins T

part_state : (job : Job) (m : Machine) (st : PipelineState) (c n T : ℕ) → T ≤ n → state_after m st (inputs_from job c n) T ≡ state_after m st (inputs_from job c T) T
part_state job m st c n zero b = refl
part_state job m st c zero (suc T) b = absurd (omega (arith, b))
part_state job m st c (suc n) (suc T) b = part_state job m (cycle m st (inputs_at job c)) (suc c) n T (omega (arith, b))

pub state_of_moment : (job : Job) (n T : ℕ) → T ≤ n → (moment_in n job T).state ≡ state_at job T
state_of_moment job n T b =
    let s = state_of job (start_of job) in
    moment_state (machine_of job) _ (inputs_from job 0 n) T
    ∙ part_state job (machine_of job) (pipeline_start s (start_hints job)) 0 n T b

-- THE REGISTERS of a netlist that runs hold it.
many_inputs : (job : Job) (T : ℕ) → length (inputs_to job T) ≡ T
many_inputs job zero = refl
many_inputs job (suc T) = let e = many_inputs job T in simp length-append (omega (arith, e))

module _ (job : Job) (net : Net) (carries : Carries net job) (quiet : (T : ℕ) → AreQuiet (inputs_to job T)) where
  pub has_registers : length net.parts.regs ≡ length (keys_of job)
  has_registers = (carries.runs (inputs_to job 0) (quiet 0)).keys

  pub holds_state : (T : ℕ) (s : State) → ((U : ℕ) → inputs_seen job (inputs_to job U) ≡ inputs_from job 0 U) → s ≡ last_of net (inputs_to job T) → HoldsState job s T
  holds_state T s seen e =
      let many = many_inputs job T in
      let held = (carries.runs (inputs_to job T) (quiet T)).holds T (stalled 0) (omega (arith, many)) in
      subst (λ (ins : List Inputs). Holds job (cells_of (stalled 0) s) (trimmed (is_alive job) (state_after (machine_of job) (pipeline_start (state_of job (start_of job)) (start_hints job)) ins T)) (inputs_of job (stalled 0)))
      (seen T)
      (subst (λ (x : State). Holds job (cells_of (stalled 0) x) (trimmed (is_alive job) (state_after (machine_of job) (pipeline_start (state_of job (start_of job)) (start_hints job)) (inputs_seen job (inputs_to job T)) T)) (inputs_of job (stalled 0)))
      (state_is job net T T (omega arith) ∙ sym e) held)

-- A cycle more, and back to the start.
pub stepped : (job : Job) (net : Net) (n : ℕ) (i : Input) (old new : Running) → i ≡ input_at job n → old ≡ run_at job net n
    → new ≡ record old { state = state_after_net old.net i old.state } → new ≡ run_at job net (n + 1)
stepped job net n i old new is e next =
    next
    ∙ ap (λ (s : Running). record s { state = state_after_net s.net i s.state }) e
    ∙ ap (λ (s : State). record { net = net; state = s; slots = Some (net_start net) ∷ [] }) (state_next job net n i is (last_of net (inputs_to job n)) refl)

pub restored : (job : Job) (n : ℕ) (old new : Running) → old ≡ run_at job old.net n → saved_in old 0 ≡ Some new.state → new ≡ record old { state = new.state } → new ≡ run_at job old.net 0
restored job n old new e saved others =
    let state : new.state ≡ net_start old.net = same_Some new.state (net_start old.net) (sym saved ∙ ap (λ (s : Running). saved_in s 0) e) in
    others ∙ (λ i. record { net = old.net; state = state i; slots = (e i).slots })

pub own_net : (job : Job) (net : Net) (n : ℕ) (s : Running) → s ≡ run_at job net n → s ≡ run_at job s.net n
own_net job net n s e = e ∙ ap (λ (m : Net). run_at job m n) (sym (ap (λ (x : Running). x.net) e))

pub opened : (job : Job) (net : Net) (s t : Running) → s ≡ record { net = net; state = net_start net; slots = replicate 1 None } → t ≡ record s { slots = set s.slots 0 (Some s.state) }
    → t ≡ run_at job t.net 0
opened job net s t e saved = own_net job net 0 t (saved ∙ ap (λ (x : Running). record x { slots = set x.slots 0 (Some x.state) }) e)

pub has_saved : (job : Job) (n : ℕ) (old : Running) → old ≡ run_at job old.net n → IsSome (saved_in old 0)
has_saved job n old e = subst (λ (s : Running). IsSome (saved_in s 0)) (sym e) refl

-- LINES THAT NAME NO GUESS stay.
same_wrong : (job : Job) (T k : ℕ) (o : Option Guess) → is_some o ≡ false → wrong_with job T k o ≡ o
same_wrong job T k None e = refl
same_wrong job T k (Some g) e = cc

same_cause : (job : Job) (T k : ℕ) (c : Cause) → names_guess c ≡ false → cause_with job T k c ≡ c
same_cause job T k (Squashed w) e = ap (λ (o : Option Guess). Squashed (record { last = w.last; guess = o })) (same_wrong job T k w.guess e)
same_cause job T k _ e = refl

pub same_line : (job : Job) (l : Line) → names_guess l.cause ≡ false → l ≡ line_with job l
same_line job l e = sym (ap (λ (c : Cause). record { cycle = l.cycle; number = l.number; stage = l.stage; cause = c }) (same_cause job l.cycle l.stage l.cause e))

pub same_lines : (job : Job) (ls : List Line) → list_any names_one ls ≡ false → ls ≡ map (line_with job) ls
same_lines job [] e = refl
same_lines job (l ∷ ls) e =
    let both = or_parts (names_guess l.cause) (list_any names_one ls) e in
    let here = same_line job l both.0 in
    let more = same_lines job ls both.1 in
    λ i. here i ∷ more i

-- WHAT A LINE WITH A VALUE says.
pub value_kept : (job : Job) (T k : ℕ) (c : Cause) (w : Wait) → cause_with job T k c ≡ Value w → c ≡ Value w
value_kept job T k (Squashed v) w e = cc
value_kept job T k _ w e = e

-- the guess that a cause names, and its value
pub record IsFilled (job : Job) (T k : ℕ) (c : Cause) (g : Guess) : Type 0 where
  pub wrong : Wrong
  pub named : Guess
  pub is : c ≡ Squashed wrong
  pub names : wrong.guess ≡ Some named
  pub guessed : Word
  pub recorded : g.guessed ≡ Some guessed
  pub held : guessed_in job T k named.read ≡ Some guessed
  pub read : g.read ≡ named.read
  pub value : g.value ≡ named.value
  pub differs : (guessed.value == named.value.value) ≡ false

abbrev filled_guess : Guess → Word → Guess
filled_guess n u = record { read = n.read; guessed = Some u; value = n.value; producer = n.producer }

module _ (job : Job) (T k : ℕ) (v : Wrong) (g : Guess) where
  with_word : (n : Guess) (o : Option Word) → v.guess ≡ Some n → guessed_in job T k n.read ≡ o → guess_with n o ≡ Some g → IsFilled job T k (Squashed v) g
  with_word n None names held e = cc
  with_word n (Some u) names held e = by_test (u.value == n.value.value)
      (λ h.
      (let never : None ≡ Some g = sym (ap (λ b. cond b None (Some (filled_guess n u))) h) ∙ e in cc))
      (λ h.
      let same : filled_guess n u ≡ g = same_Some (filled_guess n u) g (sym (ap (λ b. cond b None (Some (filled_guess n u))) h) ∙ e) in
      record {
        wrong = v;
        named = n;
        is = refl;
        names = names;
        guessed = u;
        recorded = ap (λ (x : Guess). x.guessed) (sym same);
        held = held;
        read = ap (λ (x : Guess). x.read) (sym same);
        value = ap (λ (x : Guess). x.value) (sym same);
        differs = h;
      })

  with_named : (o : Option Guess) → v.guess ≡ o → wrong_with job T k o ≡ Some g → IsFilled job T k (Squashed v) g
  with_named None names e = cc
  with_named (Some n) names e = with_word n (guessed_in job T k n.read) names refl e

pub filled : (job : Job) (T k : ℕ) (c : Cause) (w : Wrong) (g : Guess) → cause_with job T k c ≡ Squashed w → w.guess ≡ Some g → IsFilled job T k c g
filled job T k (Squashed v) w g e is = with_named job T k v g v.guess refl (ap (λ (x : Wrong). x.guess) (same_wrongs _ w e) ∙ is)
filled job T k _ w g e is = cc

-- its instruction
pub held_number : (b : Bool) (x n : ℕ) → cond b (Some x) None ≡ Some n → x ≡ n
held_number true x n e = same_Some x n e
held_number false x n e = cc

-- THE STAGES of the lines.
pub same_stages : (job : Job) → (sited job).stages ≡ (machine_of job).stages
unfolding machine_of
same_stages job = refl

pub lines_below : (job : Job) (n : ℕ) → All (λ (l : Line). l.stage < job.stages.value) (run_lines n job)
unfolding machine_of
lines_below job n = λ k x b.
    let ins = inputs_from job 0 n in
    let given = given_in n job in
    (all_reported (machine_of job) (sited job) (same_stages job) (report job given) (stalls_of ins) (settled job given) ins (first_moment (state_of job (start_of job)) (start_hints job)) 0 k x b).recorded.below

-- IN PLACE, one line after another.
pub same_there : (ls : List Line) (i : ℕ) (d l : Line) → i < length ls → l ≡ get_or ls i l → get_or ls i d ≡ l
same_there ls i d l b e = get_or_default ls i d l b ∙ sym e

module _ (f : Line → Line) (old now : List Line) (i : ℕ) (many : length now ≡ length old) (b : i < length old)
    (done : (k : ℕ) → k < i → get_or now k no_line ≡ get_or (map f old) k no_line) (rest : (k : ℕ) → i ≤ k → get_or now k no_line ≡ get_or old k no_line) where
  pub fill_done : (y : Line) → y ≡ f (get_or old i no_line) → (k : ℕ) → k < i + 1 → get_or (set now i y) k no_line ≡ get_or (map f old) k no_line
  fill_done y e k l = ⊎_elim
      (λ (h : k < i). get_or-set_other now i k y no_line (λ s. (let same : k ≡ i = s in absurd (omega (arith, h, same)))) ∙ done k h)
      (λ (h : i ≤ k).
      let same : k ≡ i = omega (arith, h, l) in
      ap (λ j. get_or (set now i y) j no_line) same
      ∙ get_or-set_same now i y no_line (omega (arith, many, b))
      ∙ e
      ∙ sym (get_or-map f old i no_line no_line b)
      ∙ ap (λ j. get_or (map f old) j no_line) (sym same))
      (cases_lt k i)

  pub fill_rest : (y : Line) (k : ℕ) → i + 1 ≤ k → get_or (set now i y) k no_line ≡ get_or old k no_line
  fill_rest y k l = get_or-set_other now i k y no_line (λ s. (let same : k ≡ i = s in absurd (omega (arith, l, same)))) ∙ rest k (omega (arith, l))

pub fill_end : (f : Line → Line) (old now : List Line) (i : ℕ) → length now ≡ length old → length old ≤ i
    → ((k : ℕ) → k < i → get_or now k no_line ≡ get_or (map f old) k no_line) → now ≡ map f old
fill_end f old now i many b done = ext_get_or no_line now (map f old) (many ∙ sym (length-map old f)) (λ k l. done k (omega (arith, l, many, b)))

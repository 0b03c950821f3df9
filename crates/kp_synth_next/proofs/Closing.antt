-- The step of one cycle.
use Rattle.std.proofs.Common.{◌≡◌, ◌∙◌, ℕ, zero, suc, ◌%◌, ◌^◌, ◌<◌, Bool, true, false, cond, ◌&&◌, ◌==◌, List, length, Option, Some, None, refl, sym, ap, subst, arith, eqb-true}
use Rattle.std.{proofs.Math.Nat.mod-eq_of_lt, proofs.lemmas.Bool.cond-true, proofs.lemmas.Bool.cond-false, proofs.lemmas.Bool.and_parts, specs.Prelude.is_some}
use Rattle.std.specs.List.{list_any}
use Rattle.kp_ast.specs.declared.tree.Job.{Job}
use Rattle.kp_pipeline.specs.Sequential.{PendingGuess}
use Rattle.kp_pipeline.specs.Pipeline.{PipelineState, Inputs, ue, cycle, next_stage, next_visible, stage_zero}
use Rattle.kp_pipeline.specs.Trimming.{trimmed, trimmed_stage}
use Rattle.kp_machine.specs.{Slots.targets_of, Slots.pipes_of, Slots.hints_of, Slots.is_register, Slots.samples_of, Machine.machine_of, Machine.files_before}
use Rattle.kp_machine.proofs.Cases.{by_test}
use Rattle.kp_net.specs.{declared.node.NodeId.NodeId, declared.netlist.WritePort.WritePort, Nodes.Cells, Nodes.at, Nodes.on, Growth.Held, Growth.Wire}
use Rattle.kp_net.proofs.Values.{at_fits}
use Rattle.kp_synth_registers.specs.declared.key.Key.{Key}
use Rattle.kp_synth_registers.specs.declared.key.Key.TheVariants.{Visible, Full, Pipe, Valid, Value, Pending, Guess, Hint}
use Rattle.kp_design.specs.{Numbers.target_at, Spans.is_alive, Spans.is_piped, Spans.is_stored, Numbers.sample_at}
use Rattle.kp_synth_registers.specs.Keys.{HasKey, key_width, place_of}
use Rattle.kp_design.specs.Fits.{Fits}
use Rattle.kp_synth_registers.proofs.Places.{has_place}
use Rattle.kp_synth_registers.specs.declared.outcome.Outcome.{Outcome}
use Rattle.kp_synth_registers.specs.Holding.{Holds, kept_in, optional, own_word, word_bit, some_guess}
use Rattle.kp_synth_next.proofs.{Bare.Bare, Bare.zero_trimmed, Bare.bare_next, Bare.absent_trimmed, Bare.unset_trimmed, Steps.GuessesNext, Steps.pending_next}
use Rattle.kp_synth_next.specs.{Nexts.NextIs, Nexts.port_word, Nexts.PortFits, Nexts.Closes, Nexts.GuessesFit, inner.After.CellsAfter}

pub wire_fits : (p : Held) (n : NodeId) (w : ℕ) (c : Cells) → Wire p n w → at c p.nodes n.0 < 2 ^ w
wire_fits p n w c h = subst (λ (k : ℕ). at c p.nodes n.0 < 2 ^ k) h.wide (at_fits c p.nodes n.0 h.inside)

as_on : (c : Cells) (p : Held) (n : NodeId) → (at c p.nodes n.0 == 1) ≡ on c p.nodes n.0
unfolding on
as_on c p n = refl

module _ (job : Job) (p : Held) (outs : List Outcome) (nexts : ℕ → NodeId) (ports : ℕ → Option WritePort) (c c' : Cells) (st : PipelineState) (i : Inputs)
    (cl : Closes job p outs nexts ports) (h : Holds job c st i) (after : CellsAfter job p nexts ports c c') where
  -- the register of a key takes the value of its next node
  abbrev next_of : Key → NodeId
  next_of key = nexts (place_of job key)

  kept_next : (key : Key) → HasKey job key → kept_in job c' key ≡ at c p.nodes (next_of key).0
  unfolding kept_in
  kept_next key has =
      let s = has_place job key has in
      let w : Wire p (next_of key) (key_width job key) = subst (λ (x : Key). Wire p (next_of key) (key_width job x)) s.1 (cl.wires (place_of job key) s.0) in
      ap (λ v. v % 2 ^ key_width job key) (after.regs (place_of job key) s.0) ∙ mod-eq_of_lt (wire_fits p (next_of key) (key_width job key) c w)

  kept_test : (key : Key) → HasKey job key → (kept_in job c' key == 1) ≡ on c p.nodes (next_of key).0
  kept_test key has = ap (λ (v : ℕ). v == 1) (kept_next key has) ∙ as_on c p (next_of key)

  next_is : (key : Key) → HasKey job key → NextIs job p outs (next_of key) c st i key
  next_is key has =
      let s = has_place job key has in
      subst (NextIs job p outs (next_of key) c st i) s.1 (cl.next c st i h (place_of job key) s.0)

  full_next : (k : ℕ) → 0 < k → k < job.stages.value → (kept_in job c' (Full k) == 1) ≡ ((cycle (machine_of job) st i).stage k).full
  full_next k z l = kept_test (Full k) (z, l) ∙ next_is (Full k) (z, l)

  pipe_next : (x k : ℕ) → x < length (pipes_of job.decls) → is_piped job x k ≡ true → 0 < k → k < job.stages.value → kept_in job c' (Pipe x k) ≡ ((cycle (machine_of job) st i).stage k).instruction.pipes x
  pipe_next x k m y z l = kept_next (Pipe x k) (m, y, z, l) ∙ next_is (Pipe x k) (m, y, z, l)

  hint_next : (x : ℕ) → x < length (hints_of job.decls) → kept_in job c' (Hint x) ≡ (cycle (machine_of job) st i).hints x
  hint_next x l = kept_next (Hint x) l ∙ next_is (Hint x) l

  optional_is : (o : Option ℕ) (b : Bool) (v : ℕ) → b ≡ is_some o → ((y : ℕ) → o ≡ Some y → v ≡ y) → optional b v ≡ o
  optional_is None b v e f = ap (λ (x : Bool). optional x v) e
  optional_is (Some y) b v e f = ap (λ (x : Bool). optional x v) e ∙ ap (λ (n : ℕ). Some n) (f y refl)

  result_next : (t k : ℕ) → t < length (targets_of job.decls) → is_stored job t k ≡ true → 0 < k → k < job.stages.value
      → optional (kept_in job c' (Valid t k) == 1) (kept_in job c' (Value t k)) ≡ ((cycle (machine_of job) st i).stage k).instruction.results t
  result_next t k m e z l = optional_is (((cycle (machine_of job) st i).stage k).instruction.results t) _ _
      (kept_test (Valid t k) (m, e, z, l) ∙ next_is (Valid t k) (m, e, z, l))
      (λ y q. kept_next (Value t k) (m, e, z, l) ∙ next_is (Value t k) (m, e, z, l) y q)

  guesses_next : (k : ℕ) → suc k < job.stages.value → GuessesNext job p outs c c' (ue (machine_of job) st i k) k
  guesses_next k l = record {
    pending = λ g m e. kept_test (Pending g (suc k)) (m, e, l) ∙ next_is (Pending g (suc k)) (m, e, l) k refl;
    value = λ g m e. kept_next (Guess g (suc k)) (m, e, l) ∙ next_is (Guess g (suc k)) (m, e, l) k refl;
  }

  -- a word of a file
  port_cut : (o : Option WritePort) (t a v : ℕ) → PortFits job p t o → port_word c p o a v % 2 ^ (target_at job t).width ≡ port_word c p o a (v % 2 ^ (target_at job t).width)
  port_cut None t a v fit = refl
  port_cut (Some q) t a v fit =
      let e : at c p.nodes q.value.0 % 2 ^ (target_at job t).width ≡ at c p.nodes q.value.0 = mod-eq_of_lt (wire_fits p q.value (target_at job t).width c fit.2) in
      elim (on c p.nodes q.enable.0 && (at c p.nodes q.address.0 == a)) as
      (λ (b : Bool). cond b (at c p.nodes q.value.0) v % 2 ^ (target_at job t).width ≡ cond b (at c p.nodes q.value.0) (v % 2 ^ (target_at job t).width))
      [ true ↦ e | false ↦ refl ]

  register_next : (t a : ℕ) → t < length (targets_of job.decls) → is_register (target_at job t) ≡ true → a < 2 ^ (target_at job t).address
      → kept_in job c' (Visible t) ≡ next_visible (machine_of job) st i t a
  register_next t a l e m =
      let z : (target_at job t).address ≡ 0 = eqb-true (target_at job t).address 0 e in
      let n : a < 2 ^ 0 = subst (λ (w : ℕ). a < 2 ^ w) z m in
      let q : 0 ≡ a = omega arith in
      kept_next (Visible t) (l, e) ∙ next_is (Visible t) (l, e) ∙ ap (next_visible (machine_of job) st i t) q

  word_next : (t a : ℕ) → t < length (targets_of job.decls) → is_register (target_at job t) ≡ false → a < 2 ^ (target_at job t).address
      → c.word (files_before (targets_of job.decls) t) a % 2 ^ (target_at job t).width ≡ st.visible t a
      → c'.word (files_before (targets_of job.decls) t) a % 2 ^ (target_at job t).width ≡ next_visible (machine_of job) st i t a
  word_next t a l e m same =
      ap (λ v. v % 2 ^ (target_at job t).width) (after.words t a l e m)
      ∙ port_cut (ports t) t a (c.word (files_before (targets_of job.decls) t) a) (cl.port_wires t l e)
      ∙ ap (port_word c p (ports t) a) same
      ∙ sym (cl.port c st i h t a l e m)

  visible_next : (t a : ℕ) → t < length (targets_of job.decls) → a < 2 ^ (target_at job t).address → own_word job c' t a ≡ next_visible (machine_of job) st i t a
  unfolding own_word
  visible_next t a l m = by_test (is_register (target_at job t))
      (λ e. cond-true (is_register (target_at job t)) _ _ e ∙ register_next t a l e m)
      (λ e. cond-false (is_register (target_at job t)) _ _ e
      ∙ word_next t a l e m (sym (cond-false (is_register (target_at job t)) (kept_in job c (Visible t)) _ e) ∙ h.visible t a l m))

  zero_next : (cycle (machine_of job) st i).stage 0 ≡ stage_zero
  unfolding next_stage
  zero_next = refl

  pub holds_next : (i' : Inputs) → GuessesFit job → Fits job → Bare job st
      → ((k : ℕ) → k < job.stages.value → word_bit (c'.ext % 2 ^ job.stages.value) k ≡ i'.ext k)
      → ((x : ℕ) → x < length (samples_of job.decls) → c'.sample x % 2 ^ (sample_at job x).width ≡ i'.samples x)
      → Holds job c' (trimmed (is_alive job) (cycle (machine_of job) st i)) i'
  holds_next i' fit rules bare ext samples = record {
    first = ap (trimmed_stage (is_alive job) 0) zero_next ∙ zero_trimmed (is_alive job);
    full = full_next;
    pipes = λ x k m y z l. pipe_next x k m y z l ∙ sym (cond-true (is_alive job x k) _ 0 (and_parts _ _ y).1);
    absent = absent_trimmed job rules (cycle (machine_of job) st i) next_bare;
    results = result_next;
    unset = λ t k m y e. unset_trimmed job rules (cycle (machine_of job) st i) next_bare t k y e;
    pending = pending';
    hints = hint_next;
    visible = visible_next;
    ext = ext;
    samples = samples;
  } where
    next_bare : Bare job (cycle (machine_of job) st i)
    next_bare = bare_next job rules st bare i

    pending' : (k : ℕ) → 0 < k → k < job.stages.value → (test : PendingGuess → Bool) → some_guess job c' k test ≡ list_any test ((cycle (machine_of job) st i).stage k).pending
    pending' zero z l test = absurd (omega arith)
    pending' (suc k) z l test = pending_next job p outs c c' st i k test fit h l (cl.says k (omega arith)) (guesses_next k l)

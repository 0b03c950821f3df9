-- THE NETLIST SHOWS THE PIPELINE, by induction over the cycles.
use Rattle.std.proofs.Common.{◌≡◌, ◌∙◌, ℕ, zero, suc, ◌%◌, ◌^◌, ◌<◌, ◌≤◌, Bool, true, false, cond, ◌&&◌, ◌==◌, List, [], ◌∷◌, map, set, length, get_or, Option, Some, None, refl, sym, ap, subst, arith, eqb-true, All}
use Rattle.std.proofs.{Math.Nat.mod-eq_of_lt, lemmas.Bool.cond-true, lemmas.Bool.cond-false, lemmas.Bool.eqb-false}
use Rattle.std.proofs.lemmas.List.{get_or-map, get_or-set_same, get_or-set_other, length-map, length-set, Elements.All-head, Elements.All-tail}
use Rattle.std.{proofs.lemmas.Slice.Zip.get_or-zip, proofs.lemmas.Slice.Zip.length-zip, specs.List.list_any, specs.List.zip}
use Rattle.kp_ast.specs.declared.tree.Job.{Job}
use Rattle.kp_stage.specs.{declared.start.Start.Start, Start.start_of as job_start}
use Rattle.kp_pipeline.specs.{Sequential.PendingGuess, Pipeline.PipelineState, Pipeline.ue, Pipeline.cycle, Pipeline.pipeline_start}
use Rattle.kp_pipeline.specs.{Rows.row, Rows.bits, Rows.state_after as pipeline_after, Rows.rows_from as pipeline_rows, Trimming.trimmed}
use Rattle.kp_pipeline.proofs.{Lists.bits-same, Trimming.row-same, Trimming.cycle-same}
use Rattle.kp_machine.specs.Slots.{targets_of, pipes_of, is_register}
use Rattle.kp_machine.specs.Machine.{machine_of, state_of, start_hints, registers_before, files_before}
use Rattle.kp_machine.proofs.Cases.{by_test}
use Rattle.kp_net.specs.Netlist.{Net, Input, State, cells_of, start_regs, start_of, port_after, state_after, row_of, states_from, rows_from, last_from, last_of}
use Rattle.kp_net.specs.declared.{node.Node.Node, netlist.WritePort.WritePort, netlist.NetReg.NetReg, netlist.NetFile.NetFile}
use Rattle.kp_net.specs.{Nodes.Cells, Nodes.at, Nodes.on, Growth.Held, Growth.Wire, Parts.no_reg, Parts.no_file}
use Rattle.kp_design.specs.{Numbers.target_at, Numbers.guesses_of, Numbers.guess_at, Spans.is_carried, Spans.is_alive, Spans.is_piped, Spans.is_stored}
use Rattle.kp_synth_registers.specs.Keys.{keys_of, key_at, key_width, key_start, place_of, HasKey}
use Rattle.kp_synth_registers.specs.declared.key.Key.{Key}
use Rattle.kp_synth_registers.specs.declared.key.Key.TheVariants.{Visible, Full, Pipe, Valid, Value, Pending, Hint}
use Rattle.kp_synth_registers.proofs.Places.{has_place}
use Rattle.kp_synth_registers.specs.declared.outcome.Outcome.{Outcome}
use Rattle.kp_synth_registers.specs.Holding.{Holds, kept_in, optional, own_word, word_bit, inputs_of, some_guess, guess_passes}
use Rattle.kp_synth_next.specs.{Nexts.port_word, Nexts.PortFits, inner.After.CellsAfter, Closed.next_in, Closed.port_in, Closed.Closed}
use Rattle.kp_synth_next.specs.Shows.{shown_word, row_bits, no_state, ShowsOver, HasWords, ShowsAnew, HoldsFrom}
use Rattle.kp_synth_next.proofs.Bare.{Bare, or_zero, zero_trimmed, bare_start, bare_next, bare_trimmed, absent_trimmed, unset_trimmed}
use Rattle.kp_synth_next.proofs.{Guesses.some_none, Steps.some_each, Closing.wire_fits, Closing.holds_next}

-- A register, and a word of a file.
abbrev IsRegister : Job → ℕ → Type 0
IsRegister job t = is_register (target_at job t) ≡ true

abbrev IsFile : Job → ℕ → Type 0
IsFile job t = is_register (target_at job t) ≡ false

abbrev number_in : Job → ℕ → ℕ
number_in job t = files_before (targets_of job.decls) t

-- The netlist's state holds the state of the pipeline with no pipe past its last use, whatever the inputs are.
pub record Carries (job : Job) (net : Net) (s : State) (st : PipelineState) : Type 0 where
  pub holds : (i : Input) → Holds job (cells_of i s) (trimmed (is_alive job) st) (inputs_of job i)
  pub bare : Bare job st
  pub fits : (t a : ℕ) → t < length (targets_of job.decls) → a < 2 ^ (target_at job t).address → shown_word job s t a < 2 ^ (target_at job t).width
  pub count : length s.files ≡ length net.parts.files
  pub sizes : (t : ℕ) → t < length (targets_of job.decls) → IsFile job t → length (get_or s.files (number_in job t) []) ≡ 2 ^ (target_at job t).address

abbrev quiet : Input
quiet = record { ext = 0; reset = false; samples = [] }

module _ (job : Job) (net : Net) (start : Start) (outs : List Outcome) (p : Held) (all : Closed job net start outs p) where
  -- what is shown
  own_shown : (i : Input) (s : State) (t a : ℕ) → t < length (targets_of job.decls) → a < 2 ^ (target_at job t).address
      → own_word job (cells_of i s) t a ≡ shown_word job s t a % 2 ^ (target_at job t).width
  unfolding own_word kept_in
  own_shown i s t a l m = by_test (is_register (target_at job t))
      (λ e. (let q = all.starts.places t l e in rw (e, q) refl))
      (λ e. rw e refl)

  pub shown_is : (s : State) (st : PipelineState) → Carries job net s st → (t a : ℕ) → t < length (targets_of job.decls) → a < 2 ^ (target_at job t).address
      → shown_word job s t a ≡ st.visible t a
  shown_is s st h t a l m =
      sym (mod-eq_of_lt (h.fits t a l m)) ∙ sym (own_shown quiet s t a l m)
      ∙ (h.holds quiet).visible t a l m

  -- the row
  row_is : (i : Input) (s : State) (st : PipelineState) → Carries job net s st
      → row_bits job.stages.value (row_of net i s) ≡ row (machine_of job) st (inputs_of job i)
  unfolding machine_of
  row_is i s st h =
      let c : Cells = cells_of i s in
      let m = h.holds i in
      let tr : PipelineState = trimmed (is_alive job) st in
      let f : bits (word_bit (at c net.nodes net.parts.full.0)) job.stages.value 0 ≡ bits (λ k. (st.stage k).full) job.stages.value 0
      = bits-same _ _ job.stages.value 0 (λ j l n. all.outputs.full c tr (inputs_of job i) m j (omega arith)) in
      let u : bits (word_bit (at c net.nodes net.parts.ue.0)) job.stages.value 0 ≡ bits (ue (machine_of job) tr (inputs_of job i)) job.stages.value 0
      = bits-same _ _ job.stages.value 0 (λ j l n. all.outputs.ue c tr (inputs_of job i) m j (omega arith)) in
      let b = all.outputs.back c tr (inputs_of job i) m in
      rw (f, u, b) refl ∙ row-same (machine_of job) (is_alive job) all.fits.lasting st (inputs_of job i)

  -- a cycle
  same_nodes : (c : Cells) (n : ℕ) → at c net.nodes n ≡ at c p.nodes n
  same_nodes c n = ap (λ (ns : List Node). at c ns n) all.nodes

  same_test : (c : Cells) (n : ℕ) → on c net.nodes n ≡ on c p.nodes n
  same_test c n = ap (λ (ns : List Node). on c ns n) all.nodes

  abbrev after : Input → State → State
  after i s = record { regs = map (λ (r : NetReg). at (cells_of i s) net.nodes r.next.0) net.parts.regs; files = map (λ (q : NetFile × List ℕ). port_after (cells_of i s) net.nodes q.0.port q.1) (zip net.parts.files s.files) }

  not_reset : (i : Input) (s : State) → i.reset ≡ false → state_after net i s ≡ after i s
  not_reset i s e = rw (all.reset, e) refl

  reg_after : (i : Input) (s : State) (r : ℕ) → r < length (keys_of job) → get_or (after i s).regs r 0 ≡ at (cells_of i s) p.nodes (next_in net r).0
  reg_after i s r l =
      get_or-map (λ (x : NetReg). at (cells_of i s) net.nodes x.next.0) net.parts.regs r no_reg 0 (omega (arith, all.starts.regs))
      ∙ same_nodes (cells_of i s) (next_in net r).0

  port_get : (c : Cells) (o : Option WritePort) (words : List ℕ) (a : ℕ) → a < length words → get_or (port_after c net.nodes o words) a 0 ≡ port_word c p o a (get_or words a 0)
  port_get c None words a l = refl
  port_get c (Some q) words a l =
      let e = same_test c q.enable.0 in
      let f = same_nodes c q.address.0 in
      let g = same_nodes c q.value.0 in
      rw (e, f, g) (by_test (on c p.nodes q.enable.0)
      (λ x. rw x (by_test (at c p.nodes q.address.0 == a)
      (λ y. (let z : at c p.nodes q.address.0 ≡ a = eqb-true (at c p.nodes q.address.0) a y in
      rw y (ap (λ j. get_or (set words j (at c p.nodes q.value.0)) a 0) z ∙ get_or-set_same words a (at c p.nodes q.value.0) 0 l)))
      (λ y. rw y (get_or-set_other words (at c p.nodes q.address.0) a (at c p.nodes q.value.0) 0 (λ z. eqb-false (at c p.nodes q.address.0) a y (sym z))))))
      (λ x. rw x refl))

  file_after : (i : Input) (s : State) (f : ℕ) → f < length net.parts.files → length s.files ≡ length net.parts.files
      → get_or (after i s).files f [] ≡ port_after (cells_of i s) net.nodes (get_or net.parts.files f no_file).port (get_or s.files f [])
  file_after i s f l e =
      let z : f < length (zip net.parts.files s.files) = omega (arith, e, length-zip net.parts.files s.files) in
      let d : NetFile × List ℕ = (no_file, []) in
      get_or-map (λ (q : NetFile × List ℕ). port_after (cells_of i s) net.nodes q.0.port q.1) (zip net.parts.files s.files) f d [] z
      ∙ ap (λ (q : NetFile × List ℕ). port_after (cells_of i s) net.nodes q.0.port q.1) (get_or-zip net.parts.files s.files f d l (omega (arith, e)))

  cells_after : (i j : Input) (s : State) (st : PipelineState) → Carries job net s st → CellsAfter job p (next_in net) (port_in job net) (cells_of i s) (cells_of j (after i s))
  cells_after i j s st h = record {
    regs = reg_after i s;
    words = λ t a l e m.
        ap (λ (ws : List ℕ). get_or ws a 0) (file_after i s (number_in job t) (all.starts.files t l e) h.count)
        ∙ port_get (cells_of i s) (port_in job net t) (get_or s.files (number_in job t) []) a (omega (arith, m, h.sizes t l e));
  }

  holds_after : (i j : Input) (s : State) (st : PipelineState) → Carries job net s st
      → Holds job (cells_of j (after i s)) (trimmed (is_alive job) (cycle (machine_of job) st (inputs_of job i))) (inputs_of job j)
  holds_after i j s st h =
      subst (λ (x : PipelineState). Holds job (cells_of j (after i s)) x (inputs_of job j)) (cycle-same (machine_of job) (is_alive job) all.fits.lasting st (inputs_of job i))
      (holds_next job p outs (next_in net) (port_in job net) (cells_of i s) (cells_of j (after i s)) (trimmed (is_alive job) st) (inputs_of job i) all.closes (h.holds i) (cells_after i j s st h)
      (inputs_of job j) all.guesses all.fits (bare_trimmed job all.fits st h.bare) (λ k l. refl) (λ x l. refl))

  size_kept : (c : Cells) (o : Option WritePort) (words : List ℕ) → length (port_after c net.nodes o words) ≡ length words
  size_kept c None words = refl
  size_kept c (Some q) words = by_test (on c net.nodes q.enable.0)
      (λ x. rw x (length-set words (at c net.nodes q.address.0) (at c net.nodes q.value.0)))
      (λ x. rw x refl)

  port_fits : (c : Cells) (t a v : ℕ) (o : Option WritePort) → PortFits job p t o → v < 2 ^ (target_at job t).width → port_word c p o a v < 2 ^ (target_at job t).width
  port_fits c t a v None fit l = l
  port_fits c t a v (Some q) fit l = elim (on c p.nodes q.enable.0 && (at c p.nodes q.address.0 == a)) as (λ (b : Bool). cond b (at c p.nodes q.value.0) v < 2 ^ (target_at job t).width)
      [ true ↦ wire_fits p q.value (target_at job t).width c fit.2 | false ↦ l ]

  register_fits : (i : Input) (s : State) (t : ℕ) → t < length (targets_of job.decls) → IsRegister job t
      → get_or (after i s).regs (registers_before (targets_of job.decls) t) 0 < 2 ^ (target_at job t).width
  register_fits i s t l e =
      let k = has_place job (Visible t) (l, e) in
      let w : Wire p (next_in net (place_of job (Visible t))) (target_at job t).width =
      subst (λ (x : Key). Wire p (next_in net (place_of job (Visible t))) (key_width job x)) k.1 (all.closes.wires (place_of job (Visible t)) k.0) in
      let v = wire_fits p (next_in net (place_of job (Visible t))) (target_at job t).width (cells_of i s) w in
      let r : at (cells_of i s) p.nodes (next_in net (place_of job (Visible t))).0 ≡ get_or (after i s).regs (registers_before (targets_of job.decls) t) 0 =
      sym (reg_after i s (place_of job (Visible t)) k.0) ∙ ap (λ n. get_or (after i s).regs n 0) (all.starts.places t l e) in
      subst (λ n. n < 2 ^ (target_at job t).width) r v

  word_fits : (i : Input) (s : State) (st : PipelineState) (t a : ℕ) → Carries job net s st → t < length (targets_of job.decls) → IsFile job t → a < 2 ^ (target_at job t).address
      → get_or (get_or (after i s).files (number_in job t) []) a 0 < 2 ^ (target_at job t).width
  word_fits i s st t a h l e m =
      let old : get_or (get_or s.files (number_in job t) []) a 0 < 2 ^ (target_at job t).width =
      subst (λ n. n < 2 ^ (target_at job t).width) (cond-false (is_register (target_at job t)) (get_or s.regs (registers_before (targets_of job.decls) t) 0) _ e) (h.fits t a l m) in
      subst (λ n. n < 2 ^ (target_at job t).width) (sym ((cells_after i quiet s st h).words t a l e m))
      (port_fits (cells_of i s) t a (get_or (get_or s.files (number_in job t) []) a 0) (port_in job net t) (all.closes.port_wires t l e) old)

  carries_next : (i : Input) (s : State) (st : PipelineState) → Carries job net s st → Carries job net (after i s) (cycle (machine_of job) st (inputs_of job i))
  carries_next i s st h = record {
    holds = λ j. holds_after i j s st h;
    bare = bare_next job all.fits st h.bare (inputs_of job i);
    fits = λ t a l m. by_test (is_register (target_at job t))
        (λ e. subst (λ n. n < 2 ^ (target_at job t).width) (sym (cond-true (is_register (target_at job t)) _ _ e)) (register_fits i s t l e))
        (λ e. subst (λ n. n < 2 ^ (target_at job t).width) (sym (cond-false (is_register (target_at job t)) _ _ e)) (word_fits i s st t a h l e m));
    count = length-map (zip net.parts.files s.files) (λ (q : NetFile × List ℕ). port_after (cells_of i s) net.nodes q.0.port q.1) ∙ omega (arith, h.count, length-zip net.parts.files s.files);
    sizes = λ t l e. ap length (file_after i s (number_in job t) (all.starts.files t l e) h.count)
        ∙ size_kept (cells_of i s) (port_in job net t) (get_or s.files (number_in job t) []) ∙ h.sizes t l e;
  }

  -- along the cycles
  abbrev NeverReset : List Input → Type 0
  NeverReset ins = All (λ (i : Input). i.reset ≡ false) ins

  rows_along : (ins : List Input) (s : State) (st : PipelineState) → NeverReset ins → Carries job net s st
      → map (row_bits job.stages.value) (rows_from net s ins) ≡ pipeline_rows (machine_of job) st (map (inputs_of job) ins)
  rows_along [] s st q h = refl
  rows_along (i ∷ ins) s st q h =
      let a = row_is i s st h in
      let e = not_reset i s (All-head (λ (x : Input). x.reset ≡ false) i ins q) in
      let b = rows_along ins (after i s) (cycle (machine_of job) st (inputs_of job i)) (All-tail (λ (x : Input). x.reset ≡ false) i ins q) (carries_next i s st h) in
      rw (e, a, b) refl

  carries_along : (ins : List Input) (s : State) (st : PipelineState) → NeverReset ins → Carries job net s st → (T : ℕ) → T ≤ length ins
      → Carries job net (get_or (states_from net s ins) T no_state) (pipeline_after (machine_of job) st (map (inputs_of job) ins) T)
  carries_along [] s st q h zero x = h
  carries_along [] s st q h (suc T) x = absurd (omega arith)
  carries_along (i ∷ ins) s st q h zero x = h
  carries_along (i ∷ ins) s st q h (suc T) x =
      let e = not_reset i s (All-head (λ (x : Input). x.reset ≡ false) i ins q) in
      rw e (carries_along ins (after i s) (cycle (machine_of job) st (inputs_of job i)) (All-tail (λ (x : Input). x.reset ≡ false) i ins q) (carries_next i s st h) T (omega arith))

  -- THE START: the registers have their start values, and the files any words. So it is at the start, and after a reset.
  abbrev begun : List (List ℕ) → State
  begun files = record { regs = start_regs net; files = files }

  -- these words of the files, and the start values of the registers, are those of the state v of the targets
  pub record Begins (files : List (List ℕ)) (v : ℕ → ℕ → ℕ) : Type 0 where
    pub regs : (t : ℕ) → t < length (targets_of job.decls) → IsRegister job t → state_of job start t 0 ≡ v t 0
    pub words : (t a : ℕ) → t < length (targets_of job.decls) → IsFile job t → a < 2 ^ (target_at job t).address → get_or (get_or files (number_in job t) []) a 0 ≡ v t a
    pub fits : (t a : ℕ) → t < length (targets_of job.decls) → IsFile job t → a < 2 ^ (target_at job t).address → v t a < 2 ^ (target_at job t).width
    pub count : length files ≡ length net.parts.files
    pub sizes : (t : ℕ) → t < length (targets_of job.decls) → IsFile job t → length (get_or files (number_in job t) []) ≡ 2 ^ (target_at job t).address

  start_reg : (r : ℕ) → r < length (keys_of job) → get_or (start_regs net) r 0 ≡ key_start job start (key_at job r)
  start_reg r l = get_or-map (λ (x : NetReg). x.start.value) net.parts.regs r no_reg 0 (omega (arith, all.starts.regs)) ∙ all.starts.values r l

  start_kept : (i : Input) (files : List (List ℕ)) (key : Key) → HasKey job key → kept_in job (cells_of i (begun files)) key ≡ key_start job start key
  unfolding kept_in
  start_kept i files key has =
      let k = has_place job key has in
      let v : get_or (start_regs net) (place_of job key) 0 ≡ key_start job start key = start_reg (place_of job key) k.0 ∙ ap (key_start job start) k.1 in
      let b : (get_or net.parts.regs (place_of job key) no_reg).start.value < 2 ^ key_width job key = subst (λ (x : Key). (get_or net.parts.regs (place_of job key) no_reg).start.value < 2 ^ key_width job x) k.1 (all.starts.fits (place_of job key) k.0) in
      let e : (get_or net.parts.regs (place_of job key) no_reg).start.value ≡ key_start job start key = all.starts.values (place_of job key) k.0 ∙ ap (key_start job start) k.1 in
      let f : key_start job start key < 2 ^ key_width job key = subst (λ n. n < 2 ^ key_width job key) e b in
      ap (λ n. n % 2 ^ key_width job key) v ∙ mod-eq_of_lt f

  no_guess_passes : (i : Input) (files : List (List ℕ)) (k g : ℕ) (test : PendingGuess → Bool) → k < job.stages.value → g < length (guesses_of job)
      → guess_passes job (cells_of i (begun files)) k test g (guess_at job g) ≡ false
  no_guess_passes i files k g test l m = by_test (is_carried (guess_at job g) k)
      (λ e. rw (e, start_kept i files (Pending g k) (m, e, l)) refl)
      (λ e. rw e refl)

  start_guesses : (i : Input) (files : List (List ℕ)) (k : ℕ) (test : PendingGuess → Bool) → k < job.stages.value → some_guess job (cells_of i (begun files)) k test ≡ false
  unfolding some_guess
  start_guesses i files k test l =
      some_each job (guess_passes job (cells_of i (begun files)) k test) (λ g s. false) (λ g m. no_guess_passes i files k g test l m)
      ∙ some_none (λ g s. false) 0 (guesses_of job) (λ n s. refl)

  -- there it carries the pipeline that starts with this state of the targets
  module _ (files : List (List ℕ)) (v : ℕ → ℕ → ℕ) (b : Begins files v) where
    begun_shown : (t a : ℕ) → t < length (targets_of job.decls) → a < 2 ^ (target_at job t).address → shown_word job (begun files) t a ≡ v t a
    begun_shown t a l m = by_test (is_register (target_at job t))
        (λ e.
        let k = has_place job (Visible t) (l, e) in
        let z : (target_at job t).address ≡ 0 = eqb-true (target_at job t).address 0 e in
        let n : a < 2 ^ 0 = subst (λ (w : ℕ). a < 2 ^ w) z m in
        let q : 0 ≡ a = omega arith in
        cond-true (is_register (target_at job t)) _ _ e
        ∙ ap (λ r. get_or (start_regs net) r 0) (sym (all.starts.places t l e))
        ∙ start_reg (place_of job (Visible t)) k.0 ∙ ap (key_start job start) k.1 ∙ b.regs t l e ∙ ap (v t) q)
        (λ e.
        cond-false (is_register (target_at job t)) _ _ e ∙ b.words t a l e m)

    begun_fits : (t a : ℕ) → t < length (targets_of job.decls) → a < 2 ^ (target_at job t).address → shown_word job (begun files) t a < 2 ^ (target_at job t).width
    begun_fits t a l m = by_test (is_register (target_at job t))
        (λ e.
        let k = has_place job (Visible t) (l, e) in
        let y : (get_or net.parts.regs (place_of job (Visible t)) no_reg).start.value < 2 ^ (target_at job t).width = subst (λ (x : Key). (get_or net.parts.regs (place_of job (Visible t)) no_reg).start.value < 2 ^ key_width job x) k.1 (all.starts.fits (place_of job (Visible t)) k.0) in
        let r : (get_or net.parts.regs (place_of job (Visible t)) no_reg).start.value ≡ get_or (start_regs net) (registers_before (targets_of job.decls) t) 0 =
        sym (get_or-map (λ (x : NetReg). x.start.value) net.parts.regs (place_of job (Visible t)) no_reg 0 (omega (arith, all.starts.regs, k.0)))
        ∙ ap (λ n. get_or (start_regs net) n 0) (all.starts.places t l e) in
        subst (λ n. n < 2 ^ (target_at job t).width) (r ∙ sym (cond-true (is_register (target_at job t)) _ _ e)) y)
        (λ e. subst (λ n. n < 2 ^ (target_at job t).width) (sym (begun_shown t a l m)) (b.fits t a l e m))

    begun_holds : (i : Input) → Holds job (cells_of i (begun files)) (trimmed (is_alive job) (pipeline_start v (start_hints job))) (inputs_of job i)
    begun_holds i = record {
      first = zero_trimmed (is_alive job);
      full = full';
      pipes = pipes';
      absent = absent_trimmed job all.fits (pipeline_start v (start_hints job)) (bare_start job v (start_hints job));
      results = results';
      unset = λ t k m y e. unset_trimmed job all.fits (pipeline_start v (start_hints job)) (bare_start job v (start_hints job)) t k y e;
      pending = pending';
      hints = λ h l. start_kept i files (Hint h) l;
      visible = λ t a l m. own_shown i (begun files) t a l m ∙ mod-eq_of_lt (begun_fits t a l m) ∙ begun_shown t a l m;
      ext = λ k l. refl;
      samples = λ x l. refl;
    } where
      full' : (k : ℕ) → 0 < k → k < job.stages.value → (kept_in job (cells_of i (begun files)) (Full k) == 1) ≡ ((pipeline_start v (start_hints job)).stage k).full
      full' zero z l = absurd (omega arith)
      full' (suc k) z l = ap (λ (x : ℕ). x == 1) (start_kept i files (Full (suc k)) (z, l))

      pipes' : (x k : ℕ) → x < length (pipes_of job.decls) → is_piped job x k ≡ true → 0 < k → k < job.stages.value
          → kept_in job (cells_of i (begun files)) (Pipe x k) ≡ ((trimmed (is_alive job) (pipeline_start v (start_hints job))).stage k).instruction.pipes x
      pipes' x zero m y z l = absurd (omega arith)
      pipes' x (suc k) m y z l = start_kept i files (Pipe x (suc k)) (m, y, z, l) ∙ sym (or_zero (is_alive job x (suc k)) 0 refl)

      results' : (t k : ℕ) → t < length (targets_of job.decls) → is_stored job t k ≡ true → 0 < k → k < job.stages.value
          → optional (kept_in job (cells_of i (begun files)) (Valid t k) == 1) (kept_in job (cells_of i (begun files)) (Value t k)) ≡ ((pipeline_start v (start_hints job)).stage k).instruction.results t
      results' t zero m e z l = absurd (omega arith)
      results' t (suc k) m e z l = ap (λ (x : ℕ). optional (x == 1) (kept_in job (cells_of i (begun files)) (Value t (suc k)))) (start_kept i files (Valid t (suc k)) (m, e, z, l))

      pending' : (k : ℕ) → 0 < k → k < job.stages.value → (test : PendingGuess → Bool)
          → some_guess job (cells_of i (begun files)) k test ≡ list_any test ((pipeline_start v (start_hints job)).stage k).pending
      pending' zero z l test = absurd (omega arith)
      pending' (suc k) z l test = start_guesses i files (suc k) test l

    begun_carries : Carries job net (begun files) (pipeline_start v (start_hints job))
    begun_carries = record { holds = begun_holds; bare = bare_start job v (start_hints job); fits = begun_fits; count = b.count; sizes = b.sizes }

  -- AT THE START
  start_file : (f : ℕ) → f < length net.parts.files → get_or (start_of net).files f [] ≡ (get_or net.parts.files f no_file).words
  start_file f l = get_or-map (λ (x : NetFile). x.words) net.parts.files f no_file [] l

  begins_first : Begins (start_of net).files (state_of job start)
  begins_first = record {
    regs = λ t l e. refl;
    words = λ t a l e m. ap (λ (ws : List ℕ). get_or ws a 0) (start_file (number_in job t) (all.starts.files t l e)) ∙ all.starts.words t a l e m;
    fits = all.starts.word_fits;
    count = length-map net.parts.files (λ (x : NetFile). x.words);
    sizes = λ t l e. ap length (start_file (number_in job t) (all.starts.files t l e)) ∙ all.starts.sizes t l e;
  }

  start_carries : Carries job net (start_of net) (pipeline_start (state_of job start) (start_hints job))
  start_carries = begun_carries (start_of net).files (state_of job start) begins_first

  first_carries : start ≡ job_start job → Carries job net (start_of net) (pipeline_start (state_of job (job_start job)) (start_hints job))
  first_carries e = subst (λ (x : Start). Carries job net (start_of net) (pipeline_start (state_of job x) (start_hints job))) e start_carries

  pub shows_over : start ≡ job_start job → (ins : List Input) → NeverReset ins → ShowsOver net job ins
  shows_over e ins q = record {
    rows = rows_along ins (start_of net) _ q (first_carries e);
    visible = λ T t a x l m. shown_is _ _ (carries_along ins (start_of net) _ q (first_carries e) T x) t a l m;
  }

  pub holds_over : start ≡ job_start job → (ins : List Input) → NeverReset ins → HoldsFrom net job (start_of net) (state_of job (job_start job)) ins
  holds_over e ins q = record { keys = all.starts.regs; holds = λ T j x. (carries_along ins (start_of net) _ q (first_carries e) T x).holds j }

  -- AFTER A RESET: the words of the files are unchanged, and the registers may have had any values.
  abbrev left : Start → State → ℕ → ℕ → ℕ
  left x s t a = cond (is_register (target_at job t)) (state_of job x t a) (shown_word job s t a)

  word_left : (s : State) (t a : ℕ) → IsFile job t → get_or (get_or s.files (number_in job t) []) a 0 ≡ left start s t a
  word_left s t a e =
      sym (cond-false (is_register (target_at job t)) (get_or s.regs (registers_before (targets_of job.decls) t) 0) _ e)
      ∙ sym (cond-false (is_register (target_at job t)) (state_of job start t a) _ e)

  begins_anew : (s : State) → HasWords net job s → Begins s.files (left start s)
  begins_anew s h = record {
    regs = λ t l e. sym (cond-true (is_register (target_at job t)) _ _ e);
    words = λ t a l e m. word_left s t a e;
    fits = λ t a l e m. subst (λ n. n < 2 ^ (target_at job t).width) (word_left s t a e) (h.fits t a l e m);
    count = h.count;
    sizes = h.sizes;
  }

  carries_anew : (i : Input) (s : State) → i.reset ≡ true → HasWords net job s → Carries job net (state_after net i s) (pipeline_start (left start s) (start_hints job))
  carries_anew i s r h =
      let e : state_after net i s ≡ begun s.files = rw (all.reset, r) refl in
      subst (λ (x : State). Carries job net x (pipeline_start (left start s) (start_hints job))) (sym e) (begun_carries s.files (left start s) (begins_anew s h))

  own_anew : start ≡ job_start job → (s : State) (i : Input) → HasWords net job s → i.reset ≡ true
      → Carries job net (state_after net i s) (pipeline_start (left (job_start job) s) (start_hints job))
  own_anew e s i h r = subst (λ (x : Start). Carries job net (state_after net i s) (pipeline_start (left x s) (start_hints job))) e (carries_anew i s r h)

  pub shows_anew : start ≡ job_start job → (s : State) (i : Input) (ins : List Input) → HasWords net job s → i.reset ≡ true → NeverReset ins → ShowsAnew net job s i ins
  shows_anew e s i ins h r q = record {
    rows = rows_along ins (state_after net i s) _ q (own_anew e s i h r);
    visible = λ T t a x l m. shown_is _ _ (carries_along ins (state_after net i s) _ q (own_anew e s i h r) T x) t a l m;
  }

  pub holds_anew : start ≡ job_start job → (s : State) (i : Input) (ins : List Input) → HasWords net job s → i.reset ≡ true → NeverReset ins
      → HoldsFrom net job (state_after net i s) (left (job_start job) s) ins
  holds_anew e s i ins h r q = record { keys = all.starts.regs; holds = λ T j x. (carries_along ins (state_after net i s) _ q (own_anew e s i h r) T x).holds j }

  -- and each state that it reaches contains all words of the files
  words_of : (s : State) (st : PipelineState) → Carries job net s st → HasWords net job s
  words_of s st h = record {
    count = h.count;
    sizes = h.sizes;
    fits = λ t a l e m. subst (λ n. n < 2 ^ (target_at job t).width) (cond-false (is_register (target_at job t)) (get_or s.regs (registers_before (targets_of job.decls) t) 0) _ e) (h.fits t a l m);
  }

  carries_after : (i : Input) (s : State) (st : PipelineState) → Carries job net s st → (p : PipelineState) × Carries job net (state_after net i s) p
  carries_after i s st h = by_test i.reset
      (λ r. (pipeline_start (left start s) (start_hints job), carries_anew i s r (words_of s st h)))
      (λ r. (cycle (machine_of job) st (inputs_of job i), subst (λ (x : State). Carries job net x (cycle (machine_of job) st (inputs_of job i))) (sym (not_reset i s r)) (carries_next i s st h)))

  words_along : (ins : List Input) (s : State) (st : PipelineState) → Carries job net s st → HasWords net job (last_from net s ins)
  words_along [] s st h = words_of s st h
  words_along (i ∷ ins) s st h = let n = carries_after i s st h in words_along ins (state_after net i s) n.0 n.1

  pub words_always : (ins : List Input) → HasWords net job (last_of net ins)
  words_always ins = words_along ins (start_of net) (pipeline_start (state_of job start) (start_hints job)) start_carries

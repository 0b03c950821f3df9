-- From the statement that identifies parts by their indices to the one that identifies them by their names.
use Rattle.std.proofs.Common.{◌≡◌, ◌∙◌, ℕ, zero, suc, ◌+◌, ◌-◌, ◌^◌, ◌<◌, ◌≤◌, true, false, not, List, [], ◌∷◌, ◌++◌, take, drop, length, get_or, map, refl, ap, sym, subst, arith, ⊎_elim}
use Rattle.std.proofs.lemmas.List.{length-map, get_or-map, get_or-drop, length-drop, take-append-drop, map-append}
use Rattle.std.{proofs.Math.Seq.take-length, proofs.lemmas.Bool.cases_lt, proofs.lemmas.Bool.not-true, specs.Prelude.codes, specs.Prelude.decimal}
use Rattle.kp_ast.specs.declared.tree.Job.{Job}
use Rattle.kp_machine.specs.Slots.{Slot, targets_of, samples_of, is_register}
use Rattle.kp_machine.specs.Machine.{machine_of, start_hints, pipe_of, registers_before, files_before}
use Rattle.kp_machine.{proofs.Cases.by_test, specs.Words.no_slot, specs.Words.target}
use Rattle.kp_pipeline.specs.Rows.{pipe}
use Rattle.kp_net.specs.declared.netlist.{NetReg.NetReg, NetFile.NetFile, Port.Port}
use Rattle.kp_net.specs.Netlist.{Net, Input, State, state_after, states_from, rows_from, run, last_of}
use Rattle.kp_net.specs.{Names.IsNamed, Parts.no_reg, Parts.no_file}
use Rattle.kp_sched.specs.Runs.{ShowsAlike}
use Rattle.kp_implements.specs.Naming.{register_name, file_name, sample_port, hidden_names, registers_of, files_of, register_names, file_names, register_of, file_of, value_shown, place_among}
use Rattle.kp_implements.specs.Traces.{trace_of, no_state, inputs_seen, state_at, AreQuiet}
use Rattle.kp_implements.specs.Shows.{Shows, IsInOrder, HasRegister, HasFile}
use Rattle.kp_implements.specs.Anew.{trace_from, left_by_reset, HasMemory, BeginsAnew}
use Rattle.kp_implements.proofs.Anew.{left_alike}
use Rattle.kp_synth_next.specs.Shows as place
use Rattle.kp_synth_next.specs.Shows.{NamedBy, HoldsFrom, reg_slot, file_slot, port_slot, named_with, shown_word}
use Rattle.kp_synth.{specs.Carrying.Carries, proofs.Named.names_through}
use Rattle.kp_synth.proofs.Places.{passes_at, comes_from, stands_at, first_at, file_number}

-- a port by its slot
ports_by : (ps : List Port) (ss : List Slot) → map port_slot ps ≡ map (named_with (codes "s_")) ss → ps ≡ map sample_port ss
ports_by [] [] h = refl
ports_by [] (s ∷ ss) h = let e = ap length h in absurd (omega (arith, e))
ports_by (p ∷ ps) [] h = let e = ap length h in absurd (omega (arith, e))
ports_by (p ∷ ps) (s ∷ ss) h =
    let head : port_slot p ≡ named_with (codes "s_") s = ap (λ l. get_or l 0 no_slot) h in
    let rest : map port_slot ps ≡ map (named_with (codes "s_")) ss = ap (drop 1) h in
    let own : p ≡ sample_port s = port_is p (sample_port s) (ap (λ (x : Slot). x.name) head) (ap (λ (x : Slot). x.width) head) in
    rw (own, ports_by ps ss rest) refl
  where
    port_is : (p q : Port) → p.name ≡ q.name → p.width ≡ q.width → p ≡ q
    port_is p q a b = rw (a, b) refl

-- a hidden name has its letter
hidden_at : (i n k : ℕ) → k < n → take 2 (get_or (hidden_names i n) k []) ≡ codes "q_"
hidden_at i zero k l = absurd (omega arith)
hidden_at i (suc n) zero l = refl
hidden_at i (suc n) (suc k) l = hidden_at (suc i) n k (omega arith)

q_not_r : codes "q_" ≡ codes "r_" → ⊥
q_not_r e = let x : 113 ≡ 114 = ap (λ l. get_or l 0 0) e in absurd (omega (arith, x))

rows_are : (net : Net) (ins : List Input) (st : State) → length (rows_from net st ins) ≡ length ins
rows_are net [] st = refl
rows_are net (i ∷ ins) st = ap suc (rows_are net ins _)

hidden_same : (i n : ℕ) → place.other_names i n ≡ hidden_names i n
hidden_same i zero = refl
hidden_same i (suc n) = ap (λ l. (codes "q_" ++ decimal i) ∷ l) (hidden_same (suc i) n)

module _ (net : Net) (job : Job) (h : place.Shows net job) (n : IsNamed net) where
  abbrev targets : List Slot
  targets = targets_of job.decls

  abbrev regs : List NetReg
  regs = net.parts.regs

  abbrev shown : ℕ
  shown = length (registers_of job)

  -- a register by its index
  reg_is : (i : ℕ) → i < shown → (i < length regs) × (reg_slot (get_or regs i no_reg) ≡ named_with (codes "r_") (get_or (registers_of job) i no_slot))
  reg_is i l =
      let m = length-map (registers_of job) (named_with (codes "r_")) in
      let r = first_at reg_slot regs (map (named_with (codes "r_")) (registers_of job)) shown i no_reg (named_with (codes "r_") no_slot) h.names.visible (omega (arith, m, l)) in
      (r.0, r.1 ∙ get_or-map (named_with (codes "r_")) (registers_of job) i no_slot (named_with (codes "r_") no_slot) l)

  file_is : (i : ℕ) → i < length (files_of job) → (i < length net.parts.files) × (file_slot (get_or net.parts.files i no_file) ≡ named_with (codes "f_") (get_or (files_of job) i no_slot))
  file_is i l =
      let m = length-map (files_of job) (named_with (codes "f_")) in
      let all : map file_slot (take (length net.parts.files) net.parts.files) ≡ map (named_with (codes "f_")) (files_of job) = ap (map file_slot) (take-length net.parts.files) ∙ h.names.files in
      let r = first_at file_slot net.parts.files (map (named_with (codes "f_")) (files_of job)) (length net.parts.files) i no_file (named_with (codes "f_") no_slot) all (omega (arith, m, l)) in
      (r.0, r.1 ∙ get_or-map (named_with (codes "f_")) (files_of job) i no_slot (named_with (codes "f_") no_slot) l)

  reg_name_is : (i : ℕ) → i < shown → get_or (register_names net) i [] ≡ register_name (get_or (registers_of job) i no_slot)
  reg_name_is i l = let r = reg_is i l in get_or-map (λ (x : NetReg). x.name) regs i no_reg [] r.0 ∙ ap (λ (s : Slot). s.name) r.1

  file_name_is : (i : ℕ) → i < length (files_of job) → get_or (file_names net) i [] ≡ file_name (get_or (files_of job) i no_slot)
  file_name_is i l = let r = file_is i l in get_or-map (λ (x : NetFile). x.name) net.parts.files i no_file [] r.0 ∙ ap (λ (s : Slot). s.name) r.1

  -- the register of a target, and the file
  reg_of : (t : ℕ) → t < length targets → is_register (target job t) ≡ true
      → (registers_before targets t < shown) × (get_or (registers_of job) (registers_before targets t) no_slot ≡ target job t)
  reg_of t l e = let p = passes_at is_register targets t no_slot l e in (p.few, p.here)

  file_of_target : (t : ℕ) → t < length targets → is_register (target job t) ≡ false
      → (files_before targets t < length (files_of job)) × (get_or (files_of job) (files_before targets t) no_slot ≡ target job t)
  file_of_target t l e =
      let p = passes_at (λ (s : Slot). not (is_register s)) targets t no_slot l (ap not e) in
      let k = file_number targets t (omega (arith, l)) in
      (subst (λ x. x < length (files_of job)) (sym k) p.few, ap (λ x. get_or (files_of job) x no_slot) k ∙ p.here)

  register_number : (t : ℕ) → t < length targets → is_register (target job t) ≡ true → register_of net (target job t) ≡ registers_before targets t
  register_number t l e =
      let r = reg_of t l e in
      let i = registers_before targets t in
      let s = reg_is i r.0 in
      let m = length-map regs (λ (x : NetReg). x.name) in
      ap (place_among (register_names net)) (sym (reg_name_is i r.0 ∙ ap register_name r.1)) ∙ stands_at (register_names net) i n.regs_differ (let z = s.0 in omega (arith, m, z))

  file_number_is : (t : ℕ) → t < length targets → is_register (target job t) ≡ false → file_of net (target job t) ≡ files_before targets t
  file_number_is t l e =
      let r = file_of_target t l e in
      let i = files_before targets t in
      let s = file_is i r.0 in
      let m = length-map net.parts.files (λ (x : NetFile). x.name) in
      ap (place_among (file_names net)) (sym (file_name_is i r.0 ∙ ap file_name r.1)) ∙ stands_at (file_names net) i n.files_differ (let z = s.0 in omega (arith, m, z))

  has_register : (t : ℕ) → t < length targets → is_register (target job t) ≡ true → HasRegister net (target job t)
  has_register t l e =
      let r = reg_of t l e in
      let s = reg_is (registers_before targets t) r.0 in
      let k = register_number t l e in
      record {
        there = subst (λ x. x < length regs) (sym k) s.0;
        width = ap (λ x. (get_or regs x no_reg).start.width) k ∙ ap (λ (z : Slot). z.width) s.1 ∙ ap (λ (z : Slot). z.width) r.1;
      }

  has_file : (t : ℕ) → t < length targets → is_register (target job t) ≡ false → HasFile net (target job t)
  has_file t l e =
      let r = file_of_target t l e in
      let s = file_is (files_before targets t) r.0 in
      let k = file_number_is t l e in
      record {
        there = subst (λ x. x < length net.parts.files) (sym k) s.0;
        width = ap (λ x. (get_or net.parts.files x no_file).width) k ∙ ap (λ (z : Slot). z.width) s.1 ∙ ap (λ (z : Slot). z.width) r.1;
        address = ap (λ x. (get_or net.parts.files x no_file).address_width) k ∙ ap (λ (z : Slot). z.address) s.1 ∙ ap (λ (z : Slot). z.address) r.1;
      }

  -- no register has such a name but those of the job
  hidden_is : (r : ℕ) → shown ≤ r → r < length regs → take 2 (get_or (register_names net) r []) ≡ codes "q_"
  hidden_is r l m =
      let a : get_or (map (λ (x : NetReg). x.name) (drop shown regs)) (r - shown) [] ≡ get_or (hidden_names 0 (length regs - shown)) (r - shown) [] =
      ap (λ (xs : List (List ℕ)). get_or xs (r - shown) []) (h.names.others ∙ hidden_same 0 (length regs - shown)) in
      let d = length-drop shown regs in
      let b = get_or-map (λ (x : NetReg). x.name) (drop shown regs) (r - shown) no_reg [] (omega (arith, d)) in
      let c : get_or (drop shown regs) (r - shown) no_reg ≡ get_or regs r no_reg = get_or-drop shown regs (r - shown) no_reg ∙ ap (λ k. get_or regs k no_reg) (let z : shown + (r - shown) ≡ r = omega arith in z) in
      let own : get_or (register_names net) r [] ≡ get_or (hidden_names 0 (length regs - shown)) (r - shown) [] =
      get_or-map (λ (x : NetReg). x.name) regs r no_reg [] m ∙ sym (ap (λ (x : NetReg). x.name) c) ∙ sym b ∙ a in
      ap (take 2) own ∙ hidden_at 0 (length regs - shown) (r - shown) (omega arith)

  is_own : (r : ℕ) → r < length regs → take 2 (get_or (register_names net) r []) ≡ codes "r_"
      → (t : ℕ) × (t < length targets) × (is_register (target job t) ≡ true) × (get_or (register_names net) r [] ≡ register_name (target job t))
  is_own r l e = ⊎_elim
      (λ (a : r < shown). let c = comes_from is_register targets r no_slot a in (c.at, c.there, c.passes, reg_name_is r a ∙ ap register_name c.is))
      (λ (a : shown ≤ r). absurd (q_not_r (sym (hidden_is r a l) ∙ e)))
      (cases_lt r shown)

  is_own_file : (f : ℕ) → f < length net.parts.files
      → (t : ℕ) × (t < length targets) × (is_register (target job t) ≡ false) × (get_or (file_names net) f [] ≡ file_name (target job t))
  is_own_file f l =
      let m : length net.parts.files ≡ length (files_of job) = sym (length-map net.parts.files file_slot) ∙ ap length h.names.files ∙ length-map (files_of job) (named_with (codes "f_")) in
      let a : f < length (files_of job) = omega (arith, m, l) in
      let c = comes_from (λ (s : Slot). not (is_register s)) targets f no_slot a in
      (c.at, c.there, not-true _ c.passes, file_name_is f a ∙ ap file_name c.is)

  -- the values
  value_is : (st : State) (t a : ℕ) → t < length targets → value_shown job net st t a ≡ shown_word job st t a
  unfolding value_shown
  value_is st t a l = by_test (is_register (target job t))
      (λ e. rw (e, register_number t l e) refl)
      (λ e. rw (e, file_number_is t l e) refl)

  alike : (ins : List Input) → AreQuiet ins → ShowsAlike job (trace_of job net ins) (pipe_of job (inputs_seen job ins))
  unfolding trace_of
  alike ins q =
      let s = h.runs ins q in
      record {
        rows = s.rows;
        values = λ T t x l w.
            let k : length (map (place.row_bits job.stages.value) (run net ins).rows) ≡ length ins = length-map (run net ins).rows (place.row_bits job.stages.value) ∙ rows_are net ins _ in
            value_is (state_at net ins T) t x w.target ∙ s.visible T t x (omega (arith, k, l)) w.target w.address;
      }

  -- the words of the files
  words_are : (st : State) → HasMemory net st → place.HasWords net job st
  words_are st m = record {
    count = m.count;
    sizes = λ t l e. let f = there t l e in m.sizes (files_before targets t) f.0 ∙ ap (λ (n : ℕ). 2 ^ n) f.2;
    fits = λ t a l e k.
        let f = there t l e in
        subst (λ (n : ℕ). get_or (get_or st.files (files_before targets t) []) a 0 < 2 ^ n) f.1
        (m.words (files_before targets t) a f.0 (subst (λ (n : ℕ). a < 2 ^ n) (sym f.2) k));
  }
    where
      there : (t : ℕ) → t < length targets → is_register (target job t) ≡ false
          → (files_before targets t < length net.parts.files) × ((get_or net.parts.files (files_before targets t) no_file).width ≡ (target job t).width)
          × ((get_or net.parts.files (files_before targets t) no_file).address_width ≡ (target job t).address)
      there t l e =
          let h = has_file t l e in
          let k = file_number_is t l e in (
            subst (λ (x : ℕ). x < length net.parts.files) k h.there,
            ap (λ (x : ℕ). (get_or net.parts.files x no_file).width) (sym k) ∙ h.width,
            ap (λ (x : ℕ). (get_or net.parts.files x no_file).address_width) (sym k) ∙ h.address,
          )

  memory_is : (st : State) → place.HasWords net job st → HasMemory net st
  memory_is st w = record {
    count = w.count;
    sizes = λ f l. let o = own f l in subst (λ (x : ℕ). length (get_or st.files x []) ≡ 2 ^ (get_or net.parts.files x no_file).address_width) o.3
        (w.sizes o.0 o.1 o.2 ∙ ap (λ (n : ℕ). 2 ^ n) (sym o.4));
    words = λ f a l k.
        let o = own f l in
        let few : a < 2 ^ (target job o.0).address = subst (λ (n : ℕ). a < 2 ^ n) (ap (λ (x : ℕ). (get_or net.parts.files x no_file).address_width) (sym o.3) ∙ o.4) k in
        subst (λ (x : ℕ). get_or (get_or st.files x []) a 0 < 2 ^ (get_or net.parts.files x no_file).width) o.3
        (subst (λ (n : ℕ). get_or (get_or st.files (files_before targets o.0) []) a 0 < 2 ^ n) (sym o.5) (w.fits o.0 a o.1 o.2 few));
  }
    where
      -- the target of a file, with its widths
      own : (f : ℕ) → f < length net.parts.files
          → (t : ℕ) × (t < length targets) × (is_register (target job t) ≡ false) × (files_before targets t ≡ f)
          × ((get_or net.parts.files (files_before targets t) no_file).address_width ≡ (target job t).address)
          × ((get_or net.parts.files (files_before targets t) no_file).width ≡ (target job t).width)
      own f l =
          let o = is_own_file f l in
          let h = has_file o.0 o.1 o.2 in
          let k = file_number_is o.0 o.1 o.2 in
          let m = length-map net.parts.files (λ (x : NetFile). x.name) in
          let same : file_of net (target job o.0) ≡ f = ap (place_among (file_names net)) (sym o.3) ∙ stands_at (file_names net) f n.files_differ (omega (arith, m, l)) in (
            o.0,
            o.1,
            o.2,
            sym k ∙ same,
            ap (λ (x : ℕ). (get_or net.parts.files x no_file).address_width) (sym k) ∙ h.address,
            ap (λ (x : ℕ). (get_or net.parts.files x no_file).width) (sym k) ∙ h.width,
          )

  -- after a reset
  left_is : (st : State) → place.left_by_reset job (shown_word job st) ≡ left_by_reset job (value_shown job net st)
  left_is st = left_alike job (shown_word job st) (value_shown job net st) (λ t a l e. sym (value_is st t a l))

  alike_anew : (st : State) (i : Input) (ins : List Input) → HasMemory net st → i.reset ≡ true → AreQuiet ins
      → ShowsAlike job (trace_from job net (state_after net i st) ins) (place.pipe_anew job st ins)
  unfolding trace_from
  alike_anew st i ins m r q =
      let s = h.anew st i ins (words_are st m) r q in
      record {
        rows = s.rows;
        values = λ T t x l w.
            let k : length (map (place.row_bits job.stages.value) (rows_from net (state_after net i st) ins)) ≡ length ins
            = length-map (rows_from net (state_after net i st) ins) (place.row_bits job.stages.value) ∙ rows_are net ins _ in
            value_is (get_or (states_from net (state_after net i st) ins) T no_state) t x w.target ∙ s.visible T t x (omega (arith, k, l)) w.target w.address;
      }

  pub begins_anew : BeginsAnew net job
  begins_anew = record {
    memory = λ ins. memory_is (last_of net ins) (h.words ins);
    runs = λ st i ins m r q.
        subst (λ (v : ℕ → ℕ → ℕ). ShowsAlike job (trace_from job net (state_after net i st) ins) (pipe (machine_of job) v (start_hints job) (inputs_seen job ins)))
        (left_is st) (alike_anew st i ins m r q);
  }

  pub carries : Carries net job
  carries = record {
    runs = h.holds;
    anew = λ st i ins m r q. subst (λ (v : ℕ → ℕ → ℕ). HoldsFrom net job (state_after net i st) v ins) (left_is st) (h.holds_anew st i ins (words_are st m) r q);
  }

  pub shows : job.stages.value ≤ 12 → Shows net job
  shows few = record {
    name = h.names.name;
    outputs = record { few = let e = h.ext in omega (arith, e, few); full = h.full ∙ sym h.ext; ue = h.ue ∙ sym h.ext; back = h.back };
    reset = h.reset;
    of_job = record {
      ext = h.ext;
      samples = ports_by net.parts.samples (samples_of job.decls) h.names.samples;
      registers = has_register;
      files = has_file;
      no_more_registers = is_own;
      no_more_files = is_own_file;
    };
    runs = alike;
  }

  pub in_order : IsInOrder net job
  in_order = record {
    others = length regs - shown;
    registers =
        ap (map (λ (x : NetReg). x.name)) (sym (take-append-drop shown regs))
        ∙ map-append (λ (x : NetReg). x.name) (take shown regs) (drop shown regs)
        ∙ ap (λ (l : List (List ℕ)). l ++ map (λ (x : NetReg). x.name) (drop shown regs))
        (sym (names_through reg_slot (take shown regs)) ∙ ap (map (λ (s : Slot). s.name)) h.names.visible ∙ names_through (named_with (codes "r_")) (registers_of job))
        ∙ ap (λ (l : List (List ℕ)). map register_name (registers_of job) ++ l) (h.names.others ∙ hidden_same 0 (length regs - shown));
    files = sym (names_through file_slot net.parts.files) ∙ ap (map (λ (s : Slot). s.name)) h.names.files ∙ names_through (named_with (codes "f_")) (files_of job);
  }

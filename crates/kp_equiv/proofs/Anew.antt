-- If one of two netlists that run alike restarts correctly after each reset, so does the other.
use Rattle.std.proofs.Common.{◌≡◌, ◌∙◌, ℕ, ◌<◌, ◌≤◌, ◌^◌, true, false, List, [], ◌∷◌, length, get_or, map, sym, ap, subst, arith}
use Rattle.std.proofs.lemmas.List.{length-map, get_or-map}
use Rattle.kp_base.specs.declared.row.Row.{Row}
use Rattle.kp_ast.specs.declared.tree.Job.{Job}
use Rattle.kp_pipeline.specs.Rows.{pipe}
use Rattle.kp_machine.specs.{Machine.machine_of, Machine.start_hints, Slots.targets_of, Slots.is_register, Words.target}
use Rattle.kp_net.specs.declared.netlist.NetFile.{NetFile}
use Rattle.kp_net.specs.Netlist.{Net, Input, State, state_after, states_from, rows_from, last_from, last_of}
use Rattle.kp_net.specs.{Names.Differ, Parts.NetOk, Parts.no_file}
use Rattle.kp_sched.specs.{Rows.rows_seen, Runs.ShowsAlike}
use Rattle.kp_implements.specs.Naming.{module_name, place_among, register_of, file_of, value_shown}
use Rattle.kp_implements.specs.{Traces.inputs_seen, Traces.AreQuiet, Anew.trace_from, Anew.left_by_reset, Anew.HasMemory, Anew.BeginsAnew}
use Rattle.kp_implements.proofs.Anew.{left_alike}
use Rattle.kp_implements.specs.Traces as traces
use Rattle.kp_equiv.specs.{Alike.file_name, Named.file_names, Agreement.AllAgree, Verdicts.IsComparable, Runs.no_state, Showing.renamed, Showing.ShowsButName}
use Rattle.kp_equiv.specs.inner.Meaning.{SameFiles, SameStates}
use Rattle.kp_equiv.proofs.Places.{memories, one_index, file_names_are, file_count}
use Rattle.kp_equiv.proofs.Running.{agreed, starts, steps, run_rows, run_states}
use Rattle.kp_equiv.proofs.Shown.{Twins, twins, turned, chosen_alike, placed_at, placed_there, states_same, rows_same, reg_place, file_place, length_rows}

flipped_files : (a b : Net) (s t : State) → SameFiles a b s t → SameFiles b a t s
flipped_files a b s t h = record { first = h.second; second = h.first; files = λ g f m l e. sym (h.files f g l m (sym e)) }

flipped_states : (a b : Net) (s t : State) → SameStates a b s t → SameStates b a t s
flipped_states a b s t h = record {
  words = flipped_files a b s t h.words;
  regs = λ q r m l e. sym (h.regs r q l m (sym e));
}

-- what agrees, after a reset, in states with the same files
pub record BeginAlike (a b : Net) : Type 0 where
  pub always : (ins : List Input) → SameStates a b (last_of a ins) (last_of b ins)
  pub rows : (s t : State) (i : Input) (ins : List Input) → i.reset ≡ true → SameFiles a b s t → rows_from a (state_after a i s) ins ≡ rows_from b (state_after b i t) ins
  pub states : (s t : State) (i : Input) (ins : List Input) → i.reset ≡ true → SameFiles a b s t → (T : ℕ) → T ≤ length ins
      → SameStates a b (get_or (states_from a (state_after a i s) ins) T no_state) (get_or (states_from b (state_after b i t) ins) T no_state)

flipped : (a b : Net) → BeginAlike a b → BeginAlike b a
flipped a b h = record {
  always = λ ins. flipped_states a b _ _ (h.always ins);
  rows = λ s t i ins r same. sym (h.rows t s i ins r (flipped_files b a s t same));
  states = λ s t i ins r same T l. flipped_states a b _ _ (h.states t s i ins r (flipped_files b a s t same) T l);
}

module _ (a b : Net) (oka : NetOk a) (okb : NetOk b) (fit : IsComparable a b) (all : AllAgree a b) (resets : a.parts.reset ≡ true) (others : b.parts.reset ≡ true) where
  last_along : (ins : List Input) (s t : State) → SameStates a b s t → SameStates a b (last_from a s ins) (last_from b t ins)
  last_along [] s t same = same
  last_along (i ∷ ins) s t same = last_along ins (state_after a i s) (state_after b i t) (steps a b oka okb fit (agreed a b all) i s t same)

  after_reset : (s t : State) (i : Input) → i.reset ≡ true → SameFiles a b s t → SameStates a b (state_after a i s) (state_after b i t)
  after_reset s t i r same = rw (resets, others, r) (record { words = record { first = same.first; second = same.second; files = same.files }; regs = (starts a b oka okb fit (agreed a b all)).regs })

  begin_alike : BeginAlike a b
  begin_alike = record {
    always = λ ins. last_along ins _ _ (starts a b oka okb fit (agreed a b all));
    rows = λ s t i ins r same. run_rows a b oka okb fit (agreed a b all) ins (state_after a i s) (state_after b i t) (after_reset s t i r same);
    states = λ s t i ins r same T l. run_states a b oka okb fit (agreed a b all) ins (state_after a i s) (state_after b i t) (after_reset s t i r same) T l;
  }

-- the words of the files
memory_moves : (a b : Net) (name : List ℕ) → Twins a b → (x y : State) → SameFiles a b x y → HasMemory (renamed a name) x → HasMemory (renamed b name) y
memory_moves a b name h x y same m = record {
  count = same.second;
  sizes = λ g l.
      let f = h.runs.back.files g l in
      let w = h.widths f.0 g f.1 l f.2 in
      ap length (sym (same.files f.0 g f.1 l f.2)) ∙ m.sizes f.0 f.1 ∙ ap (λ (n : ℕ). 2 ^ n) w.1;
  words = λ g v l d.
      let f = h.runs.back.files g l in
      let w = h.widths f.0 g f.1 l f.2 in
      subst (λ (n : ℕ). get_or (get_or y.files g []) v 0 < 2 ^ n) w.0
      (subst (λ (ws : List ℕ). get_or ws v 0 < 2 ^ (get_or a.parts.files f.0 no_file).width) (same.files f.0 g f.1 l f.2)
      (m.words f.0 v f.1 (subst (λ (n : ℕ). v < 2 ^ n) (sym w.1) d)));
}

module _ (a b : Net) (job : Job) (h : Twins a b) (k : BeginAlike a b)
    (one : (f g : ℕ) → f < length a.parts.files → g < length b.parts.files → file_name a f ≡ file_name b g → place_among (file_names b) (file_name a f) ≡ g)
    (s : ShowsButName a job) (begins : BeginsAnew (renamed a (module_name job)) job) where
  abbrev first : Net
  first = renamed a (module_name job)

  abbrev second : Net
  second = renamed b (module_name job)

  -- a state of the first with the words of one of the second
  abbrev of_first : State → State
  of_first y = record { regs = []; files = map (λ (x : NetFile). get_or y.files (place_among (file_names b) x.name) []) a.parts.files }

  same_files : (y : State) → length y.files ≡ length b.parts.files → SameFiles a b (of_first y) y
  same_files y e = record {
    first = length-map a.parts.files _;
    second = e;
    files = λ f g l m n. get_or-map (λ (x : NetFile). get_or y.files (place_among (file_names b) x.name) []) a.parts.files f no_file [] l ∙ ap (λ (q : ℕ). get_or y.files q []) (one f g l m n);
  }

  words_alike : (x y : State) → SameFiles a b x y → (t v : ℕ) → t < length (targets_of job.decls) → is_register (target job t) ≡ false → value_shown job first x t v ≡ value_shown job second y t v
  unfolding value_shown
  words_alike x y same t v l e =
      let p = file_place a b job h s.of_job t l e in
      rw e (ap (λ (ws : List ℕ). get_or ws v 0) (same.files (file_of a (target job t)) (file_of b (target job t)) p.0 p.1 p.2))

  values_alike : (x y : State) → SameStates a b x y → (t v : ℕ) → t < length (targets_of job.decls) → value_shown job second y t v ≡ value_shown job first x t v
  unfolding value_shown
  values_alike x y same t v l = chosen_alike (is_register (target job t)) _ _ _ _
      (λ e. let p = reg_place a b job h s.of_job t l e in sym (same.regs (register_of a (target job t)) (register_of b (target job t)) p.0 p.1 p.2))
      (λ e. let p = file_place a b job h s.of_job t l e in ap (λ (ws : List ℕ). get_or ws v 0) (sym (same.words.files (file_of a (target job t)) (file_of b (target job t)) p.0 p.1 p.2)))

  shown_anew : (y : State) (i : Input) (ins : List Input) → HasMemory second y → i.reset ≡ true → AreQuiet ins
      → ShowsAlike job (trace_from job second (state_after second i y) ins) (pipe (machine_of job) (left_by_reset job (value_shown job first (of_first y))) (start_hints job) (inputs_seen job ins))
  unfolding trace_from
  shown_anew y i ins m r q =
      let x : State = of_first y in
      let same : SameFiles a b x y = same_files y m.count in
      let e = begins.runs x i ins (memory_moves b a (module_name job) (turned a b h) y x (flipped_files a b x y same) m) r q in
      let rows : rows_from second (state_after second i y) ins ≡ rows_from first (state_after first i x) ins
      = rows_same b (module_name job) (state_after b i y) ins ∙ sym (k.rows x y i ins r same) ∙ sym (rows_same a (module_name job) (state_after a i x) ins) in
      record {
        rows = ap (rows_seen job.stages.value) rows ∙ e.rows;
        values = λ T t v l w.
            let few : T ≤ length ins = subst (λ (n : ℕ). T ≤ n) (length-map (rows_from second (state_after second i y) ins) _ ∙ length_rows second (state_after second i y) ins) l in
            let there : T ≤ length (map _ (rows_from first (state_after first i x) ins)) = subst (λ (rs : List Row). T ≤ length (rows_seen job.stages.value rs)) rows l in
            ap (λ (ss : List State). value_shown job second (get_or ss T traces.no_state) t v) (states_same b (module_name job) (state_after b i y) ins)
            ∙ values_alike _ _ (k.states x y i ins r same T few) t v w.target
            ∙ ap (λ (ss : List State). value_shown job first (get_or ss T traces.no_state) t v) (sym (states_same a (module_name job) (state_after a i x) ins))
            ∙ e.values T t v there w;
      }

  begins_second : BeginsAnew second job
  begins_second = record {
    memory = λ ins. memory_moves a b (module_name job) h (last_of a ins) (last_of b ins) (k.always ins).words (begins.memory ins);
    runs = λ y i ins m r q.
        subst (λ (v : ℕ → ℕ → ℕ). ShowsAlike job (trace_from job second (state_after second i y) ins) (pipe (machine_of job) v (start_hints job) (inputs_seen job ins)))
        (left_alike job (value_shown job first (of_first y)) (value_shown job second y) (words_alike (of_first y) y (same_files y m.count)))
        (shown_anew y i ins m r q);
  }

-- the namesake of a file is at the index of its name
one_place : (a b : Net) → Differ (file_names b) → (f g : ℕ) → f < length a.parts.files → g < length b.parts.files → file_name a f ≡ file_name b g → place_among (file_names b) (file_name a f) ≡ g
one_place a b apart f g l m e =
    let there : place_among (file_names b) (file_name a f) < length (file_names b) = placed_there (file_names b) (file_name a f) g (omega (arith, file_count b)) (file_names_are b g ∙ sym e) in
    one_index memories b.parts.files apart (place_among (file_names b) (file_name a f)) g (omega (arith, there, file_count b)) m
    (sym (file_names_are b (place_among (file_names b) (file_name a f))) ∙ placed_at (file_names b) (file_name a f) there ∙ e)

module _ (a b : Net) (job : Job) (oka : NetOk a) (okb : NetOk b) (fit : IsComparable a b) (all : AllAgree a b) where
  pub second_begins : ShowsButName a job → BeginsAnew (renamed a (module_name job)) job → BeginsAnew (renamed b (module_name job)) job
  second_begins s begins =
      let h = twins a b oka okb fit all in
      begins_second a b job h (begin_alike a b oka okb fit all s.reset (sym h.reset ∙ s.reset)) (one_place a b fit.second.files) s begins

  pub first_begins : ShowsButName b job → BeginsAnew (renamed b (module_name job)) job → BeginsAnew (renamed a (module_name job)) job
  first_begins s begins =
      let h = twins a b oka okb fit all in
      begins_second b a job (turned a b h) (flipped a b (begin_alike a b oka okb fit all (h.reset ∙ s.reset) s.reset)) (one_place b a fit.first.files) s begins

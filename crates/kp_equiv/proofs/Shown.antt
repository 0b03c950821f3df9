-- Netlists that run alike implement the same machines, up to their modules' names.
use Rattle.std.proofs.Common.{◌≡◌, ◌∙◌, ℕ, zero, suc, ◌<◌, ◌≤◌, Bool, true, false, cond, List, [], ◌∷◌, length, get_or, map, take, refl, sym, ap, subst, arith, ⊎_elim}
use Rattle.std.proofs.lemmas.{Bool.cases_lt, Bool.false≢true, List.length-map, List.Recursion.is_position_or_len}
use Rattle.std.{proofs.lemmas.List.Sums.fails_before_first, proofs.lemmas.List.Sums.passes_at_first, specs.Prelude.if◌then◌else◌}
use Rattle.std.specs.{Cmp.Lexicographic.bytes_decides, List.position_or_len}
use Rattle.kp_base.specs.declared.row.Row.{Row}
use Rattle.kp_bits.specs.Word.{Word}
use Rattle.kp_ast.specs.declared.tree.Job.{Job}
use Rattle.kp_machine.specs.{Slots.targets_of, Slots.is_register, Words.target}
use Rattle.kp_net.specs.{declared.node.NodeId.NodeId, Names.same}
use Rattle.kp_net.specs.Netlist.{Net, Input, State, start_of, state_after, row_of, states_from, rows_from, run}
use Rattle.kp_net.specs.{Parts.NetOk, Parts.no_reg, Parts.no_file, Widths.wide}
use Rattle.kp_sched.specs.Rows.{rows_seen}
use Rattle.kp_implements.specs.Naming.{module_name, register_name, file_name as target_file_name, place_among, register_of, file_of, value_of, value_shown}
use Rattle.kp_implements.specs.{Shows.IsOfJob, Traces.trace_of}
use Rattle.kp_implements.specs.Traces as traces
use Rattle.kp_equiv.specs.{Alike.Alike, Alike.AlikeWithin, Alike.reg_name, Alike.file_name, Named.reg_names, Named.file_names, Agreement.AllAgree}
use Rattle.kp_equiv.specs.{Verdicts.IsComparable, Runs.RunAlike, Showing.renamed, Showing.ShowsButName}
use Rattle.kp_equiv.proofs.Places.{Things, registers, memories, name_is, one_index, reg_names_are, file_names_are}
use Rattle.kp_equiv.proofs.Running.{agreed, regs_alike, theorem}

-- the first index of a name
placed_is : (ns : List (List ℕ)) (n : List ℕ) → place_among ns n ≡ position_or_len (λ m. same m n) ns
placed_is ns n = is_position_or_len (λ ms. place_among ms n) (λ m. same m n) refl (λ m ms. ap (cond (same m n) 0) (omega arith)) ns

pub placed_at : (ns : List (List ℕ)) (n : List ℕ) → place_among ns n < length ns → get_or ns (place_among ns n) [] ≡ n
placed_at ns n l = (bytes_decides (get_or ns (place_among ns n) []) n).0 (rw placed_is (passes_at_first (λ m. same m n) ns [] (rw (← placed_is ns n) l)))

pub placed_there : (ns : List (List ℕ)) (n : List ℕ) (i : ℕ) → i < length ns → get_or ns i [] ≡ n → place_among ns n < length ns
placed_there ns n i l e = ⊎_elim
    (λ (h : place_among ns n < length ns). h)
    (λ (h : length ns ≤ place_among ns n).
    absurd (false≢true (sym (fails_before_first (λ m. same m n) ns i [] (omega (arith, placed_is ns n))) ∙ (bytes_decides (get_or ns i []) n).1 e)))
    (cases_lt (place_among ns n) (length ns))

-- the name of the module doesn't affect a run
pub states_same : (net : Net) (name : List ℕ) (st : State) (ins : List Input) → states_from (renamed net name) st ins ≡ states_from net st ins
states_same net name st [] = refl
states_same net name st (i ∷ ins) = ap (λ (ss : List State). st ∷ ss) (states_same net name (state_after net i st) ins)

pub rows_same : (net : Net) (name : List ℕ) (st : State) (ins : List Input) → rows_from (renamed net name) st ins ≡ rows_from net st ins
rows_same net name st [] = refl
rows_same net name st (i ∷ ins) = ap (λ (rs : List Row). row_of net i st ∷ rs) (rows_same net name (state_after net i st) ins)

-- what two netlists have in common, whichever is the first
pub record Twins (a b : Net) : Type 0 where
  pub reset : a.parts.reset ≡ b.parts.reset
  pub ext : a.parts.ext ≡ b.parts.ext
  pub samples : a.parts.samples ≡ b.parts.samples
  pub full : wide a.nodes a.parts.full.0 ≡ wide b.nodes b.parts.full.0
  pub ue : wide a.nodes a.parts.ue.0 ≡ wide b.nodes b.parts.ue.0
  pub back : wide a.nodes a.parts.back.0 ≡ wide b.nodes b.parts.back.0
  pub regs : (r q : ℕ) → r < length a.parts.regs → q < length b.parts.regs → reg_name a r ≡ reg_name b q → (get_or a.parts.regs r no_reg).start.width ≡ (get_or b.parts.regs q no_reg).start.width
  pub widths : (f g : ℕ) → f < length a.parts.files → g < length b.parts.files → file_name a f ≡ file_name b g
      → ((get_or a.parts.files f no_file).width ≡ (get_or b.parts.files g no_file).width) × ((get_or a.parts.files f no_file).address_width ≡ (get_or b.parts.files g no_file).address_width)
  pub runs : RunAlike a b

-- a name of one, where the other has it too
both_have : {X : Type 0} (T : Things X) (xs ys : List X) (n : List ℕ) → ((i : ℕ) → i < length xs → (j : ℕ) × (j < length ys) × (T.name (get_or ys j T.none) ≡ T.name (get_or xs i T.none)))
    → place_among (map T.name xs) n < length xs → (place_among (map T.name xs) n < length xs) × (place_among (map T.name ys) n < length ys)
    × (T.name (get_or xs (place_among (map T.name xs) n) T.none) ≡ T.name (get_or ys (place_among (map T.name ys) n) T.none))
both_have T xs ys n there l =
    let r : ℕ = place_among (map T.name xs) n in
    let nr : T.name (get_or xs r T.none) ≡ n = sym (name_is T xs r) ∙ placed_at (map T.name xs) n (omega (arith, length-map xs T.name)) in
    let s = there r l in
    let lq = placed_there (map T.name ys) n s.0 (let k = s.1 in omega (arith, length-map ys T.name)) (name_is T ys s.0 ∙ s.2 ∙ nr) in
    (l, omega (arith, lq, length-map ys T.name), nr ∙ sym (placed_at (map T.name ys) n lq) ∙ name_is T ys (place_among (map T.name ys) n))

-- the value of a register, or the word of a file
pub chosen_alike : (c : Bool) (p q u v : ℕ) → (c ≡ true → p ≡ u) → (c ≡ false → q ≡ v) → (if c then p else q) ≡ (if c then u else v)
chosen_alike true p q u v f g = f refl
chosen_alike false p q u v f g = g refl

module _ (a b : Net) (job : Job) (h : Twins a b) (x : IsOfJob (renamed a (module_name job)) job) where
  -- the register of a target
  pub reg_place : (t : ℕ) → t < length (targets_of job.decls) → is_register (target job t) ≡ true
      → (register_of a (target job t) < length a.parts.regs) × (register_of b (target job t) < length b.parts.regs)
      × (reg_name a (register_of a (target job t)) ≡ reg_name b (register_of b (target job t)))
  reg_place t l e = both_have registers a.parts.regs b.parts.regs (register_name (target job t)) h.runs.there.regs (x.registers t l e).there

  pub file_place : (t : ℕ) → t < length (targets_of job.decls) → is_register (target job t) ≡ false
      → (file_of a (target job t) < length a.parts.files) × (file_of b (target job t) < length b.parts.files)
      × (file_name a (file_of a (target job t)) ≡ file_name b (file_of b (target job t)))
  file_place t l e = both_have memories a.parts.files b.parts.files (target_file_name (target job t)) h.runs.there.files (x.files t l e).there

  of_job : IsOfJob (renamed b (module_name job)) job
  of_job = record {
    ext = sym h.ext ∙ x.ext;
    samples = sym h.samples ∙ x.samples;
    registers = λ t l e.
        let p = reg_place t l e in
        record { there = p.1; width = sym (h.regs (register_of a (target job t)) (register_of b (target job t)) p.0 p.1 p.2) ∙ (x.registers t l e).width };
    files = λ t l e.
        let p = file_place t l e in
        let w = h.widths (file_of a (target job t)) (file_of b (target job t)) p.0 p.1 p.2 in
        record { there = p.1; width = sym w.0 ∙ (x.files t l e).width; address = sym w.1 ∙ (x.files t l e).address };
    no_more_registers = λ r l e.
        let s = h.runs.back.regs r l in
        let n : get_or (reg_names a) s.0 [] ≡ get_or (reg_names b) r [] = reg_names_are a s.0 ∙ s.2 ∙ sym (reg_names_are b r) in
        let k = x.no_more_registers s.0 s.1 (ap (take 2) n ∙ e) in
        (k.0, k.1, k.2, sym n ∙ k.3);
    no_more_files = λ f l.
        let s = h.runs.back.files f l in
        let n : get_or (file_names a) s.0 [] ≡ get_or (file_names b) f [] = file_names_are a s.0 ∙ s.2 ∙ sym (file_names_are b f) in
        let k = x.no_more_files s.0 s.1 in
        (k.0, k.1, k.2, sym n ∙ k.3);
  }

  -- the values of a target
  values : (ins : List Input) (T t y : ℕ) → T ≤ length ins → t < length (targets_of job.decls)
      → value_of b (get_or (run b ins).states T traces.no_state) (target job t) y ≡ value_of a (get_or (run a ins).states T traces.no_state) (target job t) y
  values ins T t y l m = chosen_alike (is_register (target job t)) _ _ _ _
      (λ e. let p = reg_place t m e in sym (h.runs.regs ins T (register_of a (target job t)) (register_of b (target job t)) l p.0 p.1 p.2))
      (λ e. let p = file_place t m e in sym (h.runs.files ins T (file_of a (target job t)) (file_of b (target job t)) y l p.0 p.1 p.2))

pub length_rows : (net : Net) (st : State) (ins : List Input) → length (rows_from net st ins) ≡ length ins
length_rows net st [] = refl
length_rows net st (i ∷ ins) = ap suc (length_rows net (state_after net i st) ins)

-- the trace under another module's name
seen_rows : (net : Net) (job : Job) (name : List ℕ) (ins : List Input) → (trace_of job (renamed net name) ins).rows ≡ rows_seen job.stages.value (run net ins).rows
unfolding trace_of
seen_rows net job name ins = ap (rows_seen job.stages.value) (rows_same net name (start_of net) ins)

seen_values : (net : Net) (job : Job) (name : List ℕ) (ins : List Input) (T t y : ℕ)
    → (trace_of job (renamed net name) ins).visible T t y ≡ value_of net (get_or (run net ins).states T traces.no_state) (target job t) y
unfolding trace_of value_shown
seen_values net job name ins T t y = ap (λ (ss : List State). value_of net (get_or ss T traces.no_state) (target job t) y) (states_same net name (start_of net) ins)

shown : (a b : Net) (job : Job) → Twins a b → ShowsButName a job → ShowsButName b job
shown a b job h s =
    let name : List ℕ = module_name job in
    let rows : (ins : List Input) → (trace_of job (renamed b name) ins).rows ≡ (trace_of job (renamed a name) ins).rows
    = λ ins. seen_rows b job name ins ∙ ap (rows_seen job.stages.value) (sym (h.runs.rows ins)) ∙ sym (seen_rows a job name ins) in
    record {
      name = refl;
      outputs = record {
        few = subst (λ (n : ℕ). n ≤ 12) h.ext s.outputs.few;
        full = sym h.full ∙ s.outputs.full ∙ h.ext;
        ue = sym h.ue ∙ s.outputs.ue ∙ h.ext;
        back = sym h.back ∙ s.outputs.back;
      };
      reset = sym h.reset ∙ s.reset;
      of_job = of_job a b job h s.of_job;
      runs = λ ins quiet.
          let k = s.runs ins quiet in
          record {
            rows = rows ins ∙ k.rows;
            values = λ T t y l w.
                let few : T ≤ length ins = subst (λ (n : ℕ). T ≤ n) (ap length (seen_rows b job name ins) ∙ length-map (run b ins).rows _ ∙ length_rows b (start_of b) ins) l in
                let m : T ≤ length (trace_of job (renamed a name) ins).rows = subst (λ (n : ℕ). T ≤ n) (ap length (rows ins)) l in
                seen_values b job name ins T t y ∙ values a b job h s.of_job ins T t y few w.target ∙ sym (seen_values a job name ins T t y) ∙ k.values T t y m w;
          };
    }

-- equivalent nodes have the same width
one_width : (a b : Net) (i j : NodeId) → Alike a b i j → wide a.nodes i.0 ≡ wide b.nodes j.0
unfolding AlikeWithin wide
one_width a b i j h = by h.levels h.alike
  where
    by : (d : ℕ) → AlikeWithin a b d i j → wide a.nodes i.0 ≡ wide b.nodes j.0
    by zero k = absurd k
    by (suc d) k = k.2

pub twins : (a b : Net) → NetOk a → NetOk b → IsComparable a b → AllAgree a b → Twins a b
twins a b oka okb fit all =
    let h = agreed a b all in
    record {
      reset = h.ports.reset;
      ext = h.ports.ext;
      samples = h.ports.samples;
      full = one_width a b a.parts.full b.parts.full h.full;
      ue = one_width a b a.parts.ue b.parts.ue h.ue;
      back = one_width a b a.parts.back b.parts.back h.back;
      regs = λ r q l m e. ap (λ (w : Word). w.width) (regs_alike a b oka okb fit h r q l m e).start;
      widths = λ f g l m e.
          let s = fit.there f l in
          let z : s.0 ≡ g = one_index memories b.parts.files fit.second.files s.0 g s.1 m (sym s.2.name ∙ e) in
          (s.2.width ∙ ap (λ (k : ℕ). (get_or b.parts.files k no_file).width) z, s.2.address ∙ ap (λ (k : ℕ). (get_or b.parts.files k no_file).address_width) z);
      runs = theorem a b oka okb fit all;
    }

pub turned : (a b : Net) → Twins a b → Twins b a
turned a b h = record {
  reset = sym h.reset;
  ext = sym h.ext;
  samples = sym h.samples;
  full = sym h.full;
  ue = sym h.ue;
  back = sym h.back;
  regs = λ r q l m e. sym (h.regs q r m l (sym e));
  widths = λ f g l m e. let w = h.widths g f m l (sym e) in (sym w.0, sym w.1);
  runs = record {
    there = h.runs.back;
    back = h.runs.there;
    rows = λ ins. sym (h.runs.rows ins);
    regs = λ ins T r q l lr lq e. sym (h.runs.regs ins T q r l lq lr (sym e));
    files = λ ins T f g x l lf lg e. sym (h.runs.files ins T g f x l lg lf (sym e));
  };
}

pub second_shows : (a b : Net) (job : Job) → NetOk a → NetOk b → IsComparable a b → AllAgree a b → ShowsButName a job → ShowsButName b job
second_shows a b job oka okb fit all = shown a b job (twins a b oka okb fit all)

pub first_shows : (a b : Net) (job : Job) → NetOk a → NetOk b → IsComparable a b → AllAgree a b → ShowsButName b job → ShowsButName a job
first_shows a b job oka okb fit all = shown b a job (turned a b (twins a b oka okb fit all))

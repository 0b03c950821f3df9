-- A word changes in a cycle only where it is written, in the netlist and in a machine.
use Rattle.std.proofs.Common.{◌≡◌, ◌≢◌, ◌∙◌, ℕ, zero, suc, ◌+◌, ◌<◌, ◌≤◌, ◌^◌, List, [], ◌∷◌, length, get_or, set, map, take, Bool, true, false, cond, eqb, ◌&&◌, Option, Some, None, refl, ap, sym, subst, arith}
use Rattle.std.proofs.lemmas.Bool.{eqb-true, lt-ltb, le-ltb, ltb-true, ltb-false, both_ways}
use Rattle.std.proofs.lemmas.List.{get_or-map, get_or-set_other, length-map}
use Rattle.std.specs.{Prelude.nat_lt, Prelude.is_some, Prelude.if◌then◌else◌, List.zip}
use Rattle.kp_base.specs.declared.row.Row as masks
use Rattle.kp_ast.specs.declared.tree.{Decl.Decl, Job.Job, ResultDecl.ResultDecl}
use Rattle.kp_ast.specs.declared.tree.Decl.TheVariants as decls
use Rattle.kp_cycle.specs.Steps.{port_writes, written_in}
use Rattle.kp_machine.specs.Machine.{machine_of, result_for, sequential, state_of, write_stage_of, is_enabled_by, address_by, enabled_of, address_in}
use Rattle.kp_machine.specs.{Slots.Slot, Slots.targets_of, Slots.pipes_of, Slots.is_register, Slots.number_of, Slots.result_to, Words.HasWord, Words.target}
use Rattle.kp_net.specs.{declared.node.Node.Node, declared.netlist.NetFile.NetFile, declared.netlist.WritePort.WritePort, Nodes.Cells, Nodes.at, Nodes.on}
use Rattle.kp_net.specs.Netlist.{Net, Input, State as NetState, start_of, cells_of, port_after, resets, regs_after, files_after, start_regs, state_after, last_of}
use Rattle.kp_net.{specs.Parts.no_file, proofs.Runs.last_more}
use Rattle.kp_pipeline.specs.{Accepted.Accepted, Rows.Row, Rows.bit, Rows.bits, Rows.one_if, Rows.passed, Sequential.before_stage, Sequential.exec}
use Rattle.kp_run.specs.{Cycles.input_at, Cycles.inputs_to, Homes.home_of, Places.place_in}
use Rattle.kp_run.specs.declared.places.Place.TheVariants.{Register, File}
use Rattle.kp_run.proofs.{Machines.home_passes, Machines.next_is, Prefixes.passed_next, Prefixes.passed_before}
use Rattle.kp_sched.specs.{Monitors.Kept, Monitors.HasSeen, Rows.bit_of, Rows.rows_seen, Runs.passes}
use Rattle.kp_implements.specs.{Naming.register_of, Naming.file_of, Naming.value_shown, Shows.IsOfJob}
use Rattle.kp_stage.specs.Start.{start_of as job_start}
use Rattle.kp_seq.specs.{Running.Running, Recorded.Recorded, Recorded.results_of, Recorded.write_recorded, Recorded.record_of}
use Rattle.kp_watch.specs.inner.Changes.{AreNoted, noted_at, last_write, no_record, record_by, wrote_by}
use Rattle.kp_watch.specs.inner.{Machines.ran, Machines.HaveRun, Results.result_number, Results.result_in}

-- ---- the netlist

set_kept : (b : Bool) (words : List ℕ) (u v a : ℕ) → (if b then Some u else None) ≢ Some a → get_or (if b then set words u v else words) a 0 ≡ get_or words a 0
set_kept true words u v a not = get_or-set_other words u a v 0 (λ z. not (ap Some (sym z)))
set_kept false words u v a not = refl

port_kept : (c : Cells) (ns : List Node) (port : Option WritePort) (words : List ℕ) (a : ℕ) → port_writes c ns port ≢ Some a → get_or (port_after c ns port words) a 0 ≡ get_or words a 0
port_kept c ns None words a not = refl
port_kept c ns (Some p) words a not = set_kept (on c ns p.enable.0) words (at c ns p.address.0) (at c ns p.value.0) a not

files_kept : (c : Cells) (ns : List Node) (files : List NetFile) (words : List (List ℕ)) (f a : ℕ) → f < length files → port_writes c ns (get_or files f no_file).port ≢ Some a
    → get_or (get_or (map (λ (p : NetFile × List ℕ). port_after c ns p.0.port p.1) (zip files words)) f []) a 0 ≡ get_or (get_or words f []) a 0
files_kept c ns [] words f a h not = absurd (omega (arith, h))
files_kept c ns (x ∷ files) [] f a h not = refl
files_kept c ns (x ∷ files) (w ∷ words) zero a h not = port_kept c ns x.port w a not
files_kept c ns (x ∷ files) (w ∷ words) (suc f) a h not = files_kept c ns files words f a (omega (arith, h)) not

state_kept : (net : Net) (i : Input) (st : NetState) (f a : ℕ) → f < length net.parts.files → written_in net i st f ≢ Some a → get_or (get_or (state_after net i st).files f []) a 0 ≡ get_or (get_or st.files f []) a 0
state_kept net i st f a h not = go (resets net i) not
  where
    go : (b : Bool) → (if b then None else port_writes (cells_of i st) net.nodes (get_or net.parts.files f no_file).port) ≢ Some a
        → get_or (get_or (if◌then◌else◌ {A = NetState} b (record { regs = start_regs net; files = st.files }) (record { regs = regs_after net (cells_of i st); files = files_after net (cells_of i st) st.files })).files f []) a 0
        ≡ get_or (get_or st.files f []) a 0
    go true free = refl
    go false free = files_kept (cells_of i st) net.nodes net.parts.files st.files f a h free

-- a value of a target, one cycle later
module _ (job : Job) (net : Net) (of_job : IsOfJob net job) (T : ℕ) (written : List (Option ℕ)) (noted : AreNoted job net T written) (t a : ℕ) (there : HasWord job t a) where
  abbrev old : NetState
  old = last_of net (inputs_to job T)

  abbrev new : NetState
  new = state_after net (input_at job T) old

  word_kept : (b : Bool) → is_register (target job t) ≡ b
      → noted_at written (if b then Register (register_of net (target job t)) else File (file_of net (target job t)) (2 ^ (target job t).address)) ≢ Some a
      → (if b then get_or new.regs (register_of net (target job t)) 0 else get_or (get_or new.files (file_of net (target job t)) []) a 0)
      ≡ (if b then get_or old.regs (register_of net (target job t)) 0 else get_or (get_or old.files (file_of net (target job t)) []) a 0)
  word_kept true e not =
      let none : (target job t).address ≡ 0 = eqb-true (target job t).address 0 e in
      let low : a < 2 ^ 0 = subst (λ (w : ℕ). a < 2 ^ w) none there.address in
      let first : 0 ≡ a = omega (arith, low) in
      absurd (not (ap Some first))
  word_kept false e not =
      let f = file_of net (target job t) in
      let h = (of_job.files t there.target e).there in
      state_kept net (input_at job T) old f a h (λ z. not (noted.each f h ∙ z))

  pub value_kept : noted_at written (place_in net (target job t)) ≢ Some a → value_shown job net (last_of net (inputs_to job (T + 1))) t a ≡ value_shown job net (last_of net (inputs_to job T)) t a
  unfolding value_shown
  value_kept not =
      let next : T + 1 ≡ suc T = omega arith in
      ap (λ (m : ℕ). value_shown job net (last_of net (inputs_to job m)) t a) next
      ∙ ap (λ (st : NetState). value_shown job net st t a) (last_more net (start_of net) (inputs_to job T) (input_at job T))
      ∙ word_kept (is_register (target job t)) refl not

-- ---- one instruction

-- the result of a target in a list with an entry for each result
result_there : (targets : List Slot) (f : ResultDecl → Option ℕ) (ds : List Decl) (t : ℕ) (r : ResultDecl) → result_to targets ds t ≡ Some r
    → (result_number targets ds t < length (results_of ds)) × (get_or (map f (results_of ds)) (result_number targets ds t) None ≡ f r)
result_there targets f [] t r e = cc
result_there targets f (decls.Target q ∷ ds) t r e = go (eqb (number_of targets q.target.name) t) e (λ is. result_there targets f ds t r is)
  where
    go : (b : Bool) → (if b then Some q else result_to targets ds t) ≡ Some r
        → (result_to targets ds t ≡ Some r → (result_number targets ds t < length (results_of ds)) × (get_or (map f (results_of ds)) (result_number targets ds t) None ≡ f r))
        → ((if b then 0 else suc (result_number targets ds t)) < suc (length (results_of ds)))
        × (get_or (f q ∷ map f (results_of ds)) (if b then 0 else suc (result_number targets ds t)) None ≡ f r)
    go true is rest = let same : q ≡ r = cc in (omega arith, ap f same)
    go false is rest = let more = rest is in (omega (arith, more.0), more.1)
result_there targets f (d ∷ ds) t r e = result_there targets f ds t r e

not_written : (b c : Bool) (u a v w : ℕ) → eqb u a ≡ c → cond b (Some u) None ≢ Some a → cond (true && (b && c)) v w ≡ w
not_written false c u a v w e not = refl
not_written true true u a v w e not = absurd (not (ap Some (eqb-true u a e)))
not_written true false u a v w e not = refl

module _ (job : Job) (s : ℕ → ℕ → ℕ) (q : ℕ → ℕ) (t a : ℕ) where
  abbrev pipes : ℕ → ℕ
  pipes = (before_stage (machine_of job) s q job.stages.value).pipes

  intent_kept : (o : Option ResultDecl) (v w : ℕ) → ((r : ResultDecl) → o ≡ Some r → write_recorded job pipes r ≢ Some a)
      → cond (is_some o && (enabled_of (pipes_of job.decls) pipes o && eqb (address_in (pipes_of job.decls) pipes o) a)) v w ≡ w
  intent_kept None v w not = refl
  intent_kept (Some r) v w not =
      not_written (is_enabled_by (pipes_of job.decls) pipes r.enable) (eqb (address_by (pipes_of job.decls) pipes r.address) a) (address_by (pipes_of job.decls) pipes r.address) a v w refl (not r refl)

  record_at : (r : ResultDecl) → result_for job t ≡ Some r → get_or (record_of job s q).writes (result_in job t) None ≡ write_recorded job pipes r
  unfolding record_of result_for
  record_at r e = (result_there (targets_of job.decls) (write_recorded job pipes) job.decls t r e).1

  pub record_below : (r : ResultDecl) → result_for job t ≡ Some r → result_in job t < length (record_of job s q).writes
  unfolding record_of result_for
  record_below r e =
      let low = (result_there (targets_of job.decls) (write_recorded job pipes) job.decls t r e).0 in
      omega (arith, low, length-map (results_of job.decls) (write_recorded job pipes))

  -- an instruction changes a word only at the address in its record
  pub exec_kept : get_or (record_of job s q).writes (result_in job t) None ≢ Some a → exec (machine_of job) s q t a ≡ s t a
  unfolding machine_of
  exec_kept not = intent_kept (result_for job t) _ (s t a) (λ r e z. not (record_at r e ∙ z))

-- ---- the machine of a target

module _ (job : Job) (acc : Accepted (machine_of job)) (values : ℕ → ℕ → ℕ) (rows : List masks.Row) (T : ℕ) (machines : List Running) (monitor : Kept) (t : ℕ)
    (run : HaveRun job values (rows_seen job.stages.value rows) (T + 1) machines) (stages : monitor.stages ≡ job.stages.value) (seen_all : HasSeen monitor (take (T + 1) rows))
    (before : T < length rows) (within : t < length (targets_of job.decls)) where
  abbrev n : ℕ
  n = job.stages.value

  abbrev seen : List Row
  seen = rows_seen n rows

  abbrev k : ℕ
  k = home_of job t

  abbrev none : Running
  none = record { job = job; words = []; last = no_record }

  -- a target whose machine executes instructions has a result
  some_result : k < n → (r : ResultDecl) × (result_for job t ≡ Some r)
  unfolding home_of machine_of
  some_result low = go (result_for job t) refl low
    where
      go : (o : Option ResultDecl) → result_for job t ≡ o → (if is_some o then write_stage_of o else n) < n → (r : ResultDecl) × (result_for job t ≡ Some r)
      go None e is = absurd (omega (arith, is))
      go (Some r) e is = (r, e)

  counted : k < n → get_or monitor.passed k 0 ≡ passed seen k (T + 1)
  counted low =
      let upto : T + 1 ≤ length rows = omega (arith, before) in
      seen_all.passed k (omega (arith, low, stages))
      ∙ ap (λ (m : ℕ). passed (rows_seen m (take (T + 1) rows)) k (length (take (T + 1) rows))) stages
      ∙ passed_before n rows k (T + 1) upto

  -- the record of its last instruction
  record_is : k < n → (i : ℕ) → passed seen k (T + 1) ≡ suc i → record_by machines k ≡ record_of job (sequential job values i) (values i)
  record_is low i e =
      let there : k < length machines = omega (arith, low, run.count) in
      let run_is : ran n seen (T + 1) k ≡ suc i = rw (lt-ltb k n low) e in
      get_or-map (λ (m : Running). m.last) machines k none no_record there ∙ (run.each k none there (t, within, refl)).last_is i run_is

  wrote_is : k < n → (i : ℕ) → passed seen k (T + 1) ≡ suc i → wrote_by job monitor machines t ≡ get_or (record_of job (sequential job values i) (values i)).writes (result_in job t) None
  wrote_is low i e =
      let some : 0 < get_or monitor.passed k 0 = omega (arith, counted low, e) in
      let stage : k < monitor.stages = omega (arith, low, stages) in
      ap (λ (b : Bool). if b && nat_lt 0 (get_or monitor.passed k 0) then get_or (record_by machines k).writes (result_in job t) None else None) (lt-ltb k monitor.stages stage)
      ∙ ap (λ (b : Bool). if true && b then get_or (record_by machines k).writes (result_in job t) None else None) (lt-ltb 0 (get_or monitor.passed k 0) some)
      ∙ ap (λ (d : Recorded). get_or d.writes (result_in job t) None) (record_is low i e)

  pub record_there : k < monitor.stages → 0 < get_or monitor.passed k 0 → result_in job t < length (record_by machines k).writes
  record_there stage some =
      let low : k < n = omega (arith, stage, stages) in
      go low (passed seen k (T + 1)) refl
    where
      go : k < n → (p : ℕ) → passed seen k (T + 1) ≡ p → result_in job t < length (record_by machines k).writes
      go low zero e = absurd (omega (arith, e, counted low, some))
      go low (suc i) e =
          let r = some_result low in
          subst (λ (d : Recorded). result_in job t < length d.writes) (sym (record_is low i e)) (record_below job (sequential job values i) (values i) t 0 r.0 r.1)

  pub due_kept : (a : ℕ) → wrote_by job monitor machines t ≢ Some a → sequential job values (passes job seen (T + 1) t) t a ≡ sequential job values (passes job seen T t) t a
  due_kept a not =
      ap (λ (m : ℕ). sequential job values m t a) (sym (home_passes job seen acc (T + 1) t)) ∙ go (nat_lt k n) refl ∙ ap (λ (m : ℕ). sequential job values m t a) (home_passes job seen acc T t)
    where
      none_set : masks.Row
      none_set = record { full = 0; ue = 0; back = 0 }

      moved : k < n → (b : Bool) → bit (bits (bit_of (get_or rows T none_set).ue) n 0) k ≡ b → passed seen k (T + 1) ≡ passed seen k T + one_if b
          → sequential job values (passed seen k (T + 1)) t a ≡ sequential job values (passed seen k T) t a
      moved low false e next = ap (λ (i : ℕ). sequential job values i t a) (let same : passed seen k (T + 1) ≡ passed seen k T = omega (arith, next) in same)
      moved low true e next =
          let more : passed seen k (T + 1) ≡ suc (passed seen k T) = omega (arith, next) in
          let i = passed seen k T in
          ap (λ (m : ℕ). sequential job values m t a) more
          ∙ sym (ap (λ (s : ℕ → ℕ → ℕ). s t a) (next_is job (state_of job (job_start job)) values i))
          ∙ exec_kept job (sequential job values i) (values i) t a (λ z. not (wrote_is low i more ∙ z))

      go : (b : Bool) → nat_lt k n ≡ b → sequential job values (if b then passed seen k (T + 1) else 0) t a ≡ sequential job values (if b then passed seen k T else 0) t a
      go true e = moved (ltb-true k n e) _ refl (passed_next n rows k T none_set before)
      go false e = refl

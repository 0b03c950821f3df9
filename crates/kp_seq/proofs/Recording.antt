-- The implementation records of an instruction what the definition specifies.
use Rattle.std.proofs.Common.{◌≡◌, ◌∙◌, ℕ, zero, suc, ◌+◌, ◌^◌, ◌<◌, ◌≤◌, List, [], ◌∷◌, Option, Some, None, Bool, true, false, length, map, get_or, replicate, refl, ap, sym, subst, arith, lit<}
use Rattle.std.proofs.lemmas.{Bool.ltb-true, List.length-append, List.length-map, List.length-replicate, List.ext_get_or}
use Rattle.std.proofs.lemmas.{List.Sums.sum_by-cons, Option.get_or_from_slice_get, Option.slice_get_within}
use Rattle.std.specs.Prelude.{is_some, slice_get, unwrap_or, sum_by, nat_lt}
use Rattle.kp_base.specs.First.{first}
use Rattle.kp_bits.specs.Word.{Word}
use Rattle.kp_ast.specs.declared.tree.{ResultDecl.ResultDecl, Decl.Decl, Block.Block, Stmt.Stmt, StmtKind.StmtKind, Job.Job}
use Rattle.kp_ast.specs.declared.tree.Decl.TheVariants as decls
use Rattle.kp_ast.specs.declared.tree.StmtKind.TheVariants as stmts
use Rattle.kp_ast.specs.declared.widths.Scope.TheVariants as scopes
use Rattle.kp_width.specs.{Names.Scoped, Names.nothing, Names.opened, Declarations.address_width, Statements.statements_of, Widths.widths_of}
use Rattle.kp_width.proofs.Unbroken.{Unbroken}
use Rattle.kp_stage.specs.{Counts.summary_of, Counts.reads_of, Counts.reads_in, Facts.facts_of, Facts.stmts_in, Rules.ask_stmts, Rules.all_rules, declared.rules.Rule.Rule}
use Rattle.kp_stage.{specs.Stages.broken_of, specs.Start.AreSamples}
use Rattle.kp_stage.proofs.{Unbroken.answer_none, Unbroken.few_stages, Kept.rules_kept, Kept.decl_kept, Kept.stmts_kept}
use Rattle.kp_pipeline.specs.{Sequential.Instruction, Sequential.first_value, Sequential.before_stage, Timeline.first_stage}
use Rattle.kp_machine.specs.{Slots.Slot, Slots.targets_of, Slots.pipes_of, Slots.number_of, Trees.Progress}
use Rattle.kp_machine.{specs.Machine.machine_of, specs.Machine.values_in, specs.Machine.is_enabled_by, proofs.Results.Stands}
use Rattle.kp_machine.proofs.{Scopes.results_fit, Stages.stages_inside}
use Rattle.kp_machine.{proofs.Text.declared_right, proofs.Text.target_slot, specs.Words.state_in}
use Rattle.kp_machine.specs.Trees as trees
use Rattle.kp_seq.specs.inner.Notes.{Noted, record_by, outlet_by, outlets_of, begun_notes, changed_from, narrowed, marked, with_marks, write_noted, setting_noted, with_results, note_stmts, note_blocks}
use Rattle.kp_seq.specs.declared.notes.Outlet.{Outlet}
use Rattle.kp_seq.specs.Recorded.{where_true, read_recorded, reads_recorded, stage_reads, reads_from, results_of, write_recorded, setting_recorded, record_of, done_after}
use Rattle.kp_seq.specs.inner.{Tables.Laid, Steps.Under, Steps.begun, Steps.entered, Steps.address_by, Steps.after_stmts, Steps.after_block, Steps.after_blocks}
use Rattle.kp_seq.{specs.inner.Ready.AreTables, specs.inner.Ready.HasPlaces, specs.inner.Ready.IsNoted, specs.inner.Fits.FitSlots, proofs.Entering.enters}
use Rattle.kp_seq.proofs.{Keys.pipe_placed, Keys.sample_placed, Keys.keyed, Written.Ended, Written.enabled_same, Written.address_same, Written.address_fits}
use Rattle.kp_seq.proofs.Step.{Reached, block_end, by_blocks, all_ended}
use Rattle.kp_seq.proofs.Noted.{put_reads, put_both, put_count, all_put, changed_at, changed_count, seen, seen_first, first_below, narrowed_is}
use Rattle.kp_seq.proofs.{Low.target_low, Asked.after_reads, Asked.all_asked, Asked.low_fits}
use Rattle.kp_seq.proofs.Plain.{after_next, next_first, next_is, none_after, none_before, within}
use Rattle.kp_seq.specs.inner.Steps as steps

-- lists, by their entries
there : {X : Type 0} (xs : List X) (j : ℕ) → j < length xs → (x : X) × (slice_get xs j ≡ Some x)
there [] j l = absurd (omega arith)
there (x ∷ xs) zero l = (x, refl)
there (x ∷ xs) (suc j) l = there xs j (omega arith)

mapped : {X Y : Type 0} (g : X → Y) (zs : List X) (j : ℕ) (x : X) → slice_get zs j ≡ Some x → slice_get (map g zs) j ≡ Some (g x)
mapped g [] j x e = cc
mapped g (z ∷ zs) zero x e = let is : z ≡ x = cc in ap (λ y. Some (g y)) is
mapped g (z ∷ zs) (suc j) x e = mapped g zs j x e

map_same : {X Y : Type 0} (f g : X → Y) (zs : List X) → ((j : ℕ) (x : X) → slice_get zs j ≡ Some x → f x ≡ g x) → map f zs ≡ map g zs
map_same f g [] h = refl
map_same f g (z ∷ zs) h = ap (λ y. y ∷ map f zs) (h 0 z refl) ∙ ap (λ ys. g z ∷ ys) (map_same f g zs (λ j x e. h (suc j) x e))

-- a list that is changed entry by entry to these values
changed_to : {X Y : Type 0} (f : ℕ → X → Y → Y) (g : X → Y) (d : Y) (ys : List Y) (xs : List X) → length ys ≡ length xs
    → ((j : ℕ) (x : X) → slice_get xs j ≡ Some x → f j x (get_or ys j d) ≡ g x) → changed_from f d ys 0 xs ≡ map g xs
changed_to f g d ys xs e h =
    let n = changed_count f d ys 0 xs in
    let m = length-map xs g in
    ext_get_or d (changed_from f d ys 0 xs) (map g xs) (omega arith)
    (λ j l.
    let inside : j < length ys = omega arith in
    let within : j < length xs = omega arith in
    let x = there xs j within in
    changed_at f d ys xs j x.0 x.1 inside ∙ h j x.0 x.1 ∙ sym (get_or_from_slice_get (map g xs) j (g x.0) d (mapped g xs j x.0 x.1)))

-- a stage of at most twelve fits a byte
all_of : (n : ℕ) → 0 + n ≤ n
all_of n = omega arith

stage_fits : (v n : ℕ) → v < n → n ≤ 12 → v < 2 ^ 8
stage_fits v n l few = let x : 12 < 2 ^ 8 = lit< tt in omega arith

-- the results of some declarations are among them
stand : (ds : List Decl) (j : ℕ) (r : ResultDecl) → slice_get (results_of ds) j ≡ Some r → Stands ds r
stand [] j r e = cc
stand (decls.Target q ∷ ds) zero r e = let is : q ≡ r = cc in record { index = 0; there = ap (λ x. Some (decls.Target x)) is }
stand (decls.Target q ∷ ds) (suc j) r e = let s = stand ds j r e in record { index = suc s.index; there = s.there }
stand (_ ∷ ds) j r e = let s = stand ds j r e in record { index = suc s.index; there = s.there }

outlets_are : (targets pipes : List Slot) (ds : List Decl) → outlets_of targets pipes ds ≡ map (outlet_by targets pipes) (results_of ds)
outlets_are targets pipes [] = refl
outlets_are targets pipes (decls.Target r ∷ ds) = ap (λ os. outlet_by targets pipes r ∷ os) (outlets_are targets pipes ds)
outlets_are targets pipes (_ ∷ ds) = outlets_are targets pipes ds

map_both : {X Y Z : Type 0} (f : Y → Z) (g : X → Y) (xs : List X) → map f (map g xs) ≡ map (λ x. f (g x)) xs
map_both f g [] = refl
map_both f g (x ∷ xs) = ap (λ ys. f (g x) ∷ ys) (map_both f g xs)

-- the number of reads in the record
one_counted : (ds : List Decl) (done : Progress) (x : StmtKind) → length (read_recorded ds done x) ≡ reads_of x
one_counted ds done (stmts.Read r) = refl
one_counted ds done _ = refl

stmts_counted : (ds : List Decl) (s : ℕ → ℕ → ℕ) (done : Progress) (xs : List Stmt) → length (reads_recorded ds s done xs) ≡ sum_by reads_in xs
stmts_counted ds s done [] = refl
stmts_counted ds s done (x ∷ xs) =
    let later = done_after ds s done x.kind in
    let n = length-append (read_recorded ds done x.kind) (reads_recorded ds s later xs) in
    let m = one_counted ds done x.kind in
    let o = stmts_counted ds s later xs in
    let p = sum_by-cons reads_in x xs in
    omega (arith, n, m, o, p)

blocks_recorded : (job : Job) (s : ℕ → ℕ → ℕ) (q : ℕ → ℕ) (k : ℕ) (bs : List Block) → ((i : ℕ) (b : Block) → slice_get bs i ≡ Some b → slice_get job.blocks (k + i) ≡ Some b)
    → length (reads_from job s q (length bs) k) ≡ sum_by (λ b. sum_by reads_in b.stmts) bs
unfolding stage_reads
blocks_recorded job s q k [] at = refl
blocks_recorded job s q k (b ∷ bs) at =
    let z : k + 0 ≡ k = none_after k in
    let here : slice_get job.blocks k ≡ Some b = subst (λ n. slice_get job.blocks n ≡ Some b) z (at 0 b refl) in
    let c = before_stage (machine_of job) s q k in
    let done = trees.entered job.decls q c.pipes in
    let n = length-append (stage_reads job s q k) (reads_from job s q (length bs) (suc k)) in
    let m : length (stage_reads job s q k) ≡ sum_by reads_in b.stmts = ap (λ o. length (reads_recorded job.decls s done (stmts_in o))) here ∙ stmts_counted job.decls s done b.stmts in
    let o = blocks_recorded job s q (suc k) bs (λ i y e. let w : k + suc i ≡ suc k + i = next_first k i in subst (λ v. slice_get job.blocks v ≡ Some y) w (at (suc i) y e)) in
    let p = sum_by-cons (λ (x : Block). sum_by reads_in x.stmts) b bs in
    omega (arith, n, m, o, p)

pub all_recorded : (job : Job) (s : ℕ → ℕ → ℕ) (q : ℕ → ℕ) → length job.blocks ≡ job.stages.value → length (reads_from job s q job.stages.value 0) ≡ (summary_of job).reads
unfolding summary_of
all_recorded job s q e =
    ap (λ n. length (reads_from job s q n 0)) (sym e)
    ∙ blocks_recorded job s q 0 job.blocks (λ i b at. let w : i ≡ 0 + i = sym (none_before i) in subst (λ n. slice_get job.blocks n ≡ Some b) w at)

module _ (job : Job) (unbroken : Unbroken (widths_of job)) (kept : broken_of job ≡ None) (t : Laid) (tables : AreTables job t) (rule : _) (is25 : slice_get all_rules 10 ≡ Some rule) (words : List (List ℕ)) (fit : FitSlots (targets_of job.decls) words) (row : List Word) (fits : AreSamples job.decls row) where
  abbrev at_stage : ℕ → Instruction
  at_stage k = before_stage (machine_of job) (state_in words) (values_in row) k

  -- does stage k or an earlier one set a result of this target?
  abbrev sets : ℕ → ℕ → Bool
  sets target k = is_some ((at_stage (suc k)).results target)

  -- what is noted before stage k
  record NotedTo (k : ℕ) (n : Noted) : Type 0 where
    pub count : length n.set_in ≡ length n.outlets
    pub marks : (j : ℕ) (o : Outlet) → slice_get n.outlets j ≡ Some o → get_or n.set_in j None ≡ seen (sets o.target) k

  -- the notes of the stages from one on
  record NotedAfter (n m : Noted) (recorded : List (Option ℕ)) (k : ℕ) : Type 0 where
    pub reads : (m.reads, m.next) ≡ put_reads (n.reads, n.next) recorded
    pub outlets : m.outlets ≡ n.outlets
    pub writes : m.writes ≡ n.writes
    pub settings : m.settings ≡ n.settings
    pub to : NotedTo k m

  block_reads : (k : ℕ) (b : Block) (s : Scoped) (u : Under) (n : Noted) → slice_get job.blocks k ≡ Some b → Unbroken (statements_of job.decls (opened s (scopes.Stage k)) b.stmts)
      → Reached job unbroken kept t tables rule is25 words fit row fits k s u
      → note_stmts t words (entered t row u) n b.stmts ≡ after_reads n (stage_reads job (state_in words) (values_in row) k)
  unfolding stage_reads
  block_reads k b s u n at right h =
      let c = at_stage k in
      let done = trees.entered job.decls (values_in row) c.pipes in
      let inside = enters job unbroken t tables rule is25 k words fit row fits s c u h.of_text h.ended h.places.names h.places.pipes h.places.results (pipe_placed job unbroken t tables rule is25 k words fit c) (sample_placed job unbroken t tables rule is25 k words fit c) in
      let free = subst (λ o. first (ask_stmts (facts_of job) rule k 0 (stmts_in o)) ≡ None) at (stmts_kept (facts_of job) job (rules_kept job kept) rule k) in
      all_asked job unbroken t tables rule is25 k words fit c (opened s (scopes.Stage k)) done (entered t row u) n 0 b.stmts inside free right (keyed job unbroken t tables rule is25 k words fit c k b (opened s (scopes.Stage k)) at)
      ∙ ap (λ o. after_reads n (reads_recorded job.decls (state_in words) done (stmts_in o))) (sym at)

  block_noted : (k : ℕ) (b : Block) (s : Scoped) (u : Under) (n : Noted) → slice_get job.blocks k ≡ Some b → Unbroken (statements_of job.decls (opened s (scopes.Stage k)) b.stmts)
      → Reached job unbroken kept t tables rule is25 words fit row fits k s u → NotedTo k n
      → NotedAfter n (with_marks k (after_block t words row u b) (note_stmts t words (entered t row u) n b.stmts)) (stage_reads job (state_in words) (values_in row) k) (suc k)
  block_noted k b s u n at right h to =
      let w = after_block t words row u b in
      let recorded = stage_reads job (state_in words) (values_in row) k in
      let ended = (block_end job unbroken kept t tables rule is25 words fit row fits k b s u at right h).ended in
      let mark = λ (i : ℕ) (o : Outlet) (old : Option ℕ). marked k w.results o old in
      subst (λ m. NotedAfter n (with_marks k w m) recorded (suc k)) (sym (block_reads k b s u n at right h))
      (record {
        reads = refl;
        outlets = refl;
        writes = refl;
        settings = refl;
        to = record {
          count = changed_count mark None n.set_in 0 n.outlets ∙ to.count;
          marks = λ j o is.
              let l : j < length n.set_in = within j (length n.outlets) (length n.set_in) (slice_get_within n.outlets j o is) to.count in
              changed_at mark None n.set_in n.outlets j o is l
              ∙ ap (λ x. marked k w.results o x) (to.marks j o is)
              ∙ ap (λ x. first_value (seen (sets o.target) k) (where_true (is_some x) k)) (ended.results o.target);
        };
      })

  nothing_seen : (xs : List (Option ℕ)) (j : ℕ) → get_or (replicate (length xs) None) j None ≡ seen (λ k. false) 0
  nothing_seen [] j = refl
  nothing_seen (x ∷ xs) zero = refl
  nothing_seen (x ∷ xs) (suc j) = nothing_seen xs j

  all_noted : (u : Under) (n : Noted) → HasPlaces t u → IsNoted job n
      → NotedAfter (begun_notes n) (note_blocks t words row 0 (begun u) (begun_notes n) job.blocks) (reads_from job (state_in words) (values_in row) (length job.blocks) 0) (length job.blocks)
  all_noted u n places ready =
      let none : Option ℕ = None in
      let z : 0 + length job.blocks ≡ length job.blocks = none_before (length job.blocks) in
      let q = λ (bs : List Block) (k : ℕ). reads_from job (state_in words) (values_in row) (length bs) k in
      subst (NotedAfter (begun_notes n) (note_blocks t words row 0 (begun u) (begun_notes n) job.blocks) (q job.blocks 0)) z
      (by_blocks job unbroken kept t tables rule is25 words fit row fits
      (λ k bs s v. (m : Noted) → NotedTo k m → NotedAfter m (note_blocks t words row k v m bs) (q bs k) (k + length bs))
      (λ k s v h m to. let w : k ≡ k + 0 = sym (none_after k) in subst (NotedAfter m m []) w (record { reads = refl; outlets = refl; writes = refl; settings = refl; to = to }))
      (λ k b bs s v at right h rest m to.
      let next : suc k ≡ k + 1 = next_is k in
      let more : (k + 1) + length bs ≡ k + suc (length bs) = sym (after_next k (length bs)) in
      let one = block_noted k b s v m at right h to in
      let mid = with_marks k (after_block t words row v b) (note_stmts t words (entered t row v) m b.stmts) in
      let all = rest mid (subst (λ i. NotedTo i mid) next one.to) in
      let recorded = stage_reads job (state_in words) (values_in row) k in
      record {
        reads = all.reads ∙ ap (λ p. put_reads p (q bs (k + 1))) one.reads ∙ ap (λ i. put_reads (put_reads (m.reads, m.next) recorded) (q bs i)) (sym next) ∙ sym (put_both (m.reads, m.next) recorded (q bs (suc k)));
        outlets = all.outlets ∙ one.outlets;
        writes = all.writes ∙ one.writes;
        settings = all.settings ∙ one.settings;
        to = subst (λ i. NotedTo i (note_blocks t words row (k + 1) (after_block t words row v b) mid bs)) more all.to;
      })
      u places (begun_notes n)
      (record { count = length-replicate (length n.set_in) none ∙ ready.set_in; marks = λ j o is. nothing_seen n.set_in j }))

  -- the record keeps its size
  pub still_noted : (u : Under) (n : Noted) → HasPlaces t u → IsNoted job n
      → IsNoted job (with_results (after_blocks t words row (begun u) job.blocks) (note_blocks t words row 0 (begun u) (begun_notes n) job.blocks))
  still_noted u n places ready =
      let w = after_blocks t words row (begun u) job.blocks in
      let m = note_blocks t words row 0 (begun u) (begun_notes n) job.blocks in
      let a = all_noted u n places ready in
      let recorded = reads_from job (state_in words) (values_in row) (length job.blocks) 0 in
      record {
        outlets = a.outlets ∙ ready.outlets;
        reads = ap (λ (p : List (Option ℕ) × ℕ). length p.0) a.reads ∙ put_count (n.reads, 0) recorded ∙ ready.reads;
        set_in = a.to.count;
        writes = changed_count (λ i o old. write_noted w o) None m.writes 0 m.outlets ∙ ap length a.writes ∙ ready.writes ∙ ap length (sym a.outlets);
        settings = changed_count (λ i o old. setting_noted (get_or m.set_in i None) o) 0 m.settings 0 m.outlets ∙ ap length a.settings ∙ ready.settings ∙ ap length (sym a.outlets);
      }

  -- a result writes at an address, and is set in a stage
  module _ (u : Under) (ended : Ended job.decls (at_stage job.stages.value) u) where
    wrote : (r : ResultDecl) → Stands job.decls r → write_noted u (outlet_by (targets_of job.decls) (pipes_of job.decls) r) ≡ write_recorded job (at_stage job.stages.value).pipes r
    wrote r s =
        let c = at_stage job.stages.value in
        let f = results_fit job.decls 0 0 nothing job.decls refl (declared_right job unbroken) s.index r s.there in
        let at = target_slot job unbroken r f in
        let low = target_low job unbroken r.target.name f.sense.width (address_width f.sense.kind) at in
        let o = outlet_by (targets_of job.decls) (pipes_of job.decls) r in
        let small = low_fits (address_by u o.address) (address_width f.sense.kind) low (address_fits job unbroken t tables c u ended (address_width f.sense.kind) r.address f.address) in
        ap (λ a. where_true (steps.is_enabled u o.enable) a) (narrowed_is 32 (address_by u o.address) small)
        ∙ ap (λ b. where_true b (address_by u o.address)) (enabled_same job unbroken t tables c u ended r.enable)
        ∙ ap (where_true (is_enabled_by (pipes_of job.decls) c.pipes r.enable)) (address_same job unbroken t tables c u ended r.address)

  settled : (r : ResultDecl) → Stands job.decls r
      → narrowed 8 (unwrap_or (seen (sets (number_of (targets_of job.decls) r.target.name)) job.stages.value) r.stage.value) ≡ setting_recorded job (state_in words) (values_in row) r
  unfolding setting_recorded
  settled r s =
      let facts = facts_of job in
      let n = job.stages.value in
      let p = sets (number_of (targets_of job.decls) r.target.name) in
      let e : nat_lt r.stage.value n ≡ true = answer_none _ _ (decl_kept facts job (rules_kept job kept) Rule.E15 s.index (decls.Target r) s.there) in
      let below : r.stage.value < n = ltb-true r.stage.value n e in
      let few : n ≤ 12 = few_stages facts job (rules_kept job kept) in
      let fits : first_stage p n 0 r.stage.value < 2 ^ 8 = stage_fits (first_stage p n 0 r.stage.value) n (first_below p n 0 r.stage.value n (all_of n) below) few in
      ap (narrowed 8) (seen_first p n r.stage.value) ∙ narrowed_is 8 (first_stage p n 0 r.stage.value) fits

  -- so the stored record is the specified one
  pub noted_is_recorded : (u : Under) (n : Noted) → HasPlaces t u → IsNoted job n
      → record_by (with_results (after_blocks t words row (begun u) job.blocks) (note_blocks t words row 0 (begun u) (begun_notes n) job.blocks)) ≡ record_of job (state_in words) (values_in row)
  unfolding record_of machine_of
  noted_is_recorded u n places ready =
      let w = after_blocks t words row (begun u) job.blocks in
      let m = note_blocks t words row 0 (begun u) (begun_notes n) job.blocks in
      let a = all_noted u n places ready in
      let count : length job.blocks ≡ job.stages.value = stages_inside job kept in
      let ended : Ended job.decls (at_stage job.stages.value) w = all_ended job unbroken kept t tables rule is25 words fit row fits u places in
      let targets = targets_of job.decls in
      let pipes = pipes_of job.decls in
      let results = results_of job.decls in
      let outlets : m.outlets ≡ map (outlet_by targets pipes) results = a.outlets ∙ ready.outlets ∙ outlets_are targets pipes job.decls in
      let recorded = reads_from job (state_in words) (values_in row) (length job.blocks) 0 in
      let room : length n.reads ≡ length recorded =
      ready.reads ∙ sym (all_recorded job (state_in words) (values_in row) count) ∙ ap (λ i. length (reads_from job (state_in words) (values_in row) i 0)) (sym count) in
      let reads : m.reads ≡ reads_from job (state_in words) (values_in row) job.stages.value 0 =
      ap (λ (p : List (Option ℕ) × ℕ). p.0) a.reads ∙ all_put n.reads recorded room ∙ ap (λ i. reads_from job (state_in words) (values_in row) i 0) count in
      let writes : changed_from (λ i o old. write_noted w o) None m.writes 0 m.outlets ≡ map (write_recorded job (at_stage job.stages.value).pipes) results =
      changed_to (λ i o old. write_noted w o) (write_noted w) None m.writes m.outlets (ap length a.writes ∙ ready.writes ∙ ap length (sym a.outlets)) (λ j o is. refl)
      ∙ ap (map (write_noted w)) outlets ∙ map_both (write_noted w) (outlet_by targets pipes) results
      ∙ map_same (λ r. write_noted w (outlet_by targets pipes r)) (write_recorded job (at_stage job.stages.value).pipes) results (λ j r is. wrote w ended r (stand job.decls j r is)) in
      let set = λ (o : Outlet). narrowed 8 (unwrap_or (seen (sets o.target) job.stages.value) o.stage) in
      let settings : changed_from (λ i o old. setting_noted (get_or m.set_in i None) o) 0 m.settings 0 m.outlets ≡ map (setting_recorded job (state_in words) (values_in row)) results =
      changed_to (λ i o old. setting_noted (get_or m.set_in i None) o) set 0 m.settings m.outlets (ap length a.settings ∙ ready.settings ∙ ap length (sym a.outlets))
      (λ j o is. ap (λ x. narrowed 8 (unwrap_or x o.stage)) (a.to.marks j o is) ∙ ap (λ i. narrowed 8 (unwrap_or (seen (sets o.target) i) o.stage)) count)
      ∙ ap (map set) outlets ∙ map_both set (outlet_by targets pipes) results
      ∙ map_same (λ r. set (outlet_by targets pipes r)) (setting_recorded job (state_in words) (values_in row)) results (λ j r is. settled r (stand job.decls j r is)) in
      ap (λ (x : List (Option ℕ)). record { reads = x; writes = changed_from (λ i o old. write_noted w o) None m.writes 0 m.outlets; settings = changed_from (λ i o old. setting_noted (get_or m.set_in i None) o) 0 m.settings 0 m.outlets }) reads
      ∙ ap (λ (x : List (Option ℕ)). record { reads = reads_from job (state_in words) (values_in row) job.stages.value 0; writes = x; settings = changed_from (λ i o old. setting_noted (get_or m.set_in i None) o) 0 m.settings 0 m.outlets }) writes
      ∙ ap (λ (x : List ℕ). record { reads = reads_from job (state_in words) (values_in row) job.stages.value 0; writes = map (write_recorded job (at_stage job.stages.value).pipes) results; settings = x }) settings

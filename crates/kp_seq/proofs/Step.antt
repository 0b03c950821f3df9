-- One instruction, stage by stage: what the steps leave is what the abstract machine has.
use Rattle.std.proofs.Common.{◌≡◌, ◌∙◌, ℕ, suc, ◌+◌, List, [], ◌∷◌, Some, None, Option, length, replicate, refl, ap, sym, subst}
use Rattle.std.{proofs.lemmas.List.length-replicate, specs.Prelude.slice_get}
use Rattle.kp_base.specs.{First.first, Check.ok, Check.◌>>=◌}
use Rattle.kp_bits.specs.Word.{Word}
use Rattle.kp_ast.specs.declared.tree.{Block.Block, Job.Job}
use Rattle.kp_ast.specs.declared.widths.Scope.TheVariants as scopes
use Rattle.kp_width.specs.{Names.Scoped, Names.nothing, Names.opened, Declarations.declarations_of, Statements.statements_of, Statements.blocks_of}
use Rattle.kp_width.{specs.Widths.widths_of, proofs.Unbroken.Unbroken, proofs.Unbroken.bind_unbroken}
use Rattle.kp_stage.specs.{Facts.facts_of, Facts.stmts_in, Rules.ask_stmts, Rules.all_rules, Stages.broken_of, Start.AreSamples}
use Rattle.kp_pipeline.specs.Sequential.{Instruction, after_stage, before_stage, run}
use Rattle.kp_machine.specs.{Slots.targets_of, Trees.Progress, Trees.tree_of, Machine.machine_of, Machine.stage_tree, Machine.values_in}
use Rattle.kp_stage.proofs.Kept.{rules_kept, stmts_kept}
use Rattle.kp_machine.proofs.{Stages.stages_inside, Text.text}
use Rattle.kp_machine.specs.Words.{state_in, after_one}
use Rattle.kp_machine.specs.Trees as trees
use Rattle.kp_seq.specs.inner.Resolved.{Outline, Raw, Resolves, AllDo, DoesStage, after_steps, entered_at, entry_widths, after_stages, begun_at, outputs, ran, note_steps, note_stages, noted}
use Rattle.kp_seq.specs.inner.Tables.{Laid}
use Rattle.kp_seq.specs.inner.Steps.{Under, begun, entered, after_block, after_blocks, executed, written_by, written_from}
use Rattle.kp_seq.specs.{inner.Fits.FitSlots, inner.Ready.AreTables, inner.Ready.HasPlaces, inner.Ready.HasRoom, declared.program.Step.Step}
use Rattle.kp_seq.specs.declared.tables.Port.{Port}
use Rattle.kp_seq.specs.inner.Notes.{Noted, begun_notes, with_marks, with_results, note_stmts, note_blocks}
use Rattle.kp_seq.proofs.{Resolved.suits_length, Lengths.SameLengths, Lengths.begun_same, Lengths.block_same}
use Rattle.kp_seq.proofs.{Trees.seen, Trees.no_hints, Trees.nexts, Trees.stage_runs, Blocks.all_turn, Entering.enters, Entering.shown}
use Rattle.kp_seq.proofs.Keys.{pipe_placed, sample_placed, keyed}
use Rattle.kp_seq.proofs.Written.{Ended, stage_ended, begun_ended, written_after, written_fits}
use Rattle.kp_seq.proofs.Plain.{after_next, next_is, none_after, none_before}

-- what a machine keeps in numbers, as an instruction
abbrev pub as_under : Raw → Under
as_under r = record { names = replicate (length r.names) None; pipes = r.pipes; results = r.results }

pub as_placed : (t : Laid) (r : Raw) → HasRoom t r → HasPlaces t (as_under r)
as_placed t r h = let none : Option Word = None in record { names = length-replicate (length r.names) none ∙ h.names; pipes = h.pipes; results = h.results }

pub still_placed : (t : Laid) (u v : Under) → SameLengths u v → HasPlaces t u → HasPlaces t v
still_placed t u v s h = record { names = s.names ∙ h.names; pipes = s.pipes ∙ h.pipes; results = s.results ∙ h.results }

-- an instruction in numbers has the pipes and the results of an instruction
pub record Follows (t : Laid) (u : Under) (r : Raw) : Type 0 where
  pub names : length r.names ≡ length t.names
  pub pipes : r.pipes ≡ u.pipes
  pub results : r.results ≡ u.results

-- what is written comes of pipes and results alone
module _ (u : Under) (names : List (Option Word)) where
  abbrev other : Under
  other = record { names = names; pipes = u.pipes; results = u.results }

  port_same : (words : List (List ℕ)) (i : ℕ) (p : Option Port) → written_by other words i p ≡ written_by u words i p
  port_same words i None = refl
  port_same words i (Some p) = refl

  written_same : (words : List (List ℕ)) (i : ℕ) (ps : List (Option Port)) → written_from other words i ps ≡ written_from u words i ps
  written_same words i [] = refl
  written_same words i (p ∷ ps) = ap (λ ws. written_from other ws (i + 1) ps) (port_same words i p) ∙ written_same (written_by u words i p) (i + 1) ps

-- so is what is noted of the results
results_by_numbers : (t : Laid) (u : Under) (r : Raw) → Follows t u r → (n : Noted) → with_results (outputs r) n ≡ with_results u n
results_by_numbers t u r h n =
    ap (λ pipes. with_results (record { names = []; pipes = pipes; results = r.results }) n) h.pipes
    ∙ ap (λ results. with_results (record { names = []; pipes = u.pipes; results = results }) n) h.results

written_by_numbers : (t : Laid) (u : Under) (r : Raw) → Follows t u r → (words : List (List ℕ)) (ps : List (Option Port)) → written_from (outputs r) words 0 ps ≡ written_from u words 0 ps
written_by_numbers t u r h words ps =
    ap (λ pipes. written_from (record { names = []; pipes = pipes; results = r.results }) words 0 ps) h.pipes
    ∙ ap (λ results. written_from (record { names = []; pipes = u.pipes; results = results }) words 0 ps) h.results
    ∙ written_same u [] words 0 ps

module _ (job : Job) (unbroken : Unbroken (widths_of job)) (kept : broken_of job ≡ None) (t : Laid) (tables : AreTables job t) (rule : _) (is25 : slice_get all_rules 10 ≡ Some rule) (words : List (List ℕ)) (fit : FitSlots (targets_of job.decls) words) (row : List Word) (fits : AreSamples job.decls row) where
  -- the instruction of the abstract machine before a stage
  abbrev pub before : ℕ → Instruction
  before k = before_stage (machine_of job) (state_in words) (values_in row) k

  stage_is : (k : ℕ) (b : Block) → slice_get job.blocks k ≡ Some b
      → before (suc k) ≡ after_stage (before k) (run (seen job.decls (state_in words)) (no_hints job.decls (state_in words)) (tree_of job.decls (trees.entered job.decls (values_in row) (before k).pipes) b.stmts))
  unfolding before_stage machine_of stage_tree
  stage_is k b e = ap (λ o. after_stage (before k) (run (seen job.decls (state_in words)) (no_hints job.decls (state_in words)) (tree_of job.decls (trees.entered job.decls (values_in row) (before k).pipes) (stmts_in o)))) e

  -- what holds before a stage with this scope, and after it
  pub record Reached (k : ℕ) (s : Scoped) (u : Under) : Type 0 where
    pub of_text : s.text ≡ text job unbroken
    pub ended : Ended job.decls (before k) u
    pub places : HasPlaces t u

  pub block_end : (k : ℕ) (b : Block) (s : Scoped) (u : Under) → slice_get job.blocks k ≡ Some b → Unbroken (statements_of job.decls (opened s (scopes.Stage k)) b.stmts)
      → Reached k s u → Reached (suc k) (statements_of job.decls (opened s (scopes.Stage k)) b.stmts).value (after_block t words row u b)
  block_end k b s u at right h =
      let c = before k in
      let done = trees.entered job.decls (values_in row) c.pipes in
      let there = enters job unbroken t tables rule is25 k words fit row fits s c u h.of_text h.ended h.places.names h.places.pipes h.places.results (pipe_placed job unbroken t tables rule is25 k words fit c) (sample_placed job unbroken t tables rule is25 k words fit c) in
      let free = subst (λ o. first (ask_stmts (facts_of job) rule k 0 (stmts_in o)) ≡ None) at (stmts_kept (facts_of job) job (rules_kept job kept) rule k) in
      let turned = all_turn job unbroken t tables rule is25 k words fit c (opened s (scopes.Stage k)) done (entered t row u) 0 b.stmts there free right (keyed job unbroken t tables rule is25 k words fit c k b (opened s (scopes.Stage k)) at) in
      let runs = stage_runs job.decls (state_in words) done b.stmts in
      let out = run (seen job.decls (state_in words)) (no_hints job.decls (state_in words)) (tree_of job.decls done b.stmts) in
      record {
        of_text = turned.named.of_text;
        ended = subst (λ x. Ended job.decls x (after_block t words row u b)) (sym (stage_is k b at))
            (stage_ended job.decls c (nexts job.decls (state_in words) done b.stmts) out (after_block t words row u b) (ap (λ o. o.puts) runs) (ap (λ o. o.sets) runs) turned.lists);
        places = still_placed t u (after_block t words row u b) (block_same t words row u b) h.places;
      }

  -- an induction over the blocks, given what holds before each
  module _ (G : ℕ → List Block → Scoped → Under → Type 0) (last : (k : ℕ) (s : Scoped) (u : Under) → Reached k s u → G k [] s u)
      (more : (k : ℕ) (b : Block) (bs : List Block) (s : Scoped) (u : Under) → slice_get job.blocks k ≡ Some b → Unbroken (statements_of job.decls (opened s (scopes.Stage k)) b.stmts) → Reached k s u
      → G (k + 1) bs (statements_of job.decls (opened s (scopes.Stage k)) b.stmts).value (after_block t words row u b) → G k (b ∷ bs) s u) where
    from_block : (k : ℕ) (bs : List Block) (s : Scoped) (u : Under) → ((i : ℕ) (b : Block) → slice_get bs i ≡ Some b → slice_get job.blocks (k + i) ≡ Some b)
        → Unbroken (blocks_of job.decls k s bs) → Reached k s u → G k bs s u
    from_block k [] s u at right h = last k s u h
    from_block k (b ∷ bs) s u at right h =
        let z : k + 0 ≡ k = none_after k in
        let next : suc k ≡ k + 1 = next_is k in
        let here : slice_get job.blocks k ≡ Some b = subst (λ n. slice_get job.blocks n ≡ Some b) z (at 0 b refl) in
        let x = bind_unbroken (statements_of job.decls (opened s (scopes.Stage k)) b.stmts) (λ y. blocks_of job.decls (k + 1) y bs) right in
        let after : Scoped = (statements_of job.decls (opened s (scopes.Stage k)) b.stmts).value in
        let reached = subst (λ n. Reached n after (after_block t words row u b)) next (block_end k b s u here x.0 h) in
        more k b bs s u here x.0 h (from_block (k + 1) bs after (after_block t words row u b)
        (λ i y e. let w : k + suc i ≡ (k + 1) + i = after_next k i in subst (λ n. slice_get job.blocks n ≡ Some y) w (at (suc i) y e))
        x.1 reached)

    -- all of them
    pub by_blocks : (u : Under) → HasPlaces t u → G 0 job.blocks (declarations_of job.decls 0 0 nothing job.decls).value (begun u)
    unfolding before_stage
    by_blocks u places =
        let d = declarations_of job.decls 0 0 nothing job.decls in
        let rest = (bind_unbroken d (λ s. blocks_of job.decls 0 s job.blocks >>= (λ y. ok y.entries)) unbroken).1 in
        from_block 0 job.blocks d.value (begun u)
        (λ i b e. let w : i ≡ 0 + i = sym (none_before i) in subst (λ n. slice_get job.blocks n ≡ Some b) w e)
        (bind_unbroken (blocks_of job.decls 0 d.value job.blocks) (λ y. ok y.entries) rest).0
        (record { of_text = refl; ended = begun_ended job.decls u; places = still_placed t u (begun u) (begun_same t u) places })

  -- after the last stage
  pub all_ended : (u : Under) → HasPlaces t u → Ended job.decls (before (machine_of job).stages) (after_blocks t words row (begun u) job.blocks)
  unfolding machine_of
  all_ended u places =
      let z : 0 + length job.blocks ≡ job.stages.value = none_before (length job.blocks) ∙ stages_inside job kept in
      subst (λ n. Ended job.decls (before n) (after_blocks t words row (begun u) job.blocks)) z
      (by_blocks (λ k bs s v. Ended job.decls (before (k + length bs)) (after_blocks t words row v bs))
      (λ k s v h. let w : k ≡ k + 0 = sym (none_after k) in subst (λ n. Ended job.decls (before n) v) w h.ended)
      (λ k b bs s v at right h rest. let w : (k + 1) + length bs ≡ k + suc (length bs) = sym (after_next k (length bs)) in
      subst (λ n. Ended job.decls (before n) (after_blocks t words row (after_block t words row v b) bs)) w rest)
      u places)

  -- in numbers: a stage, and all
  module _ (o : Outline) (resolved : Resolves t job.blocks o) where
    pub block_follows : (k : ℕ) (b : Block) (s : Scoped) (u : Under) (r : Raw) (ss : List Step) → Reached k s u → Follows t u r → DoesStage t (entry_widths t) b.stmts ss
        → Follows t (after_block t words row u b) (after_steps words (entered_at o row r) ss)
    block_follows k b s u r ss h f d =
        let there = shown job unbroken t tables rule is25 k words fit row fits s (before k) u h.ended h.places.names o resolved.samples resolved.pipes r f.names f.pipes f.results in
        let done = d.1.shown words (entered t row u) (entered_at o row r) (subst (λ xs. FitSlots xs words) (sym tables.targets) fit) there in
        record {
          names = suits_length d.0 (after_block t words row u b).names (after_steps words (entered_at o row r) ss).names done.names ∙ (block_same t words row u b).names ∙ h.places.names;
          pipes = done.pipes;
          results = done.results;
        }

    -- what is noted too
    block_notes : (k : ℕ) (b : Block) (s : Scoped) (u : Under) (r : Raw) (n : Noted) (ss : List Step) → Reached k s u → Follows t u r → DoesStage t (entry_widths t) b.stmts ss
        → note_steps words (entered_at o row r) n ss ≡ note_stmts t words (entered t row u) n b.stmts
    block_notes k b s u r n ss h f d =
        let there = shown job unbroken t tables rule is25 k words fit row fits s (before k) u h.ended h.places.names o resolved.samples resolved.pipes r f.names f.pipes f.results in
        d.1.noted words (entered t row u) (entered_at o row r) n (subst (λ xs. FitSlots xs words) (sym tables.targets) fit) there

    -- what several stages leave, in numbers, and what is noted of them
    abbrev InNumbers : ℕ → List Block → Scoped → Under → Type 0
    InNumbers k bs s u = (r : Raw) (ss : List (List Step)) → Follows t u r → AllDo t (entry_widths t) bs ss
        → Follows t (after_blocks t words row u bs) (after_stages o words row r ss) × ((n : Noted) → note_stages o words row k r n ss ≡ note_blocks t words row k u n bs)

    in_numbers_more : (k : ℕ) (b : Block) (bs : List Block) (s : Scoped) (u : Under) → Reached k s u
        → InNumbers (k + 1) bs (statements_of job.decls (opened s (scopes.Stage k)) b.stmts).value (after_block t words row u b) → InNumbers k (b ∷ bs) s u
    in_numbers_more k b bs s u h rest r [] f d = absurd d
    in_numbers_more k b bs s u h rest r (x ∷ ss) f d =
        let w = after_block t words row u b in
        let v = after_steps words (entered_at o row r) x in
        let follows = block_follows k b s u r x h f d.0 in
        let all = rest v ss follows d.1 in (
          all.0,
          λ n. let m = note_stmts t words (entered t row u) n b.stmts in
              ap (λ c. note_stages o words row (k + 1) v (with_marks k (outputs v) c) ss) (block_notes k b s u r n x h f d.0)
              ∙ ap (λ (results : List (Option ℕ)). note_stages o words row (k + 1) v (with_marks k (record { names = []; pipes = v.pipes; results = results }) m) ss) follows.results
              ∙ all.1 (with_marks k w m),
        )

    all_in_numbers : (u : Under) (r : Raw) → HasPlaces t u → Follows t u r → Follows t (after_blocks t words row (begun u) job.blocks) (after_stages o words row (begun_at r) o.stages)
        × ((n : Noted) → note_stages o words row 0 (begun_at r) n o.stages ≡ note_blocks t words row 0 (begun u) n job.blocks)
    all_in_numbers u r places f =
        let zero : ℕ = 0 in
        let none : Option ℕ = None in
        by_blocks InNumbers
        (λ k s v h q ss g d. (subst (λ xs. Follows t v (after_stages o words row q xs)) (sym d) g, λ n. ap (note_stages o words row k q n) d))
        (λ k b bs s v at right h rest. in_numbers_more k b bs s v h rest)
        u places (begun_at r) o.stages
        (record {
          names = f.names;
          pipes = ap (λ (xs : List ℕ). replicate (length xs) zero) f.pipes;
          results = ap (λ (xs : List (Option ℕ)). replicate (length xs) none) f.results;
        })
        resolved.stages

    pub all_follow : (u : Under) (r : Raw) → HasPlaces t u → Follows t u r → Follows t (after_blocks t words row (begun u) job.blocks) (after_stages o words row (begun_at r) o.stages)
    all_follow u r places f = (all_in_numbers u r places f).0

    pub ran_is : (u : Under) (r : Raw) → HasPlaces t u → Follows t u r → ran o t.ports row r words ≡ executed t row u job.blocks words
    ran_is u r places f =
        written_by_numbers t (after_blocks t words row (begun u) job.blocks) (after_stages o words row (begun_at r) o.stages) (all_follow u r places f) words t.ports

    pub noted_is : (u : Under) (r : Raw) (n : Noted) → HasPlaces t u → Follows t u r
        → noted o words row r n ≡ with_results (after_blocks t words row (begun u) job.blocks) (note_blocks t words row 0 (begun u) (begun_notes n) job.blocks)
    noted_is u r n places f =
        let all = all_in_numbers u r places f in
        ap (with_results (outputs (after_stages o words row (begun_at r) o.stages))) (all.1 (begun_notes n))
        ∙ results_by_numbers t (after_blocks t words row (begun u) job.blocks) (after_stages o words row (begun_at r) o.stages) all.0 (note_blocks t words row 0 (begun u) (begun_notes n) job.blocks)

  -- an instruction leaves the state after it, and its words fit the targets
  pub step_state : (u : Under) → HasPlaces t u → state_in (executed t row u job.blocks words) ≡ after_one job (state_in words) row
  step_state u places = written_after job unbroken t tables words row (after_blocks t words row (begun u) job.blocks) fit (all_ended u places)

  pub step_fits : (u : Under) → HasPlaces t u → FitSlots (targets_of job.decls) (executed t row u job.blocks words)
  step_fits u places =
      written_fits job unbroken t tables (before (machine_of job).stages) (after_blocks t words row (begun u) job.blocks) (all_ended u places) words fit

-- A read: the state of the stage after it.
use Rattle.std.proofs.Common.{◌≡◌, ◌∙◌, ℕ, zero, suc, ◌+◌, ◌<◌, ◌≤◌, List, [], ◌∷◌, ◌++◌, length, Option, Some, None, Bool, true, false, cond, not, ◌||◌, ◌&&◌, refl, ap, sym, subst, arith, ⊎_elim}
use Rattle.std.{proofs.lemmas.List.append-nil, proofs.lemmas.Option.slice_get_cases, specs.Prelude.slice_get, specs.Prelude.is_some, specs.Global.Vec}
use Rattle.kp_bits.specs.Word.{word}
use Rattle.kp_ast.specs.declared.tree.{Expr.Expr, ReadStmt.ReadStmt, Job.Job}
use Rattle.kp_ast.specs.declared.tree.StmtKind.TheVariants as stmts
use Rattle.kp_ast.specs.declared.widths.NameKind.TheVariants as kinds
use Rattle.kp_width.specs.{Names.sense, Statements.read_of}
use Rattle.kp_machine.specs.Slots.{targets_of, width_of as width_of_slot}
use Rattle.kp_machine.specs.Trees as trees
use Rattle.kp_pipeline.specs.Sequential.{PendingGuess}
use Rattle.kp_net.specs.{declared.node.NodeId.NodeId, Nodes.Cells, Nodes.word_at, Nodes.at, Nodes.on, Growth.Held, Growth.Wire, Growth.Kept}
use Rattle.kp_net.proofs.{Growing.wire_kept, Growing.kept_then, Values.word_is}
use Rattle.kp_synth_registers.specs.{declared.outcome.Made.Made, Holding.pending_guess, Meaning.made_values, Meaning.guess_value, Meaning.MadeFit}
use Rattle.kp_design.proofs.Fitting.{width_there}
use Rattle.kp_design.specs.declared.guess.GuessSlot.{GuessSlot}
use Rattle.kp_design.specs.Numbers.{target_at, guess_slot, with_read}
use Rattle.kp_synth_stage.specs.{declared.row.Source.Source, declared.row.Answer.Answer, declared.work.Work.Work, Rows.SourcesOk}
use Rattle.kp_synth_stage.specs.Doing.{after_stmt, target_of, miss_of, hazard_of, guess_of, read_value, read_lacks}
use Rattle.kp_synth_stage.specs.{Scopes.scope_at, Scopes.Bound, inner.Standing.slots_at, inner.Standing.own_slots, inner.Standing.WorkOk, inner.Standing.Stands, inner.Standing.GoesBy}
use Rattle.kp_synth_stage.specs.{inner.Statements.GuessOk, inner.Statements.ReadGives, inner.Statements.made_of, Reading.value_or_zero}
use Rattle.kp_synth_stage.proofs.Binding.{bound_kept, bound_more, names_kept, names_more, fits_kept, means_kept, env_with, made_more, made_values_more}
use Rattle.kp_synth_stage.proofs.{Taking.ReadRight, Taking.guess_fits, Taking.guess_kept, Nearest.orzero_kept}
use Rattle.kp_synth_stage.specs.inner.Standing as work

source_in : (xs : List Source) (t : ℕ) → t < length xs → (s : Source) × (slice_get xs t ≡ Some s)
source_in xs t h = ⊎_elim (λ a. (a.0, a.2)) (λ a. absurd (omega (arith, a.0))) (slice_get_cases xs t).1

pub some_stage : (job : Job) (p : Held) (ss : List Source) (t : ℕ) → SourcesOk job p ss → t < length (targets_of job.decls) → 1 ≤ job.stages.value
some_stage job p ss t h l =
    let n = h.count in
    let x = source_in ss t (omega arith) in
    let f = (h.each t x.0 x.1).few in omega arith

made_fits : (job : Job) (k n w : ℕ) (q : Held) (r : ReadStmt) (o : Option Expr) (g : Option NodeId) (lacks : NodeId) (ss : List GuessSlot) (ms : List Made)
    → w ≡ width_of_slot (targets_of job.decls) r.target.name → Wire q lacks 1 → GuessOk q w o g → MadeFit q ss ms → MadeFit q (ss ++ with_read job k n r o (λ m. [])) (ms ++ made_of lacks g)
made_fits job k n w q r None None lacks ss ms e l h f = subst (λ xs. MadeFit q xs (ms ++ [])) (sym (append-nil ss)) (subst (MadeFit q ss) (sym (append-nil ms)) f)
made_fits job k n w q r (Some x) (Some g) lacks ss ms e l h f = made_more q ss ms (guess_slot job k n r) (record { pending = lacks; value = g }) f l (subst (Wire q g) e h)
made_fits job k n w q r _ _ lacks ss ms e l h f = absurd h

made_means : (job : Job) (k n w : ℕ) (c : Cells) (q : Held) (r : ReadStmt) (o : Option Expr) (g : Option NodeId) (lacks : NodeId) (ss : List GuessSlot) (ms : List Made) (gs : List PendingGuess) (lacking : Bool) (miss : ℕ)
    → GuessOk q w o g → MadeFit q ss ms → made_values c q ss ms ≡ gs → on c q.nodes lacks.0 ≡ lacking → value_or_zero c q g ≡ miss
    → made_values c q (ss ++ with_read job k n r o (λ m. [])) (ms ++ made_of lacks g) ≡ gs ++ guess_of o lacking (record { register = target_of job.decls r; value = miss })
made_means job k n w c q r None None lacks ss ms gs lacking miss h f e l m =
    ap (λ xs. made_values c q xs (ms ++ [])) (append-nil ss) ∙ ap (made_values c q ss) (append-nil ms) ∙ e ∙ sym (append-nil gs)
made_means job k n w c q r None (Some g) lacks ss ms gs lacking miss h f e l m = absurd h
made_means job k n w c q r (Some x) None lacks ss ms gs lacking miss h f e l m = absurd h
made_means job k n w c q r (Some x) (Some g) lacks ss ms gs lacking miss h f e l m =
    made_values_more c q ss ms (guess_slot job k n r) (record { pending = lacks; value = g }) f
    ∙ ap (λ xs. xs ++ guess_value (on c q.nodes lacks.0) (pending_guess (guess_slot job k n r) (at c q.nodes g.0)) []) e
    ∙ ap (λ b. gs ++ guess_value b (pending_guess (guess_slot job k n r) (at c q.nodes g.0)) []) l
    ∙ ap (λ v. gs ++ guess_value lacking (pending_guess (guess_slot job k n r) v) []) m
    ∙ ap (λ xs. gs ++ xs) (value_cond lacking (record { register = target_of job.decls r; value = miss }))
  where
    value_cond : (b : Bool) (y : PendingGuess) → guess_value b y [] ≡ cond b (y ∷ []) []
    value_cond true y = refl
    value_cond false y = refl

hazard_means : (q : Held) (w : ℕ) (o : Option Expr) (g : Option NodeId) (a b c lacking : Bool) → GuessOk q w o g → a ≡ (b || (not (is_some g) && c)) → c ≡ lacking → a ≡ (b || hazard_of o lacking)
hazard_means q w None None a b c lacking h e f = e ∙ ap (λ x. b || x) f
hazard_means q w (Some x) (Some g) a b c lacking h e f = e
hazard_means q w _ _ a b c lacking h e f = absurd h

module _ (job : Job) (k j : ℕ) (r : ReadStmt) (is : ReadRight job k j r) (p q z : Held) (m1 m2 : ℕ) (g1 : Kept p q m1) (g2 : Kept q z m2) (w : Work) (old : WorkOk job k j p w)
    (a : Answer) (wide : Wire q a.value (target_at job (target_of job.decls r)).width) (lack : Wire q a.lacks 1) (guess : GuessOk q (target_at job (target_of job.decls r)).width r.guess a.guess)
    (h : NodeId) (hazard : Wire z h 1) (made : Vec Made) (made_is : made.items ≡ w.made.items ++ made_of a.lacks a.guess) where
  abbrev after : Work
  after = record { env = env_with w.env r.name.name a.value; hazard = h; puts = w.puts; sets = w.sets; made = made; aims = w.aims }

  up : Kept p z (m1 + m2)
  up = kept_then p q z m1 m2 g1 g2

  abbrev t : ℕ
  t = target_of job.decls r

  guess_z : GuessOk z (target_at job t).width r.guess a.guess
  guess_z = guess_kept q z m2 (target_at job t).width r.guess a.guess g2 guess

  wide_z : Wire z a.value (target_at job t).width
  wide_z = wire_kept q z m2 a.value _ g2 wide

  same_width : (target_at job t).width ≡ width_of_slot (targets_of job.decls) r.target.name
  same_width = width_there r.target.name (targets_of job.decls) is.inside

  pub read_step : (ss : List Source) → ReadGives job k j r p w.env ss q a
      → ((c : Cells) → on c z.nodes h.0 ≡ (on c q.nodes w.hazard.0 || (not (is_some a.guess) && on c q.nodes a.lacks.0)))
      → WorkOk job k (suc j) z after × GoesBy job k j (stmts.Read r) p w ss z after
  unfolding GoesBy ReadGives
  read_step ss gives hazards =
      let x = is.slots in
      let f = fits_kept job p z (m1 + m2) (slots_at job k j) w up old.fits in (
        record {
          env = subst (λ s. Bound job s z after.env) (sym is.next)
              (bound_more job (scope_at job k j) z w.env r.name.name (sense kinds.Read (read_of job.decls (scope_at job k j) r).value 0) a.value (bound_kept job (scope_at job k j) p z (m1 + m2) w.env up old.env) is.new
              (subst (Wire z a.value) (sym is.width) wide_z));
          fits = record {
            hazard = hazard;
            put_count = f.put_count;
            puts = f.puts;
            set_count = f.set_count;
            sets = f.sets;
            made = subst (λ xs. MadeFit z xs made.items) (sym x.1) (subst (MadeFit z (slots_at job k j ++ own_slots job k (stmts.Read r) x.0)) (sym made_is)
                (made_fits job k x.0 (target_at job t).width z r r.guess a.guess a.lacks (slots_at job k j) w.made.items same_width (wire_kept q z m2 a.lacks 1 g2 lack) guess_z f.made));
            aim_count = f.aim_count;
            aims = f.aims;
          };
        },
        λ c v hints d sees st.
            let ri = gives c v hints d.done sees st.names in
            let o = means_kept job c p z (m1 + m2) (slots_at job k j) w _ up old.fits st.outcome in
            let value = g2.same c a.value.0 wide.inside ∙ ri.value in
            let lacks = g2.tests c a.lacks.0 lack.inside ∙ ri.lacks in
            let miss = orzero_kept c q z m2 (target_at job t).width a.guess g2 (guess_fits q (target_at job t).width r.guess a.guess guess) ∙ ri.guess in
            let words : word_at c z.nodes a.value.0 ≡ trees.word_read job.decls r (read_value job.decls v hints d.done r) =
            word_is c z.nodes a.value.0 wide_z.inside ∙ ap (λ n. word n (at c z.nodes a.value.0)) (wide_z.wide ∙ same_width) ∙ ap (word (width_of_slot (targets_of job.decls) r.target.name)) value in
            let before : on c q.nodes w.hazard.0 ≡ d.hazard = g1.tests c w.hazard.0 old.fits.hazard.inside ∙ st.outcome.hazard in
            record {
              names = subst (λ s. work.Names job s hints c z after.env (after_stmt job.decls v hints d (stmts.Read r)).done.names) (sym is.next)
                  (names_more job (scope_at job k j) hints c z w.env d.done.names r.name.name (sense kinds.Read (read_of job.decls (scope_at job k j) r).value 0) a.value _
                  (names_kept job (scope_at job k j) hints c p z (m1 + m2) w.env d.done.names up old.env.inside st.names) is.new refl words);
              outcome = record {
                hazard = hazard_means q (target_at job t).width r.guess a.guess (on c z.nodes h.0) d.hazard (on c q.nodes a.lacks.0) (read_lacks job.decls v d.done r) guess
                    (hazards c ∙ ap (λ b. b || (not (is_some a.guess) && on c q.nodes a.lacks.0)) before) ri.lacks;
                puts = o.puts;
                sets = o.sets;
                made = ap (λ xs. made_values c z xs made.items) x.1 ∙ ap (made_values c z (slots_at job k j ++ own_slots job k (stmts.Read r) x.0)) made_is
                    ∙ made_means job k x.0 (target_at job t).width c z r r.guess a.guess a.lacks (slots_at job k j) w.made.items d.guesses (read_lacks job.decls v d.done r) (miss_of job.decls hints d.done r.guess) guess_z f.made o.made lacks miss;
                aims = o.aims;
              };
            },
      )

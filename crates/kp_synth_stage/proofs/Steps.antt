-- What each statement does to the nodes of a stage.
use Rattle.std.proofs.Common.{◌≡◌, ◌∙◌, ℕ, suc, ◌<◌, List, [], ◌∷◌, ◌++◌, length, get_or, set, Option, Some, None, Bool, true, false, cond, not, refl, ap, sym, subst, arith, get_or-set_same, get_or-set_other}
use Rattle.std.proofs.lemmas.{List.append-nil, List.length-set, Bool.eqb-true, Bool.eqb-false, Bool.eq-eqb}
use Rattle.std.specs.{Prelude.is_some, Prelude.◌==◌, Vec.with_item}
use Rattle.kp_base.specs.{Check.ok, Check.◌>>=◌}
use Rattle.kp_bits.specs.Word.{Word}
use Rattle.kp_ast.specs.declared.{tree.Expr.Expr, tree.StmtKind.StmtKind, tree.Job.Job, widths.NameKind.NameKind}
use Rattle.kp_ast.specs.declared.tree.Named as tree
use Rattle.kp_ast.specs.declared.tree.StmtKind.TheVariants as stmts
use Rattle.kp_ast.specs.declared.widths.NameKind.TheVariants as kinds
use Rattle.kp_ast.specs.declared.widths.Scope.{Scope as Opened}
use Rattle.kp_width.specs.Names.{Sense, sense, Names, find, look_up, used, is_pipe, is_hint, declared_local}
use Rattle.kp_width.specs.declared.fault.Position.{Position}
use Rattle.kp_width.specs.declared.fault.Destination.TheVariants as to
use Rattle.kp_width.specs.Names as names
use Rattle.kp_width.specs.{Expressions.width_of, Expressions.value_of, Expressions.part_of, Statements.given, Widths.widths_of}
use Rattle.kp_width.proofs.{Parts.given_parts, Unbroken.Unbroken, Unbroken.bind_unbroken, Unbroken.answer_unbroken}
use Rattle.kp_machine.specs.Slots.{Slot, pipes_of, hints_of, number_of}
use Rattle.kp_machine.proofs.{Scopes.fresh_none, Scopes.found_sense, Scopes.IsSlot, Scopes.Placed, Cases.by_test, Text.local_no, Text.found_where}
use Rattle.kp_machine.specs.Trees as trees
use Rattle.kp_net.specs.{declared.node.NodeId.NodeId, Nodes.Cells, Nodes.word_at, Nodes.at, Widths.AllRight, Growth.Held, Growth.Wire, Growth.Kept}
use Rattle.kp_build.specs.Names.{Scope, Gives}
use Rattle.kp_design.proofs.Fitting.{width_there}
use Rattle.kp_design.specs.Numbers.{no_slot, pipe_at, hint_at}
use Rattle.kp_synth_registers.specs.Meaning.{put_value, PutFits}
use Rattle.kp_synth_stage.specs.{declared.row.Source.Source, declared.work.Work.Work, Doing.Doing, Doing.after_stmt, Doing.outcome_of}
use Rattle.kp_synth_stage.specs.{Work.Fits, Work.Means, Scopes.scope_at, Scopes.Bound}
use Rattle.kp_synth_stage.specs.inner.Standing.{slots_at, StmtRight, own_slots, WorkOk, Stands, GoesBy}
use Rattle.kp_synth_stage.{specs.inner.Statements.width_in, proofs.Scoping.scope_text, proofs.Scoping.scope_locals}
use Rattle.kp_synth_stage.proofs.Expressions.{plain_found, hinted_found, gives_is, placed_in}
use Rattle.kp_synth_stage.proofs.Binding.{bound_kept, bound_more, names_kept, names_more, fits_kept, means_kept, env_with}
use Rattle.kp_synth_stage.specs.inner.Statements as statements
use Rattle.kp_synth_stage.specs.inner.Standing as work

-- the state of the stage after a statement, and what it means
abbrev pub Steps : Job → ℕ → ℕ → StmtKind → Held → Work → Held → Work → Type 0
Steps job k j x p w q w' = WorkOk job k (suc j) q w' × ((ss : List Source) → GoesBy job k j x p w ss q w')

-- a name that a let binds
pub let_right : (job : Job) (k j : ℕ) (n : tree.Named) (e : Expr) → StmtRight job k j (stmts.Let n e)
    → (find (scope_at job k j) n.name ≡ None) × statements.IsRight job k j e
let_right job k j n e h =
    let s = scope_at job k j in
    let a = answer_unbroken (not (is_some (find s n.name))) _ (width_of job.decls (length job.decls) s e >>= (λ w. ok (declared_local s n.name (sense kinds.Let w 0)))).asked h.right in
    (fresh_none (find s n.name) a.0, (bind_unbroken (width_of job.decls (length job.decls) s e) (λ w. ok (declared_local s n.name (sense kinds.Let w 0))) a.1).0)

module _ (job : Job) (k j : ℕ) (p q : Held) (m : ℕ) (g : Kept p q m) (w : Work) (old : WorkOk job k j p w) where
  -- the scope and the guessed reads before the next statement
  pub fits_next : (x : StmtKind) (e : Scope) → StmtRight job k j x → ((n : ℕ) → own_slots job k x n ≡ []) → Fits job q (slots_at job k (suc j)) (record w { env = e })
  fits_next x e is none =
      let z = is.slots in
      let same : slots_at job k (suc j) ≡ slots_at job k j = z.1 ∙ ap (λ xs. slots_at job k j ++ xs) (none z.0) ∙ append-nil (slots_at job k j) in
      let f = fits_kept job p q m (slots_at job k j) w g old.fits in
      subst (λ ss. Fits job q ss (record w { env = e })) (sym same)
      (record { hazard = f.hazard; put_count = f.put_count; puts = f.puts; set_count = f.set_count; sets = f.sets; made = f.made; aim_count = f.aim_count; aims = f.aims })

  pub means_next : (x : StmtKind) (e : Scope) (c : Cells) (hints : ℕ → ℕ) (d d' : Doing) → StmtRight job k j x → ((n : ℕ) → own_slots job k x n ≡ []) → outcome_of hints d ≡ outcome_of hints d'
      → Means job c p (slots_at job k j) w (outcome_of hints d) → Means job c q (slots_at job k (suc j)) (record w { env = e }) (outcome_of hints d')
  means_next x e c hints d d' is none same' h =
      let z = is.slots in
      let same : slots_at job k (suc j) ≡ slots_at job k j = z.1 ∙ ap (λ xs. slots_at job k j ++ xs) (none z.0) ∙ append-nil (slots_at job k j) in
      let f = means_kept job c p q m (slots_at job k j) w (outcome_of hints d) g old.fits h in
      subst (λ ss. Means job c q ss (record w { env = e }) (outcome_of hints d')) (sym same)
      (subst (λ o. Means job c q (slots_at job k j) (record w { env = e }) o) same'
      (record { hazard = f.hazard; puts = f.puts; sets = f.sets; made = f.made; aims = f.aims }))

  module _ (unbroken : Unbroken (widths_of job)) (right : AllRight p.nodes) (n : tree.Named) (e : Expr) (node : NodeId) (is : StmtRight job k j (stmts.Let n e)) (wire : Wire q node (width_in job k j e).value) (gives : Gives p w.env e q node) where
    pub let_step : Steps job k j (stmts.Let n e) p w q (record w { env = env_with w.env n.name node })
    unfolding GoesBy
    let_step =
        let r = let_right job k j n e is in (
          record {
            env = subst (λ s. Bound job s q (env_with w.env n.name node)) (sym is.next)
                (bound_more job (scope_at job k j) q w.env n.name (sense kinds.Let (width_in job k j e).value 0) node (bound_kept job (scope_at job k j) p q m w.env g old.env) r.0 wire);
            fits = fits_next (stmts.Let n e) (env_with w.env n.name node) is (λ i. refl);
          },
          λ ss c v hints d sees h.
              let f = plain_found job unbroken k j p w.env right old.env c hints d.done.names h.names e is.free r.1 in
              let same = gives_is c p w.env e q node (trees.word_of job.decls d.done e) gives f.there in
              record {
                names = subst (λ s. work.Names job s hints c q (env_with w.env n.name node) (d.done.names ++ (n.name, trees.word_of job.decls d.done e) ∷ [])) (sym is.next)
                    (names_more job (scope_at job k j) hints c q w.env d.done.names n.name (sense kinds.Let (width_in job k j e).value 0) node (trees.word_of job.decls d.done e)
                    (names_kept job (scope_at job k j) hints c p q m w.env d.done.names g old.env.inside h.names) r.0 refl same);
                outcome = means_next (stmts.Let n e) (env_with w.env n.name node) c hints d (after_stmt job.decls v hints d (stmts.Let n e)) is (λ i. refl) refl h.outcome;
              },
        )

-- the value of a node is that of its word
abbrev pub at_value : Cells → Held → NodeId → ℕ
at_value c q n = (word_at c q.nodes n.0).value

pub at_is : (c : Cells) (q : Held) (n : NodeId) → at c q.nodes n.0 ≡ at_value c q n
unfolding at
at_is c q n = refl

-- LISTS that change at one index.
pub each_set : {X : Type 0} (P : ℕ → Option X → Type 0) (xs : List (Option X)) (x : ℕ) (n : X) → x < length xs → P x (Some n) → ((i : ℕ) → (i == x) ≡ false → P i (get_or xs i None))
    → (i : ℕ) → P i (get_or (set xs x (Some n)) i None)
each_set P xs x n l here others i = by_test (i == x)
    (λ y.
    let z : i ≡ x = eqb-true i x y in
    subst (λ k. P k (get_or (set xs x (Some n)) k None)) (sym z) (subst (P x) (sym (get_or-set_same xs x (Some n) None l)) here))
    (λ y. subst (P i) (sym (get_or-set_other xs x i (Some n) None (λ q. eqb-false i x y q))) (others i y))

put_set_means : (c : Cells) (p : Held) (xs : List (Option NodeId)) (x : ℕ) (n : NodeId) (v : ℕ) (f : ℕ → Option ℕ) (m : ℕ) → x < length xs → at c p.nodes n.0 ≡ v
    → ((i : ℕ) → i < m → put_value c p (get_or xs i None) ≡ f i) → (i : ℕ) → i < m → put_value c p (get_or (set xs x (Some n)) i None) ≡ trees.with_value x v f i
put_set_means c p xs x n v f m l is h = each_set (λ i o. i < m → put_value c p o ≡ trees.with_value x v f i) xs x n l
    (λ b. ap Some is ∙ sym (ap (λ t. cond t (Some v) (f x)) (eq-eqb x x refl)))
    (λ i y b. h i b ∙ sym (ap (λ t. cond t (Some v) (f i)) y))

-- a slot of the text, for the value that a statement gives it
pub record Given (job : Job) (k j : ℕ) (slots : List Slot) (n : List ℕ) (e : Expr) : Type 0 where
  pub inside : number_of slots n < length slots
  pub right : statements.IsRight job k j e
  pub width : (width_in job k j e).value ≡ (get_or slots (number_of slots n) no_slot).width

module _ (job : Job) (unbroken : Unbroken (widths_of job)) (k j : ℕ) where
  pub text_sense : (q : List ℕ) (m : Sense) → look_up (scope_at job k j).text q ≡ Some m → Placed job.decls q m
  text_sense q m e = placed_in job unbroken q m (ap (λ (names : Names). look_up names q) (sym (scope_text job k j)) ∙ e)

  given_right : (position : Position) (takes : NameKind → Bool) (slots : List Slot) → ((here : Opened) → names.takes position here ≡ takes) → takes kinds.Read ≡ false → takes kinds.Let ≡ false
      → ((q : List ℕ) (m : Sense) → Placed job.decls q m → takes m.kind ≡ true → IsSlot slots q m.width 0)
      → (n : tree.Named) (e : Expr) → Unbroken (given job.decls (scope_at job k j) position n e) → Given job k j slots n.name e
  given_right position takes slots same no_read no_let placed n e u =
      let s = scope_at job k j in
      let x = bind_unbroken (used s position n.name n.at) (λ m. value_of (part_of job.decls (length job.decls) s e) m.width (to.Named m.kind m.from)) u in
      let f = found_sense s.here _ position n.at (find s n.name) x.0 in
      let right : takes f.0.kind ≡ true = ap (λ g. g f.0.kind) (sym (same s.here)) ∙ f.2 in
      let g = given_parts job.decls (length job.decls) s e (used s position n.name n.at).value.width _ x.1 in
      let slot : IsSlot slots n.name f.0.width 0 = found_where s n.name f.0 f.1
      (λ l. local_no takes no_read no_let f.0.kind (scope_locals job k j n.name f.0 l) right)
      (λ none z. placed n.name f.0 (text_sense n.name f.0 z) right) in
      record { inside = slot.inside; right = g.0; width = g.1 ∙ sym (ap (λ (m : Sense). m.width) f.3) ∙ sym slot.width ∙ sym (width_there n.name slots slot.inside) }

  pub put_right : (n : tree.Named) (e : Expr) → StmtRight job k j (stmts.Put n e) → Given job k j (pipes_of job.decls) n.name e
  put_right n e h = given_right Position.Pipe is_pipe (pipes_of job.decls) (λ here. refl) refl refl (λ q m p. p.pipe) n e
      (bind_unbroken (given job.decls (scope_at job k j) Position.Pipe n e) (λ y. ok (scope_at job k j)) h.right).0

  pub aim_right : (n : tree.Named) (e : Expr) → StmtRight job k j (stmts.Aim n e) → Given job k j (hints_of job.decls) n.name e
  aim_right n e h = given_right Position.Hint is_hint (hints_of job.decls) (λ here. refl) refl refl (λ q m p. p.hinted) n e
      (bind_unbroken (given job.decls (scope_at job k j) Position.Hint n e) (λ y. ok (scope_at job k j)) h.right).0

module _ (job : Job) (k j : ℕ) (p q : Held) (m : ℕ) (g : Kept p q m) (w : Work) (old : WorkOk job k j p w) (unbroken : Unbroken (widths_of job)) (right : AllRight p.nodes) (n : tree.Named) (e : Expr) (node : NodeId) (wire : Wire q node (width_in job k j e).value) (gives : Gives p w.env e q node) where
  module _ (is : StmtRight job k j (stmts.Put n e)) (x : ℕ) (x_is : x ≡ number_of (pipes_of job.decls) n.name) where
    puts_are : (with_item w.puts x (Some node)).items ≡ set w.puts.items (number_of (pipes_of job.decls) n.name) (Some node)
    puts_are = ap (λ i. set w.puts.items i (Some node)) x_is

    pub put_step : Steps job k j (stmts.Put n e) p w q (record w { puts = with_item w.puts x (Some node) })
    unfolding GoesBy
    put_step =
        let r = put_right job unbroken k j n e is in
        let y = number_of (pipes_of job.decls) n.name in
        let l : y < length w.puts.items = let a = r.inside in let b = old.fits.put_count in omega arith in (
          let f = fits_next job k j p q m g w old (stmts.Put n e) w.env is (λ i. refl) in
              record {
                env = subst (λ s. Bound job s q w.env) (sym is.next) (bound_kept job (scope_at job k j) p q m w.env g old.env);
                fits = record {
                  hazard = f.hazard;
                  put_count = ap length puts_are ∙ length-set w.puts.items y (Some node) ∙ f.put_count;
                  puts = subst (λ xs. (i : ℕ) → PutFits q (pipe_at job i).width (get_or xs i None)) (sym puts_are)
                      (each_set (λ i o. PutFits q (pipe_at job i).width o) w.puts.items y node l (subst (Wire q node) r.width wire) (λ i e'. f.puts i));
                  set_count = f.set_count;
                  sets = f.sets;
                  made = f.made;
                  aim_count = f.aim_count;
                  aims = f.aims;
                };
              },
          λ ss c v hints d sees h.
              let f = plain_found job unbroken k j p w.env right old.env c hints d.done.names h.names e is.free r.right in
              let same : at_value c q node ≡ trees.value_of job.decls d.done e = ap (λ (y : Word). y.value) (gives_is c p w.env e q node (trees.word_of job.decls d.done e) gives f.there) in
              let o = means_next job k j p q m g w old (stmts.Put n e) w.env c hints d d is (λ i. refl) refl h.outcome in
              record {
                names = subst (λ s. work.Names job s hints c q w.env d.done.names) (sym is.next) (names_kept job (scope_at job k j) hints c p q m w.env d.done.names g old.env.inside h.names);
                outcome = record {
                  hazard = o.hazard;
                  puts = λ i b. ap (λ xs. put_value c q (get_or xs i None)) puts_are ∙ put_set_means c q w.puts.items y node (trees.value_of job.decls d.done e) d.done.puts _ l (at_is c q node ∙ same) o.puts i b;
                  sets = o.sets;
                  made = o.made;
                  aims = o.aims;
                };
              },
        )

  module _ (is : StmtRight job k j (stmts.Aim n e)) (x : ℕ) (x_is : x ≡ number_of (hints_of job.decls) n.name) where
    aims_are : (with_item w.aims x (Some node)).items ≡ set w.aims.items (number_of (hints_of job.decls) n.name) (Some node)
    aims_are = ap (λ i. set w.aims.items i (Some node)) x_is

    pub aim_step : Steps job k j (stmts.Aim n e) p w q (record w { aims = with_item w.aims x (Some node) })
    unfolding GoesBy
    aim_step =
        let r = aim_right job unbroken k j n e is in
        let y = number_of (hints_of job.decls) n.name in
        let l : y < length w.aims.items = let a = r.inside in let b = old.fits.aim_count in omega arith in (
          let f = fits_next job k j p q m g w old (stmts.Aim n e) w.env is (λ i. refl) in
              record {
                env = subst (λ s. Bound job s q w.env) (sym is.next) (bound_kept job (scope_at job k j) p q m w.env g old.env);
                fits = record {
                  hazard = f.hazard;
                  put_count = f.put_count;
                  puts = f.puts;
                  set_count = f.set_count;
                  sets = f.sets;
                  made = f.made;
                  aim_count = ap length aims_are ∙ length-set w.aims.items y (Some node) ∙ f.aim_count;
                  aims = subst (λ xs. (i : ℕ) → PutFits q (hint_at job i).width (get_or xs i None)) (sym aims_are)
                      (each_set (λ i o. PutFits q (hint_at job i).width o) w.aims.items y node l (subst (Wire q node) r.width wire) (λ i e'. f.aims i));
                };
              },
          λ ss c v hints d sees h.
              let f = hinted_found job unbroken k j p w.env right old.env c hints d.done.names h.names e r.right in
              let value = trees.value_with_hints job.decls d.done e hints in
              let same : at_value c q node ≡ value = ap (λ (y : Word). y.value) (gives_is c p w.env e q node _ gives f.there) in
              let o = means_next job k j p q m g w old (stmts.Aim n e) w.env c hints d d is (λ i. refl) refl h.outcome in
              record {
                names = subst (λ s. work.Names job s hints c q w.env d.done.names) (sym is.next) (names_kept job (scope_at job k j) hints c p q m w.env d.done.names g old.env.inside h.names);
                outcome = record {
                  hazard = o.hazard;
                  puts = o.puts;
                  sets = o.sets;
                  made = o.made;
                  aims = λ i b. ap (λ xs. put_value c q (get_or xs i None)) aims_are ∙ put_set_means c q w.aims.items y node value (d.done.aims hints) _ l (at_is c q node ∙ same) o.aims i b;
                };
              },
        )

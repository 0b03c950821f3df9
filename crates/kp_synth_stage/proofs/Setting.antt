-- A set: which rules it satisfies, and the state of the stage after it.
use Rattle.std.proofs.Common.{◌≡◌, ◌∙◌, ℕ, suc, ◌+◌, ◌<◌, List, length, get_or, set, Option, Some, None, Bool, true, false, cond, refl, ap, sym, subst, arith}
use Rattle.std.{proofs.lemmas.List.length-set, proofs.lemmas.Bool.eq-eqb, proofs.lemmas.Option.same_Some, specs.Prelude.is_some, specs.Vec.with_item}
use Rattle.std.specs.Option.{option_map}
use Rattle.kp_base.specs.Check.{ok, ◌>>=◌}
use Rattle.kp_bits.specs.Word.{Word}
use Rattle.kp_ast.specs.declared.tree.{Expr.Expr, ResultDecl.ResultDecl, Job.Job}
use Rattle.kp_ast.specs.declared.tree.Named as tree
use Rattle.kp_ast.specs.declared.tree.StmtKind.TheVariants as stmts
use Rattle.kp_width.specs.{Names.Sense, Names.nothing, Names.find, Names.look_up, Names.used, Names.is_result, Expressions.value_of, Expressions.part_of}
use Rattle.kp_width.specs.declared.fault.Position.{Position}
use Rattle.kp_width.specs.declared.fault.Destination.TheVariants as to
use Rattle.kp_width.specs.{Declarations.address_width, Statements.given, Statements.when_of, Widths.widths_of}
use Rattle.kp_width.proofs.{Unbroken.Unbroken, Unbroken.bind_unbroken, Found.none_of_two, Parts.given_parts}
use Rattle.kp_stage.specs.{Facts.facts_of, declared.rules.Rule.Rule, Rules.ask_expr, Rules.ask_option}
use Rattle.kp_machine.{specs.Slots.targets_of, specs.Slots.number_of, specs.Slots.result_named, proofs.Results.named_stands}
use Rattle.kp_machine.proofs.{Scopes.IsSlot, Scopes.results_fit, Scopes.found_sense, Scopes.storage_kind, Text.local_no, Text.found_where, Text.declared_right}
use Rattle.kp_machine.specs.Trees as trees
use Rattle.kp_pipeline.specs.Sequential.{first_value}
use Rattle.kp_net.specs.{declared.node.NodeId.NodeId, Nodes.Cells, Nodes.at, Nodes.on, Widths.AllRight, Growth.Held, Growth.Wire, Growth.Kept}
use Rattle.kp_net.proofs.Growing.{wire_kept, kept_then}
use Rattle.kp_fwd.specs.Forward.{enable_on}
use Rattle.kp_build.specs.Names.{Scope, Gives}
use Rattle.kp_synth_registers.specs.{declared.outcome.Set.Set, Holding.optional, Meaning.SetFits, Meaning.set_value}
use Rattle.kp_synth_registers.proofs.Growth.{set_kept, set_fits}
use Rattle.kp_design.proofs.Fitting.{width_there}
use Rattle.kp_design.specs.Numbers.{target_at}
use Rattle.kp_synth_stage.specs.{declared.work.Work.Work, Scopes.scope_at, Scopes.Bound}
use Rattle.kp_synth_stage.specs.inner.Standing.{StmtRight, WorkOk, Stands, GoesBy}
use Rattle.kp_synth_stage.specs.inner.Statements.{width_in, OptionRight, OptionGives, target_named}
use Rattle.kp_synth_stage.proofs.{Scoping.scope_locals, Expressions.plain_found, Expressions.gives_is, Expressions.placed_in}
use Rattle.kp_synth_stage.proofs.Binding.{bound_kept, names_kept}
use Rattle.kp_synth_stage.proofs.Steps.{Steps, each_set, fits_next, means_next, text_sense, at_is}
use Rattle.kp_synth_stage.proofs.Taking.{HasWidths, when_means, when_right}
use Rattle.kp_synth_stage.specs.inner.Standing as work
use Rattle.kp_synth_stage.specs.inner.Statements as statements

-- the rules that a set keeps
pub record SetRight (job : Job) (k j : ℕ) (n : tree.Named) (e : Expr) (when : Option Expr) : Type 0 where
  pub result : ResultDecl
  pub named : result_named job.decls n.name ≡ Some result
  pub inside : number_of (targets_of job.decls) result.target.name < length (targets_of job.decls)
  pub right : statements.IsRight job k j e
  pub width : (width_in job k j e).value ≡ (target_at job (number_of (targets_of job.decls) result.target.name)).width
  pub tested : OptionRight job k j when
  pub one : HasWidths job k j 1 when
  pub free : (ask_expr (facts_of job) Rule.E25 k e ≡ None) × (ask_option (facts_of job) Rule.E25 k when ≡ None)

target_is : (job : Job) (u : Unbroken (widths_of job)) (k j : ℕ) (n : List ℕ) (m : Sense) → look_up (scope_at job k j).text n ≡ Some m → is_result m.kind ≡ true
    → (r : ResultDecl) × (result_named job.decls n ≡ Some r) × ((a : ℕ) × IsSlot (targets_of job.decls) r.target.name m.width a)
target_is job u k j n m e h =
    let p = (text_sense job u k j n m e).result h in
    let stands = (named_stands job.decls n p.0 p.1).0 in
    let fit = results_fit job.decls 0 0 nothing job.decls refl (declared_right job u) stands.index p.0 stands.there in
    let at = (placed_in job u p.0.target.name fit.sense fit.found).target (storage_kind (is_some p.0.address) fit.sense.kind fit.stored) in
    (p.0, p.1, (address_width fit.sense.kind, subst (λ w. IsSlot (targets_of job.decls) p.0.target.name w (address_width fit.sense.kind)) (fit.width ∙ p.2) at))

pub set_right : (job : Job) (u : Unbroken (widths_of job)) (k j : ℕ) (n : tree.Named) (e : Expr) (when : Option Expr) → StmtRight job k j (stmts.Set n e when) → SetRight job k j n e when
set_right job u k j n e when is =
    let s = scope_at job k j in
    let all = bind_unbroken (given job.decls s Position.Result n e) (λ y. when_of job.decls s when >>= (λ z. ok s)) is.right in
    let x = bind_unbroken (used s Position.Result n.name n.at) (λ m. value_of (part_of job.decls (length job.decls) s e) m.width (to.Named m.kind m.from)) all.0 in
    let w = (bind_unbroken (when_of job.decls s when) (λ z. ok s) all.1).0 in
    let f = found_sense s.here _ Position.Result n.at (find s n.name) x.0 in
    let g = given_parts job.decls (length job.decls) s e (used s Position.Result n.name n.at).value.width _ x.1 in
    let r : (r : ResultDecl) × (result_named job.decls n.name ≡ Some r) × ((a : ℕ) × IsSlot (targets_of job.decls) r.target.name f.0.width a) = found_where s n.name f.0 f.1
    (λ l. local_no is_result refl refl f.0.kind (scope_locals job k j n.name f.0 l) f.2)
    (λ none z. target_is job u k j n.name f.0 z f.2) in
    let c = when_right job k j when w in
    record {
      result = r.0;
      named = r.1;
      inside = r.2.1.inside;
      right = g.0;
      width = g.1 ∙ sym (ap (λ (m : Sense). m.width) f.3) ∙ sym r.2.1.width ∙ sym (width_there r.0.target.name (targets_of job.decls) r.2.1.inside);
      tested = c.0;
      one = c.1;
      free = none_of_two (ask_expr (facts_of job) Rule.E25 k e) (ask_option (facts_of job) Rule.E25 k when) is.free;
    }

-- the target that is found
target_found : (job : Job) (k j : ℕ) (n : tree.Named) (e : Expr) (when : Option Expr) (is : SetRight job k j n e when) → target_named job.decls (targets_of job.decls) n.name ≡ Some (number_of (targets_of job.decls) is.result.target.name)
target_found job k j n e when is = ap (option_map (λ (r : ResultDecl). number_of (targets_of job.decls) r.target.name)) is.named

pub target_there : (job : Job) (k j : ℕ) (n : tree.Named) (e : Expr) (when : Option Expr) → SetRight job k j n e when → target_named job.decls (targets_of job.decls) n.name ≡ None → ⊥
target_there job k j n e when is none = let f : None ≡ Some (number_of (targets_of job.decls) is.result.target.name) = sym none ∙ target_found job k j n e when is in cc

first_none : (o : Option ℕ) → first_value o None ≡ o
first_none None = refl
first_none (Some v) = refl

set_chosen : (h : Bool) (o : Option ℕ) (v : ℕ) → first_value o (optional h v) ≡ cond h (first_value o (Some v)) o
set_chosen true o v = refl
set_chosen false o v = first_none o

chosen_same : (h : Bool) (o : Option ℕ) → o ≡ cond h (first_value o None) o
chosen_same true o = sym (first_none o)
chosen_same false o = refl

set_set_means : (c : Cells) (p : Held) (xs : List (Option Set)) (x : ℕ) (n : Set) (h : Bool) (v : ℕ) (f : ℕ → Option ℕ) (m : ℕ) → x < length xs → set_value c p (Some n) ≡ first_value (f x) (optional h v)
    → ((i : ℕ) → i < m → set_value c p (get_or xs i None) ≡ f i)
    → (i : ℕ) → i < m → set_value c p (get_or (set xs x (Some n)) i None) ≡ cond h (first_value (f i) (trees.with_value x v (λ u. None) i)) (f i)
set_set_means c p xs x n h v f m l is old = each_set (λ i o. i < m → set_value c p o ≡ cond h (first_value (f i) (trees.with_value x v (λ u. None) i)) (f i)) xs x n l
    (λ b. is ∙ set_chosen h (f x) v ∙ sym (ap (λ t. cond h (first_value (f x) (cond t (Some v) None)) (f x)) (eq-eqb x x refl)))
    (λ i y b. old i b ∙ chosen_same h (f i) ∙ sym (ap (λ t. cond h (first_value (f i) (cond t (Some v) None)) (f i)) y))

-- what is done under a condition
done_sets : (h : Bool) (a b : trees.Progress) (i : ℕ) → (cond h a b).sets i ≡ cond h (a.sets i) (b.sets i)
done_sets true a b i = refl
done_sets false a b i = refl

done_same : {X : Type 0} (f : trees.Progress → X) (h : Bool) (a b : trees.Progress) → f a ≡ f b → f b ≡ f (cond h a b)
done_same f true a b e = sym e
done_same f false a b e = refl

-- the nodes of a set's value and of its condition, where x is its target
pub record SetNodes (job : Job) (k j : ℕ) (n : tree.Named) (e : Expr) (when : Option Expr) (x : ℕ) (p q : Held) (env : Scope) (node enabled : NodeId) : Type 0 where
  pub result : ResultDecl
  pub named : result_named job.decls n.name ≡ Some result
  pub place : number_of (targets_of job.decls) result.target.name ≡ x
  pub inside : x < length (targets_of job.decls)
  pub wire : Wire q node (target_at job x).width
  pub value : (c : Cells) (hints : ℕ → ℕ) (done : trees.Progress) → work.Names job (scope_at job k j) hints c p env done.names → at c q.nodes node.0 ≡ trees.value_of job.decls done e
  pub holds : (c : Cells) (hints : ℕ → ℕ) (done : trees.Progress) → work.Names job (scope_at job k j) hints c p env done.names → on c q.nodes enabled.0 ≡ trees.holds job.decls done when
  pub up : (m : ℕ) × Kept p q m

pub set_nodes : (job : Job) (unbroken : Unbroken (widths_of job)) (k j : ℕ) (n : tree.Named) (e : Expr) (when : Option Expr) (is : SetRight job k j n e when) (p p1 p2 q : Held) (n1 n2 n3 : ℕ) → Kept p p1 n1 → Kept p1 p2 n2 → Kept p2 q n3
    → (env : Scope) → Bound job (scope_at job k j) p env → AllRight p.nodes → AllRight p1.nodes → (node enabled : NodeId) (test : Option NodeId) → Wire p1 node (width_in job k j e).value → Gives p env e p1 node → OptionGives p1 env when p2 test
    → ((c : Cells) → on c q.nodes enabled.0 ≡ enable_on c p2 test) → (x : ℕ) → target_named job.decls (targets_of job.decls) n.name ≡ Some x → SetNodes job k j n e when x p q env node enabled
set_nodes job unbroken k j n e when is p p1 p2 q n1 n2 n3 g1 g2 g3 env bound a0 a1 node enabled test wire gives v2 enables x found =
    let later = kept_then p1 p2 q n2 n3 g2 g3 in
    let place : number_of (targets_of job.decls) is.result.target.name ≡ x = same_Some _ _ (sym (target_found job k j n e when is) ∙ found) in
    record {
      result = is.result;
      named = is.named;
      place = place;
      inside = omega (arith, is.inside, place);
      wire = wire_kept p1 q (n2 + n3) node _ later (subst (Wire p1 node) (is.width ∙ ap (λ i. (target_at job i).width) place) wire);
      value = λ c hints done names.
          later.same c node.0 wire.inside ∙ at_is c p1 node
          ∙ ap (λ (y : Word). y.value) (gives_is c p env e p1 node (trees.word_of job.decls done e) gives (plain_found job unbroken k j p env a0 bound c hints done.names names e is.free.0 is.right).there);
      holds = λ c hints done names. enables c ∙ when_means job unbroken k j p1 env a1 (bound_kept job (scope_at job k j) p p1 n1 env g1 bound) c hints done
          (names_kept job (scope_at job k j) hints c p p1 n1 env done.names g1 bound.inside names) when is.free.1 is.tested p2 test v2;
      up = (n1 + (n2 + n3), kept_then p p1 q n1 (n2 + n3) g1 later);
    }

module _ (job : Job) (k j : ℕ) (n : tree.Named) (e : Expr) (when : Option Expr) (right : StmtRight job k j (stmts.Set n e when)) (p q z : Held) (m : ℕ) (g : Kept q z m) (w : Work) (old : WorkOk job k j p w)
    (x : ℕ) (node enabled : NodeId) (nodes : SetNodes job k j n e when x p q w.env node enabled) where
  -- what was set before
  pub before_fits : SetFits q (target_at job x).width (get_or w.sets.items x None)
  before_fits = set_fits p q nodes.up.0 _ _ nodes.up.1 (old.fits.sets x)

  pub place_fits : x < length w.sets.items
  place_fits = omega (arith, nodes.inside, old.fits.set_count)

  up : Kept p z (nodes.up.0 + m)
  up = kept_then p q z nodes.up.0 m nodes.up.1 g

  module _ (after : Set) (fits : SetFits z (target_at job x).width (Some after))
      (value : (c : Cells) → set_value c z (Some after) ≡ first_value (set_value c q (get_or w.sets.items x None)) (optional (on c q.nodes enabled.0) (at c q.nodes node.0))) where
    pub set_step : Steps job k j (stmts.Set n e when) p w z (record w { sets = with_item w.sets x (Some after) })
    unfolding GoesBy
    set_step = (
      let f = fits_next job k j p z (nodes.up.0 + m) up w old (stmts.Set n e when) w.env right (λ i. refl) in
          record {
            env = subst (λ s. Bound job s z w.env) (sym right.next) (bound_kept job (scope_at job k j) p z (nodes.up.0 + m) w.env up old.env);
            fits = record {
              hazard = f.hazard;
              put_count = f.put_count;
              puts = f.puts;
              made = f.made;
              aim_count = f.aim_count;
              aims = f.aims;
              set_count = length-set w.sets.items x (Some after) ∙ f.set_count;
              sets = each_set (λ i o. SetFits z (target_at job i).width o) w.sets.items x after place_fits fits (λ i e'. f.sets i);
            };
          },
      λ ss c v hints d sees h.
          let o = means_next job k j p z (nodes.up.0 + m) up w old (stmts.Set n e when) w.env c hints d d right (λ i. refl) refl h.outcome in
          let b = trees.holds job.decls d.done when in
          let vv = trees.value_of job.decls d.done e in
          let before : set_value c q (get_or w.sets.items x None) ≡ d.done.sets x = set_kept c p q nodes.up.0 _ _ nodes.up.1 (old.fits.sets x) ∙ h.outcome.sets x nodes.inside in
          let holds = nodes.holds c hints d.done h.names in
          let number = nodes.value c hints d.done h.names in
          let new : set_value c z (Some after) ≡ first_value (d.done.sets x) (optional b vv) = value c ∙ (λ i. first_value (before i) (optional (holds i) (number i))) in
          let more = trees.with_set job.decls d.done (Some nodes.result) vv in
          let is_more : trees.with_set job.decls d.done (result_named job.decls n.name) vv ≡ more = ap (λ y. trees.with_set job.decls d.done y vv) nodes.named in
          let P : trees.Progress → Type 0 = λ y. Stands job k (suc j) hints c z (record w { sets = with_item w.sets x (Some after) }) (record d { done = cond b y d.done }) in
          subst P (sym is_more)
          (record {
            names = subst (λ s. work.Names job s hints c z w.env (cond b more d.done).names) (sym right.next)
                (subst (λ vs. work.Names job (scope_at job k j) hints c z w.env vs) (done_same (λ y. y.names) b more d.done refl)
                (names_kept job (scope_at job k j) hints c p z (nodes.up.0 + m) w.env d.done.names up old.env.inside h.names));
            outcome = record {
              hazard = o.hazard;
              puts = λ i l. o.puts i l ∙ done_same (λ y. y.puts i) b more d.done refl;
              sets = λ i l. set_set_means c z w.sets.items x after b vv d.done.sets _ place_fits new o.sets i l
                  ∙ ap (λ y. cond b (first_value (d.done.sets i) (trees.with_value y vv (λ u. None) i)) (d.done.sets i)) (sym nodes.place)
                  ∙ sym (done_sets b more d.done i);
              made = o.made;
              aims = λ i l. o.aims i l ∙ done_same (λ y. y.aims hints i) b more d.done refl;
            };
          }),
    )

-- A put and a set: what they change in the lists is what they change in the abstract machine, and values keep their widths.
use Rattle.std.proofs.Common.{◌≡◌, ◌∙◌, ℕ, ◌^◌, ◌<◌, List, Option, Some, None, true, cond, length, get_or, refl, ap, sym, subst}
use Rattle.std.proofs.lemmas.{Bool.eqb-true, List.length-set}
use Rattle.std.specs.Prelude.{is_some, slice_get, slice_index, unwrap_or, ◌==◌}
use Rattle.kp_bits.specs.Word.{Word}
use Rattle.kp_ast.specs.declared.tree.{Expr.Expr, ResultDecl.ResultDecl, Decl.Decl, Job.Job}
use Rattle.kp_ast.specs.declared.tree.Named as tree
use Rattle.kp_width.specs.Names.{Sense, Names, Scoped, nothing, look_up, find, used, is_pipe, is_result}
use Rattle.kp_width.specs.declared.fault.Position.{Position}
use Rattle.kp_width.specs.declared.fault.Destination.TheVariants as to
use Rattle.kp_width.specs.{Expressions.part_of, Expressions.value_of, Declarations.address_width, Statements.given, Widths.widths_of}
use Rattle.kp_width.proofs.Unbroken.{Unbroken, bind_unbroken}
use Rattle.kp_stage.specs.{Facts.facts_of, Rules.ask_expr, Rules.all_rules}
use Rattle.kp_pipeline.specs.Sequential.{Instruction, first_value}
use Rattle.kp_machine.specs.Slots.{Slot, targets_of, pipes_of, number_of, width_of, result_named}
use Rattle.kp_machine.{specs.Trees.Progress, specs.Trees.with_value, specs.Trees.with_put, specs.Trees.with_set, proofs.Results.named_stands}
use Rattle.kp_machine.proofs.{Scopes.IsSlot, Scopes.number_slot, Scopes.found_sense, Scopes.results_fit, Scopes.storage_kind, Cases.by_test}
use Rattle.kp_machine.proofs.Text.{text, placed, declared_right, local_no, found_where}
use Rattle.kp_machine.specs.Trees as trees
use Rattle.kp_seq.specs.inner.{Tables.Laid, Steps.Under, Steps.word_in, Steps.with_pipe, Steps.with_first, Steps.with_result, Ready.AreTables}
use Rattle.kp_seq.proofs.{Stage.Named, Changes.set_seen, Changes.put_same, Changes.set_same, Turns.given_fits, Plain.within}

first_fits : (o : Option ℕ) (v b w : ℕ) → v < 2 ^ w → ((x : ℕ) → o ≡ Some x → x < 2 ^ w) → first_value o (Some v) ≡ Some b → b < 2 ^ w
first_fits None v b w h old e = let i : v ≡ b = cc in subst (λ z. z < 2 ^ w) i h
first_fits (Some x) v b w h old e = old b e

-- the lists of pipes and results, for an instruction as it entered the stage
pub record Lists (ds : List Decl) (c : Instruction) (done : Progress) (u : Under) : Type 0 where
  pub pipes : (p : ℕ) → slice_index u.pipes p ≡ unwrap_or (done.puts p) (c.pipes p)
  pub results : (r : ℕ) → get_or u.results r None ≡ first_value (c.results r) (done.sets r)
  pub pipe_fits : (p : ℕ) (x : Slot) → slice_get (pipes_of ds) p ≡ Some x → slice_index u.pipes p < 2 ^ x.width
  pub result_fits : (r : ℕ) (x : Slot) (v : ℕ) → slice_get (targets_of ds) r ≡ Some x → get_or u.results r None ≡ Some v → v < 2 ^ x.width
  pub pipe_count : length u.pipes ≡ length (pipes_of ds)
  pub result_count : length u.results ≡ length (targets_of ds)

module _ (job : Job) (unbroken : Unbroken (widths_of job)) (t : Laid) (tables : AreTables job t) (rule : _) (is25 : slice_get all_rules 10 ≡ Some rule) (k : ℕ) (s : Scoped) (done : Progress) (u : Under) (now : Named job unbroken t tables rule is25 k s done u) (c : Instruction) (lists : Lists job.decls c done u) where
  abbrev text_names : Names
  text_names = text job unbroken

  of_text : (q : List ℕ) (m : Sense) → look_up s.text q ≡ Some m → look_up text_names q ≡ Some m
  of_text q m e = ap (λ (names : Names). look_up names q) (sym now.of_text) ∙ e

  -- a pipe that is put
  pub put_turn : (n : tree.Named) (e : Expr) → ask_expr (facts_of job) rule k e ≡ None → Unbroken (given job.decls s Position.Pipe n e)
      → Lists job.decls c (with_put done (number_of (pipes_of job.decls) n.name) (trees.value_of job.decls done e)) (with_pipe u (number_of t.pipes n.name) (word_in t u e).value)
  put_turn n e free right =
      let x = bind_unbroken (used s Position.Pipe n.name n.at) (λ m. value_of (part_of job.decls (length job.decls) s e) m.width (to.Named m.kind m.from)) right in
      let f = found_sense s.here _ Position.Pipe n.at (find s n.name) x.0 in
      let g = given_fits job unbroken t tables rule is25 k s done u now e (used s Position.Pipe n.name n.at).value.width _ free x.1 in
      let at : IsSlot (pipes_of job.decls) n.name f.0.width 0 = found_where s n.name f.0 f.1
      (λ l. local_no is_pipe refl refl f.0.kind (now.locals n.name f.0 l) f.2)
      (λ none z. (placed job unbroken n.name f.0 (of_text n.name f.0 z)).pipe f.2) in
      let p : ℕ = number_of (pipes_of job.decls) n.name in
      let v : ℕ = trees.value_of job.decls done e in
      let w : f.0.width ≡ (used s Position.Pipe n.name n.at).value.width = ap (λ (m : Sense). m.width) f.3 in
      let inside : p < length u.pipes = within p (length (pipes_of job.decls)) (length u.pipes) at.inside lists.pipe_count in
      let fits : v < 2 ^ width_of (pipes_of job.decls) n.name = subst (λ y. v < 2 ^ y) (g.1.width ∙ sym w ∙ sym at.width) g.1.word.fits in
      subst (λ y. Lists job.decls c (with_put done p v) (with_pipe u y (word_in t u e).value)) (sym (ap (λ ss. number_of ss n.name) tables.pipes))
      (subst (λ y. Lists job.decls c (with_put done p v) (with_pipe u p y)) (sym (ap (λ (y : Word). y.value) g.0))
      (record {
        pipes = put_same u.pipes done.puts c.pipes p v inside lists.pipes;
        results = lists.results;
        pipe_fits = λ i y is. subst (λ b. b < 2 ^ y.width) (sym (set_seen u.pipes p v 0 i inside))
            (by_test (i == p)
            (λ yes. let j : i ≡ p = eqb-true i p yes in
            let wy : y.width ≡ width_of (pipes_of job.decls) n.name = number_slot (pipes_of job.decls) n.name y at.inside (ap (slice_get (pipes_of job.decls)) (sym j) ∙ is) in
            subst (λ b. cond b v (slice_index u.pipes i) < 2 ^ y.width) (sym yes) (subst (λ z. v < 2 ^ z) (sym wy) fits))
            (λ no_. subst (λ b. cond b v (slice_index u.pipes i) < 2 ^ y.width) (sym no_) (lists.pipe_fits i y is)));
        result_fits = lists.result_fits;
        pipe_count = length-set u.pipes p v ∙ lists.pipe_count;
        result_count = lists.result_count;
      }))

  -- the target of a result, which is as wide
  target_is : (n : List ℕ) (m : Sense) → look_up s.text n ≡ Some m → is_result m.kind ≡ true
      → (r : ResultDecl) × (result_named job.decls n ≡ Some r) × ((a : ℕ) × IsSlot (targets_of job.decls) r.target.name m.width a)
  target_is n m e h =
      let p = (placed job unbroken n m (of_text n m e)).result h in
      let stands = (named_stands job.decls n p.0 p.1).0 in
      let fit = results_fit job.decls 0 0 nothing job.decls refl (declared_right job unbroken) stands.index p.0 stands.there in
      let at = (placed job unbroken p.0.target.name fit.sense fit.found).target (storage_kind (is_some p.0.address) fit.sense.kind fit.stored) in
      (p.0, p.1, (address_width fit.sense.kind, subst (λ w. IsSlot (targets_of job.decls) p.0.target.name w (address_width fit.sense.kind)) (fit.width ∙ p.2) at))

  -- a result that is set, if its condition holds
  pub set_turn : (n : tree.Named) (e : Expr) → ask_expr (facts_of job) rule k e ≡ None → Unbroken (given job.decls s Position.Result n e)
      → Lists job.decls c (with_set job.decls done (result_named job.decls n.name) (trees.value_of job.decls done e)) (with_result t u (result_named t.decls n.name) (word_in t u e).value)
  set_turn n e free right =
      let x = bind_unbroken (used s Position.Result n.name n.at) (λ m. value_of (part_of job.decls (length job.decls) s e) m.width (to.Named m.kind m.from)) right in
      let f = found_sense s.here _ Position.Result n.at (find s n.name) x.0 in
      let g = given_fits job unbroken t tables rule is25 k s done u now e (used s Position.Result n.name n.at).value.width _ free x.1 in
      let r = found_where s n.name f.0 f.1
      (λ l. local_no is_result refl refl f.0.kind (now.locals n.name f.0 l) f.2)
      (λ none z. target_is n.name f.0 z f.2) in
      let p : ℕ = number_of (targets_of job.decls) r.0.target.name in
      let v : ℕ = trees.value_of job.decls done e in
      let w : f.0.width ≡ (used s Position.Result n.name n.at).value.width = ap (λ (m : Sense). m.width) f.3 in
      let inside : p < length u.results = within p (length (targets_of job.decls)) (length u.results) r.2.1.inside lists.result_count in
      let fits : v < 2 ^ width_of (targets_of job.decls) r.0.target.name = subst (λ y. v < 2 ^ y) (g.1.width ∙ sym w ∙ sym r.2.1.width) g.1.word.fits in
      let here : Lists job.decls c (with_set job.decls done (Some r.0) v) (with_first u p v) = record {
        pipes = lists.pipes;
        results = set_same u.results done.sets c.results p v inside lists.results;
        pipe_fits = lists.pipe_fits;
        result_fits = λ i y b is held. by_test (i == p)
            (λ yes. let j : i ≡ p = eqb-true i p yes in
            let wy : y.width ≡ width_of (targets_of job.decls) r.0.target.name = number_slot (targets_of job.decls) r.0.target.name y r.2.1.inside (ap (slice_get (targets_of job.decls)) (sym j) ∙ is) in
            let h : first_value (get_or u.results p None) (Some v) ≡ Some b =
            sym (ap (λ z. cond z (first_value (get_or u.results p None) (Some v)) (get_or u.results i None)) yes) ∙ sym (set_seen u.results p (first_value (get_or u.results p None) (Some v)) None i inside) ∙ held in
            first_fits (get_or u.results p None) v b y.width (subst (λ z. v < 2 ^ z) (sym wy) fits)
            (λ old o. lists.result_fits p y old (ap (slice_get (targets_of job.decls)) (sym j) ∙ is) o) h)
            (λ no_. lists.result_fits i y b is (sym (ap (λ z. cond z (first_value (get_or u.results p None) (Some v)) (get_or u.results i None)) no_) ∙ sym (set_seen u.results p (first_value (get_or u.results p None) (Some v)) None i inside) ∙ held));
        pipe_count = lists.pipe_count;
        result_count = length-set u.results p _ ∙ lists.result_count;
      } in
      subst (λ y. Lists job.decls c (with_set job.decls done (result_named job.decls n.name) v) (with_result t u (result_named y n.name) (word_in t u e).value)) (sym tables.decls)
      (subst (λ y. Lists job.decls c (with_set job.decls done (result_named job.decls n.name) v) (with_result t u (result_named job.decls n.name) y)) (sym (ap (λ (y : Word). y.value) g.0))
      (subst (λ o. Lists job.decls c (with_set job.decls done o v) (with_result t u o v)) (sym r.1)
      (subst (λ y. Lists job.decls c (with_set job.decls done (Some r.0) v) (with_first u y v)) (sym (ap (λ ss. number_of ss r.0.target.name) tables.targets)) here)))

-- A read: its value is that in the abstract machine, as a word of its target's width.
use Rattle.std.proofs.Common.{◌≡◌, ◌∙◌, ℕ, ◌^◌, ◌<◌, ◌≤◌, List, Option, Some, None, cond, not, ◌||◌, length, get_or, refl, ap, sym, subst}
use Rattle.std.proofs.lemmas.{Bool.cond_both, Nat.pow_pos, Option.get_or_from_slice_get}
use Rattle.std.specs.{Prelude.is_some, Prelude.slice_get, List.position}
use Rattle.kp_base.specs.{Check.ok, Check.◌>>=◌}
use Rattle.kp_bits.specs.Word.{Word}
use Rattle.kp_ast.specs.{Expressions.is_same_name, declared.tree.Expr.Expr, declared.tree.ReadStmt.ReadStmt, declared.tree.Job.Job}
use Rattle.kp_ast.specs.Expressions as values
use Rattle.kp_ast.specs.declared.tree.StmtKind.TheVariants as stmts
use Rattle.kp_ast.specs.declared.widths.NameKind.TheVariants as kinds
use Rattle.kp_width.specs.Names.{Sense, sense, Names, Scoped, look_up, find, is_register, is_file, declared_local}
use Rattle.kp_width.specs.{Expressions.part_of, Expressions.value_of, Declarations.kept, Declarations.storage_of, Declarations.address_width}
use Rattle.kp_width.specs.declared.fault.Position.{Position}
use Rattle.kp_width.specs.declared.fault.Destination.TheVariants as to
use Rattle.kp_width.specs.{Statements.when_of, Statements.address_of, Statements.read_of, Statements.statement_of, Widths.widths_of}
use Rattle.kp_width.proofs.{Unbroken.Unbroken, Unbroken.bind_unbroken, Unbroken.answer_unbroken, Found.none_of_two, Found.storage_takes}
use Rattle.kp_stage.specs.{Facts.facts_of, Rules.ask_option, Rules.ask_values, Rules.all_rules}
use Rattle.kp_machine.specs.{Slots.Slot, Slots.targets_of, Slots.number_of, Slots.width_of, Trees.Progress, Trees.with_name, Trees.word_read}
use Rattle.kp_machine.proofs.{Scopes.IsSlot, Scopes.slot_of, Scopes.found_sense, Scopes.storage_kind, Scopes.fresh_none, Names.IsIn}
use Rattle.kp_machine.{proofs.Text.placed, proofs.Text.local_no, proofs.Text.found_where, proofs.Widths.job_fine, specs.Words.no_slot, specs.Words.state_in}
use Rattle.kp_machine.specs.Trees as trees
use Rattle.kp_seq.specs.inner.{Tables.Laid, Steps.Under, Steps.fitted, Steps.holds, Steps.address_in, Fits.FitSlots, Ready.AreTables}
use Rattle.kp_seq.proofs.{Stage.Named, Start.target_width, Start.word_fits, Start.fitted_is, Trees.value_read, Trees.address_read}
use Rattle.kp_seq.proofs.Turns.{holds_same, address_same, name_bound}
use Rattle.kp_seq.specs.inner.Steps as steps

pub number_get : (ss : List Slot) (q : List ℕ) → IsIn ss q → (get_or ss (number_of ss q) no_slot).width ≡ width_of ss q
number_get ss q h =
    let s = slot_of ss q h in
    ap (λ (z : Slot). z.width) (get_or_from_slice_get ss (number_of ss q) s.0 no_slot s.1) ∙ s.2

module _ (job : Job) (unbroken : Unbroken (widths_of job)) (t : Laid) (tables : AreTables job t) (rule : _) (is25 : slice_get all_rules 10 ≡ Some rule) (k : ℕ) (s : Scoped) (done : Progress) (u : Under) (now : Named job unbroken t tables rule is25 k s done u) (words : List (List ℕ)) (fit : FitSlots (targets_of job.decls) words) where
  address_read_same : (r : ReadStmt) (guess : Option Expr) → address_in t u r.address ≡ trees.address_of job.decls done r.address
      → steps.address_read t u r guess ≡ address_read job.decls (state_in words) done r guess
  address_read_same r None e = e
  address_read_same r (Some g) e = refl

  pub read_turn : (r : ReadStmt) (i : ℕ) → ask_values (facts_of job) rule k (stmts.Read r) ≡ None → Unbroken (statement_of job.decls s (stmts.Read r))
      → values.look_up done.names r.name.name ≡ None → position (is_same_name r.name.name) t.names ≡ Some i → i < length u.names
      → Named job unbroken t tables rule is25 k (statement_of job.decls s (stmts.Read r)).value
      (with_name done r.name.name (word_read job.decls r (value_read job.decls (state_in words) done r)))
      (steps.with_name t u r.name.name (fitted (width_of t.targets r.target.name) (steps.value_read t words u r)))
  read_turn r i free right none place inside =
      let b = none_of_two (ask_option (facts_of job) rule k r.address) (ask_option (facts_of job) rule k r.when) free in
      let a = answer_unbroken (not (is_some (find s r.name.name))) _ (read_of job.decls s r >>= (λ w. ok (declared_local s r.name.name (sense kinds.Read w 0)))).asked right in
      let x = (bind_unbroken (read_of job.decls s r) (λ w. ok (declared_local s r.name.name (sense kinds.Read w 0))) a.1).0 in
      let st = storage_of s r.target (is_some r.address) in
      let y = bind_unbroken st (λ z. kept r.address (λ e. address_of (part_of job.decls (length job.decls) s e) (address_width z.kind) z.from) >>= (λ v. when_of job.decls s r.when >>= (λ p. kept r.guess (λ e. value_of (part_of job.decls (length job.decls) s e) z.width (to.Named z.kind z.from)) >>= (λ q. ok z.width)))) x in
      let z = bind_unbroken (kept r.address (λ e. address_of (part_of job.decls (length job.decls) s e) (address_width st.value.kind) st.value.from)) (λ v. when_of job.decls s r.when >>= (λ p. kept r.guess (λ e. value_of (part_of job.decls (length job.decls) s e) st.value.width (to.Named st.value.kind st.value.from)) >>= (λ q. ok st.value.width))) y.1 in
      let w = (bind_unbroken (when_of job.decls s r.when) (λ p. kept r.guess (λ e. value_of (part_of job.decls (length job.decls) s e) st.value.width (to.Named st.value.kind st.value.from)) >>= (λ q. ok st.value.width)) z.1).0 in
      let f = found_sense s.here _ (cond (is_some r.address) Position.File Position.Register) r.target.at (find s r.target.name) y.0 in
      let kind = storage_kind (is_some r.address) f.0.kind (storage_takes (is_some r.address) s.here f.0.kind f.2) in
      let at : IsSlot (targets_of job.decls) r.target.name f.0.width (address_width f.0.kind) = found_where s r.target.name f.0 f.1
      (λ l. local_no (λ kind. is_register kind || is_file kind) refl refl f.0.kind (now.locals r.target.name f.0 l) kind)
      (λ n g. (placed job unbroken r.target.name f.0 (ap (λ (names : Names). look_up names r.target.name) (sym now.of_text) ∙ g)).target kind) in
      let tw : ℕ = width_of (targets_of job.decls) r.target.name in
      let v : ℕ = value_read job.decls (state_in words) done r in
      let size : tw ≡ st.value.width = at.width ∙ ap (λ (m : Sense). m.width) f.3 in
      let number = number_get (targets_of job.decls) r.target.name at.inside in
      let bounds = target_width job.decls (number_of (targets_of job.decls) r.target.name) (job_fine job unbroken) at.inside in
      let low : 1 ≤ tw = subst (λ n. 1 ≤ n) number bounds.0 in
      let high : tw ≤ 64 = subst (λ n. n ≤ 64) number bounds.1 in
      let small : v < 2 ^ tw = cond_both (trees.holds job.decls done r.when) (state_in words (number_of (targets_of job.decls) r.target.name) (address_read job.decls (state_in words) done r r.guess)) 0 (λ n. n < 2 ^ tw)
      (λ h. subst (λ n. state_in words (number_of (targets_of job.decls) r.target.name) (address_read job.decls (state_in words) done r r.guess) < 2 ^ n) number (word_fits (targets_of job.decls) words _ _ fit at.inside))
      (λ h. pow_pos tw) in
      let same : steps.value_read t words u r ≡ v =
      ap (λ c. cond c (state_in words (number_of t.targets r.target.name) (steps.address_read t u r r.guess)) 0) (holds_same job unbroken t tables rule is25 k s done u now r.when b.1 w)
      ∙ ap (λ ss. cond (trees.holds job.decls done r.when) (state_in words (number_of ss r.target.name) (steps.address_read t u r r.guess)) 0) tables.targets
      ∙ ap (λ n. cond (trees.holds job.decls done r.when) (state_in words (number_of (targets_of job.decls) r.target.name) n) 0)
      (address_read_same r r.guess (address_same job unbroken t tables rule is25 k s done u now r.address (address_width st.value.kind) st.value.from b.0 z.0)) in
      let is : fitted (width_of t.targets r.target.name) (steps.value_read t words u r) ≡ word_read job.decls r v =
      ap (λ ss. fitted (width_of ss r.target.name) (steps.value_read t words u r)) tables.targets ∙ ap (fitted tw) same ∙ fitted_is tw v low high small in
      subst (λ (n : Word). Named job unbroken t tables rule is25 k (declared_local s r.name.name (sense kinds.Read st.value.width 0)) (with_name done r.name.name (word_read job.decls r v)) (steps.with_name t u r.name.name n)) (sym is)
      (name_bound job unbroken t tables rule is25 k s done u now r.name.name (sense kinds.Read st.value.width 0) (word_read job.decls r v) i refl (fresh_none (find s r.name.name) a.0) none place inside
      (record { word = record { positive = low; at_most = high; fits = small }; width = size }))

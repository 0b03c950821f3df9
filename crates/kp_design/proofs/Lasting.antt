-- A pipe counts up to its last use alone.
use Rattle.std.proofs.Common.{◌≡◌, ◌∙◌, ℕ, zero, suc, ◌<◌, ◌≤◌, max, List, [], ◌∷◌, Option, Some, None, true, cond, eqb, ◌||◌, length, get_or, refl, ap, sym, subst, arith}
use Rattle.std.proofs.lemmas.Bool.{cond-true, leb-true, le-leb, or_left, or_right}
use Rattle.std.specs.Prelude.{slice_get}
use Rattle.kp_ast.specs.{Expressions.is_same_name, declared.tree.Named.Named, declared.tree.ResultDecl.ResultDecl, declared.tree.Decl.Decl}
use Rattle.kp_ast.specs.declared.tree.Job.{Job}
use Rattle.kp_ast.specs.declared.tree.Decl.TheVariants as decls
use Rattle.kp_width.{specs.Widths.widths_of, proofs.Unbroken.Unbroken}
use Rattle.kp_pipeline.specs.Trimming.{trim, Alive}
use Rattle.kp_machine.specs.Slots.{Slot, pipes_of, number_of}
use Rattle.kp_machine.specs.Machine.{machine_of, result_for, write_stage_of, is_enabled_by, address_by, enabled_of, address_in}
use Rattle.kp_machine.proofs.{Cases.by_test, Names.IsIn, Names.is_same, Names.same_name, Placing.IsPipeIn, Placing.result_placed, Placing.stands}
use Rattle.kp_design.specs.{Spans.is_called, Spans.last_use_in, Spans.last_write, Spans.last_use, Numbers.no_slot, Numbers.pipe_at, Spans.is_alive}
use Rattle.kp_design.proofs.Pipes.{write_more, own_pipes}

-- the entry of a name has it
pub number_there : (ss : List Slot) (q : List ℕ) → IsIn ss q → (get_or ss (number_of ss q) no_slot).name ≡ q
number_there [] q h = absurd (omega arith)
number_there (s ∷ ss) q h = by_test (is_same_name q s.name)
    (λ y. ap (λ b. (get_or (s ∷ ss) (cond b 0 (suc (number_of ss q))) no_slot).name) y ∙ sym (same_name q s.name y))
    (λ n.
    let l : suc (number_of ss q) < suc (length ss) = subst (λ b. cond b 0 (suc (number_of ss q)) < suc (length ss)) n h in
    ap (λ b. (get_or (s ∷ ss) (cond b 0 (suc (number_of ss q))) no_slot).name) n ∙ number_there ss q (omega arith))

write_late : (n : List ℕ) (last : ℕ) (ds : List Decl) (i : ℕ) (r : ResultDecl) → slice_get ds i ≡ Some (decls.Target r)
    → (is_called n r.address || is_called n r.enable) ≡ true → r.stage.value ≤ last_write n last ds
write_late n last [] i r at e = cc
write_late n last (decls.Target q ∷ ds) zero r at e =
    let same : q ≡ r = cc in
    let f : (is_called n q.address || is_called n q.enable) ≡ true = ap (λ (x : ResultDecl). is_called n x.address || is_called n x.enable) same ∙ e in
    let v : q.stage.value ≡ r.stage.value = ap (λ (x : ResultDecl). x.stage.value) same in
    rw f (let more = write_more n (max last q.stage.value) ds in omega (arith, more, v))
write_late n last (decls.Target q ∷ ds) (suc i) r at e =
    by_test (is_called n q.address || is_called n q.enable)
    (λ y. rw y (write_late n (max last q.stage.value) ds i r at e))
    (λ y. rw y (write_late n last ds i r at e))
write_late n last (d ∷ ds) zero r at e = cc
write_late n last (d ∷ ds) (suc i) r at e = write_late n last ds i r at e

module _ (job : Job) (right : Unbroken (widths_of job)) where
  abbrev pipes : List Slot
  pipes = pipes_of job.decls

  module _ (k : ℕ) (p : ℕ → ℕ) where
    abbrev q : ℕ → ℕ
    q = trim (is_alive job) k p

    pipe_same : (o : Option Named) → IsPipeIn pipes o → ((n : Named) → o ≡ Some n → k ≤ last_use job n.name)
        → (is_enabled_by pipes q o ≡ is_enabled_by pipes p o) × (address_by pipes q o ≡ address_by pipes p o)
    pipe_same None here late = (refl, refl)
    pipe_same (Some n) here late =
        let x = number_of pipes n.name in
        let l : k ≤ last_use job (pipe_at job x).name = subst (λ m. k ≤ last_use job m) (sym (number_there pipes n.name here)) (late n refl) in
        let v : q x ≡ p x = cond-true (is_alive job x k) (p x) 0 (le-leb k _ l) in
        (ap (λ y. eqb y 1) v, v)

    intent_same : (t : ℕ) (o : Option ResultDecl) → result_for job t ≡ o → k ≤ write_stage_of o
        → (enabled_of pipes q o ≡ enabled_of pipes p o) × (address_in pipes q o ≡ address_in pipes p o)
    intent_same t None e l = (refl, refl)
    intent_same t (Some r) e l =
        let s = (stands job right t r e).0 in
        let at = result_placed job right r s in
        let late : (m : List ℕ) → (is_called m r.address || is_called m r.enable) ≡ true → k ≤ last_use job m =
        λ m c. let w = write_late m (last_use_in m 0 0 job.blocks) job.decls s.index r s.there c in omega (arith, w, l) in (
          (pipe_same r.enable at.enable (λ n is. late n.name (or_right (is_called n.name r.address) _ (ap (is_called n.name) is ∙ is_same n.name n.name refl)))).0,
          (pipe_same r.address at.address (λ n is. late n.name (or_left _ (is_called n.name r.enable) (ap (is_called n.name) is ∙ is_same n.name n.name refl)))).1,
        )

  pub lasting : Alive (machine_of job) (is_alive job)
  unfolding machine_of
  lasting = record {
    earlier = λ x k e. le-leb k _ (let l = leb-true (suc k) (last_use job (pipe_at job x).name) e in omega (arith, l));
    body = λ k s p. own_pipes job k s (trim (is_alive job) k p) p (λ x m l. cond-true (is_alive job x k) (p x) 0 (le-leb k _ l));
    enabled = λ t k p h l. (intent_same k p t (result_for job t) refl l).0;
    address = λ t k p h l. (intent_same k p t (result_for job t) refl l).1;
  }

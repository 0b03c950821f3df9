-- Runs whose instructions have the same records have the same timeline.
use Rattle.std.proofs.Common.{◌≡◌, ℕ, zero, suc, ◌+◌, ◌-◌, ◌<◌, Bool, false, cond, not, ◌&&◌, ◌||◌, eqb, ltb, List, [], ◌∷◌, Option, Some, None, is_some, refl, sym, ap, ap₂, ◌∙◌, arith}
use Rattle.std.proofs.Math.Path.{fun_ext}
use Rattle.kp_pipeline.specs.Machine.{Machine, State, Holds, Tree, Done, Ask, Guess}
use Rattle.kp_pipeline.specs.Sequential.{instruction_before, seq}
use Rattle.kp_pipeline.specs.Timeline.{ReadyAbove, blocked, blocked_given, is_ready, may_write, moves_on, next_hold, next_number, no_samples, ready_above, ready_below, ready_from, some_unmet, timeline_rows, waits_given}
use Rattle.kp_pipeline.specs.{Pipeline.Inputs, Pipeline.intent_known, Pipeline.is_candidate, Rows.Row}
use Rattle.kp_pipeline.proofs.Lists.{bits-same}
use Rattle.kp_tool.specs.ConstantTime.{HasSameRecord, reads_of}

abbrev any_unmet : (ℕ → ℕ → Bool) → List (ℕ × ℕ) → Bool
any_unmet ready [] = false
any_unmet ready (r ∷ rs) = not (ready r.0 r.1) || any_unmet ready rs

unmet-reads : (ready : ℕ → ℕ → Bool) (s : State) (tree : Tree) → some_unmet ready s tree ≡ any_unmet ready (reads_of s tree)
unmet-reads ready s (Done puts sets aims) = refl
unmet-reads ready s (Ask t a rest) = ap (λ (b : Bool). not (ready t a) || b) (unmet-reads ready s (rest (s t a)))
unmet-reads ready s (Guess t guess rest) = unmet-reads ready s (rest (s t 0))

module _ (m : Machine) (s z : State) (same : (i : ℕ) → HasSameRecord m s z i) where
  waits-one : (o : Option ℕ) (k : ℕ) (up : ReadyAbove) → k < m.stages → waits_given m s o k up ≡ waits_given m z o k up
  waits-one None k up b = refl
  waits-one (Some i) k up b =
      unmet-reads up.ready (seq m s no_samples i) (m.body k (λ x. 0) (instruction_before m s no_samples i k).pipes)
      ∙ (ap (any_unmet up.ready) ((same i).reads k b)
      ∙ sym (unmet-reads up.ready (seq m z no_samples i) (m.body k (λ x. 0) (instruction_before m z no_samples i k).pipes)))

  writes-one : (o : Option ℕ) (k t a : ℕ) → may_write m s k o t a ≡ may_write m z k o t a
  writes-one None k t a = refl
  writes-one (Some i) k t a = ap (λ (b : Bool). not (intent_known m k t) || b) ((same i).writes t a)

  ready-one : (o : Option ℕ) (k t : ℕ) (b : Bool) → is_ready m s k o b t ≡ is_ready m z k o b t
  ready-one None k t b = refl
  ready-one (Some i) k t b = ap (λ (l : ℕ). intent_known m k t && (ltb l k || (eqb l k && not b))) ((same i).sets t)

  module _ (i : Inputs) (h g : Holds) (alike : (k : ℕ) → k < m.stages → h k ≡ g k) where
    blocked-one : (k : ℕ) (up : ReadyAbove) → k < m.stages → blocked_given m s h i k up ≡ blocked_given m z g i k up
    blocked-one k up b =
        ap (λ (o : Option ℕ). is_some o && (waits_given m s o k up || (i.ext k || up.blocked))) (alike k b)
        ∙ ap (λ (w : Bool). is_some (g k) && (w || (i.ext k || up.blocked))) (waits-one (g k) k up b)

    below-one : (k : ℕ) (up : ReadyAbove) → k < m.stages → ready_below m s h i k up ≡ ready_below m z g i k up
    below-one k up b =
        ap₂ (λ (r : ℕ → ℕ → Bool) (d : Bool). record { ready = r; blocked = d })
        (fun_ext (λ t. fun_ext (λ a.
        ap (λ (o : Option ℕ). cond (is_candidate m k t && may_write m s k o t a) (is_ready m s k o (blocked_given m s h i k up) t) (up.ready t a)) (alike k b)
        ∙ (ap (λ (w : Bool). cond (is_candidate m k t && w) (is_ready m s k (g k) (blocked_given m s h i k up) t) (up.ready t a)) (writes-one (g k) k t a)
        ∙ ap (λ (w : Bool). cond (is_candidate m k t && may_write m z k (g k) t a) w (up.ready t a))
        (ready-one (g k) k t (blocked_given m s h i k up) ∙ ap (λ (w : Bool). is_ready m z k (g k) w t) (blocked-one k up b))))))
        (blocked-one k up b)

    from-same : (d k : ℕ) → k + d ≡ m.stages → ready_from m s h i d k ≡ ready_from m z g i d k
    unfolding ready_from
    from-same zero k e = refl
    from-same (suc d) k e =
        ap (ready_below m s h i k) (from-same d (suc k) (omega arith)) ∙ below-one k (ready_from m z g i d (suc k)) (omega arith)

    blocked-same : (k : ℕ) → k < m.stages → blocked m s h i k ≡ blocked m z g i k
    unfolding blocked ready_above
    blocked-same k b =
        ap (blocked_given m s h i k) (from-same (m.stages - suc k) (suc k) (omega arith)) ∙ blocked-one k (ready_from m z g i (m.stages - suc k) (suc k)) b

    moves-same : (k : ℕ) → k < m.stages → moves_on m s h i k ≡ moves_on m z g i k
    unfolding moves_on
    moves-same k b = ap₂ (λ (o : Option ℕ) (w : Bool). is_some o && not w) (alike k b) (blocked-same k b)

    next-same : (k : ℕ) → k < m.stages → next_hold m s h i k ≡ next_hold m z g i k
    unfolding next_hold
    next-same zero b = ap₂ (λ (w : Bool) (o : Option ℕ). cond w (next_number o) o) (moves-same 0 b) (alike 0 b)
    next-same (suc k) b =
        ap₂ (λ (w : Bool) (o : Option ℕ). cond w o (cond (blocked m s h i (suc k)) (h (suc k)) None)) (moves-same k (omega arith)) (alike k (omega arith))
        ∙ ap₂ (λ (w : Bool) (o : Option ℕ). cond (moves_on m z g i k) (g k) (cond w o None)) (blocked-same (suc k) b) (alike (suc k) b)

  pub timeline-same : (ins : List Inputs) (h g : Holds) → ((k : ℕ) → k < m.stages → h k ≡ g k) → timeline_rows m s h ins ≡ timeline_rows m z g ins
  timeline-same [] h g alike = refl
  timeline-same (i ∷ ins) h g alike =
      ap₂ (λ (r : Row) (rs : List Row). r ∷ rs)
      (ap₂ (λ (full ue : List Bool). record { full = full; ue = ue; back = 0 })
      (bits-same (λ k. is_some (h k)) (λ k. is_some (g k)) m.stages 0 (λ j _ b. ap is_some (alike j (omega arith))))
      (bits-same (moves_on m s h i) (moves_on m z g i) m.stages 0 (λ j _ b. moves-same i h g alike j (omega arith))))
      (timeline-same ins (next_hold m s h i) (next_hold m z g i) (next-same i h g alike))

use Rattle.std.proofs.Common.{◌≡◌, ℕ, ◌≤◌, List, length, sym, ap, ◌∙◌, subst}
use Rattle.kp_pipeline.specs.{Machine.Machine, Sequential.seq, Pipeline.Inputs, Rows.Row, Rows.Trace, Rows.passed, Rows.taken, Claims.Legal, Claims.Moves}
use Rattle.kp_pipeline.proofs.Legality.{legal}

-- A trace with the rows and the visible values of a legal one is legal: needed for a netlist that shows the machine.
pub same-legal : (m : Machine) (s : ℕ → ℕ → ℕ) (ins : List Inputs) (a b : Trace) → b.rows ≡ a.rows
    → ((T t x : ℕ) → T ≤ length b.rows → b.visible T t x ≡ a.visible T t x) → Legal m s ins a → Legal m s ins b
same-legal m s ins a b e same legal T h t x =
    let r = legal T (subst (λ (l : List Row). T ≤ length l) e h) t x in (
      (λ p. same T t x h ∙ r.0 p ∙ ap (λ (l : List Row). seq m s (taken m ins l) (passed l (m.write_stage t) T) t x) (sym e)),
      (λ p. same T t x h ∙ r.1 p),
    )

-- Whether a trace is live depends only on its rows.
pub same-moves : (m : Machine) (ins : List Inputs) (a b : Trace) → b.rows ≡ a.rows → Moves m ins a → Moves m ins b
same-moves m ins a b e h = subst (λ (l : List Row). Moves m ins (record { rows = l; visible = λ T t x. 0 })) (sym e) h

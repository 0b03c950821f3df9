use Rattle.std.proofs.Common.{ℕ, ◌≤◌, List, length, ap, subst, ◌∙◌}
use Rattle.kp_pipeline.{specs.Pipeline.pipeline_start, specs.Rows.Row, specs.Rows.pipe, proofs.Taken.rows-length}
use Rattle.kp_pipeline.proofs.{SameTrace.same-legal, SameTrace.same-moves, Legality.legal, Progress.moves}
use Rattle.kp_pipeline.proofs.laws.same_trace_is_legal_and_moves.Goals as goal

pub returns : goal.returns
returns c m s hints ins trace acc same visible = (
  same-legal m s ins (pipe m s hints ins) trace same (λ T t a b. visible T t a (subst (λ (n : ℕ). T ≤ n) (ap (λ (l : List Row). length l) same ∙ rows-length m (pipeline_start s hints) ins) b)) (legal m s hints ins acc),
  same-moves m ins (pipe m s hints ins) trace same (moves m s hints ins acc),
)

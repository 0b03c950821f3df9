use Rattle.std.proofs.Common.{◌∙◌, ◌≤◌, ℕ, subst, sym}
use Rattle.kp_run.proofs.Machines.{stages_fit}
use Rattle.kp_report.proofs.runs.write_parts.Goals as goal

pub write_rows-requires-clause-some : goal.write_rows-requires-clause-some
write_rows-requires-clause-some g c =
    let board = c.args.board.now in
    subst (λ (n : ℕ). 2 ≤ n) (sym (c.stages-stages.ensures.stages ∙ board.stages)) (stages_fit board.design.now.job c.job-kept.ensures.sound.stages).0

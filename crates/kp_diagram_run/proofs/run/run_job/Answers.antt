use Rattle.std.proofs.Common.{◌∙◌, ℕ, List, ap, length, get_or}
use Rattle.kp_image.specs.Spans.{word_in}
use Rattle.kp_diagram_run.proofs.Words.{word-at, words-many}
use Rattle.kp_diagram_run.proofs.run.run_job.Goals as goal

pub returns : goal.returns
returns c =
    let job = c.args.job.now in
    let words = word_in job.sections.stalls in
    let given = c.in_ok-words.ensures in
    record {
      rows = c.in_ok-rows.ensures.rows;
      count = c.in_ok-rows.ensures.count;
      many = ap (λ (ws : List ℕ). length ws) given ∙ words-many words c.args.count;
      words = λ T b. ap (λ (ws : List ℕ). get_or ws T 0) given ∙ word-at words c.args.count T b ∙ ap (λ (f : ℕ → ℕ). f T) job.stalls;
    }

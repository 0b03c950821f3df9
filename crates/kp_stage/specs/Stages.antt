-- The violations of the rules of stages, and the first violated rule.
use Rattle.std.specs.Prelude.{List, [], ◌∷◌, ◌++◌, Option}
use Rattle.std.specs.Option.{option_map}
use Rattle.kp_base.specs.{First.first, declared.refusal.Refusal.Refusal}
use Rattle.kp_ast.specs.declared.tree.Job.{Job}
use Rattle.kp_stage.specs.{Facts.facts_of, Findings.Answer, Findings.refusal_of, Rules.asked_by, Sizes.sizes_of, Counts.counts_of}

-- E15 to E25, then E34 and E35, each in text order; then the statement at which the size exceeds its limit (E28), and the declaration or read at which a count does (E29)
unfoldable pub answers_of : Job → List Answer
answers_of job = asked_by (facts_of job) job ++ first (sizes_of job).asked ∷ first (counts_of job).asked ∷ []

-- the first violated rule in this order, at the first position in the text
unfoldable pub broken_of : Job → Option Refusal
broken_of job = option_map refusal_of (first (answers_of job))

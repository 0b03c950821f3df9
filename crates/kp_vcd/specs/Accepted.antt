-- JOBS THAT VIOLATE NO RULE, described by a complete input or by the head of one.
use Rattle.std.specs.Prelude.{ℕ, List, Ok}
use Rattle.kp_ast.specs.declared.tree.Job.{Job}
use Rattle.kp_frontend.specs.Judging.{Judges, JudgesHead}

pub data IsAccepted (job : Job) : Type 0 where
  of_input : {input : List ℕ} → Judges input (Ok job) → IsAccepted job
  of_head : {input : List ℕ} {rest : ℕ} → JudgesHead input (Ok (job, rest)) → IsAccepted job

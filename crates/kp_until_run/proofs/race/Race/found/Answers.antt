use Rattle.std.proofs.Common.{ℕ, subst}
use Rattle.std.specs.Prelude.{MatchOption}
use Rattle.kp_until_run.specs.{Ending.states_in, inner.Pasts.IsFoundAt, inner.Pasts.NoneAt}
use Rattle.kp_until_run.proofs.race.Race.found.Goals as goal

pub found_at-requires-clause-histories : goal.found_at-requires-clause-histories
found_at-requires-clause-histories c = rw c.as_slice-histories.ensures.value c.requires.at.past.histories

pub returns : goal.returns
returns c =
    let job = c.args.job.now.design.job in
    let s = states_in job c.args.limit in
    subst (λ (n : ℕ). MatchOption c.found_at.result (NoneAt job s c.args.untils.now n) (IsFoundAt job s c.args.untils.now n)) c.retired-retired.ensures c.found_at.ensures

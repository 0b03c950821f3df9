use Rattle.std.proofs.Common.{◌∙◌, ℕ, ap}
use Rattle.kp_machine.specs.Machine.{values_in}
use Rattle.kp_seq.specs.Running.{Running, state}
use Rattle.kp_run.{specs.Columns.row_taken, proofs.Machines.opened_is, proofs.Machines.ran_on}
use Rattle.kp_run.proofs.lanes.machine_after.Goals as goal

pub returns-in_ok-machine-clause-state : goal.returns-in_ok-machine-clause-state
returns-in_ok-machine-clause-state c =
    let given : ℕ → ℕ → ℕ = λ i. values_in (row_taken c.args.columns.now i) in
    let is = c.in_ok-machine.ensures in
    ran_on c.args.job.now.design.job c.in_ok-machine.machine.job given c.args.ran c.args.count (state c.in_ok-machine.machine) (state c.advance.new.machine)
    (ap (λ (m : Running). m.job) is ∙ c.requires.job) (ap state is ∙ c.requires.state) c.advance.ensures.state

pub returns-in_ok-machine-2-clause-state : goal.returns-in_ok-machine-2-clause-state
returns-in_ok-machine-2-clause-state c =
    let given : ℕ → ℕ → ℕ = λ i. values_in (row_taken c.args.columns.now i) in
    let job = c.args.job.now.design.job in
    let begun = c.in_ok-machine-2.ensures in
    ran_on job c.in_ok-machine-2.machine.job given 0 c.args.count (state c.in_ok-machine-2.machine) (state c.advance-else-ran-count.new.machine)
    begun.job (begun.state ∙ opened_is job given) c.advance-else-ran-count.ensures.state

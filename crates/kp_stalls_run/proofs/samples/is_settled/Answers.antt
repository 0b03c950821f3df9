use Rattle.std.proofs.Common.{◌∙◌, ◌<◌, length, arith, sym}
use Rattle.kp_machine.specs.{Machine.values_in, Slots.sample_stages}
use Rattle.kp_run.specs.Columns.{row_taken}
use Rattle.kp_stalls_run.proofs.Settling.{unsettled}
use Rattle.kp_stalls_run.proofs.samples.is_settled.Goals as goal

pub returns-then-not-settles : goal.returns-then-not-settles
returns-then-not-settles c =
    let job = c.args.job.now.design.job in
    let within : c.loop-x.x < length (sample_stages job.decls) = omega (arith, c.loop-x-test.true, c.len-x-end.ensures, c.requires.columns) in
    unsettled job (λ j. values_in (row_taken c.args.samples.now.columns.items j)) c.args.cycle c.args.k c.args.i c.loop-x.x within
    (sym c.settles.ensures ∙ c.if-not-settles.true)

use Rattle.std.proofs.Common.{◌∙◌, ap, length, List}
use Rattle.kp_base.specs.declared.row.Row.{Row}
use Rattle.kp_image.proofs.Given.{starts}
use Rattle.kp_run.proofs.Prefixes.{rows_many}
use Rattle.kp_diagram_run.proofs.run.rows_of.Goals as goal

pub synth-requires-clause-suits : goal.synth-requires-clause-suits
synth-requires-clause-suits c = rw c.args.job.now.start (starts _ c.job-kept.ensures.sound.names c.args.job.now.unbroken)

pub cycles_of-requires : goal.cycles_of-requires
cycles_of-requires c =
    let shows = c.in_ok-net.ensures.shows in
    record { outputs = shows.outputs; samples = shows.of_job.samples }

pub returns : goal.returns
returns c =
    let job = c.args.job.now.design.job in
    let net = c.in_ok-net.net in
    let cycles = c.in_ok-cycles.cycles in
    let has = c.in_ok-cycles.ensures in
    record {
      rows = c.a_run_shows_the_pipeline.ensures.rows net c.args.count cycles.rows.items cycles.monitor c.in_ok-net.ensures.shows has;
      count = ap (λ (rs : List Row). length rs) has.rows ∙ rows_many job net c.args.count;
    }

use Rattle.std.proofs.Common.{◌∙◌, sym}
use Rattle.kp_machine.specs.Machine.{state_of}
use Rattle.kp_timing.proofs.Runs.{rows_from_opening}
use Rattle.kp_timing.proofs.laws.rows_are_the_timeline.Goals as goal

pub rows_of_a_design_are_the_timeline-requires : goal.rows_of_a_design_are_the_timeline-requires
rows_of_a_design_are_the_timeline-requires c = record { guesses = c.requires.guesses; samples = c.requires.samples }

pub returns : goal.returns
returns c =
    let job = c.args.design.now.job in
    record {
      timeline = λ start t u exts rows ins o run alike. rows_from_opening job start t u exts rows ins o run alike;
      pipeline = λ start hints t u exts rows ins o run alike.
          rows_from_opening job start t u exts rows ins o run alike ∙ sym (c.rows_of_a_design_are_the_timeline.ensures (state_of job start) hints ins);
    }

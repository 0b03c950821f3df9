use Rattle.kp_stage.specs.Start.{start_of}
use Rattle.kp_pipeline.specs.RightPath.{first_moment}
use Rattle.kp_machine.specs.Machine.{machine_of, state_of}
use Rattle.kp_stalls.{specs.Claims.run_given, specs.Claims.run_moment, specs.Claims.run_rows, proofs.Causing.has_cause, proofs.Moments.must_at}
use Rattle.kp_stalls.proofs.laws.each_wait_of_a_run_has_its_cause.Goals as goal

pub returns : goal.returns
returns c = λ job hints ins T i r stages k names rules acc long here row shows right below full hazard settled.
    let s = state_of job (start_of job) in
    let must = must_at (machine_of job) s (run_given job hints ins) ins (first_moment s hints) (run_rows job hints ins) T i r
    (c.the_pipeline_waits_only_where_it_must.ensures (machine_of job) s hints ins acc) long here row in
    has_cause job (run_given job hints ins) (run_moment job hints ins T) i r stages names rules acc must shows k right below full hazard settled

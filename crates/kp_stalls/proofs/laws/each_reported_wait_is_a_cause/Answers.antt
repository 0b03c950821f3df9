use Rattle.kp_stage.specs.Start.{start_of}
use Rattle.kp_pipeline.specs.RightPath.{first_moment}
use Rattle.kp_machine.specs.Machine.{machine_of, state_of}
use Rattle.kp_sites.specs.Sites.{sited}
use Rattle.kp_stalls.specs.{Occupants.occupants_of, Occupants.report, Claims.run_given, Claims.run_moment, Claims.run_rows}
use Rattle.kp_stalls.proofs.{Causing.caused, Moments.must_at, Reporting.record_found}
use Rattle.kp_stalls.proofs.laws.each_reported_wait_is_a_cause.Goals as goal

pub returns : goal.returns
returns c = λ job hints ins T i r stages k w names rules acc long here row shows right below recorded.
    let s = state_of job (start_of job) in
    let must = must_at (machine_of job) s (run_given job hints ins) ins (first_moment s hints) (run_rows job hints ins) T i r
    (c.the_pipeline_waits_only_where_it_must.ensures (machine_of job) s hints ins acc) long here row in
    let found = record_found (sited job) (occupants_of (report job (run_given job hints ins)) stages) k w recorded in
    caused job (run_given job hints ins) (run_moment job hints ins T) i r stages names rules acc must shows k right below w found

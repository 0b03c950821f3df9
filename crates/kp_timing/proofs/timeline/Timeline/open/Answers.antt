use Rattle.std.proofs.Common.{◌∙◌, ◌<◌, ◌^◌, List, ap, sym, subst, arith}
use Rattle.kp_stage.specs.declared.counts.Summary.{Summary}
use Rattle.kp_seq.specs.Recorded.{Recorded}
use Rattle.kp_sites.proofs.Sizes.{set_back}
use Rattle.kp_timing.specs.inner.Kept.{AreSites, IsKept}
use Rattle.kp_timing.proofs.Keeping.{CanRun, can_run, first_hold, kept_opened, stages_are}
use Rattle.kp_timing.proofs.timeline.Timeline.open.Goals as goal

pub run_next-requires : goal.run_next-requires
run_next-requires c =
    let job = c.args.d.now.job in
    let sites : AreSites job c.in_ok-sites.sites = record { names = c.job-kept.ensures.sound.names; rules = c.job-kept.ensures.sound.stages; is = c.in_ok-sites.ensures } in
    let fs = c.in_ok-flights.ensures in
    let few = c.flights.ensures in
    let sum = c.summary-summary.ensures in
    let stages = c.stages.ensures ∙ stages_are sites in
    let can : CanRun c.in_ok-machine.machine c.as_mut_slice.result.now =
    subst (CanRun c.in_ok-machine.machine) (sym c.as_mut_slice.ensures.value) (can_run job c.in_ok-machine.machine c.in_ok-flights.flights.items c.requires.plain sites.rules c.in_ok-machine.ensures.job (fs.count ∙ stages)
    (subst (λ (x : Summary). x.reads < 2 ^ 32) sum few.few_reads) (subst (λ (x : Summary). x.results < 2 ^ 32) sum few.few_results)
    (λ k l. record {
      reads = fs.reads k (omega (arith, l, stages)) ∙ ap (λ (x : Summary). x.reads) sum;
      writes = fs.writes k (omega (arith, l, stages)) ∙ ap (λ (x : Summary). x.results) sum;
      settings = fs.settings k (omega (arith, l, stages)) ∙ ap (λ (x : Summary). x.results) sum;
    })) in
    record { samples = can.samples; flights = can.flights; room = can.room; reads = can.reads; results = can.results; parts = can.blocks }

pub invariant_of-result : goal.invariant_of-result
invariant_of-result c =
    let job = c.args.d.now.job in
    let sites : AreSites job c.in_ok-sites.sites = record { names = c.job-kept.ensures.sound.names; rules = c.job-kept.ensures.sound.stages; is = c.in_ok-sites.ensures } in
    let fs = c.in_ok-flights.ensures in
    let few = c.flights.ensures in
    let sum = c.summary-summary.ensures in
    let stages = c.stages.ensures ∙ stages_are sites in
    let run = c.run_next.ensures in
    let kept =
    kept_opened job c.args.start.now c.in_ok-machine.machine c.run_next.new.machine c.in_ok-sites.sites c.in_ok-flights.flights.items c.requires.plain sites
    (subst (λ (x : Summary). x.reads < 2 ^ 32) sum few.few_reads) (subst (λ (x : Summary). x.results < 2 ^ 32) sum few.few_results) (fs.count ∙ stages)
    (λ k l. record {
      reads = fs.reads k (omega (arith, l, stages)) ∙ ap (λ (x : Summary). x.reads) sum;
      writes = fs.writes k (omega (arith, l, stages)) ∙ ap (λ (x : Summary). x.results) sum;
      settings = fs.settings k (omega (arith, l, stages)) ∙ ap (λ (x : Summary). x.results) sum;
    })
    c.in_ok-machine.ensures.job c.in_ok-machine.ensures.state run.job run.state run.recorded in
    let last = c.run_next.new.machine.last in
    let whole = set_back c.in_ok-flights.flights.len 0 last _ c.run_next.new.flights c.in_ok-flights.flights.items run.flights c.as_mut_slice.ensures.len c.as_mut_slice.ensures.value in
    subst (λ (recorded : List Recorded). IsKept job c.args.start.now 0 c.run_next.new.machine c.in_ok-sites.sites (record { hold = first_hold; recorded = recorded })) (sym whole) kept

use Rattle.std.proofs.{Common.get_or, Common.sym, Common.subst, Common.arith, lemmas.List.get_or_default}
use Rattle.kp_seq.specs.{Running.state, Recorded.Recorded}
use Rattle.kp_sites.specs.Reports.{nothing_recorded}
use Rattle.kp_sites.proofs.Sizes.{FitsIn, record_fits}
use Rattle.kp_timing.proofs.timeline.run_next.Goals as goal

pub take-requires : goal.take-requires
take-requires c =
    let q = c.requires in
    let some = q.flights in
    let there = get_or c.args.flights.now 0 nothing_recorded in
    let fits = subst (λ (t : Recorded). FitsIn t c.step.new.self.last) (sym (get_or_default c.args.flights.now 0 c.index-flights-0.result nothing_recorded (omega (arith, some))))
    (record_fits c.args.machine.now.job (state c.args.machine.now) (λ x. 0) there c.step.new.self.last q.parts q.reads q.results q.room c.step.ensures.recorded) in
    record { reads = fits.reads; writes = fits.writes; settings = fits.settings; few_reads = fits.few_reads; few_writes = fits.few_writes; few_settings = fits.few_settings }

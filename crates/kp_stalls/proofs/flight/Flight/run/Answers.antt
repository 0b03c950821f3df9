use Rattle.std.proofs.Common.{◌∙◌, ap, sym, subst, length}
use Rattle.kp_machine.specs.Machine.{values_in}
use Rattle.kp_seq.specs.Running.{state}
use Rattle.kp_sites.specs.Reports.{HasRoom}
use Rattle.kp_sites.proofs.Sizes.{record_fits}
use Rattle.kp_stalls.proofs.flight.Flight.run.Goals as goal

pub take-requires : goal.take-requires
take-requires c =
    let q = c.requires in
    let job = c.args.machine.now.job in
    let room = subst (HasRoom job) (sym c.take_values.ensures.recorded) (record { reads = q.room.reads; writes = q.room.writes; settings = q.room.settings }) in
    let fits = record_fits job (state c.args.machine.now) (values_in c.args.row.now) _ c.step_with.new.self.last q.blocks q.few_reads q.few_results room c.step_with.ensures.recorded in
    record { reads = fits.reads; writes = fits.writes; settings = fits.settings; few_reads = fits.few_reads; few_writes = fits.few_writes; few_settings = fits.few_settings }

pub take_values-requires-clause-count : goal.take_values-requires-clause-count
take_values-requires-clause-count c = c.requires.room.values ∙ sym (ap (λ l. length l) c.requires.sites)

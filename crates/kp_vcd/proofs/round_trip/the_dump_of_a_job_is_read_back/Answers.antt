use Rattle.std.proofs.Common.{◌≡◌, Some, subst}
use Rattle.kp_vcd.specs.{Held.held, Held.Changes, declared.dump.Dump.Dump, Dumps.vcd_dump, Dumps.vcd_text}
use Rattle.kp_vcd.proofs.Reporting.{job_fits, same_dump}
use Rattle.kp_vcd.proofs.round_trip.the_dump_of_a_job_is_read_back.Goals as goal

pub returns-clause-read : goal.returns-clause-read
returns-clause-read c job n h small = c.the_text_of_a_dump_is_read_as_this_dump.ensures (vcd_dump n job) (job_fits c.one_entry_for_each_name.ensures job n h small)

pub returns-clause-held : goal.returns-clause-held
returns-clause-held c job n T s w dump h small e le there =
    let own = c.the_text_of_a_dump_is_read_as_this_dump.ensures (vcd_dump n job) (job_fits c.one_entry_for_each_name.ensures job n h small) in
    subst (λ (d : Dump). held d s T ≡ Some w) (same_dump (vcd_text n job) (vcd_dump n job) dump own e) (c.a_dump_holds_its_run.ensures.held job n T s w le there)

pub returns-clause-changes : goal.returns-clause-changes
returns-clause-changes c job n dump h small e =
    let own = c.the_text_of_a_dump_is_read_as_this_dump.ensures (vcd_dump n job) (job_fits c.one_entry_for_each_name.ensures job n h small) in
    subst Changes (same_dump (vcd_text n job) (vcd_dump n job) dump own e) (c.a_dump_holds_its_run.ensures.changes job n)

use Rattle.kp_vcd.specs.Dumps.{values_at, own_run, vcd_dump}
use Rattle.kp_vcd.proofs.Lasting.{run_lasts}
use Rattle.std.proofs.Common.{refl}
use Rattle.kp_vcd.proofs.run_laws.a_dump_holds_its_run.Goals as goal

pub returns-clause-held : goal.returns-clause-held
unfolding vcd_dump
returns-clause-held c job n T s w h e =
    c.the_changes_of_values_hold_them.ensures.held (vcd_dump n job) (values_at job (own_run job n)) n refl (run_lasts job n) T s w h e

pub returns-clause-changes : goal.returns-clause-changes
unfolding vcd_dump
returns-clause-changes c job n =
    c.the_changes_of_values_hold_them.ensures.changes (vcd_dump n job) (values_at job (own_run job n)) n refl (run_lasts job n)

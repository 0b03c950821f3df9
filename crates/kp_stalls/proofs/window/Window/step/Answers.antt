use Rattle.std.proofs.Common.{◌+◌, ◌%◌, List, sym, subst, refl}
use Rattle.kp_machine.specs.Machine.{values_in}
use Rattle.kp_seq.specs.Running.{state}
use Rattle.kp_stalls.{specs.Occupants.Report, specs.Occupants.report_of, specs.Windows.IsKept, proofs.Windows.follows_step, proofs.Windows.kept_next}
use Rattle.kp_sites.proofs.Sizes.{set_back}
use Rattle.kp_stalls.proofs.window.Window.step.Goals as goal

pub invariant_of-self : goal.invariant_of-self
invariant_of-self c =
    let t = c.self.inside in
    let k = c.self.invariant in
    let job = t.machine.job in
    let s = state t.machine in
    let q = values_in c.args.row.now in
    let run = c.run_next.ensures in
    let whole = set_back t.ring.len (t.next % 16) (report_of job s q) _ c.run_next.new.ring t.ring.items run.ring c.as_mut_slice.ensures.len c.as_mut_slice.ensures.value in
    subst (λ (ring : List Report). IsKept c.run_next.new.machine.job (record { machine = c.run_next.new.machine; sites = t.sites; next = t.next + 1; ring = ring })) (sym whole)
    (kept_next job (record { machine = t.machine; sites = t.sites; next = t.next; ring = t.ring.items }) c.run_next.new.machine (t.next + 1) (t.next % 16) s q k run.job)

pub returns-clause-follows : goal.returns-clause-follows
returns-clause-follows c =
    let t = c.self.inside in
    let k = c.self.invariant in
    let job = t.machine.job in
    let s = state t.machine in
    let q = values_in c.args.row.now in
    let run = c.run_next.ensures in
    let whole = set_back t.ring.len (t.next % 16) (report_of job s q) _ c.run_next.new.ring t.ring.items run.ring c.as_mut_slice.ensures.len c.as_mut_slice.ensures.value in
    follows_step (record { machine = t.machine; sites = t.sites; next = t.next; ring = t.ring.items }) c.args.self.now _ c.args.row.now c.self.view_is k.count refl run.state whole

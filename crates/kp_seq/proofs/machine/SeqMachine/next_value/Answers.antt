use Rattle.std.proofs.Common.{◌<◌, ◌^◌, length, ap, ◌∙◌, subst, sym, arith}
use Rattle.std.specs.List.{length_refill}
use Rattle.kp_stage.specs.Start.{AreSamples}
use Rattle.kp_machine.specs.Machine.{values_in}
use Rattle.kp_seq.specs.{Computed.HasComputed, Computed.computed, Computed.slot_for, Running.Running, Running.state}
use Rattle.kp_seq.proofs.Stepping.{room_is_enough, still_ready, value_is, value_fits}
use Rattle.kp_seq.proofs.machine.SeqMachine.next_value.Goals as goal

pub compute-requires : goal.compute-requires
compute-requires c =
    let m = c.self.inside in
    room_is_enough m.design.now.job m.resolved.value m.under (length m.room.items) m.words m.notes c.self.invariant _ c.as_ref-resolved.ensures _ (omega (arith, c.as_mut_slice-room.ensures.len, m.room.ok.0))

pub invariant_of-self : goal.invariant_of-self
invariant_of-self c =
    let m = c.self.inside in
    let fits = subst (λ (r : Running). AreSamples r.job.decls c.args.row.now) (sym c.self.view_is) c.requires.samples in
    still_ready m.design.now.job m.resolved.value m.under (length m.room.items) m.words m.notes c.self.invariant _ c.as_ref-resolved.ensures c.args.row.now fits _ c.compute.ensures.under _
    (omega (arith, length_refill m.room.len m.room.items c.compute.new.room m.room.ok.0, m.room.ok.0))

pub returns-clause-value : goal.returns-clause-value
returns-clause-value c =
    let m = c.self.inside in
    let fits = subst (λ (r : Running). AreSamples r.job.decls c.args.row.now) (sym c.self.view_is) c.requires.samples in
    c.value.ensures
    ∙ value_is m.design.now.job m.resolved.value m.under (length m.room.items) m.words m.notes c.self.invariant _ c.as_ref-resolved.ensures c.args.row.now fits _ c.compute.ensures.under c.args.what
    ∙ ap (λ (r : Running). computed r.job (state r) (values_in c.args.row.now) c.args.what) c.self.view_is

pub returns-clause-fits : goal.returns-clause-fits
returns-clause-fits c =
    let m = c.self.inside in
    let fits = subst (λ (r : Running). AreSamples r.job.decls c.args.row.now) (sym c.self.view_is) c.requires.samples in
    let there = subst (λ (r : Running). HasComputed r.job c.args.what) (sym c.self.view_is) c.requires.there in
    subst (λ (r : Running). c.value.result < 2 ^ (slot_for r.job c.args.what).width) c.self.view_is
    (subst (λ v. v < 2 ^ (slot_for m.design.now.job c.args.what).width) (sym c.value.ensures)
    (value_fits m.design.now.job m.resolved.value m.under (length m.room.items) m.words m.notes c.self.invariant _ c.as_ref-resolved.ensures c.args.row.now fits _ c.compute.ensures.under c.args.what there))

use Rattle.std.proofs.Common.{length, ap, ◌∙◌, subst, sym, arith}
use Rattle.std.specs.List.{length_refill}
use Rattle.kp_stage.specs.Start.{AreSamples}
use Rattle.kp_machine.specs.{Machine.values_in, Words.after_one}
use Rattle.kp_seq.specs.{Running.Running, Running.state, Recorded.record_of}
use Rattle.kp_seq.proofs.Stepping.{room_is_enough, state_after, ready_after, record_kept, record_after}
use Rattle.kp_seq.proofs.machine.SeqMachine.step_with.Goals as goal

pub execute-requires : goal.execute-requires
execute-requires c =
    let m = c.self.inside in
    room_is_enough m.design.now.job m.resolved.value m.under (length m.room.items) m.words m.notes c.self.invariant _ c.as_ref-resolved.ensures _ (omega (arith, c.as_mut_slice-room.ensures.len, m.room.ok.0))

pub invariant_of-self : goal.invariant_of-self
invariant_of-self c =
    let m = c.self.inside in
    let x = c.execute.ensures in
    let fits = subst (λ (r : Running). AreSamples r.job.decls c.args.row.now) (sym c.self.view_is) c.requires in
    ready_after m.design.now.job m.resolved.value m.under (length m.room.items) m.words m.notes c.self.invariant _ c.as_ref-resolved.ensures c.args.row.now fits _ x.words _ _ _ x.under
    (omega (arith, length_refill m.room.len m.room.items c.execute.new.room m.room.ok.0, m.room.ok.0))
    (record_kept m.design.now.job m.resolved.value m.under (length m.room.items) m.words m.notes c.self.invariant _ c.as_ref-resolved.ensures c.args.row.now fits _ x.notes)

pub returns-clause-state : goal.returns-clause-state
returns-clause-state c =
    let m = c.self.inside in
    let fits = subst (λ (r : Running). AreSamples r.job.decls c.args.row.now) (sym c.self.view_is) c.requires in
    state_after m.design.now.job m.resolved.value m.under (length m.room.items) m.words m.notes c.self.invariant _ c.as_ref-resolved.ensures c.args.row.now fits _ c.execute.ensures.words
    ∙ ap (λ (r : Running). after_one r.job (state r) c.args.row.now) c.self.view_is

pub returns-clause-recorded : goal.returns-clause-recorded
returns-clause-recorded c =
    let m = c.self.inside in
    let fits = subst (λ (r : Running). AreSamples r.job.decls c.args.row.now) (sym c.self.view_is) c.requires in
    record_after m.design.now.job m.resolved.value m.under (length m.room.items) m.words m.notes c.self.invariant _ c.as_ref-resolved.ensures c.args.row.now fits _ c.execute.ensures.notes
    ∙ ap (λ (r : Running). record_of r.job (state r) (values_in c.args.row.now)) c.self.view_is

use Rattle.std.proofs.Common.{length, ap, ◌∙◌, subst, sym, arith}
use Rattle.std.specs.List.{length_refill}
use Rattle.kp_stage.specs.Start.{AreSamples}
use Rattle.kp_seq.{specs.Running.Running, specs.Running.state, proofs.Stepping.room_is_enough, proofs.Stepping.state_after, proofs.Stepping.ready_after}
use Rattle.kp_machine.specs.Words.{after_one}
use Rattle.kp_seq.proofs.machine.SeqMachine.step_unrecorded.Goals as goal

pub execute-requires : goal.execute-requires
execute-requires c =
    let m = c.self.inside in
    room_is_enough m.design.now.job m.resolved.value m.under (length m.room.items) m.words m.notes c.self.invariant _ c.as_ref-resolved.ensures _ (omega (arith, c.as_mut_slice-room.ensures.len, m.room.ok.0))

pub invariant_of-self : goal.invariant_of-self
invariant_of-self c =
    let m = c.self.inside in
    let x = c.execute.ensures in
    let fits = subst (λ (r : Running). AreSamples r.job.decls c.args.row.now) (sym c.self.view_is) c.requires in
    ready_after m.design.now.job m.resolved.value m.under (length m.room.items) m.words m.notes c.self.invariant _ c.as_ref-resolved.ensures c.args.row.now fits _ x.words _ _ _ x.under
    (omega (arith, length_refill m.room.len m.room.items c.execute.new.room m.room.ok.0, m.room.ok.0)) c.self.invariant.notes

pub returns-clause-state : goal.returns-clause-state
returns-clause-state c =
    let m = c.self.inside in
    let fits = subst (λ (r : Running). AreSamples r.job.decls c.args.row.now) (sym c.self.view_is) c.requires in
    state_after m.design.now.job m.resolved.value m.under (length m.room.items) m.words m.notes c.self.invariant _ c.as_ref-resolved.ensures c.args.row.now fits _ c.execute.ensures.words
    ∙ ap (λ (r : Running). after_one r.job (state r) c.args.row.now) c.self.view_is

use Rattle.std.proofs.Common.{◌≡◌, ap, ◌∙◌, subst, sym, get_or}
use Rattle.kp_seq.specs.{Running.Running, Running.word_shown, declared.machine.Resolved.Resolved, inner.Notes.record_by, inner.Steps.fitted}
use Rattle.kp_seq.proofs.Start.{shown_is}
use Rattle.kp_machine.specs.Words.{HasWord, no_slot, target, state_in}
use Rattle.kp_seq.proofs.machine.SeqMachine.value.Goals as goal

pub returns : goal.returns
returns c =
    let m = c.self.inside in
    let t = c.args.target in
    let a = c.args.address in
    let v : Running = record { job = m.design.now.job; words = m.words; last = record_by m.notes } in
    let has : HasWord v.job t a = subst (λ (x : Running). HasWord x.job t a) (sym c.self.view_is) c.requires in
    let w : c.target_width-width.result ≡ (target v.job t).width = c.target_width-width.ensures ∙ ap (λ (r : Resolved). (get_or r.tables.targets t no_slot).width) c.as_ref-resolved.ensures ∙ ap (λ ss. (get_or ss t no_slot).width) c.self.invariant.tables.targets in
    c.fitted.ensures
    ∙ ap (fitted c.target_width-width.result) (c.word.ensures ∙ ap (state_in m.words t) c.from.ensures)
    ∙ shown_is v t a c.target_width-width.result c.self.invariant.names c.self.invariant.words has w
    ∙ ap (λ x. word_shown x t a) c.self.view_is

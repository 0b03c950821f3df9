use Rattle.std.proofs.Common.{◌≡◌, ◌∙◌, ℕ, List, Ok, All, Result, length, refl, ap, sym, subst}
use Rattle.std.specs.Prelude.{⊤}
use Rattle.kp_base.specs.declared.run.Run.{Run}
use Rattle.kp_ast.specs.declared.tree.Job.{Job}
use Rattle.kp_directive.specs.Messages.{bytes_in}
use Rattle.kp_diagram_labels.specs.{Labels.IsLabel, Labels.labels_in, Labels.labels_of, declared.label.Label.Label}
use Rattle.kp_view_words.specs.{Asked.order_seen, Words.label_for}
use Rattle.kp_view.{specs.Texts.label_wrong, proofs.Ends.label_refused, proofs.Ends.with_labels}
use Rattle.kp_view.specs.declared.failure.Complaint.TheVariants as complaints
use Rattle.kp_view.proofs.job.with_labels.Goals as goal

-- what is read of the text of the order is what the text names
read_as : (job layout : Job) (text given : List ℕ) (found : Result (List Label) Run) → layout ≡ job → given ≡ text
    → labels_in layout given (record { at = 0; end = length given }) ≡ found → labels_of job text ≡ found
read_as job layout text given found same at is =
    let to : ℕ → Run = λ e. record { at = 0; end = e } in
    sym (λ k. labels_in (same k) (at k) (to (length (at k)))) ∙ is

pub drawn-done-requires-clause-labels : goal.drawn-done-requires-clause-labels
drawn-done-requires-clause-labels g c =
    read_as c.args.job.now.design.job c.in_ok-layout.layout (label_for (order_seen c.args.order.now)) c.label-text.result.now _ c.in_ok-layout.ensures c.label-text.ensures.label c.in-Ok.ensures.labels
    ∙ ap (λ (ls : List Label). Ok ls) (sym c.as_slice.ensures.value)

pub drawn-done-requires-clause-fit : goal.drawn-done-requires-clause-fit
drawn-done-requires-clause-fit g c =
    subst (λ (ls : List Label). All (IsLabel c.args.job.now.design.job (label_for (order_seen c.args.order.now))) ls) (sym c.as_slice.ensures.value)
    (subst (λ (t : List ℕ). All (IsLabel c.args.job.now.design.job t) c.in-Ok.labels.items) c.label-text.ensures.label
    (subst (λ (j : Job). All (IsLabel j c.label-text.result.now) c.in-Ok.labels.items) c.in_ok-layout.ensures c.in-Ok.ensures.fits))

pub returns-in-Ok : goal.returns-in-Ok
returns-in-Ok g c = λ file.
    with_labels g.K.Sink.held g.K.Sink.faults file (order_seen c.args.order.now) c.args.input.now c.args.job.now.design.job c.in-Ok.labels.items c.requires
    (read_as c.args.job.now.design.job c.in_ok-layout.layout (label_for (order_seen c.args.order.now)) c.label-text.result.now _ c.in_ok-layout.ensures c.label-text.ensures.label c.in-Ok.ensures.labels)
    _ _ _ (c.drawn-done.ensures file)

pub bytes_of-requires : goal.bytes_of-requires
bytes_of-requires g c = rw c.in-Err-Word.field-0-is at c.in-Err-Word.ensures.within

pub returns-in-Err-Word : goal.returns-in-Err-Word
returns-in-Err-Word g c = λ file.
    label_refused g.K.Sink.held g.K.Sink.faults file ⊤ (order_seen c.args.order.now) c.args.input.now c.args.job.now.design.job c.in-Err-Word.word
    (complaints.WrongLabel c.in_ok-said-in-Err-Word.said) c.args.out.now c.requires
    (read_as c.args.job.now.design.job c.in_ok-layout.layout (label_for (order_seen c.args.order.now)) c.label-text.result.now _ c.in_ok-layout.ensures c.label-text.ensures.label
    (rw c.in-Err-Word.field-0-is at c.in-Err-Word.ensures.labels)) refl
    (ap label_wrong (c.in_ok-said-in-Err-Word.ensures ∙ c.bytes_of.ensures ∙ ap (λ (t : List ℕ). bytes_in t c.in-Err-Word.word) c.label-text.ensures.label))

use Rattle.std.proofs.Common.{◌∙◌, ◌≤◌, ◌++◌, ℕ, List, ap, ap₂, arith, map, refl, string_bytes}
use Rattle.std.specs.Prelude.{⊤}
use Rattle.kp_directive.proofs.Ranges.{size_of}
use Rattle.kp_view_words.specs.{Asked.order_seen, Asked.task_seen, Words.Order, Words.label_added, Words.named}
use Rattle.kp_view.{specs.Texts.file_text, specs.inner.Listings.listed_seen, proofs.Ends.with_listed, proofs.Ends.misdirected}
use Rattle.kp_view.specs.declared.failure.Complaint.TheVariants as complaints
use Rattle.kp_view.proofs.job.of_job.Goals as goal

pub labelled-order-requires : goal.labelled-order-requires
labelled-order-requires g c =
    let run = c.in-Ok.listed.label in
    let within = c.in-Ok.ensures.label in
    let size = size_of c.args.input.now run.at run.end within.0 within.1 in
    rw c.bytes_of.ensures (omega (arith, size, within.1, c.requires.short))

pub returns-in-Ok : goal.returns-in-Ok
returns-in-Ok g c =
    let task = task_seen c.args.task.now in
    with_listed g.K.Sink.held g.K.Sink.faults task.file task (order_seen c.labelled-order.result) c.args.input.now c.args.job.now.design.job c.in_ok-end.end
    (listed_seen c.args.input.now c.in-Ok.listed) c.in_ok-end.ensures.end c.in-Ok.ensures.listed
    (c.labelled-order.ensures
    ∙ ap₂ (λ (label : List ℕ) (order : Order). label_added label order) c.bytes_of.ensures
    (c.named.ensures ∙ ap (λ l. named (map string_bytes l) (order_seen c.args.task.now.order)) c.as_slice.ensures.value)) _ _ _
    (c.of_order-done.ensures task.file)

pub returns-in_ok-said-in-Err-Rule : goal.returns-in_ok-said-in-Err-Rule
returns-in_ok-said-in-Err-Rule g c =
    let task = task_seen c.args.task.now in
    misdirected g.K.Sink.held g.K.Sink.faults task.file ⊤ task c.args.input.now c.args.job.now.design.job c.in_ok-end.end c.in-Err-Rule.fault
    (complaints.Misdirected c.in_ok-said-in-Err-Rule.said) c.args.out.now c.in_ok-end.ensures.end
    (rw c.in-Err-Rule.field-0-is at c.in-Err-Rule.ensures.listed) refl
    (ap (λ (t : List ℕ). file_text task.file ++ t) c.in_ok-said-in-Err-Rule.ensures)

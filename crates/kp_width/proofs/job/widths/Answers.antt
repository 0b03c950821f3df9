use Rattle.std.proofs.Common.{◌∙◌, ap, sym}
use Rattle.std.specs.{Prelude.slice_get, Option.option_copied, Option.option_map}
use Rattle.kp_base.specs.Findings.{with_answers}
use Rattle.kp_width.specs.{Faults.refusal_of, Widths.all_answers, Widths.after_all}
use Rattle.kp_width.proofs.Listed.{accepted}
use Rattle.kp_width.proofs.job.widths.Goals as goal

pub returns-in-None-clause-answer : goal.returns-in-None-clause-answer
returns-in-None-clause-answer c =
    let a = accepted c.args.job.now c.note_all.new.found c.note_all.new.names
    (c.in_ok-note_all.ensures.found ∙ (λ i. with_answers (c.new-found.ensures i) (all_answers (c.new-names.ensures i) (c.as_slice.ensures i) (c.as_slice-2.ensures i))))
    (λ room. c.in_ok-note_all.ensures.names room ∙ (λ i. after_all (c.new-names.ensures i) (c.as_slice.ensures i) (c.as_slice-2.ensures i)))
    ((λ i. slice_get (sym c.as_slice-3.ensures i) 0) ∙ sym c.first.ensures.value ∙ ap option_copied c.in-None.is) in
    (ap (option_map refusal_of) a.0, c.new.ensures ∙ c.into_entries.ensures ∙ a.1)

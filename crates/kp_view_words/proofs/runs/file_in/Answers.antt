use Rattle.std.proofs.Common.{◌∙◌, sym, ap, length, string_bytes}
use Rattle.kp_view_words.{specs.Words.is_file_after, proofs.Rests.file_found, proofs.Rests.file_none}
use Rattle.kp_view_words.proofs.runs.file_in.Goals as goal

pub returns-then-is_file_after : goal.returns-then-is_file_after
returns-then-is_file_after c =
    file_found string_bytes c.args.rest.now c.in-Some.names.now c.in-Some.last.now c.in-Some.ensures.cases
    (ap (is_file_after (length c.in-Some.names.now)) (sym c.deref.ensures) ∙ sym c.is_file_after.ensures ∙ c.if-is_file_after.true)

pub returns-else-is_file_after : goal.returns-else-is_file_after
returns-else-is_file_after c =
    file_none string_bytes c.args.rest.now c.in-Some.names.now c.in-Some.last.now c.in-Some.ensures.cases
    (ap (is_file_after (length c.in-Some.names.now)) (sym c.deref.ensures) ∙ sym c.is_file_after.ensures ∙ c.if-is_file_after.false)

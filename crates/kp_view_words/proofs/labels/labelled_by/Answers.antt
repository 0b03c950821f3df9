use Rattle.std.proofs.Common.{◌∙◌, ℕ, List, ap, ap₂, map, string_bytes, sym}
use Rattle.std.specs.Prelude.{option_and_then, option_map}
use Rattle.kp_command_line.{specs.Words.Text, specs.Words.is_flag, proofs.Parses.any_text}
use Rattle.kp_view_words.{specs.Asked.task_seen, specs.Words.asks_label, specs.Words.labelled_after, proofs.Flags.by_dash, proofs.Flags.by_label}
use Rattle.kp_view_words.proofs.labels.labelled_by.Goals as goal

pub returns-then-has_flag : goal.returns-then-has_flag
returns-then-has_flag c =
    by_dash (map string_bytes c.args.before.now) (string_bytes c.args.flag.now) (string_bytes c.args.label.now) (option_map (λ word. string_bytes word.now) c.args.listing) (map string_bytes c.args.files.now)
    (sym c.if-has_flag.true ∙ c.has_flag.ensures ∙ any_text string_bytes is_flag c.args.files.now)

pub returns-in_ok-diagram_with : goal.returns-in_ok-diagram_with
returns-in_ok-diagram_with c =
    let before = map string_bytes c.args.before.now in
    let label = string_bytes c.args.label.now in
    let files = map string_bytes c.args.files.now in
    let listing = option_map (λ word. string_bytes word.now) c.args.listing in
    c.labelled_after.ensures
    ∙ ap (λ (t : Text). labelled_after t listing files (task_seen c.in_ok-diagram_with.field-0)) c.as_bytes-then-asks_label.ensures.value
    ∙ ap (option_and_then (labelled_after label listing files)) c.in_ok-diagram_with.ensures
    ∙ by_label before (string_bytes c.args.flag.now) label listing files (sym c.if-has_flag.false ∙ c.has_flag.ensures ∙ any_text string_bytes is_flag c.args.files.now)
    (sym c.if-asks_label.true ∙ c.asks_label.ensures ∙ ap₂ asks_label c.as_str.ensures.value c.as_bytes.ensures.value)

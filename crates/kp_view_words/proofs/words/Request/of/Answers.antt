use Rattle.std.proofs.Common.{◌∙◌, sym, ap, option_map, Option, Some, None, string_bytes}
use Rattle.kp_command_line.specs.Words.{Text}
use Rattle.kp_view_words.{specs.Asked.order_seen, specs.Asked.task_seen, specs.Words.bad_words, specs.Words.show, proofs.Asking.shown, proofs.Asking.versioned}
use Rattle.kp_view_words.proofs.words.Request.of.Goals as goal

pub returns-then-has_version_flag : goal.returns-then-has_version_flag
returns-then-has_version_flag c =
    versioned string_bytes c.args.words.now (sym c.if-asks_help.false ∙ c.asks_help.ensures) (sym c.if-has_version_flag.true ∙ c.has_version_flag.ensures)

pub returns-in-Some : goal.returns-in-Some
returns-in-Some c =
    ap (λ (file : Option Text). show (record { order = order_seen c.in-Some.task.order; file = file })) c.source_in.ensures
    ∙ shown string_bytes c.args.words.now (Some (task_seen c.in-Some.task)) (sym c.if-asks_help.false ∙ c.asks_help.ensures)
    (sym c.if-has_version_flag.false ∙ c.has_version_flag.ensures) (sym (ap (option_map task_seen) c.in-Some.is) ∙ c.in_ok-task.ensures)

pub returns-in-None : goal.returns-in-None
returns-in-None c =
    ap bad_words c.topic_of-topic.ensures
    ∙ shown string_bytes c.args.words.now None (sym c.if-asks_help.false ∙ c.asks_help.ensures)
    (sym c.if-has_version_flag.false ∙ c.has_version_flag.ensures) (sym (ap (option_map task_seen) c.in-None.is) ∙ c.in_ok-task.ensures)

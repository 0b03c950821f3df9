use Rattle.std.proofs.Common.{◌≡◌, ◌∙◌, sym, subst, string_bytes, Option, IfOk}
use Rattle.std.specs.Prelude.{option_map}
use Rattle.kp_command_line.{specs.Words.is_flag, proofs.Parses.any_text}
use Rattle.kp_view_words.{specs.Asked.task_seen, specs.Words.Task}
use Rattle.kp_view_words.proofs.Asking.{with_dash, without_dash}
use Rattle.kp_view_words.proofs.words.task_of.Goals as goal

pub returns-then-has_flag : goal.returns-then-has_flag
returns-then-has_flag c = with_dash string_bytes c.args.words.now _ (sym c.if-has_flag.true ∙ c.has_flag.ensures) c.flagged_task.ensures

pub returns-else-has_flag : goal.returns-else-has_flag
returns-else-has_flag c =
    subst (λ (x : Option Task). IfOk c.task_named.result (λ task. option_map task_seen task ≡ x))
    (without_dash string_bytes c.args.words.now (sym c.if-has_flag.false ∙ c.has_flag.ensures)) c.task_named.ensures

pub task_named-requires : goal.task_named-requires
task_named-requires c = sym (any_text string_bytes is_flag c.args.words.now) ∙ sym c.has_flag.ensures ∙ c.if-has_flag.false

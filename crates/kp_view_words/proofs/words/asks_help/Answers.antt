use Rattle.std.proofs.Common.{◌∙◌, string_bytes}
use Rattle.kp_view_words.proofs.Asking.{flagged}
use Rattle.kp_view_words.proofs.words.asks_help.Goals as goal

pub returns-else-help_place-eq1 : goal.returns-else-help_place-eq1
returns-else-help_place-eq1 c = flagged string_bytes c.args.words.now _ (λ is. c.if-help_place-eq1.false (c.help_place.ensures ∙ is)) c.has_help_flag.ensures

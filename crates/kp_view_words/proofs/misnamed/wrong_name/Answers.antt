use Rattle.std.proofs.Common.{◌∙◌, sym, ap, string_bytes}
use Rattle.kp_view_words.{specs.Words.takes_names, proofs.Parts.first_wrong}
use Rattle.kp_view_words.proofs.misnamed.wrong_name.Goals as goal

pub returns-then-takes_names : goal.returns-then-takes_names
returns-then-takes_names c =
    first_wrong string_bytes c.args.words.now c.names_in.result.now c.word-item.result c.first_other.result c.in-len2-up.len_at_least c.word-item.is
    c.first_other.ensures c.names_in.ensures (sym c.if-takes_names.true ∙ c.takes_names.ensures ∙ ap takes_names c.as_str.ensures.value)

use Rattle.std.proofs.Common.{◌∙◌, sym, ap, string_bytes}
use Rattle.kp_view_words.{specs.Words.asks_files, specs.Words.asks_picture, proofs.Parts.flagged_none, proofs.Parts.flagged_picture, proofs.Parts.flagged_files}
use Rattle.kp_view_words.proofs.words.with_flag.Goals as goal

pub returns-then-has_flag : goal.returns-then-has_flag
returns-then-has_flag c = flagged_none string_bytes c.args.word.now c.args.rest.now c.in-len1-up.len_at_least (sym c.if-has_flag.true ∙ c.has_flag.ensures)

pub returns-then-asks_picture : goal.returns-then-asks_picture
returns-then-asks_picture c =
    c.picture_with.ensures
    ∙ flagged_picture string_bytes c.args.word.now c.args.rest.now c.flag-item.result c.in-len1-up.len_at_least c.flag-item.is
    (sym c.if-has_flag.false ∙ c.has_flag.ensures)
    (sym c.if-asks_picture.true ∙ c.asks_picture.ensures ∙ ap (asks_picture c.args.word.now) c.as_str.ensures.value)

pub returns-then-asks_files : goal.returns-then-asks_files
returns-then-asks_files c =
    c.depth_with.ensures
    ∙ flagged_files string_bytes c.args.word.now c.args.rest.now c.flag-item.result c.in-len1-up.len_at_least c.flag-item.is
    (sym c.if-has_flag.false ∙ c.has_flag.ensures)
    (sym c.if-asks_picture.false ∙ c.asks_picture.ensures ∙ ap (asks_picture c.args.word.now) c.as_str.ensures.value)
    (sym c.if-asks_files.true ∙ c.asks_files.ensures ∙ ap (asks_files c.args.word.now) c.as_str-else-asks_picture.ensures.value)

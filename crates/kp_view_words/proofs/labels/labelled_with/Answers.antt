use Rattle.std.proofs.Common.{◌∙◌, map, string_bytes}
use Rattle.kp_view_words.proofs.Flags.{too_few, two_words}
use Rattle.kp_view_words.proofs.labels.labelled_with.Goals as goal

pub returns-in_default : goal.returns-in_default
returns-in_default c = too_few string_bytes (map string_bytes c.args.before.now) c.args.rest.now c.in_default.len_below

pub returns-in-len2-up : goal.returns-in-len2-up
returns-in-len2-up c =
    c.listed_by.ensures
    ∙ two_words string_bytes (map string_bytes c.args.before.now) c.args.rest.now c.flag-item.result c.label-item.result c.in-len2-up.len_at_least c.flag-item.is c.label-item.is

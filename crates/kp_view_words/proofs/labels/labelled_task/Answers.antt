use Rattle.std.proofs.Common.{◌∙◌, string_bytes}
use Rattle.kp_view_words.proofs.Flags.{cut_there}
use Rattle.kp_view_words.proofs.labels.labelled_task.Goals as goal

pub returns : goal.returns
returns c = c.labelled_with.ensures ∙ cut_there string_bytes c.args.rest.now c.undashed-at.result c.undashed-at.ensures.count

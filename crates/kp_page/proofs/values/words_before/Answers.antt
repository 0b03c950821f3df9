use Rattle.std.proofs.Common.{◌∙◌, ℕ, Bool, List, get_or, ap, sym}
use Rattle.kp_debug.proofs.Places.{file_there}
use Rattle.kp_page.{specs.inner.Seen.seen_before, proofs.Words.file_words}
use Rattle.kp_page.proofs.values.words_before.Goals as goal

pub words-requires : goal.words-requires
words-requires c = file_there _ _ _ c.args.number c.requires.of_job c.requires.file

pub returns-else-is_first : goal.returns-else-is_first
returns-else-is_first c =
    ap (λ (words : List ℕ). λ (a : ℕ). get_or words a 0) c.words.ensures
    ∙ file_words c.args._job.now.design.job c.args.before.now.net c.args._t c.args.number c.requires.file c.args.before.now.state
    ∙ ap (λ (b : Bool). seen_before b c.args._job.now.design.job c.args.before.now c.args._t) (sym c.if-is_first.false)

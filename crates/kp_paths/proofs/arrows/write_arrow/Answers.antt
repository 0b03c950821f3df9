use Rattle.kp_base.proofs.Writing.{◌▷◌}
use Rattle.kp_paths.proofs.arrows.write_arrow.Goals as goal

pub returns : goal.returns
returns g c =
    c.put.ensures ▷ (c.write_stage.ensures
    ▷ (rw (c.word.ensures.value, c.middle-x.ensures.value, c.level-up.ensures, c.landing.ensures, c.look.ensures, c.word-2.ensures.value) at c.fill.ensures))

use Rattle.std.proofs.Common.{◌∙◌, sym}
use Rattle.kp_build.proofs.Fitting.{shown, branches_ok}
use Rattle.kp_build.proofs.operation.chosen.Goals as goal

pub choose-requires-clause-test : goal.choose-requires-clause-test
choose-requires-clause-test c =
    let r = c.requires in record { inside = r.test; wide = (branches_ok c.args.pool.now.nodes c.args.test.0 c.args.yes.0 c.args.no.0 r.test r.yes r.no r.fit).0 }

pub choose-requires-clause-second : goal.choose-requires-clause-second
choose-requires-clause-second c =
    let r = c.requires in
    let same = (branches_ok c.args.pool.now.nodes c.args.test.0 c.args.yes.0 c.args.no.0 r.test r.yes r.no r.fit).1 in
    record { inside = r.no; wide = same ∙ sym c.width-width.ensures.width }

pub returns-clause-shows : goal.returns-clause-shows
returns-clause-shows c = shown _ _ _ _ c.requires.fit c.choose.ensures.word

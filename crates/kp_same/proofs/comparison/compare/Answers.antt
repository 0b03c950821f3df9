use Rattle.std.proofs.Common.{◌≡◌, ◌∙◌, Option, true, sym, subst, rules, MatchOption}
use Rattle.kp_stage.specs.declared.start.Start.{Start}
use Rattle.kp_machine.specs.Machine.{state_of}
use Rattle.kp_same.specs.{Same.FitsState, Same.SameInstruction, Verdicts.SaysOfTarget, declared.difference.Difference.Difference}
use Rattle.kp_same.proofs.{Alike.start_alike, Starting.starts_fit}
use Rattle.kp_same.proofs.comparison.compare.Goals as goal

pub returns-in-None : goal.returns-in-None
returns-in-None c =
    let a = c.args.a.now.job in
    let b = c.args.b.now.job in
    let t : c.same_start.result ≡ true = search rules in
    start_alike a b (subst (λ (o : Option Difference). MatchOption o (SameInstruction a b) (SaysOfTarget a b)) c.in-None.is c.in_ok-difference.ensures)
    (sym c.requires.first ∙ c.same_start.ensures.same t ∙ c.requires.second)
    (subst (λ (s : Start). FitsState a (state_of a s)) c.requires.first (starts_fit a c.args.a_start.now c.job-first.ensures.sound.names c.requires.suits))

use Rattle.std.proofs.Common.{◌≡◌, subst, IfOk}
use Rattle.clap.specs.{Simple.App, Words.app_of}
use Rattle.kp_command_line.proofs.Parses.{ruled}
use Rattle.kp_command_line.proofs.taking.Goals as goal

pub returns-clause-app : goal.returns-clause-app
returns-clause-app c =
    subst (λ (a : App). IfOk c.with_argument.result (λ more. app_of more ≡ a)) (ruled (app_of c.args.command) c.args.most c.requires.rules c.if-most-eq0.false)
    c.with_argument.ensures.app

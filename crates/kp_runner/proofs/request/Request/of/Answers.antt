use Rattle.std.specs.Prelude.{string_bytes}
use Rattle.kp_runner.{specs.Words.asked, proofs.Asking.helped, proofs.Asking.versioned, proofs.Asking.worded}
use Rattle.kp_runner.proofs.request.Request.of.Goals as goal

pub returns-then-has_help : goal.returns-then-has_help
returns-then-has_help c = helped string_bytes c.args.words.now c.if-has_help.ensures

pub returns-then-has_version : goal.returns-then-has_version
returns-then-has_version c = versioned string_bytes c.args.words.now c.if-has_help.ensures c.if-has_version.ensures

pub returns : goal.returns
returns c = worded string_bytes c.args.words.now (asked c.in_ok-request.request) c.if-has_help.ensures c.if-has_version.ensures c.in_ok-request.ensures

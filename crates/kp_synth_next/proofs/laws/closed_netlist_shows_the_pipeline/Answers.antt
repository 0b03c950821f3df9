use Rattle.kp_synth_next.proofs.Whole.{shows_over, words_always, shows_anew, holds_over, holds_anew}
use Rattle.kp_synth_next.proofs.laws.closed_netlist_shows_the_pipeline.Goals as goal

pub returns-clause-over : goal.returns-clause-over
returns-clause-over c = λ job net start outs p ins all e q. shows_over job net start outs p all e ins q

pub returns-clause-words : goal.returns-clause-words
returns-clause-words c = λ job net start outs p ins all. words_always job net start outs p all ins

pub returns-clause-anew : goal.returns-clause-anew
returns-clause-anew c = λ job net start outs p s i ins all e h r q. shows_anew job net start outs p all e s i ins h r q

pub returns-clause-holds : goal.returns-clause-holds
returns-clause-holds c = λ job net start outs p ins all e q. holds_over job net start outs p all e ins q

pub returns-clause-holds_anew : goal.returns-clause-holds_anew
returns-clause-holds_anew c = λ job net start outs p s i ins all e h r q. holds_anew job net start outs p all e s i ins h r q

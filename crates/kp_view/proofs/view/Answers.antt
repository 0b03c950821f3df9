use Rattle.std.proofs.Common.{arith}
use Rattle.kp_view.proofs.Outside as ends
use Rattle.kp_view.proofs.view.Goals as goal

pub returns-clause-due : goal.returns-clause-due
returns-clause-due g c = λ final. ends.completes g.K.Sink.held g.K.Sink.faults g.E.Sink.held g.E.Sink.faults _ _ _ _ _ _ _ _ _ c.status_of.result c.ended.ensures.ends c.status_of.ensures final

pub returns-clause-read_fault : goal.returns-clause-read_fault
returns-clause-read_fault g c = λ three. ends.at_three g.K.Sink.held g.K.Sink.faults g.E.Sink.held g.E.Sink.faults _ _ _ _ _ _ _ _ _ c.status_of.result c.ended.ensures.ends c.status_of.ensures three

pub returns-clause-write_fault : goal.returns-clause-write_fault
returns-clause-write_fault g c = λ four. ends.at_four g.K.Sink.held g.K.Sink.faults g.E.Sink.held g.E.Sink.faults _ _ _ _ _ _ _ _ _ c.status_of.result c.ended.ensures.ends c.status_of.ensures four

pub returns-clause-no_memory : goal.returns-clause-no_memory
returns-clause-no_memory g c = λ five. ends.at_five g.K.Sink.held g.K.Sink.faults g.E.Sink.held g.E.Sink.faults _ _ _ _ _ _ _ _ _ c.status_of.result c.ended.ensures.ends c.status_of.ensures five

pub returns-clause-complete : goal.returns-clause-complete
returns-clause-complete g c = λ source out err memory.
    ends.complete g.K.Sink.held g.K.Sink.faults g.E.Sink.held g.E.Sink.faults ⊥ _ _ _ _ _ _ _ c.status_of.result
    (ends.unfailing g.K.Sink.held g.K.Sink.faults g.E.Sink.held g.E.Sink.faults _ _ _ _ _ _ _ _ _ c.status_of.result c.ended.ensures.ends c.status_of.ensures source out err memory)

pub returns-clause-bad_words : goal.returns-clause-bad_words
returns-clause-bad_words g c = λ topic is final.
    ends.bad g.K.Sink.held g.K.Sink.faults g.E.Sink.held g.E.Sink.faults ⊥ _ _ _ _ _ _ _ topic c.status_of.result is
    (ends.completes g.K.Sink.held g.K.Sink.faults g.E.Sink.held g.E.Sink.faults _ _ _ _ _ _ _ _ _ c.status_of.result c.ended.ensures.ends c.status_of.ensures final)

pub returns-clause-unaccepted : goal.returns-clause-unaccepted
returns-clause-unaccepted g c = λ one.
    ends.unaccepted g.K.Sink.held g.E.Sink.held _ _ _ _ _ _ _ c.status_of.result one
    (ends.completes g.K.Sink.held g.K.Sink.faults g.E.Sink.held g.E.Sink.faults _ _ _ _ _ _ _ _ _ c.status_of.result c.ended.ensures.ends c.status_of.ensures
    (λ e. omega (arith, one, e), λ e. omega (arith, one, e), λ e. omega (arith, one, e)))

pub returns-clause-refused : goal.returns-clause-refused
returns-clause-refused g c = λ d is two.
    ends.refused g.K.Sink.held g.E.Sink.held d _ _ _ _ _ _ _ is c.status_of.result two
    (ends.completes g.K.Sink.held g.K.Sink.faults g.E.Sink.held g.E.Sink.faults _ _ _ _ _ _ _ _ _ c.status_of.result c.ended.ensures.ends c.status_of.ensures
    (λ e. omega (arith, two, e), λ e. omega (arith, two, e), λ e. omega (arith, two, e)))

pub returns-clause-refused_only : goal.returns-clause-refused_only
returns-clause-refused_only g c = λ d is zero_is.
    ends.unrefused g.K.Sink.held g.E.Sink.held d _ _ _ _ _ _ _ is c.status_of.result zero_is
    (ends.completes g.K.Sink.held g.K.Sink.faults g.E.Sink.held g.E.Sink.faults _ _ _ _ _ _ _ _ _ c.status_of.result c.ended.ensures.ends c.status_of.ensures
    (λ e. omega (arith, zero_is, e), λ e. omega (arith, zero_is, e), λ e. omega (arith, zero_is, e)))

pub returns-clause-drawn : goal.returns-clause-drawn
returns-clause-drawn g c = λ d is zero_is.
    ends.drawn g.K.Sink.held g.E.Sink.held d _ _ _ _ _ _ _ is c.status_of.result zero_is
    (ends.completes g.K.Sink.held g.K.Sink.faults g.E.Sink.held g.E.Sink.faults _ _ _ _ _ _ _ _ _ c.status_of.result c.ended.ensures.ends c.status_of.ensures
    (λ e. omega (arith, zero_is, e), λ e. omega (arith, zero_is, e), λ e. omega (arith, zero_is, e)))

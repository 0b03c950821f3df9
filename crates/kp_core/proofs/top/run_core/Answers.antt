use Rattle.std.proofs.Common.{◌≢◌, ◌∙◌, ℕ, List, sym, subst, arith, IfSome, ⊎_elim}
use Rattle.kp_core.{specs.Words.asked, specs.Answers.text_said, specs.Due.DueFor, specs.Due.Prints, proofs.Known.complete, proofs.Promised.between}
use Rattle.kp_core.proofs.top.run_core.Goals as goal

pub returns-in-Ok-clause-complete : goal.returns-in-Ok-clause-complete
returns-in-Ok-clause-complete g c = λ source out err memory.
    let live : c.written.result ≢ 4 = λ four. ⊎_elim out err (c.written.ensures.failed four).0 in
    let printed = c.written.ensures.printed live in
    let a = c.in-Ok.answer in
    subst (λ (status : ℕ). IfSome (g.S.Source.left c.args.source.now) (λ input. (text : List ℕ) × DueFor (asked c.args.request.now) input status text
    × Prints g.K.Sink.held g.E.Sink.held c.args.out.now c.written.new.out c.args.err.now c.written.new.err status text)) (sym printed.0)
    (complete g.K.Sink.held g.E.Sink.held c.args.out.now c.written.new.out c.args.err.now c.written.new.err (asked c.args.request.now) (g.S.Source.left c.args.source.now)
    (g.S.Source.left c.answer.new.source) a.status (text_said a.said) c.in-Ok.ensures.due printed.1)

pub returns-in-Ok-clause-promises : goal.returns-in-Ok-clause-promises
returns-in-Ok-clause-promises g c = λ form file is done.
    let live : c.written.result ≢ 4 = λ four. omega (arith, done, four) in
    let printed = c.written.ensures.printed live in
    let a = c.in-Ok.answer in
    between g.K.Sink.held g.E.Sink.held c.args.out.now c.written.new.out c.args.err.now c.written.new.err form file (asked c.args.request.now)
    (g.S.Source.left c.args.source.now) (g.S.Source.left c.answer.new.source) a.status (text_said a.said) is (sym printed.0 ∙ done) c.in-Ok.ensures.due printed.1

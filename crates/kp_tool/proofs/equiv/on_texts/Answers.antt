use Rattle.std.proofs.{Common.take, Common.Ok, Common.Err, Common.refl, lemmas.Result.err_from_is_err_and}
use Rattle.kp_equiv.proofs.Jobs.{comparable}
use Rattle.kp_tool.{specs.Compared.DueOfPairHead, proofs.Ends.said, proofs.Modules.misread_end, proofs.Modules.module_named, proofs.Modules.module_jobs}
use Rattle.kp_tool.proofs.equiv.on_texts.Goals as goal

pub returns-in_err-first : goal.returns-in_err-first
returns-in_err-first g c =
    let p = err_from_is_err_and c.from_residual.result c.from_residual.ensures.1 in
    let input = c.args.input.now in
    let head = c.args.head.now in
    let middle = c.first_module_end-middle in
    rw (p.1, p.2) (misread_end g.K.Sink.held g.K.Sink.faults (DueOfPairHead input (Ok (head.job.design.job, head.rest))) head.job.design.job (take middle.result input) head.rest
    (λ r broken. (middle.result, middle.ensures.ends, (Err r, broken, (refl, refl)))) c.args.sink.now _ c.in_err-first.ensures)

pub returns-in_err-second : goal.returns-in_err-second
returns-in_err-second g c =
    let p = err_from_is_err_and c.from_residual-in_err-second.result c.from_residual-in_err-second.ensures.1 in
    let input = c.args.input.now in
    let head = c.args.head.now in
    let middle = c.first_module_end-middle in
    rw (p.1, p.2) (misread_end g.K.Sink.held g.K.Sink.faults (DueOfPairHead input (Ok (head.job.design.job, head.rest))) head.job.design.job input middle.result
    (λ r broken. (middle.result, middle.ensures.ends, (Ok c.in_ok-first.first, c.in_ok-first.ensures, (Err r, broken, (refl, refl))))) c.args.sink.now _ c.in_err-second.ensures)

pub compared-comparison-requires : goal.compared-comparison-requires
compared-comparison-requires g c =
    let first = c.in_ok-first.ensures in
    let second = c.in_ok-second.ensures in
    comparable c.in_ok-first.first c.in_ok-second.second c.args.head.now.job.design.job (module_named _ _ _ _ first) (module_named _ _ _ _ second) (module_jobs _ _ _ _ first) (module_jobs _ _ _ _ second)

pub returns : goal.returns
returns g c =
    let input = c.args.input.now in
    let head = c.args.head.now in
    let middle = c.first_module_end-middle in
    said g.K.Sink.held g.K.Sink.faults (DueOfPairHead input (Ok (head.job.design.job, head.rest))) _ _
    (middle.result, middle.ensures.ends, (Ok c.in_ok-first.first, c.in_ok-first.ensures, (Ok c.in_ok-second.second, c.in_ok-second.ensures, c.in_ok-comparison.ensures))) _ _ _ c.finish.ensures

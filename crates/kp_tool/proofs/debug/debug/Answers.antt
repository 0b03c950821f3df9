use Rattle.std.proofs.{Common.Ok, Common.Some, lemmas.Result.err_from_is_err_and}
use Rattle.kp_words.specs.declared.commands.Command.TheVariants.{Debug}
use Rattle.kp_tool.{specs.Due.DueFor, specs.Scripted.DueOfScriptHead, proofs.Dues.script_head_refused_is_due, proofs.Dues.script_is_due}
use Rattle.kp_tool.proofs.Ends.{refused_head, wider}
use Rattle.kp_tool.proofs.debug.debug.Goals as goal

pub returns-in_err-head : goal.returns-in_err-head
returns-in_err-head g c =
    let p = err_from_is_err_and c.from_residual.result c.from_residual.ensures.1 in
    let input = c.args.input.now in
    rw p.1 (refused_head g.K.Sink.held g.K.Sink.faults (DueFor (Some Debug) input) input (λ r judged. script_head_refused_is_due input r c.requires judged)
    c.args.sink.now c.in_err-head.field-0.0 p.0 p.2 c.in_err-head.ensures.answer)

pub returns : goal.returns
returns g c =
    let input = c.args.input.now in
    let head = c.in_ok-head.head in
    wider g.K.Sink.held g.K.Sink.faults (DueOfScriptHead input (Ok (head.job.design.job, head.rest))) (DueFor (Some Debug) input)
    (λ status text due. script_is_due input head.job.design.job head.rest status text c.requires c.in_ok-head.ensures.answer due) _ _ _ c.on_script-end.ensures

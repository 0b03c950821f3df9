use Rattle.std.proofs.{Common.ℕ, Common.◌≤◌, Common.List, Common.length, Common.Ok, Common.Some, lemmas.Result.err_from_is_err_and}
use Rattle.kp_ast.specs.declared.tree.Job.{Job}
use Rattle.kp_words.specs.declared.commands.Command.TheVariants.{Watch}
use Rattle.kp_frontend.specs.Judging.{JudgesHeadText}
use Rattle.kp_tool.{specs.Due.DueFor, specs.Watched.DueOfHead, proofs.Dues.head_refused_is_due, proofs.Dues.head_accepted_is_due}
use Rattle.kp_tool.proofs.Ends.{refused_head, wider}
use Rattle.kp_tool.proofs.watch.watch.Goals as goal

accepted : (n : ℕ) (input : List ℕ) (job : Job) (rest status : ℕ) (text : List ℕ) → length input ≤ 16777216 → JudgesHeadText input (Ok (job, rest))
    → DueOfHead n input (Ok (job, rest)) status text → DueFor (Some (Watch n)) input status text
accepted n input job rest status text short judged (verdict, read, due) = head_accepted_is_due n input job rest verdict status text short judged read due

pub returns-in_err-head : goal.returns-in_err-head
returns-in_err-head g c =
    let p = err_from_is_err_and c.from_residual.result c.from_residual.ensures.1 in
    let input = c.args.input.now in
    rw p.1 (refused_head g.K.Sink.held g.K.Sink.faults (DueFor (Some (Watch c.args.count)) input) input (λ r judged. head_refused_is_due c.args.count input r c.requires judged)
    c.args.sink.now c.in_err-head.field-0.0 p.0 p.2 c.in_err-head.ensures.answer)

pub returns : goal.returns
returns g c =
    let input = c.args.input.now in
    let head = c.in_ok-head.head in
    wider g.K.Sink.held g.K.Sink.faults (DueOfHead c.args.count input (Ok (head.job.design.job, head.rest))) (DueFor (Some (Watch c.args.count)) input)
    (λ status text due. accepted c.args.count input head.job.design.job head.rest status text c.requires c.in_ok-head.ensures.answer due) _ _ _ c.on_text-end.ensures

use Rattle.std.proofs.{Common.ℕ, Common.List, Common.Ok, Common.Err, Common.refl, lemmas.Result.err_from_is_err_and}
use Rattle.kp_base.specs.declared.refusal.Refusal.{Refusal}
use Rattle.kp_ast.specs.declared.tree.Job.{Job}
use Rattle.kp_net.specs.Netlist.{Net}
use Rattle.kp_report.specs.Texts.{refusal_line}
use Rattle.kp_tool.specs.Watched.{DueOfHead, DueOfRun, of_other, of_job}
use Rattle.kp_tool.{specs.Compared.ReadsModule, specs.Compared.misread, specs.Compared.not_jobs, specs.Compared.jobs, proofs.Ends.said}
use Rattle.kp_tool.proofs.Modules.{misread_end, module_jobs, module_outputs}
use Rattle.kp_tool.proofs.watch.on_text.Goals as goal

refused : (n : ℕ) (input : List ℕ) (job : Job) (rest : ℕ) (r : Refusal) → ReadsModule job input rest (Err r) → DueOfHead n input (Ok (job, rest)) 6 (refusal_line r)
refused n input job rest _ (misread {refusal = r} broken) = (Err r, broken, (refl, refl))
refused n input job rest _ (not_jobs {net = net} read other) = (Ok net, read, of_other other (refl, refl))

ran : (n : ℕ) (input : List ℕ) (job : Job) (rest : ℕ) (net : Net) (status : ℕ) (text : List ℕ) → ReadsModule job input rest (Ok net) → DueOfRun n job net status text
    → DueOfHead n input (Ok (job, rest)) status text
ran n input job rest net status text (jobs read is) due = (Ok net, read, of_job is due)

pub returns-in_err-net : goal.returns-in_err-net
returns-in_err-net g c =
    let p = err_from_is_err_and c.from_residual.result c.from_residual.ensures.1 in
    let input = c.args.input.now in
    let head = c.args.head.now in
    rw (p.1, p.2) (misread_end g.K.Sink.held g.K.Sink.faults (DueOfHead c.args.count input (Ok (head.job.design.job, head.rest))) head.job.design.job input head.rest
    (λ r broken. refused c.args.count input head.job.design.job head.rest r broken) c.args.sink.now _ c.in_err-net.ensures)

pub compared-watched-requires-clause-of_job : goal.compared-watched-requires-clause-of_job
compared-watched-requires-clause-of_job g c = module_jobs _ _ _ _ c.in_ok-net.ensures

pub compared-watched-requires-clause-outputs : goal.compared-watched-requires-clause-outputs
compared-watched-requires-clause-outputs g c = module_outputs _ _ _ _ c.in_ok-net.ensures

pub returns : goal.returns
returns g c =
    let input = c.args.input.now in
    let head = c.args.head.now in
    said g.K.Sink.held g.K.Sink.faults (DueOfHead c.args.count input (Ok (head.job.design.job, head.rest))) _ _
    (ran c.args.count input head.job.design.job head.rest c.in_ok-net.net _ _ c.in_ok-net.ensures c.in_ok-watched.ensures) _ _ _ c.finish.ensures

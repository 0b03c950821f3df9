use Rattle.std.proofs.Common.{◌≡◌, ◌∙◌, ℕ, List, Ok, Err, refl, ap, sym, subst}
use Rattle.std.{proofs.lemmas.Result.err_from_is_err_and, specs.declared.option.Option.Option, specs.declared.result.Result.Result, specs.Global.Vec}
use Rattle.kp_base.specs.{Check.Gives, declared.refusal.Refusal.Refusal, declared.refusal.Refused.Refused}
use Rattle.kp_base.specs.declared.refusal.Refused.TheVariants.{Rule, NoMemory}
use Rattle.kp_ast.specs.declared.tree.Job.{Job}
use Rattle.kp_debug_script.specs.{declared.command.Command.Command, Scripts.script_of}
use Rattle.kp_debug.specs.Inspecting.{Inspected, printed, whole_run}
use Rattle.kp_report.specs.Texts.{refusal_line}
use Rattle.kp_tool.specs.{Scripted.DueOfScript, Scripted.DueOfScriptHead, Ends.Ends, inner.Failures.failure_of, declared.failure.Failure.Failure}
use Rattle.kp_tool.proofs.Ends.{said}
use Rattle.kp_tool.proofs.debug.on_script.Goals as goal

-- the script violates a rule
refused_end : {S : Type 0} (held : S → Option (List ℕ)) (faults : S → ℕ) {T : Type 0} (value : T → List Command) (input : List ℕ) (job : Job) (rest : ℕ) (s : S) (e : Refused) (f : Failure)
    → f ≡ failure_of e → Gives {T = T} (Err e) (script_of job.decls input rest) value → Ends held faults ⊥ (DueOfScriptHead input (Ok (job, rest))) s s (Err f)
refused_end held faults value input job rest s (Rule r) f is broken =
    rw is (refl, subst (λ (found : Result (List Command) Refusal). DueOfScript job found 2 (refusal_line r)) (sym broken) (refl, refl))
refused_end held faults value input job rest s NoMemory f is broken = rw is refl

-- or none, and its machine is in cycle 0
ran : (input : List ℕ) (job : Job) (rest : ℕ) (i : Inspected) (given commands : List Command) → script_of job.decls input rest ≡ Ok commands → i ≡ record { job = job; cycle = 0 }
    → given ≡ commands → DueOfScriptHead input (Ok (job, rest)) 0 (printed i.job (whole_run i.job) i.cycle given)
ran input job rest i given commands read opened same =
    subst (λ (found : Result (List Command) Refusal). DueOfScript job found 0 (printed i.job (whole_run i.job) i.cycle given)) (sym read)
    (refl, ap (λ (k : Inspected). printed k.job (whole_run k.job) k.cycle given) opened ∙ ap (λ (cs : List Command). printed job (whole_run job) 0 cs) same)

pub returns-in_err-commands : goal.returns-in_err-commands
returns-in_err-commands g c =
    let p = err_from_is_err_and c.from_residual.result c.from_residual.ensures.1 in
    let head = c.args.head.now in
    rw p.1 (refused_end g.K.Sink.held g.K.Sink.faults (λ (commands : Vec Command). commands.items) c.args.input.now head.job.design.job head.rest c.args.sink.now c.in_err-commands.field-0.0 p.0 p.2
    c.in_err-commands.ensures.read)

pub returns : goal.returns
returns g c =
    let input = c.args.input.now in
    let head = c.args.head.now in
    said g.K.Sink.held g.K.Sink.faults (DueOfScriptHead input (Ok (head.job.design.job, head.rest))) 0 _
    (ran input head.job.design.job head.rest c.in_ok-inspection.inspection _ c.in_ok-commands.commands.items c.in_ok-commands.ensures.read c.in_ok-inspection.ensures c.as_slice.ensures.value)
    _ _ _ c.finish.ensures

use Rattle.std.proofs.Common.{◌≡◌, ◌∙◌, ℕ, List, Ok, Err, IfOk, ap, subst}
use Rattle.std.specs.{declared.result.Result.Result, Global.Vec}
use Rattle.kp_base.specs.{Check.Gives, declared.refusal.Refused.Refused}
use Rattle.kp_ast.specs.declared.tree.{Decl.Decl, Job.Job}
use Rattle.kp_debug_script.specs.{declared.command.Command.Command, Scripts.script_of}
use Rattle.kp_debug.specs.Inspecting.{AreOfJob}
use Rattle.kp_tool.proofs.debug.commands_of.Goals as goal

of_job : {T : Type 0} (value : T → List Command) (r : Result T Refused) (input : List ℕ) (job : Job) (rest : ℕ)
    → ((cs : List Command) → script_of job.decls input rest ≡ Ok cs → AreOfJob job cs) → Gives r (script_of job.decls input rest) value → IfOk r (λ t. AreOfJob job (value t))
of_job value (Ok t) input job rest law read = law (value t) read
of_job value (Err e) input job rest law read = tt

pub returns : goal.returns
returns c =
    let input = c.args.input.now in
    let head = c.args.head.now in
    let job = head.job.design.job in
    let decls : c.as_slice-decls.result.now ≡ job.decls = c.as_slice-decls.ensures ∙ ap (λ (j : Job). j.decls) c.job.ensures.job in
    let read = subst (λ (ds : List Decl). Gives c.read_script.result (script_of ds input head.rest) (λ (commands : Vec Command). commands.items)) decls c.read_script.ensures in
    record {
      read = read;
      of_job = of_job (λ (commands : Vec Command). commands.items) c.read_script.result input job head.rest (λ commands is. c.a_script_is_of_its_job.ensures job input head.rest commands is) read;
    }

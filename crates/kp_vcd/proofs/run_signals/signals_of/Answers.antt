use Rattle.std.proofs.Common.{◌≡◌, ◌≤◌, ◌∙◌, ◌∷◌, ◌+◌, ◌++◌, drop, ap, sym, subst, arith, List}
use Rattle.kp_ast.specs.declared.tree.Job.{Job}
use Rattle.kp_machine.proofs.Widths.{Fine, job_fine}
use Rattle.kp_run.proofs.Machines.{stages_fit}
use Rattle.kp_vcd.specs.{declared.dump.Signal.Signal, Dumps.register_signals, Dumps.signals_of}
use Rattle.kp_vcd.proofs.Naming.{width_fits, signals_next, one_signal, no_signal}
use Rattle.kp_vcd.proofs.run_signals.signals_of.Goals.{in-Reg+in_ok-register+in_ok-push-4, in_default}
use Rattle.kp_vcd.proofs.run_signals.signals_of.Goals as goal

pub overflow_cast-stages : goal.overflow_cast-stages
overflow_cast-stages c =
    let few : c.job-job.result.now.stages.value ≤ 12 = rw c.job-job.ensures.job (stages_fit c.args.design.now.job c.job-job.ensures.sound.stages).1 in
    omega (arith, few)

pub overflow_cast-width : goal.overflow_cast-width
overflow_cast-width c =
    let job = c.args.design.now.job in
    let ds = c.as_slice-decl-items.result.now in
    let are : ds ≡ job.decls = c.as_slice-decl-items.ensures ∙ ap (λ (j : Job). j.decls) c.job-job.ensures.job in
    let fine : Fine ds = subst Fine (sym are) (job_fine job c.job-job.ensures.sound.names) in
    let within : c.in-Reg.width.value ≤ 64 = width_fits ds c.loop-decl.decl-index c.decl-item.result c.in-Reg.n c.in-Reg.width c.in-Reg.field-2 fine c.loop-decl-test.true c.decl-item.is c.in-Reg.is in
    omega (arith, within)

pub loop-decl-preserved : goal.loop-decl-preserved
loop-decl-preserved c =
    let ds = c.as_slice-decl-items.result.now in
    let i = c.loop-decl.decl-index in
    let x = c.decl-item.result in
    let olds = c.loop-decl.signals.items in
    let rest = drop (i + 1) ds in
    let kept : olds ++ register_signals (x ∷ rest) ≡ signals_of c.args.design.now.job =
    ap (λ (ss : List Signal). olds ++ ss) (sym (signals_next ds i x c.loop-decl-test.true c.decl-item.is)) ∙ c.loop-decl.invariant in
    elim c.match-decl.branch [
      | in-Reg+in_ok-register+in_ok-push-4 w ↦
          rw w.signals-is (rw w.in_ok-push-4.ensures.items
          (one_signal olds x rest w.in-Reg.n w.in-Reg.width w.in-Reg.field-2 _ w.in-Reg.is w.in_ok-register.ensures ∙ kept))
      | in_default w ↦ rw w.signals-is (ap (λ (ss : List Signal). olds ++ ss) (no_signal x rest w.in_default.not-Reg) ∙ kept)
    ]

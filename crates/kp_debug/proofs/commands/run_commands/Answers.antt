use Rattle.std.proofs.{Common.◌∙◌, Common.ap, Common.sym, Common.subst, Common.arith, lemmas.Result.err_from_is_err_and, KnownBytes.Appends-nil}
use Rattle.kp_base.proofs.Bytes.{written_part, rest_whole}
use Rattle.kp_debug.specs.{Sessions.Debugged, Inspecting.reached, Inspecting.IsOfTargets, inner.Standing.run_of}
use Rattle.kp_debug.proofs.Standing.{printed_next, printed_end, ends_end, one_command, one_end, under_at, reached_there}
use Rattle.kp_report.proofs.Lines.{left_is}
use Rattle.kp_debug.proofs.commands.run_commands.Goals as goal

pub run_command-requires-clause-command : goal.run_command-requires-clause-command
run_command-requires-clause-command g c =
    subst (IsOfTargets c.args.job.now.design.job) (sym c.command-item.is)
    (c.requires.commands c.loop-command.command-index c.command-item.result c.loop-command-test.true)

pub loop-command-preserved : goal.loop-command-preserved
loop-command-preserved g c =
    let job = c.args.job.now.design.job in
    let s = c.loop-command.session in
    let kept = c.loop-command.invariant in
    let on = c.in_ok-run_command.ensures.session in
    record {
      net = ap (λ (x : Debugged). x.net) on ∙ kept.net;
      under = under_at job s kept.under _ (reached (run_of job s) s.cycle c.command-item.result) on (reached_there job s kept.under c.command-item.result);
      text =
          one_command job s _ c.args.commands.now c.loop-command.command-index c.command-item.result c.loop-command-test.true c.command-item.is _ _ _ _ kept.text on
          c.in_ok-run_command.ensures.text;
      ends = one_end job s _ c.args.commands.now c.loop-command.command-index c.command-item.result c.loop-command-test.true c.command-item.is _ kept.ends on;
      later = omega arith;
    }

pub returns-in_err-run_command-clause-net : goal.returns-in_err-run_command-clause-net
returns-in_err-run_command-clause-net g c = ap (λ (x : Debugged). x.net) c.in_err-run_command.ensures.session ∙ c.loop-command.invariant.net

pub returns-in_err-run_command-clause-under : goal.returns-in_err-run_command-clause-under
returns-in_err-run_command-clause-under g c =
    let job = c.args.job.now.design.job in
    let s = c.loop-command.session in
    let kept = c.loop-command.invariant in
    under_at job s kept.under _ (reached (run_of job s) s.cycle c.command-item.result) c.in_err-run_command.ensures.session (reached_there job s kept.under c.command-item.result)

pub returns-in_err-run_command-clause-text : goal.returns-in_err-run_command-clause-text
returns-in_err-run_command-clause-text g c =
    let job = c.args.job.now.design.job in
    let s = c.loop-command.session in
    let next = printed_next job (run_of job s) s.cycle c.args.commands.now c.loop-command.command-index c.command-item.result c.loop-command-test.true c.command-item.is in
    let exit = err_from_is_err_and c.from_residual.result c.from_residual.ensures.1 in
    rw exit.1 (written_part _ _ _ _ _ _ (left_is _ _ _ _ _ next c.loop-command.invariant.text) c.in_err-run_command.ensures.text)

pub returns-clause-text : goal.returns-clause-text
returns-clause-text g c =
    let job = c.args.job.now.design.job in
    let s = c.loop-command.session in
    let none = printed_end job (run_of job s) s.cycle c.args.commands.now c.loop-command.command-index (omega arith) in
    rest_whole _ _ _ _ _ (left_is _ _ _ _ _ none c.loop-command.invariant.text) (Appends-nil _)

pub returns-clause-cycle : goal.returns-clause-cycle
returns-clause-cycle g c =
    let s = c.loop-command.session in
    sym (c.loop-command.invariant.ends ∙ ends_end (run_of c.args.job.now.design.job s) s.cycle c.args.commands.now c.loop-command.command-index (omega arith))

use Rattle.std.proofs.Common.{◌∙◌, ◌<◌, ℕ, ap, sym, subst, arith}
use Rattle.kp_machine.specs.Machine.{machine_of, sequential, taken_of}
use Rattle.kp_sched.proofs.Runs.{agree, passed_is}
use Rattle.kp_sched.proofs.laws.a_monitor_reports_what_is_shown.Goals as goal

pub returns-clause-shown : goal.returns-clause-shown
returns-clause-shown c m ins rows t a watched has =
    let job = c.args.design.now.job in
    let stage = (machine_of job).write_stage t in
    let there : stage < m.stages = subst (λ (n : ℕ). stage < n) (sym watched.stages) (c.a_design_is_accepted.ensures.writes t has) in
    c.a_design_is_legal.ensures.shown ins _ t a (omega arith) has
    ∙ ap (λ (i : ℕ). sequential job (taken_of job ins) i t a) (sym (passed_is job m ins rows watched stage there))

pub returns-clause-agree : goal.returns-clause-agree
returns-clause-agree c m ins rows k watched = agree c.args.design.now.job m ins rows watched c.a_design_is_accepted.ensures k

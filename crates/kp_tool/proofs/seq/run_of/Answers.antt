use Rattle.std.proofs.Common.{ℕ, List, ◌≡◌, ap, sym, subst}
use Rattle.kp_bits.specs.Word.{Word}
use Rattle.kp_ast.specs.declared.tree.Job.{Job}
use Rattle.kp_stage.specs.Start.{AreSamples, input}
use Rattle.kp_image.specs.Feeds.{row_in}
use Rattle.kp_image.proofs.Given.{starts, rows_fit}
use Rattle.kp_tool.proofs.Running.{run_is_sequential}
use Rattle.kp_tool.proofs.seq.run_of.Goals as goal

pub open-requires : goal.open-requires
open-requires c = record { suits = rw c.args.job.now.start (starts _ c.job-kept.ensures.sound.names c.args.job.now.unbroken) }

pub advance-requires : goal.advance-requires
advance-requires c cycle =
    let job = c.args.job.now.design.job in
    let rows = row_in c.args.job.now.sections.inputs in
    let row : rows cycle ≡ input job cycle = ap (λ (f : ℕ → List Word). f cycle) c.args.job.now.inputs in
    subst (λ (j : Job). AreSamples j.decls (rows cycle)) (sym c.in_ok-machine.ensures.job)
    (subst (λ (x : List Word). AreSamples job.decls x) (sym row) (rows_fit job c.job-kept.ensures.sound.names c.args.job.now.unbroken cycle))

pub returns-clause-state : goal.returns-clause-state
returns-clause-state c =
    run_is_sequential c.args.job.now.design.job _ c.args.job.now.sections.start (row_in c.args.job.now.sections.inputs) _ _ c.args.count c.in_ok-machine.ensures.job c.args.job.now.start
    c.args.job.now.inputs c.in_ok-machine.ensures.state c.in_ok-advance.ensures.state

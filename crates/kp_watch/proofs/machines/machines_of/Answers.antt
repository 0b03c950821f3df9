use Rattle.std.proofs.Common.{◌≡◌, ◌∙◌, ◌+◌, ◌++◌, ◌∷◌, [], ap, arith, length, length-append}
use Rattle.kp_ast.specs.declared.tree.Job.{Job}
use Rattle.kp_image.proofs.Given.{starts}
use Rattle.kp_seq.specs.Running.{Running, state}
use Rattle.kp_watch.proofs.Lanes.{opened_more, have_begun}
use Rattle.kp_watch.proofs.machines.machines_of.Goals as goal

pub open-requires : goal.open-requires
open-requires c = record { suits = rw c.args.job.now.start (starts _ c.job.ensures.sound.names c.args.job.now.unbroken) }

pub loop-preserved : goal.loop-preserved
loop-preserved c =
    let kept = c.loop.invariant in
    let first = c.in_ok-first in
    let same = c.in_ok-copied.ensures in
    rw c.in_ok-push.ensures.items (
      simp length-append (omega (arith, kept.0)),
      opened_more c.args.job.now.design.job c.loop.machines.items c.in_ok-copied.field-0 c.args.job.now.sections.start kept.1
          (ap (λ (m : Running). m.job) same ∙ first.ensures.job) c.args.job.now.start (ap (λ (m : Running). state m) same ∙ first.ensures.state),
    )

pub returns : goal.returns
returns c values rows =
    let job = c.args.job.now.design.job in
    let kept = c.loop.invariant in
    let first = c.in_ok-first in
    let all : c.loop.counter ≡ c.job.result.now.stages.value = omega (arith, c.loop-test.false, c.loop.auto.counter-end) in
    let stages : c.job.result.now.stages.value ≡ job.stages.value = ap (λ (j : Job). j.stages.value) c.job.ensures.job in
    let many : length (c.loop.machines.items ++ first.first ∷ []) ≡ job.stages.value + 1 = simp length-append (omega (arith, kept.0, all, stages)) in
    rw c.in_ok-push-2.ensures.items
    (have_begun job values rows (c.loop.machines.items ++ first.first ∷ []) many
    (opened_more job c.loop.machines.items first.first c.args.job.now.sections.start kept.1 first.ensures.job c.args.job.now.start first.ensures.state))

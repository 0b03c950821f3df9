use Rattle.std.proofs.Common.{◌≡◌, ◌∙◌, List, Option, sym, subst}
use Rattle.std.specs.Prelude.{IfSome}
use Rattle.kp_same.specs.inner.Differences.{IsFirst}
use Rattle.kp_same.specs.declared.sinks.Sink.{Sink}
use Rattle.kp_same.proofs.Agreeing.{said}
use Rattle.kp_same.proofs.comparison.difference.Goals as goal

pub returns : goal.returns
returns c =
    let left : c.as_slice.result.now ≡ c.in_ok-left.left.items = c.as_slice.ensures.value in
    let right : c.as_slice-2.result.now ≡ c.in_ok-right.right.items = c.as_slice-2.ensures.value in
    said c.args.a.now.job c.args.b.now.job c.sinks_of.new.pool c.sinks_of-2.new.pool _ c.in_ok-left.left.items c.in_ok-right.right.items
    c.job-first.ensures.sound.names c.job-second.ensures.sound.names c.requires.targets c.requires.samples
    c.in_ok-right.ensures.kept c.in_ok-left.ensures.sinks c.in_ok-right.ensures.sinks c.first_difference.result
    (λ none. sym left ∙ c.first_difference.ensures.none none ∙ right)
    (subst (λ (xs : List (Option Sink)). IfSome c.first_difference.result (λ d. IsFirst d xs c.in_ok-right.right.items)) left
    (subst (λ (xs : List (Option Sink)). IfSome c.first_difference.result (λ d. IsFirst d c.as_slice.result.now xs)) right c.first_difference.ensures.some))

use Rattle.std.proofs.Common.{◌∙◌, ◌<◌, ℕ, List, [], length, subst, IfSome}
use Rattle.kp_ast.specs.Expressions.{is_same_name}
use Rattle.kp_seq_plan.proofs.Places.{within}
use Rattle.kp_seq_plan.proofs.keys.Keys.place.Goals as goal

pub returns-clause-within : goal.returns-clause-within
returns-clause-within c =
    let r = c.copied.result in
    subst (λ (names : List (List ℕ)). IfSome r (λ i. i < length names)) c.self.view_is
    (within (is_same_name c.args.name.now) c.self.inside.names.items [] r (c.copied.ensures ∙ c.get.ensures.value ∙ c.self.invariant c.args.name.now))

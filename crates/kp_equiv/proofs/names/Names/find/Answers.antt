use Rattle.std.proofs.Common.{◌≡◌, ◌<◌, List, ℕ, length, MatchOption, ap, subst, ◌∙◌}
use Rattle.std.specs.Map.{lookup}
use Rattle.kp_net.specs.Names.{same}
use Rattle.kp_equiv.{specs.Classes.place, proofs.Naming.placed}
use Rattle.kp_equiv.proofs.names.Names.find.Goals as goal

pub returns : goal.returns
returns c =
    let n = c.args.name.now in
    subst (λ (ns : List (List ℕ)). MatchOption c.copied.result (place ns n ≡ length ns) (λ i. (i < length ns) × (place ns n ≡ i))) c.self.view_is
    (placed c.self.inside.indices.entries _ n c.copied.result c.self.invariant
    (c.copied.ensures ∙ c.get.ensures.value ∙ ap (λ (k : List ℕ). lookup (same k) c.self.inside.indices.entries) c.new.ensures))

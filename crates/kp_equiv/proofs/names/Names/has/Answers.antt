use Rattle.std.{proofs.Common.List, proofs.Common.ℕ, proofs.Common.ap, proofs.Common.◌∙◌, specs.Map.lookup, specs.Option.is_some}
use Rattle.kp_net.specs.Names.{same, among}
use Rattle.kp_equiv.proofs.Naming.{present}
use Rattle.kp_equiv.proofs.names.Names.has.Goals as goal

pub returns : goal.returns
returns c =
    c.contains_key.ensures ∙ ap (λ (n : List ℕ). is_some (lookup (same n) c.self.inside.indices.entries)) c.new.ensures
    ∙ present c.self.inside.indices.entries _ c.args.name.now c.self.invariant ∙ ap (λ (ns : List (List ℕ)). among ns c.args.name.now) c.self.view_is

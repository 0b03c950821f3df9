use Rattle.std.proofs.Common.{◌∙◌, true, cond, ap}
use Rattle.std.specs.{Prelude.nat_eq, List.list_any, Cmp.Lexicographic.pointwise}
use Rattle.kp_net.specs.Names.{same}
use Rattle.kp_vread_rules.proofs.Sets.{adds}
use Rattle.kp_vread_rules.proofs.name_set.NameSet.add.Goals as goal

pub returns : goal.returns
returns c =
    adds c.args.self.now c.insert.new.self.keys c.args.name.now
    (λ q. c.in_ok-insert.ensures.updates.0 q ∙ ap (λ k. cond (same k q) true (list_any (λ x. pointwise nat_eq q x) c.self.inside.names.keys)) c.new.ensures
    ∙ ap (λ ks. cond (same c.args.name.now q) true (list_any (λ x. pointwise nat_eq q x) ks)) c.self.view_is)

use Rattle.std.proofs.Common.{◌∙◌, ℕ, List, sym, ap, Some, None}
use Rattle.std.specs.Map.{lookup}
use Rattle.kp_net.specs.Names.{same}
use Rattle.kp_vlog.specs.Scope.{address_in}
use Rattle.kp_vread_rules.proofs.Sizing.{address_reported}
use Rattle.kp_vread_rules.proofs.sizes.Sizes.address.Goals as goal

pub returns-in-Some-clause-address : goal.returns-in-Some-clause-address
returns-in-Some-clause-address c =
    c.address_of.ensures.address
    ∙ sym (ap (λ ss. address_in ss c.args.name.now) (sym c.self.view_is) ∙ address_reported c.self.inside.table.entries c.args.name.now (Some c.in-Some.size) (sym c.in-Some.is ∙ c.copied.ensures ∙ c.get.ensures.value ∙ ap (λ (n : List ℕ). lookup (same n) c.self.inside.table.entries) c.new.ensures))

pub returns-in-None-clause-address : goal.returns-in-None-clause-address
returns-in-None-clause-address c =
    sym (ap (λ ss. address_in ss c.args.name.now) (sym c.self.view_is) ∙ address_reported c.self.inside.table.entries c.args.name.now None (sym c.in-None.is ∙ c.copied.ensures ∙ c.get.ensures.value ∙ ap (λ (n : List ℕ). lookup (same n) c.self.inside.table.entries) c.new.ensures))

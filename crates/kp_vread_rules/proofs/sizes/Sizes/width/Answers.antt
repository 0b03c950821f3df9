use Rattle.std.proofs.Common.{◌∙◌, ◌+◌, ℕ, List, sym, ap, Some, None}
use Rattle.std.specs.Map.{lookup}
use Rattle.kp_net.specs.Names.{same}
use Rattle.kp_vlog.specs.Scope.{width_in}
use Rattle.kp_vread_rules.proofs.Sizing.{width_reported}
use Rattle.kp_vread_rules.proofs.sizes.Sizes.width.Goals as goal

pub returns-in-Some-clause-width : goal.returns-in-Some-clause-width
returns-in-Some-clause-width c =
    ap (λ (k : ℕ). k + 1) c.from.ensures
    ∙ sym (ap (λ ss. width_in ss c.args.name.now) (sym c.self.view_is) ∙ width_reported c.self.inside.table.entries c.args.name.now (Some c.in-Some.size) (sym c.in-Some.is ∙ c.copied.ensures ∙ c.get.ensures.value ∙ ap (λ (n : List ℕ). lookup (same n) c.self.inside.table.entries) c.new.ensures))

pub returns-in-None-clause-width : goal.returns-in-None-clause-width
returns-in-None-clause-width c =
    sym (ap (λ ss. width_in ss c.args.name.now) (sym c.self.view_is) ∙ width_reported c.self.inside.table.entries c.args.name.now None (sym c.in-None.is ∙ c.copied.ensures ∙ c.get.ensures.value ∙ ap (λ (n : List ℕ). lookup (same n) c.self.inside.table.entries) c.new.ensures))

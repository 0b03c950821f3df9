use Rattle.std.proofs.Common.{◌≡◌, ◌∙◌, ◌+◌, ℕ, Option, None, length, sym, ap, subst}
use Rattle.std.specs.{Prelude.if◌then◌else◌, Option.is_some, Map.lookup}
use Rattle.kp_equiv.{specs.inner.Shapes.Numbered, specs.inner.Shapes.Puts, specs.inner.Shapes.IsTable, proofs.Tables.found, proofs.Tables.added, proofs.Terms.is}
use Rattle.kp_equiv.proofs.table.Table.number.Goals as goal

pub returns-in-Some : goal.returns-in-Some
returns-in-Some c =
    found c.args.self.now c.args.term c.in-Some.number c.requires.table
    (ap (λ (t : Numbered). lookup (is c.args.term) t) (sym c.self.view_is) ∙ sym (sym c.in-Some.is ∙ c.copied.ensures ∙ c.get.ensures.value))

pub returns-in_ok-insert-in-None : goal.returns-in_ok-insert-in-None
returns-in_ok-insert-in-None c =
    let es = c.self.inside.numbers.entries in
    let none : lookup (is c.args.term) es ≡ None = sym (sym c.in-None.is ∙ c.copied.ensures ∙ c.get.ensures.value) in
    subst (λ (t : Numbered). Puts t c.insert.new.self.entries c.args.term c.len-number.result) c.self.view_is
    (added es c.insert.new.self.entries c.args.term c.len-number.result (subst IsTable (sym c.self.view_is) c.requires.table) none c.len-number.ensures.len (λ q. c.in_ok-insert-in-None.ensures.updates.0 q)
    (c.in_ok-insert-in-None.ensures.len ∙ ap (λ (o : Option ℕ). length es + (if is_some o then 0 else 1)) (c.in_ok-insert-in-None.ensures.old ∙ none)))

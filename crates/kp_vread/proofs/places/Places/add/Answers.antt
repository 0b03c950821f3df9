use Rattle.std.proofs.Common.{◌≡◌, ◌∙◌, ◌+◌, ℕ, List, cond, Some, None, sym, ap}
use Rattle.std.specs.{Option.is_some, Map.lookup}
use Rattle.kp_net.specs.Names.{same}
use Rattle.kp_vread.{specs.inner.Numbering.Numbered, proofs.Numbering.numbered_again, proofs.Numbering.numbered_new}
use Rattle.kp_vread.proofs.places.Places.add.Goals as goal

pub returns-in-Some-clause-numbered : goal.returns-in-Some-clause-numbered
returns-in-Some-clause-numbered c = λ ks a.
    let es = c.self.inside.table.entries in
    let n = c.args.name.now in
    let there : lookup (same n) c.args.self.now.entries ≡ Some c.in-Some.field-0 =
    ap (λ (v : Numbered). lookup (same n) v.entries) (sym c.self.view_is) ∙ sym (sym c.in-Some.is ∙ c.copied.ensures ∙ c.get.ensures.value ∙ ap (λ (k : List ℕ). lookup (same k) es) c.new.ensures) in
    numbered_again c.args.self.now ks n a _ (ap (λ (v : Numbered). v.entries) c.self.view_is) (ap (λ (v : Numbered). v.count + 1) c.self.view_is) (sym (a.known n) ∙ ap is_some there)

pub returns-in_ok-insert-in-None-clause-numbered : goal.returns-in_ok-insert-in-None-clause-numbered
returns-in_ok-insert-in-None-clause-numbered c = λ ks a.
    let es = c.self.inside.table.entries in
    let n = c.args.name.now in
    let there : lookup (same n) c.args.self.now.entries ≡ None =
    ap (λ (v : Numbered). lookup (same n) v.entries) (sym c.self.view_is) ∙ sym (sym c.in-None.is ∙ c.copied.ensures ∙ c.get.ensures.value ∙ ap (λ (k : List ℕ). lookup (same k) es) c.new.ensures) in
    numbered_new c.args.self.now ks n a _
    (λ q. c.in_ok-insert-in-None.ensures.updates.0 q ∙ ap (λ (k : List ℕ). cond (same k q) (Some c.self.inside.count) (lookup (same q) es)) c.new-in-None.ensures
    ∙ ap (λ (v : Numbered). cond (same n q) (Some v.count) (lookup (same q) v.entries)) c.self.view_is)
    (ap (λ (v : Numbered). v.count + 1) c.self.view_is) (sym (a.known n) ∙ ap is_some there)

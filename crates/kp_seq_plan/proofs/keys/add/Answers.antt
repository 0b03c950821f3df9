use Rattle.std.proofs.Common.{◌≡◌, ◌∙◌, ◌++◌, ◌∷◌, [], ℕ, List, length, None, sym, ap, arith}
use Rattle.std.specs.{List.position, Map.lookup}
use Rattle.kp_ast.specs.Expressions.{is_same_name}
use Rattle.kp_seq_plan.proofs.Places.{added, found_none, found_some, inserted, kept}
use Rattle.kp_seq_plan.proofs.keys.add.Goals as goal

pub returns-in_ok-push-clause-names : goal.returns-in_ok-push-clause-names
returns-in_ok-push-clause-names c =
    let names = c.args.names.now.items in
    let n = c.args.name.now in
    let none : lookup (is_same_name n) c.args.places.now.entries ≡ None = found_none c.get.result _ c.is_none.result c.get.ensures.value c.is_none.ensures c.if-is_none.true in
    c.in_ok-push.ensures.items ∙ ap (λ (k : List ℕ). names ++ k ∷ []) c.in_ok-clone-2.ensures.cases ∙ inserted names n (sym (c.requires n) ∙ none)

pub returns-in_ok-push-clause-places : goal.returns-in_ok-push-clause-places
returns-in_ok-push-clause-places c = λ q.
    let names = c.args.names.now.items in
    let n = c.args.name.now in
    let es = c.args.places.now.entries in
    let none : lookup (is_same_name n) es ≡ None = found_none c.get.result _ c.is_none.result c.get.ensures.value c.is_none.ensures c.if-is_none.true in
    let count : c.len.result ≡ length names = omega arith in
    let items : c.push.new.self.items ≡ names ++ n ∷ [] = c.in_ok-push.ensures.items ∙ ap (λ (k : List ℕ). names ++ k ∷ []) c.in_ok-clone-2.ensures.cases in
    let placed = added es c.insert.new.self.entries names n c.in_ok-clone.field-0 c.len.result c.requires none c.in_ok-clone.ensures.cases count (λ k. c.in_ok-insert.ensures.updates.0 k) q in
    placed ∙ ap (λ (ks : List (List ℕ)). position (is_same_name q) ks) (sym items)

pub returns-else-is_none-clause-names : goal.returns-else-is_none-clause-names
returns-else-is_none-clause-names c =
    let n = c.args.name.now in
    kept c.args.names.now.items n (lookup (is_same_name n) c.args.places.now.entries) (sym (c.requires n))
    (found_some c.get.result _ c.is_none.result c.get.ensures.value c.is_none.ensures c.if-is_none.false)

-- The index of a node in a list, by the test that compares nodes.
use Rattle.std.proofs.Common.{◌≡◌, ℕ, ◌<◌, ◌≤◌, Bool, false, List, length, get_or, sym, ap, ◌∙◌, arith, Option, None, Some, MatchOption}
use Rattle.std.proofs.lemmas.{Bool.false≢true, Bool.false_from_ne_true, Grind.common_steps, List.get_or_default, List.Quantifiers.position-Some}
use Rattle.std.proofs.lemmas.List.{Sums.fails_before_first, Folds.list_any_none}
use Rattle.std.specs.List.{position, position_or_len, list_any}
use Rattle.kp_net.{specs.declared.node.Node.Node, specs.Widths.no_node, specs.inner.Lookup.LacksBelow, proofs.Same.node_from_eq, proofs.Same.node_eq_itself}
use Rattle.kp_net.specs.contracts.node.NodePartialEq.TheImpl as nodes

abbrev pub is : Node → Node → Bool
is = nodes.eq-value.it

fails : (n x : Node) → (x ≡ n → ⊥) → is n x ≡ false
fails n x h = false_from_ne_true (is n x) (λ e. h (sym (node_from_eq n x e)))

differs : (n x : Node) → is n x ≡ false → x ≡ n → ⊥
differs n x f e = false≢true (sym f ∙ ap (is n) e ∙ node_eq_itself n)

pub not_any : (n : Node) (ns : List Node) → LacksBelow ns n (length ns) → list_any (is n) ns ≡ false
not_any n ns lacks = list_any_none (is n) ns (λ k d l. fails n (get_or ns k d) (λ e. lacks k l (sym (get_or_default ns k d no_node l) ∙ e)))

-- the first index at which the test passes is the node's, and without one the list lacks it
pub placed : (n : Node) (ns : List Node) (r : Option ℕ) → r ≡ position (is n) ns → MatchOption r (LacksBelow ns n (length ns)) (λ i. (i < length ns) × (get_or ns i no_node ≡ n))
placed n ns (Some i) e = let p = position-Some (is n) ns i no_node (sym e) in (p.0, sym (node_from_eq n (get_or ns i no_node) p.1))
placed n ns None e =
    let past : length ns ≤ position_or_len (is n) ns = grind (arith, common_steps) in
    λ i h same. differs n (get_or ns i no_node) (fails_before_first (is n) ns i no_node (omega (arith, h, past))) same

-- The next values of registers, from the last update on.
use Rattle.std.proofs.Common.{◌≡◌, ◌∙◌, ℕ, ◌+◌, ◌<◌, List, [], ◌∷◌, length, get_or, drop, Bool, true, false, cond, Some, refl, sym, ap, subst}
use Rattle.std.{proofs.lemmas.List.drop_more, specs.Prelude.if◌then◌else◌, specs.Map.lookup}
use Rattle.kp_net.specs.{declared.node.NodeId.NodeId, Names.same}
use Rattle.kp_vlog.specs.{declared.tree.Named.Named, declared.tree.Update.Update, Denote.node_of, Denote.next_of}
use Rattle.kp_vlog.specs.declared.tree.Update.TheVariants as edges
use Rattle.kp_vread.specs.inner.{Numbering.Numbered, Numbering.AreNumbered, Building.node_by, Nexts.node_or_first, Nexts.AreNexts}
use Rattle.kp_vread.proofs.Making.{node_same}
use Rattle.kp_vread_rules.proofs.StartValues.{turned}

pub no_nexts : (wires : Numbered) → AreNexts wires [] []
no_nexts wires = record { nexts = λ ks a n. refl }

pub reg_next : (wires : Numbered) (old new : List (List ℕ × NodeId)) (k v : Named) → ((n : List ℕ) → lookup (same n) new ≡ cond (same k.name n) (Some (node_by wires v)) (lookup (same n) old))
    → (xs : List Update) → AreNexts wires old xs → AreNexts wires new (edges.Reg k v ∷ xs)
reg_next wires old new k v h xs a = record {
  nexts = λ ks b n. ap node_or_first (h n ∙ ap (λ c. cond c (Some (node_by wires v)) (lookup (same n) old)) (turned k.name n)) ∙ step ks b n (same n k.name);
}
  where
    step : (ks : List (List ℕ)) → AreNumbered wires ks → (n : List ℕ) (c : Bool) → node_or_first (cond c (Some (node_by wires v)) (lookup (same n) old)) ≡ (if c then node_of ks v else next_of ks xs n)
    step ks b n true = node_same wires ks b v
    step ks b n false = a.nexts ks b n

pub one_before : (wires : Numbered) (entries : List (List ℕ × NodeId)) (all : List Update) (i : ℕ) (x : Update) → i < length all → x ≡ get_or all i x
    → AreNexts wires entries (x ∷ drop (i + 1) all) → AreNexts wires entries (drop i all)
one_before wires entries all i x h w a = subst (λ xs. AreNexts wires entries xs) (sym (drop_more all i x h ∙ ap (λ y. y ∷ drop (i + 1) all) (sym w))) a

-- The tables agree with the scope.
use Rattle.std.proofs.Common.{◌≡◌, ◌∙◌, ℕ, ◌+◌, ◌<◌, List, [], ◌∷◌, ◌++◌, length, get_or, take, map, true, false, refl, sym, ap, subst}
use Rattle.std.proofs.lemmas.List.Sums.{fold_more}
use Rattle.kp_net.specs.declared.node.{NodeId.NodeId, Kind.Kind, Node.Node}
use Rattle.kp_vlog.specs.{declared.tree.Named.Named, declared.tree.Right.Right, declared.tree.Item.Item, Scope.Scope, Scope.width_in, Scope.is_output_name}
use Rattle.kp_vlog.specs.Denote.{node_of, source_of, kind_of, Made, with_wire, with_item, made_by}
use Rattle.kp_vlog.proofs.Tests.{when_true, when_false}
use Rattle.kp_vlog.specs.declared.tree.Right.TheVariants as sides
use Rattle.kp_vlog.specs.declared.tree.Item.TheVariants as lines
use Rattle.kp_vread.specs.inner.Numbering.{Numbered, AreNumbered}
use Rattle.kp_vread.specs.inner.Building.{Numbers, IsScope, node_by, source_by, kind_by, IsMade}
use Rattle.kp_vread.proofs.Numbering.{none_numbered}

abbrev id_of : ℕ → NodeId
id_of i = record { 0 = i }

pub node_same : (wires : Numbered) (ks : List (List ℕ)) → AreNumbered wires ks → (n : Named) → node_by wires n ≡ node_of ks n
node_same wires ks a n = ap id_of (a.places n.name)

nodes_same : (wires : Numbered) (ks : List (List ℕ)) → AreNumbered wires ks → (parts : List Named) → map (node_by wires) parts ≡ map (node_of ks) parts
nodes_same wires ks a [] = refl
nodes_same wires ks a (n ∷ parts) = rw (node_same wires ks a n, nodes_same wires ks a parts) refl

module _ (t : Numbers) (s : Scope) (h : IsScope t s) where
  source_same : (n : List ℕ) → source_by t n ≡ source_of s n
  source_same n = rw (h.samples.places n, h.regs.places n) refl

  pub kind_same : (wires : Numbered) (ks : List (List ℕ)) → AreNumbered wires ks → (r : Right) → kind_by t wires r ≡ kind_of s ks r
  kind_same wires ks a (sides.Literal l) = refl
  kind_same wires ks a (sides.Name n) = source_same n.name
  kind_same wires ks a (sides.Not x) = rw (node_same wires ks a x) refl
  kind_same wires ks a (sides.Binary op x y) = rw (node_same wires ks a x, node_same wires ks a y) refl
  kind_same wires ks a (sides.Choice c x y) = rw (node_same wires ks a c, node_same wires ks a x, node_same wires ks a y) refl
  kind_same wires ks a (sides.Slice x high low) = rw (node_same wires ks a x) refl
  kind_same wires ks a (sides.Word f x) = rw (h.files.places f.name, node_same wires ks a x) refl
  kind_same wires ks a (sides.Concat parts) = rw (nodes_same wires ks a parts) refl

  -- one wire more
  pub wire_made : (before after : Numbered) (ns ms : List Node) (n : Named) (r : Right) (w : ℕ) (k : Kind) → w ≡ width_in t.sizes n.name → k ≡ kind_by t before r
      → ms ≡ ns ++ record { width = w; kind = k } ∷ [] → ((ks : List (List ℕ)) → AreNumbered before ks → AreNumbered after (ks ++ n.name ∷ []))
      → (made : Made) → IsMade before ns made → IsMade after ms (with_wire s made n r)
  wire_made before after ns ms n r w k ew ek e more made m = record {
    wires = more made.wires m.wires;
    nodes = e ∙ ap (λ xs. xs ++ record { width = w; kind = k } ∷ []) m.nodes
        ∙ ap (λ (x : Node). made.nodes ++ x ∷ []) (ap (λ (i : ℕ). node i k) (ew ∙ h.sizes.widths n.name) ∙ ap (λ (j : Kind). node (width_in s.sizes n.name) j) (ek ∙ kind_same before made.wires m.wires r));
  }
    where
      node : ℕ → Kind → Node
      node i j = record { width = i; kind = j }

  -- the names of outputs are no wires
  pub output_made : (wires : Numbered) (ns : List Node) (n : Named) (r : Right) (made : Made) → is_output_name n.name ≡ true → IsMade wires ns made → IsMade wires ns (with_item s made (lines.Assign n r))
  output_made wires ns n r made e m = subst (λ x. IsMade wires ns x) (sym (when_true (is_output_name n.name) made (with_wire s made n r) e)) m

  pub other_made : (wires : Numbered) (ns : List Node) (n : Named) (r : Right) (made : Made) → is_output_name n.name ≡ false → IsMade wires ns (with_wire s made n r) → IsMade wires ns (with_item s made (lines.Assign n r))
  other_made wires ns n r made e m = subst (λ x. IsMade wires ns x) (sym (when_false (is_output_name n.name) made (with_wire s made n r) e)) m

pub one_item : (s : Scope) (all : List Item) (i : ℕ) (x : Item) → i < length all → x ≡ get_or all i x → with_item s (made_by s (take i all)) x ≡ made_by s (take (i + 1) all)
one_item s all i x h w = ap (λ (y : Item). with_item s (made_by s (take i all)) y) w ∙ sym (fold_more (with_item s) (record { wires = []; nodes = [] }) all i x h)

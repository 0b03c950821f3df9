-- What classes of nodes determine.
use Rattle.std.proofs.Common.{◌≡◌, ◌∙◌, ℕ, ◌==◌, ◌<◌, Bool, List, length, sym, ap}
use Rattle.std.{proofs.lemmas.Bool.Decides.Decides-eqb, specs.Bool.Decides}
use Rattle.kp_net.specs.{declared.node.NodeId.NodeId, Netlist.Net}
use Rattle.kp_equiv.specs.{Alike.Alike, Classes.class_in, Classes.Determines}

pub id_is : (x y : NodeId) → x.0 ≡ y.0 → x ≡ y
id_is x y e = ap (λ (n : ℕ). let z : NodeId = record { 0 = n } in z) e

-- the result of comparing classes
pub alike_found : (a b : Net) (ca cb : List NodeId) (i j x y : NodeId) (t : Bool) → Determines a b ca cb → i.0 < length a.nodes → j.0 < length b.nodes → x ≡ class_in ca i → y ≡ class_in cb j
    → t ≡ (x.0 == y.0) → Decides t (Alike a b i j)
alike_found a b ca cb i j x y t h li lj ex ey e = (
  λ f. h.same i j li lj (sym ex ∙ id_is x y ((Decides-eqb x.0 y.0).0 (sym e ∙ f)) ∙ ey),
  λ k. let z : x ≡ y = ex ∙ h.alike i j k ∙ sym ey in e ∙ (Decides-eqb x.0 y.0).1 (ap (λ (n : NodeId). n.0) z),
)

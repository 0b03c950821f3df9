-- Nodes of one shape have the same operation, and nodes with the same operation have one shape.
use Rattle.std.proofs.Common.{◌≡◌, ◌∙◌, ◌⊎◌, ℕ, ◌<◌, min, max, Bool, true, false, List, refl, sym, ap, subst, arith, ⊎_elim, inl, inr}
use Rattle.std.proofs.lemmas.Bool.{cases_eq, false≢true}
use Rattle.kp_bits.specs.declared.operator.BinOp.{BinOp}
use Rattle.kp_net.specs.declared.node.{NodeId.NodeId, Kind.Kind}
use Rattle.kp_net.specs.declared.node.Kind.TheVariants.{Const, Ext, Sample, Reg, Word, Not, Binary, Mux, Concat, Slice}
use Rattle.kp_net.specs.{Netlist.Net, Parts.CellOk, Widths.KindOk}
use Rattle.kp_bits.specs.Operators.{commutes}
use Rattle.kp_equiv.specs.{Alike.Relation, Alike.PairRelated, Alike.KindAlike, Classes.place}
use Rattle.kp_equiv.specs.inner.Shapes.{Known, known_of, least, greatest, first_of_pair, second_of_pair, shape_kind}
use Rattle.kp_equiv.proofs.{Places.registers, Places.memories, Places.ports, Places.one_name, Determined.id_is, Wired.is_wiring}

-- two numbers in order are two others in order
in_order : (x y u v : ℕ) → min x y ≡ min u v → max x y ≡ max u v → ((x ≡ u) × (y ≡ v)) ⊎ ((x ≡ v) × (y ≡ u))
in_order x y u v e f = ⊎_elim
    (λ (h : x ≡ u). inl (h, omega arith))
    (λ (h : x ≡ u → ⊥). inr (omega arith, omega arith))
    (cases_eq x u)

ordered : (x y u v : NodeId) → least x y ≡ least u v → greatest x y ≡ greatest u v → ((x ≡ u) × (y ≡ v)) ⊎ ((x ≡ v) × (y ≡ u))
ordered x y u v e f = ⊎_elim
    (λ (h : (x.0 ≡ u.0) × (y.0 ≡ v.0)). inl (id_is x u h.0, id_is y v h.1))
    (λ (h : (x.0 ≡ v.0) × (y.0 ≡ u.0)). inr (id_is x v h.0, id_is y u h.1))
    (in_order x.0 y.0 u.0 v.0 (ap (λ (n : NodeId). n.0) e) (ap (λ (n : NodeId). n.0) f))

least_swaps : (x y : NodeId) → least x y ≡ least y x
least_swaps x y = id_is (least x y) (least y x) (omega arith)

greatest_swaps : (x y : NodeId) → greatest x y ≡ greatest y x
greatest_swaps x y = id_is (greatest x y) (greatest y x) (omega arith)

-- operands below i and j whose classes are equal are related
abbrev Links : Relation → (NodeId → NodeId) → (NodeId → NodeId) → ℕ → ℕ → Type 0
Links R m n i j = (x y : NodeId) → x.0 < i → y.0 < j → m x ≡ n y → R x y

pair_from : (R : Relation) (m n : NodeId → NodeId) (i j : ℕ) (op : BinOp) (x y u v : NodeId) → Links R m n i j → x.0 < i → y.0 < i → u.0 < j → v.0 < j
    → first_of_pair (commutes op) (m x) (m y) ≡ first_of_pair (commutes op) (n u) (n v)
    → second_of_pair (commutes op) (m x) (m y) ≡ second_of_pair (commutes op) (n u) (n v) → PairRelated R op x y u v
pair_from R m n i j op x y u v links lx ly lu lv = by (commutes op) refl
  where
    by : (c : Bool) → commutes op ≡ c → first_of_pair c (m x) (m y) ≡ first_of_pair c (n u) (n v) → second_of_pair c (m x) (m y) ≡ second_of_pair c (n u) (n v) → PairRelated R op x y u v
    by false is e f = inl (links x u lx lu e, links y v ly lv f)
    by true is e f = ⊎_elim
        (λ (h : (m x ≡ n u) × (m y ≡ n v)). inl (links x u lx lu h.0, links y v ly lv h.1))
        (λ (h : (m x ≡ n v) × (m y ≡ n u)). inr (is, links x v lx lv h.0, links y u ly lu h.1))
        (ordered (m x) (m y) (n u) (n v) e f)

module _ (R : Relation) (a b : Net) (m n : NodeId → NodeId) (i j w v : ℕ) (links : Links R m n i j) where
  pub kinds_from : (k l : Kind) → is_wiring k ≡ false → KindOk a.nodes i w k → KindOk b.nodes j v l → CellOk a.nodes a.parts w k
      → shape_kind (known_of a) a.parts m k ≡ shape_kind (known_of a) b.parts n l → KindAlike R a b k l
  kinds_from Ext Ext w p q t e = tt
  kinds_from (Sample s) (Sample u) w p q t e = one_name ports a.parts.samples b.parts.samples s u t.0 cc
  kinds_from (Reg r) (Reg u) w p q t e = one_name registers a.parts.regs b.parts.regs r u t.0 cc
  kinds_from (Word f x) (Word g y) w p q t e = (one_name memories a.parts.files b.parts.files f g t.0 cc, links x y p q cc)
  kinds_from (Not x) (Not y) w p q t e = links x y p.0 q.0 cc
  kinds_from (Binary op x y) (Binary o u z) w p q t e =
      let f : op ≡ o = cc in (
        f,
        pair_from R m n i j op x y u z links p.0 p.1 q.0 q.1
            (subst (λ (c : BinOp). first_of_pair (commutes op) (m x) (m y) ≡ first_of_pair (commutes c) (n u) (n z)) (sym f) cc)
            (subst (λ (c : BinOp). second_of_pair (commutes op) (m x) (m y) ≡ second_of_pair (commutes c) (n u) (n z)) (sym f) cc),
      )
  kinds_from (Mux s x y) (Mux r u z) w p q t e = (links s r p.0 q.0 cc, links x u p.1 q.1 cc, links y z p.2 q.2 cc)
  kinds_from (Const x) l o p q t e = absurd (false≢true (sym o))
  kinds_from (Concat xs) l o p q t e = absurd (false≢true (sym o))
  kinds_from (Slice x h g) l o p q t e = absurd (false≢true (sym o))
  kinds_from k l w p q t e = cc

-- related operands have equal classes
abbrev Joins : Relation → (NodeId → NodeId) → (NodeId → NodeId) → Type 0
Joins R m n = (x y : NodeId) → R x y → m x ≡ n y

pair_to : (R : Relation) (m n : NodeId → NodeId) (op : BinOp) (x y u v : NodeId) → Joins R m n → PairRelated R op x y u v
    → (first_of_pair (commutes op) (m x) (m y) ≡ first_of_pair (commutes op) (n u) (n v)) × (second_of_pair (commutes op) (m x) (m y) ≡ second_of_pair (commutes op) (n u) (n v))
pair_to R m n op x y u v joins = ⊎_elim
    (λ (h : R x u × R y v). let e = joins x u h.0 in let f = joins y v h.1 in
    (cc, cc))
    (λ (h : (commutes op ≡ true) × R x v × R y u). let e = joins x v h.1 in let f = joins y u h.2 in
    let P : Bool → Type 0 = λ c. (first_of_pair c (m x) (m y) ≡ first_of_pair c (n u) (n v)) × (second_of_pair c (m x) (m y) ≡ second_of_pair c (n u) (n v)) in
    let s = least_swaps (n v) (n u) in let t = greatest_swaps (n v) (n u) in
    let A : least (m x) (m y) ≡ least (n u) (n v) = cc in
    let B : greatest (m x) (m y) ≡ greatest (n u) (n v) = cc in
    subst P (sym h.0) (A, B))

module _ (R : Relation) (a b : Net) (m n : NodeId → NodeId) (ks : Known) (joins : Joins R m n) where
  pub kinds_to : (k l : Kind) → KindAlike R a b k l → shape_kind ks a.parts m k ≡ shape_kind ks b.parts n l
  kinds_to Ext Ext h = refl
  kinds_to (Sample s) (Sample u) h = ap (λ (c : List ℕ). Sample (place ks.samples c)) h
  kinds_to (Reg r) (Reg u) h = ap (λ (c : List ℕ). Reg (place ks.regs c)) h
  kinds_to (Word f x) (Word g y) h = let d = ap (λ (c : List ℕ). place ks.files c) h.0 in let e = joins x y h.1 in cc
  kinds_to (Not x) (Not y) h = ap Not (joins x y h)
  kinds_to (Binary op x y) (Binary o u z) h =
      let g = pair_to R m n op x y u z joins h.1 in
      let f : op ≡ o = h.0 in
      let A : Binary op (first_of_pair (commutes op) (m x) (m y)) (second_of_pair (commutes op) (m x) (m y)) ≡ Binary op (first_of_pair (commutes op) (n u) (n z)) (second_of_pair (commutes op) (n u) (n z))
      = (λ t. Binary op (g.0 t) (g.1 t)) in
      A ∙ ap (λ (c : BinOp). Binary c (first_of_pair (commutes c) (n u) (n z)) (second_of_pair (commutes c) (n u) (n z))) f
  kinds_to (Mux s x y) (Mux r u z) h = let d = joins s r h.0 in let e = joins x u h.1 in let f = joins y z h.2 in cc
  kinds_to k l h = absurd h

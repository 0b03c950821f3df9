-- A list of well-formed nodes remains one when a well-formed node is added.
use Rattle.std.proofs.Common.{◌≡◌, ℕ, ◌+◌, ◌<◌, ◌≤◌, List, [], ◌∷◌, ◌++◌, length, get_or, refl, sym, subst, ap, ◌∙◌, arith, length-append, ⊎_elim, All}
use Rattle.std.proofs.{Math.ListN.get_or-append, Math.Seq.get_or-append_seam, lemmas.Bool.cases_lt}
use Rattle.std.{proofs.lemmas.List.Elements.All-head, proofs.lemmas.List.Elements.All-tail, proofs.lemmas.List.Sums.sum_by-cons, specs.List.sum_by}
use Rattle.kp_net.specs.declared.node.{NodeId.NodeId, Kind.Kind}
use Rattle.kp_net.specs.declared.node.Kind.TheVariants.{Const, Ext, Sample, Reg, Word, Not, Binary, Mux, Concat, Slice}
use Rattle.kp_net.specs.{declared.node.Node.Node, Widths.wide, Widths.no_node, Widths.BinaryOk, Widths.KindOk, Widths.NodeOk, Widths.AllRight, Widths.Distinct}
use Rattle.kp_net.{specs.inner.Lookup.LacksBelow, proofs.Values.wide_front}

sums_agree : (v w : ℕ → ℕ) (m : ℕ) (parts : List NodeId) → All (λ a. a.0 < m) parts → ((j : ℕ) → j < m → v j ≡ w j) → sum_by (λ a. v a.0) parts ≡ sum_by (λ a. w a.0) parts
sums_agree v w m [] h e = refl
sums_agree v w m (a ∷ parts) h e =
    let x = e a.0 (All-head (λ b. b.0 < m) a parts h) in let y = sums_agree v w m parts (All-tail (λ b. b.0 < m) a parts h) e in
    sum_by-cons (λ (b : NodeId). v b.0) a parts ∙ (λ i. x i + y i) ∙ sym (sum_by-cons (λ (b : NodeId). w b.0) a parts)

-- only the widths of the nodes before it count
kind_stays : (ns ms : List Node) (m k : ℕ) (o : Kind) → ((j : ℕ) → j < m → wide ns j ≡ wide ms j) → KindOk ns m k o → KindOk ms m k o
kind_stays ns ms m k (Not a) e h = (h.0, sym (e a.0 h.0) ∙ h.1)
kind_stays ns ms m k (Binary op a b) e h =
    let P : ℕ → Type 0 = λ x. BinaryOk op k x (wide ns b.0) in let Q : ℕ → Type 0 = λ x. BinaryOk op k (wide ms a.0) x in
    (h.0, h.1, subst Q (e b.0 h.1) (subst P (e a.0 h.0) h.2))
kind_stays ns ms m k (Mux t a b) e h = (h.0, h.1, h.2, sym (e t.0 h.0) ∙ h.3, sym (e a.0 h.1) ∙ h.4, sym (e b.0 h.2) ∙ h.5)
kind_stays ns ms m k (Concat parts) e h = (h.0, h.1, h.2, sym (sums_agree (wide ns) (wide ms) m parts h.2 e) ∙ h.3)
kind_stays ns ms m k (Slice a hi lo) e h = (h.0, h.1, (let P : ℕ → Type 0 = λ x. hi < x in subst P (e a.0 h.0) h.2), h.3)
kind_stays ns ms m k _ e h = h

pub node_stays : (ns ms : List Node) (m : ℕ) (n : Node) → ((j : ℕ) → j < m → wide ns j ≡ wide ms j) → NodeOk ns m n → NodeOk ms m n
node_stays ns ms m n e h = record { positive = h.positive; at_most = h.at_most; kind = kind_stays ns ms m n.width n.kind e h.kind }

pub right_more : (ns : List Node) (n : Node) → AllRight ns → NodeOk ns (length ns) n → AllRight (ns ++ n ∷ [])
right_more ns n right ok i h =
    let ms : List Node = ns ++ n ∷ [] in
    let e : length ms ≡ length ns + 1 = length-append ns (n ∷ []) in
    ⊎_elim
    (λ (l : i < length ns).
    let P : Node → Type 0 = NodeOk ms i in
    subst P (sym (get_or-append ns (n ∷ []) no_node i l)) (node_stays ns ms i (get_or ns i no_node) (λ j k. sym (wide_front ns (n ∷ []) j (omega arith))) (right i l)))
    (λ (l : length ns ≤ i).
    let z : length ns ≡ i = omega arith in
    let P : ℕ → Type 0 = λ k. NodeOk ms k (get_or ms k no_node) in
    let Q : Node → Type 0 = NodeOk ms (length ns) in
    subst P z (subst Q (sym (get_or-append_seam ns n [] no_node)) (node_stays ns ms (length ns) n (λ j k. sym (wide_front ns (n ∷ []) j k)) ok)))
    (cases_lt i (length ns))

pub distinct_more : (ns : List Node) (n : Node) → Distinct ns → LacksBelow ns n (length ns) → Distinct (ns ++ n ∷ [])
distinct_more ns n distinct lacks i j h k e =
    let l : length (ns ++ n ∷ []) ≡ length ns + 1 = length-append ns (n ∷ []) in
    let x : get_or (ns ++ n ∷ []) i no_node ≡ get_or ns i no_node = get_or-append ns (n ∷ []) no_node i (omega arith) in
    ⊎_elim
    (λ (m : j < length ns). distinct i j h m (sym x ∙ e ∙ get_or-append ns (n ∷ []) no_node j m))
    (λ (m : length ns ≤ j). let z : j ≡ length ns = omega arith in
    lacks i (omega arith) (sym x ∙ e ∙ ap (λ o. get_or (ns ++ n ∷ []) o no_node) z ∙ get_or-append_seam ns n [] no_node))
    (cases_lt j (length ns))

pub width_right : (ns : List Node) (i : ℕ) → AllRight ns → i < length ns → (1 ≤ wide ns i) × (wide ns i ≤ 64)
unfolding wide
width_right ns i right h = ((right i h).positive, (right i h).at_most)

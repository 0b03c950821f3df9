-- The depths of nodes when nodes are added.
use Rattle.std.proofs.Common.{◌≡◌, ℕ, ◌+◌, ◌<◌, ◌≤◌, List, [], ◌∷◌, ◌++◌, fold, map, length, get_or, take, drop, refl, sym, ap, ◌∙◌, arith, length-append, All, max}
use Rattle.std.proofs.Math.{ListN.get_or-append, Seq.get_or-append_seam}
use Rattle.std.proofs.lemmas.List.{take-append-drop, take_more, length-take-le, ext_get_or, Sums.fold-append, Elements.All-head, Elements.All-tail}
use Rattle.kp_net.specs.declared.node.{NodeId.NodeId, Kind.Kind}
use Rattle.kp_net.specs.declared.node.Kind.TheVariants.{Const, Ext, Sample, Reg, Word, Not, Binary, Mux, Concat, Slice}
use Rattle.kp_net.specs.{declared.node.Node.Node, Widths.no_node, Widths.KindOk, Widths.NodeOk, Growth.Held, Growth.Wire, Growth.Kept, Growth.Grown}
use Rattle.kp_net.specs.Depth.{depth_of, depths_more, depths_of, depth, IsNoDeeper}

length_from : (known : List ℕ) (ns : List Node) → length (fold depths_more known ns) ≡ length known + length ns
length_from known [] = omega arith
length_from known (n ∷ ns) = length_from (depths_more known n) ns ∙ omega (arith, length-append known (depth_of (λ i. get_or known i 0) n.kind ∷ []))

length_depths : (ns : List Node) → length (depths_of ns) ≡ length ns
length_depths ns = length_from [] ns ∙ omega arith

front_from : (known : List ℕ) (ns : List Node) (i : ℕ) → i < length known → get_or (fold depths_more known ns) i 0 ≡ get_or known i 0
front_from known [] i h = refl
front_from known (n ∷ ns) i h =
    let d : ℕ = depth_of (λ j. get_or known j 0) n.kind in
    front_from (depths_more known n) ns i (omega (arith, length-append known (d ∷ []))) ∙ get_or-append known (d ∷ []) 0 i h

-- nodes that come later change no depth
pub depth_front : (ns ms : List Node) (i : ℕ) → i < length ns → depth (ns ++ ms) i ≡ depth ns i
unfolding depth
depth_front ns ms i h = ap (λ (ds : List ℕ). get_or ds i 0) (fold-append depths_more [] ns ms) ∙ front_from (depths_of ns) ms i (omega (arith, length_depths ns))

pub depth_new : (ns : List Node) (n : Node) → depth (ns ++ n ∷ []) (length ns) ≡ depth_of (depth ns) n.kind
unfolding depth
depth_new ns n =
    let d : ℕ = depth_of (λ j. get_or (depths_of ns) j 0) n.kind in
    ap (λ (ds : List ℕ). get_or ds (length ns) 0) (fold-append depths_more [] ns (n ∷ []))
    ∙ ap (λ (k : ℕ). get_or (depths_of ns ++ d ∷ []) k 0) (sym (length_depths ns)) ∙ get_or-append_seam (depths_of ns) d [] 0

-- a node's depth depends on the depths of its operands alone
parts_agree : (d e : ℕ → ℕ) (m : ℕ) (parts : List NodeId) → All (λ a. a.0 < m) parts → ((j : ℕ) → j < m → d j ≡ e j) → map (λ a. d a.0) parts ≡ map (λ a. e a.0) parts
parts_agree d e m [] h s = refl
parts_agree d e m (a ∷ parts) h s =
    let x = s a.0 (All-head (λ b. b.0 < m) a parts h) in let y = parts_agree d e m parts (All-tail (λ b. b.0 < m) a parts h) s in
    λ i. x i ∷ y i

pub depth_agrees : (ns : List Node) (m k : ℕ) (o : Kind) (d e : ℕ → ℕ) → KindOk ns m k o → ((j : ℕ) → j < m → d j ≡ e j) → depth_of d o ≡ depth_of e o
depth_agrees ns m k (Word f a) d e h s = ap (λ x. x + 1) (s a.0 h)
depth_agrees ns m k (Not a) d e h s = ap (λ x. x + 1) (s a.0 h.0)
depth_agrees ns m k (Binary op a b) d e h s = let x = s a.0 h.0 in let y = s b.0 h.1 in λ i. max (x i) (y i) + 1
depth_agrees ns m k (Mux t a b) d e h s = let x = s t.0 h.0 in let y = s a.0 h.1 in let z = s b.0 h.2 in λ i. max (x i) (max (y i) (z i)) + 1
depth_agrees ns m k (Concat parts) d e h s = ap (λ (xs : List ℕ). fold max 0 xs + 1) (parts_agree d e m parts h.2 s)
depth_agrees ns m k (Slice a hi lo) d e h s = ap (λ x. x + 1) (s a.0 h.0)
depth_agrees ns m k _ d e h s = refl

depth_in : (ns : List Node) (k j : ℕ) → j < k → k ≤ length ns → depth (take k ns) j ≡ depth ns j
depth_in ns k j h l = sym (depth_front (take k ns) (drop k ns) j (omega (arith, length-take-le k ns l))) ∙ ap (λ (ms : List Node). depth ms j) (take-append-drop k ns)

-- each right node is as deep as it says of its operands
pub depth_there : (ns : List Node) (i : ℕ) → i < length ns → NodeOk ns i (get_or ns i no_node) → depth ns i ≡ depth_of (depth ns) (get_or ns i no_node).kind
depth_there ns i h ok =
    let n : Node = get_or ns i no_node in
    let l : length (take i ns) ≡ i = length-take-le i ns (omega arith) in
    sym (depth_in ns (i + 1) i (omega arith) (omega arith))
    ∙ ap (λ (ms : List Node). depth ms i) (take_more ns i no_node h)
    ∙ ap (λ (k : ℕ). depth (take i ns ++ n ∷ []) k) (sym l)
    ∙ depth_new (take i ns) n
    ∙ depth_agrees ns i n.width n.kind (depth (take i ns)) (depth ns) ok.kind (λ j m. depth_in ns i j m (omega arith))

-- a pool that kept its nodes kept their depths
pub depth_kept : (p q : Held) (k : ℕ) (i : ℕ) → Kept p q k → i < length p.nodes → depth q.nodes i ≡ depth p.nodes i
depth_kept p q k i h l =
    let n : ℕ = length p.nodes in
    let t : length (take n q.nodes) ≡ n = length-take-le n q.nodes h.longer in
    let cut : q.nodes ≡ take n q.nodes ++ drop n q.nodes = sym (take-append-drop n q.nodes) in
    let same : take n q.nodes ≡ p.nodes = ext_get_or no_node (take n q.nodes) p.nodes t (λ j m.
    sym (get_or-append (take n q.nodes) (drop n q.nodes) no_node j m) ∙ ap (λ (ns : List Node). get_or ns j no_node) (sym cut) ∙ h.nodes j (omega (arith, t))) in
    ap (λ (ns : List Node). depth ns i) cut ∙ depth_front (take n q.nodes) (drop n q.nodes) i (omega (arith, t)) ∙ ap (λ (ns : List Node). depth ns i) same

-- bounds of depths
pub deeper_yet : (ns : List Node) (i : NodeId) (j k : ℕ) → IsNoDeeper ns i j → j ≤ k → IsNoDeeper ns i k
deeper_yet ns i j k h l = record { bound = omega (arith, h.bound) }

pub still_no_deeper : (p q : Held) (k : ℕ) (i : NodeId) (w d : ℕ) → Grown p q k → Wire p i w → IsNoDeeper p.nodes i d → IsNoDeeper q.nodes i d
still_no_deeper p q k i w d g h b = record { bound = omega (arith, b.bound, depth_kept p q k i.0 g.kept h.inside) }

greatest_below : (ns : List Node) (d m : ℕ) (parts : List NodeId) → m ≤ d → All (λ a. IsNoDeeper ns a d) parts → fold max m (map (λ a. depth ns a.0) parts) ≤ d
greatest_below ns d m [] l h = l
greatest_below ns d m (a ∷ parts) l h =
    let here : IsNoDeeper ns a d = All-head (λ b. IsNoDeeper ns b d) a parts h in
    greatest_below ns d (max m (depth ns a.0)) parts (omega (arith, here.bound)) (All-tail (λ b. IsNoDeeper ns b d) a parts h)

pub parts_no_deeper : (ns : List Node) (d : ℕ) (parts : List NodeId) → All (λ a. IsNoDeeper ns a d) parts → fold max 0 (map (λ a. depth ns a.0) parts) ≤ d
parts_no_deeper ns d parts h = greatest_below ns d 0 parts (omega arith) h

-- A list without foldable nodes remains one when a node is added that is not foldable.
use Rattle.std.proofs.Common.{◌≡◌, ℕ, false, ◌+◌, ◌<◌, ◌≤◌, ◌==◌, ◌&&◌, ◌||◌, List, [], ◌∷◌, ◌++◌, length, get_or, refl, ap, ◌∙◌, arith, All, length-append, ⊎_elim}
use Rattle.std.proofs.{Math.ListN.get_or-append, Math.Seq.get_or-append_seam, lemmas.Bool.cases_lt}
use Rattle.std.{proofs.lemmas.List.Elements.All-head, proofs.lemmas.List.Elements.All-tail, specs.List.list_all}
use Rattle.kp_bits.specs.Operators.{is_shift}
use Rattle.kp_net.specs.declared.node.{NodeId.NodeId, Kind.Kind}
use Rattle.kp_net.specs.declared.node.Kind.TheVariants.{Not, Binary, Mux, Concat, Slice}
use Rattle.kp_net.specs.{declared.node.Node.Node, Widths.no_node, Widths.KindOk, Widths.NodeOk, Widths.AllRight}
use Rattle.kp_pool.specs.Folding.{is_const, is_not, is_masking, is_plain, is_past, folds, foldable, NoneFoldable}

parts_fold : (v w : ℕ → Node) (m : ℕ) (parts : List NodeId) → All (λ a. a.0 < m) parts → ((j : ℕ) → j < m → v j ≡ w j)
    → list_all (λ a. is_const (v a.0).kind) parts ≡ list_all (λ a. is_const (w a.0).kind) parts
parts_fold v w m [] h e = refl
parts_fold v w m (a ∷ parts) h e =
    let x = e a.0 (All-head (λ b. b.0 < m) a parts h) in let y = parts_fold v w m parts (All-tail (λ b. b.0 < m) a parts h) e in
    λ i. is_const (x i).kind && y i

-- only the nodes before it count
folds_alike : (ns : List Node) (v w : ℕ → Node) (m k : ℕ) (o : Kind) → KindOk ns m k o → ((j : ℕ) → j < m → v j ≡ w j) → folds v k o ≡ folds w k o
folds_alike ns v w m k (Not a) h e = ap (λ (x : Node). is_const x.kind || is_not x.kind) (e a.0 h.0)
folds_alike ns v w m k (Binary op a b) h e =
    let x = e a.0 h.0 in let y = e b.0 h.1 in
    λ i. (is_const (x i).kind && is_const (y i).kind) || ((is_masking op && (is_plain k (x i).kind || is_plain k (y i).kind)) || (is_shift op && is_past k (y i).kind))
folds_alike ns v w m k (Mux t a b) h e = ap (λ (x : Node). is_const x.kind || a.0 == b.0) (e t.0 h.0)
folds_alike ns v w m k (Concat parts) h e = parts_fold v w m parts h.2 e
folds_alike ns v w m k (Slice a hi lo) h e = ap (λ (x : Node). is_const x.kind || x.width == k) (e a.0 h.0)
folds_alike ns v w m k _ h e = refl

pub unfolded_more : (ns : List Node) (n : Node) → AllRight ns → NodeOk ns (length ns) n → NoneFoldable ns → foldable ns n ≡ false → NoneFoldable (ns ++ n ∷ [])
unfolded_more ns n right ok none f i h =
    let ms : List Node = ns ++ n ∷ [] in
    let l : length ms ≡ length ns + 1 = length-append ns (n ∷ []) in
    let before : (j : ℕ) → j < length ns → get_or ms j no_node ≡ get_or ns j no_node = λ j k. get_or-append ns (n ∷ []) no_node j k in
    ⊎_elim
    (λ (k : i < length ns).
    let x : Node = get_or ns i no_node in
    ap (foldable ms) (before i k) ∙ folds_alike ns (λ j. get_or ms j no_node) (λ j. get_or ns j no_node) i x.width x.kind (right i k).kind (λ j y. before j (omega (arith, y, k))) ∙ none i k)
    (λ (k : length ns ≤ i).
    let z : i ≡ length ns = omega (arith, l) in
    ap (λ j. foldable ms (get_or ms j no_node)) z ∙ ap (foldable ms) (get_or-append_seam ns n [] no_node)
    ∙ folds_alike ns (λ j. get_or ms j no_node) (λ j. get_or ns j no_node) (length ns) n.width n.kind ok.kind before ∙ f)
    (cases_lt i (length ns))

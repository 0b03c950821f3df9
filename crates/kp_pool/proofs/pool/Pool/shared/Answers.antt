use Rattle.std.proofs.Common.{◌≡◌, false, ◌<◌, ◌++◌, ◌∷◌, [], length, List, sym, ap, ◌∙◌, get_or, subst, arith}
use Rattle.kp_net.specs.{declared.node.Node.Node, Widths.NodeOk, Widths.AllRight, Widths.Distinct, Widths.no_node, Depth.depth, Depth.depth_of, Growth.Held}
use Rattle.kp_net.{specs.inner.Lookup.LacksBelow, proofs.Depths.depth_new, proofs.Depths.depth_there, proofs.Exact.node_whole}
use Rattle.kp_net.proofs.Rightness.{right_more, distinct_more}
use Rattle.kp_net.proofs.Growing.{kept_new, grown_new, added_new, wire_new, value_new, wire_there, value_there}
use Rattle.kp_pool.{specs.Folding.foldable, specs.Folding.NoneFoldable, specs.inner.Numbers.IsIndex, proofs.Unfolded.unfolded_more}
use Rattle.kp_pool.proofs.pool.Pool.shared.Goals as goal

-- the lists that the pool holds before and after an addition
stays_right : (ns ms old : List Node) (n : Node) → ms ≡ ns ++ n ∷ [] → ns ≡ old → AllRight ns → NodeOk old (length old) n → AllRight ms
stays_right ns ms old n e f right ok =
    let P : List Node → Type 0 = λ xs. NodeOk xs (length xs) n in let Q : List Node → Type 0 = AllRight in
    subst Q (sym e) (right_more ns n right (subst P (sym f) ok))

stays_distinct : (ns ms slice : List Node) (n : Node) → ms ≡ ns ++ n ∷ [] → slice ≡ ns → Distinct ns → LacksBelow slice n (length slice) → Distinct ms
stays_distinct ns ms slice n e f distinct lacks =
    let P : List Node → Type 0 = λ xs. LacksBelow xs n (length xs) in let Q : List Node → Type 0 = Distinct in
    subst Q (sym e) (distinct_more ns n distinct (subst P f lacks))

stays_unfolded : (ns ms old : List Node) (n : Node) → ms ≡ ns ++ n ∷ [] → ns ≡ old → AllRight ns → NodeOk old (length old) n → NoneFoldable ns → foldable old n ≡ false → NoneFoldable ms
stays_unfolded ns ms old n e f right ok none apart =
    let P : List Node → Type 0 = λ xs. NodeOk xs (length xs) n in let Q : List Node → Type 0 = NoneFoldable in let R : List Node → Type 0 = λ xs. foldable xs n ≡ false in
    subst Q (sym e) (unfolded_more ns n right (subst P (sym f) ok) none (subst R (sym f) apart))

stands : (slice old : List Node) (n : Node) (i : _) → slice ≡ old → (i < length slice) × (get_or slice i no_node ≡ n) → (i < length old) × (get_or old i no_node ≡ n)
stands slice old n i e h = let P : List Node → Type 0 = λ ns. (i < length ns) × (get_or ns i no_node ≡ n) in subst P e h

pub invariant_of-self : goal.invariant_of-self
invariant_of-self c =
    let vn : c.self.inside.nodes.items ≡ c.args.self.now.nodes = ap (λ (h : Held). h.nodes) c.self.view_is in
    let vs : c.self.inside.spare ≡ c.args.self.now.spare = ap (λ (h : Held). h.spare) c.self.view_is in
    let a = c.self.invariant in (
      omega (arith, a.0),
      omega (arith, a.1),
      stays_right _ _ _ _ c.add.ensures.items vn a.2 c.requires.right,
      stays_distinct _ _ _ _ c.add.ensures.items c.as_slice.ensures.value a.3 c.in-None.ensures,
      stays_unfolded _ _ _ _ c.add.ensures.items vn a.2 c.requires.right a.4 c.requires.unfolded,
      (let P : List Node → Type 0 = IsIndex c.append.new.self in subst P (ap (λ (xs : List Node). xs ++ c.args.n ∷ []) c.as_slice-in-None.ensures.value ∙ sym c.add.ensures.items) c.append.ensures),
    )

pub returns-in-Some-clause-wire : goal.returns-in-Some-clause-wire
returns-in-Some-clause-wire c =
    let vn : c.self.inside.nodes.items ≡ c.args.self.now.nodes = ap (λ (h : Held). h.nodes) c.self.view_is in
    let r = stands _ c.args.self.now.nodes c.args.n c.in-Some.i (c.as_slice.ensures.value ∙ vn) c.in-Some.ensures in
    wire_there _ _ _ r.0 r.1

pub returns-in-Some-clause-value : goal.returns-in-Some-clause-value
returns-in-Some-clause-value c =
    let vn : c.self.inside.nodes.items ≡ c.args.self.now.nodes = ap (λ (h : Held). h.nodes) c.self.view_is in
    let r = stands _ c.args.self.now.nodes c.args.n c.in-Some.i (c.as_slice.ensures.value ∙ vn) c.in-Some.ensures in
    let s : AllRight c.args.self.now.nodes = let P : List Node → Type 0 = AllRight in subst P vn c.self.invariant.2 in
    λ x. value_there x c.args.self.now.nodes c.args.n c.in-Some.i s r.0 r.1

pub returns-in-Some-clause-exact : goal.returns-in-Some-clause-exact
returns-in-Some-clause-exact c =
    let vn : c.self.inside.nodes.items ≡ c.args.self.now.nodes = ap (λ (h : Held). h.nodes) c.self.view_is in
    let r = stands _ c.args.self.now.nodes c.args.n c.in-Some.i (c.as_slice.ensures.value ∙ vn) c.in-Some.ensures in
    let s : AllRight c.args.self.now.nodes = let P : List Node → Type 0 = AllRight in subst P vn c.self.invariant.2 in
    λ x f. value_there x c.args.self.now.nodes c.args.n c.in-Some.i s r.0 r.1 ∙ node_whole x c.args.self.now.nodes c.args.n s c.requires.right f

pub returns-in-None-clause-exact : goal.returns-in-None-clause-exact
returns-in-None-clause-exact c =
    let vn : c.self.inside.nodes.items ≡ c.args.self.now.nodes = ap (λ (h : Held). h.nodes) c.self.view_is in
    let e : c.add.new.nodes.items ≡ c.args.self.now.nodes ++ c.args.n ∷ [] = c.add.ensures.items ∙ ap (λ (ns : List Node). ns ++ c.args.n ∷ []) vn in
    let s : AllRight c.args.self.now.nodes = let P : List Node → Type 0 = AllRight in subst P vn c.self.invariant.2 in
    λ x f. value_new c.args.self.now (record { nodes = c.add.new.nodes.items; spare = 0 }) c.args.n e x _ (omega (arith, ap length vn)) ∙ node_whole x c.args.self.now.nodes c.args.n s c.requires.right f

pub returns-in-None-clause-wire : goal.returns-in-None-clause-wire
returns-in-None-clause-wire c =
    let vn : c.self.inside.nodes.items ≡ c.args.self.now.nodes = ap (λ (h : Held). h.nodes) c.self.view_is in
    let e : c.add.new.nodes.items ≡ c.args.self.now.nodes ++ c.args.n ∷ [] = c.add.ensures.items ∙ ap (λ (ns : List Node). ns ++ c.args.n ∷ []) vn in
    wire_new c.args.self.now _ c.args.n e _ (omega (arith, ap length vn))

pub returns-in-None-clause-value : goal.returns-in-None-clause-value
returns-in-None-clause-value c =
    let vn : c.self.inside.nodes.items ≡ c.args.self.now.nodes = ap (λ (h : Held). h.nodes) c.self.view_is in
    let e : c.add.new.nodes.items ≡ c.args.self.now.nodes ++ c.args.n ∷ [] = c.add.ensures.items ∙ ap (λ (ns : List Node). ns ++ c.args.n ∷ []) vn in
    λ x. value_new c.args.self.now (record { nodes = c.add.new.nodes.items; spare = 0 }) c.args.n e x _ (omega (arith, ap length vn))

pub returns-in-None-clause-kept : goal.returns-in-None-clause-kept
returns-in-None-clause-kept c =
    let vn : c.self.inside.nodes.items ≡ c.args.self.now.nodes = ap (λ (h : Held). h.nodes) c.self.view_is in
    let vs : c.self.inside.spare ≡ c.args.self.now.spare = ap (λ (h : Held). h.spare) c.self.view_is in
    let e : c.add.new.nodes.items ≡ c.args.self.now.nodes ++ c.args.n ∷ [] = c.add.ensures.items ∙ ap (λ (ns : List Node). ns ++ c.args.n ∷ []) vn in
    kept_new c.args.self.now _ c.args.n e (omega arith)

pub returns-in-None-clause-added : goal.returns-in-None-clause-added
returns-in-None-clause-added c =
    let vn : c.self.inside.nodes.items ≡ c.args.self.now.nodes = ap (λ (h : Held). h.nodes) c.self.view_is in
    let e : c.add.new.nodes.items ≡ c.args.self.now.nodes ++ c.args.n ∷ [] = c.add.ensures.items ∙ ap (λ (ns : List Node). ns ++ c.args.n ∷ []) vn in
    added_new c.args.self.now (record { nodes = c.add.new.nodes.items; spare = 0 }) c.args.n e

pub returns-in-None-clause-grown : goal.returns-in-None-clause-grown
returns-in-None-clause-grown c =
    let vn : c.self.inside.nodes.items ≡ c.args.self.now.nodes = ap (λ (h : Held). h.nodes) c.self.view_is in
    let vs : c.self.inside.spare ≡ c.args.self.now.spare = ap (λ (h : Held). h.spare) c.self.view_is in
    let e : c.add.new.nodes.items ≡ c.args.self.now.nodes ++ c.args.n ∷ [] = c.add.ensures.items ∙ ap (λ (ns : List Node). ns ++ c.args.n ∷ []) vn in
    grown_new c.args.self.now _ c.args.n e (omega arith)

pub returns-in-None-clause-right : goal.returns-in-None-clause-right
returns-in-None-clause-right c =
    let vn : c.self.inside.nodes.items ≡ c.args.self.now.nodes = ap (λ (h : Held). h.nodes) c.self.view_is in
    stays_right _ _ _ _ c.add.ensures.items vn c.self.invariant.2 c.requires.right

pub returns-in-None-clause-distinct : goal.returns-in-None-clause-distinct
returns-in-None-clause-distinct c = stays_distinct _ _ _ _ c.add.ensures.items c.as_slice.ensures.value c.self.invariant.3 c.in-None.ensures

pub returns-in-Some-clause-depth : goal.returns-in-Some-clause-depth
returns-in-Some-clause-depth c =
    let vn : c.self.inside.nodes.items ≡ c.args.self.now.nodes = ap (λ (h : Held). h.nodes) c.self.view_is in
    let ns = c.args.self.now.nodes in
    let r = stands _ ns c.args.n c.in-Some.i (c.as_slice.ensures.value ∙ vn) c.in-Some.ensures in
    let s : AllRight ns = let P : List Node → Type 0 = AllRight in subst P vn c.self.invariant.2 in
    let d : depth ns c.in-Some.i ≡ depth_of (depth ns) c.args.n.kind = depth_there ns c.in-Some.i r.0 (s c.in-Some.i r.0) ∙ ap (λ (x : Node). depth_of (depth ns) x.kind) r.1 in
    omega (arith, d)

pub returns-in-None-clause-depth : goal.returns-in-None-clause-depth
returns-in-None-clause-depth c =
    let vn : c.self.inside.nodes.items ≡ c.args.self.now.nodes = ap (λ (h : Held). h.nodes) c.self.view_is in
    let ns = c.args.self.now.nodes in
    let e : c.add.new.nodes.items ≡ ns ++ c.args.n ∷ [] = c.add.ensures.items ∙ ap (λ (xs : List Node). xs ++ c.args.n ∷ []) vn in
    let z : c.len-i.result ≡ length ns = omega (arith, ap length vn) in
    let d : depth c.add.new.nodes.items c.len-i.result ≡ depth_of (depth ns) c.args.n.kind =
    ap (λ (xs : List Node). depth xs c.len-i.result) e ∙ ap (depth (ns ++ c.args.n ∷ [])) z ∙ depth_new ns c.args.n in
    omega (arith, d)

pub returns-in-None-clause-folded : goal.returns-in-None-clause-folded
returns-in-None-clause-folded c =
    let vn : c.self.inside.nodes.items ≡ c.args.self.now.nodes = ap (λ (h : Held). h.nodes) c.self.view_is in
    stays_unfolded _ _ _ _ c.add.ensures.items vn c.self.invariant.2 c.requires.right c.self.invariant.4 c.requires.unfolded

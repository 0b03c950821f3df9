-- A step computes the value of its target, provided that its operands have theirs.
use Rattle.std.proofs.Common.{◌≡◌, ℕ, ◌+◌, ◌-◌, ◌<◌, ◌≤◌, ◌^◌, List, [], ◌∷◌, length, get_or, set, map, refl, sym, subst, ap, ◌∙◌, arith, ⊎_elim, ◌%◌}
use Rattle.std.proofs.{Math.Nat.mod-eq_of_lt, lemmas.Bool.cases_lt, lemmas.List.get_or-map, lemmas.List.length-map}
use Rattle.std.{proofs.lemmas.List.Elements.All-head, proofs.lemmas.List.Elements.All-tail, specs.Prelude.All}
use Rattle.kp_bits.specs.Word as bits
use Rattle.kp_bits.specs.Operators.{binary_of, joined_of}
use Rattle.kp_net.specs.declared.node.{NodeId.NodeId, Kind.Kind}
use Rattle.kp_net.specs.declared.node.Kind.TheVariants.{Const, Reg, Word, Not, Binary, Mux, Concat, Slice}
use Rattle.kp_net.specs.{declared.node.Node.Node, Nodes.Cells, Nodes.Words, Nodes.word_of_kind, Nodes.word_of_node, Nodes.word_at, Nodes.at}
use Rattle.kp_net.specs.{Widths.wide, Widths.no_node, Widths.KindOk, Widths.AllRight, Netlist.Net, Netlist.Input, Netlist.State, Netlist.cells_of}
use Rattle.kp_net.{specs.Parts.CellOk, specs.Parts.NetOk, proofs.Values.word_there, proofs.Values.word_is, proofs.Values.at_fits}
use Rattle.kp_cycle_plan.specs.declared.codes.{Op.Op, Op.TheVariants.Plain, Step.Step}
use Rattle.kp_cycle_plan.specs.Codes.{op_for, number_of, IsReady}
use Rattle.kp_cycle_plan.specs.Plans.{reads, reads_at, Among, IsKnown, OfRoots, IsPlan, no_step, targets}
use Rattle.kp_cycle_plan.specs.Storage.{Stored, Fits, FitsBelow, StateFits, cells, seen, state_of}
use Rattle.kp_cycle_plan.proofs.{Lists.set_has, Marking.roots_are}
use Rattle.kp_cycle.{specs.inner.Settling.AreFixed, specs.inner.Settling.Settled, proofs.Coding.coded, proofs.Coding.ready}

-- a node's word depends on the words of its operands alone
parts_read : (v w : Words) (parts : List NodeId) → All (λ a. v a.0 ≡ w a.0) parts → map (λ a. v a.0) parts ≡ map (λ a. w a.0) parts
parts_read v w [] h = refl
parts_read v w (a ∷ parts) h =
    let x = All-head (λ b. v b.0 ≡ w b.0) a parts h in let y = parts_read v w parts (All-tail (λ b. v b.0 ≡ w b.0) a parts h) in
    λ i. x i ∷ y i

kind_read : (c : Cells) (k : ℕ) (o : Kind) (v w : Words) → All (λ a. v a.0 ≡ w a.0) (reads o) → word_of_kind c v k o ≡ word_of_kind c w k o
kind_read c k (Word f a) v w h = ap (λ (x : bits.Word). bits.word k (c.word f x.value)) (h 0 a (omega arith))
kind_read c k (Not a) v w h = ap bits.not_of (h 0 a (omega arith))
kind_read c k (Binary op a b) v w h = let x = h 0 a (omega arith) in let y = h 1 b (omega arith) in λ i. binary_of op (x i) (y i)
kind_read c k (Mux t a b) v w h = let x = h 0 t (omega arith) in let y = h 1 a (omega arith) in let z = h 2 b (omega arith) in λ i. bits.mux_of (x i) (y i) (z i)
kind_read c k (Concat parts) v w h = ap joined_of (parts_read v w parts h)
kind_read c k (Slice a hi lo) v w h = ap (λ (x : bits.Word). bits.slice_of x hi lo) (h 0 a (omega arith))
kind_read c k _ v w h = refl

-- an operand that has its value
abbrev HasValue : Cells → List Node → List ℕ → ℕ → Type 0
HasValue c ns v j = (j < length ns) × (get_or v j 0 ≡ at c ns j)

seen_is : (c : Cells) (ns : List Node) (v : List ℕ) (j : ℕ) → HasValue c ns v j → seen ns v j ≡ word_at c ns j
seen_is c ns v j h = ap (bits.word (wide ns j)) h.1 ∙ sym (word_is c ns j h.0)

-- so what the node computes of them is its value
step_value : (c : Cells) (ns : List Node) (v : List ℕ) (t : ℕ) → AllRight ns → t < length ns → All (λ a. HasValue c ns v a.0) (reads_at ns t)
    → (word_of_node c (seen ns v) (get_or ns t no_node)).value ≡ at c ns t
unfolding at
step_value c ns v t right h have =
    let n : Node = get_or ns t no_node in
    let e : word_of_kind c (seen ns v) n.width n.kind ≡ word_of_kind c (word_at c ns) n.width n.kind =
    kind_read c n.width n.kind (seen ns v) (word_at c ns) (λ i d l. seen_is c ns v (get_or (reads n.kind) i d).0 (have i d l)) in
    ap (λ (x : bits.Word). (bits.word n.width (x.value % 2 ^ n.width)).value) e
    ∙ ap (λ (x : bits.Word). x.value) (sym (word_there c ns t h (right t h)))

-- what a plan says of its step k
module _ (net : Net) (heads : ℕ) (steps : List Step) (k : ℕ) (plan : IsPlan net heads steps) (h : k < length steps) where
  length_targets : length (targets steps) ≡ length steps
  length_targets = length-map steps (λ (s : Step). s.target)

  pub target_is : get_or (targets steps) k 0 ≡ (get_or steps k no_step).target
  target_is = get_or-map (λ (s : Step). s.target) steps k no_step 0 h

  pub target_inside : (get_or steps k no_step).target < length net.nodes
  target_inside = omega (arith, target_is, plan.ordered.inside k (omega (arith, h, length_targets)))

  pub step_ready : (m : ℕ) → NetOk net → m ≡ length net.nodes → IsReady m (get_or steps k no_step).op
  step_ready m ok e =
      let P : Op → Type 0 = IsReady m in
      ⊎_elim
      (λ (own : (get_or steps k no_step).op ≡ op_for net.nodes (get_or net.nodes (get_or steps k no_step).target no_node)).
      subst P (sym own) (ready net m (get_or steps k no_step).target ok e target_inside))
      (λ (none : (get_or steps k no_step).op ≡ Plain). subst P (sym none) tt)
      (plan.codes k h)

  -- a step with a number of its own isn't the last one
  pub step_inside : (v : List ℕ) (x : ℕ) → ((plain : ℕ) → x ≡ number_of v plain (get_or steps k no_step).op) → k + 1 < length steps
  step_inside v x is =
      ⊎_elim
      (λ (low : k + 1 < length steps). low)
      (λ (high : length steps ≤ k + 1).
      let last : (get_or steps k no_step).op ≡ Plain = plan.last k (omega (arith, h, high)) in
      let at_0 : x ≡ 0 = is 0 ∙ ap (number_of v 0) last in
      let at_1 : x ≡ 1 = is 1 ∙ ap (number_of v 1) last in
      absurd (omega (arith, at_0, at_1)))
      (cases_lt (k + 1) (length steps))

  have_values : (c : Cells) (v : List ℕ) → ((j : ℕ) → j < heads → get_or v j 0 ≡ at c net.nodes j) → ((q : ℕ) → q < k → get_or v (get_or (targets steps) q 0) 0 ≡ at c net.nodes (get_or (targets steps) q 0))
      → All (λ a. HasValue c net.nodes v a.0) (reads_at net.nodes (get_or steps k no_step).target)
  have_values c v leads known =
      let t : ℕ = (get_or steps k no_step).target in
      let P : ℕ → Type 0 = λ x. All (λ a. HasValue c net.nodes v a.0) (reads_at net.nodes x) in
      subst P target_is
      (λ i d l.
      let j : ℕ = (get_or (reads_at net.nodes (get_or (targets steps) k 0)) i d).0 in
      let Q : ℕ → Type 0 = HasValue c net.nodes v in
      ⊎_elim
      (λ (first : j < heads). (omega (arith, plan.ordered.heads), leads j first))
      (λ (m : Among (targets steps) k j). let low = m.1 in subst Q m.2 (plan.ordered.inside m.0 (omega (arith, h, low, length_targets)), known m.0 low))
      (plan.ordered.before k (omega (arith, h, length_targets)) i d l))

  -- what the node of its target says is its value, and so is the number of its operation
  pub step_word : (input : Input) (m : Stored) → NetOk net → Settled net input heads steps k m
      → (word_of_node (cells input m) (seen net.nodes m.nodes) (get_or net.nodes (get_or steps k no_step).target no_node)).value ≡ at (cells input m) net.nodes (get_or steps k no_step).target
  step_word input m ok settled =
      step_value (cells input m) net.nodes m.nodes (get_or steps k no_step).target ok.right target_inside (have_values (cells input m) m.nodes settled.leads settled.known)

  pub step_number : (input : Input) (m : Stored) (x : ℕ) → NetOk net → Settled net input heads steps k m
      → ((plain : ℕ) → x ≡ number_of m.nodes plain (get_or steps k no_step).op) → x ≡ at (cells input m) net.nodes (get_or steps k no_step).target
  step_number input m x ok settled is =
      let t : ℕ = (get_or steps k no_step).target in
      let c : Cells = cells input m in
      let plain : ℕ = (word_of_node c (seen net.nodes m.nodes) (get_or net.nodes t no_node)).value in
      let number : number_of m.nodes plain (get_or steps k no_step).op ≡ plain =
      ⊎_elim
      (λ (own : (get_or steps k no_step).op ≡ op_for net.nodes (get_or net.nodes t no_node)).
      ap (number_of m.nodes plain) own ∙ coded c net.nodes m.nodes t ok.right target_inside (λ j l. settled.widths j (omega (arith, target_inside))))
      (λ (none : (get_or steps k no_step).op ≡ Plain). ap (number_of m.nodes plain) none)
      (plan.codes k h) in
      is plain
      ∙ number
      ∙ step_word input m ok settled

  -- with this value one more step is taken
  pub step_more : (input : Input) (m : Stored) (x : ℕ) → length m.nodes ≡ length net.nodes → Settled net input heads steps k m → x ≡ at (cells input m) net.nodes (get_or steps k no_step).target
      → Settled net input heads steps (k + 1) (record m { nodes = set m.nodes (get_or steps k no_step).target x })
  step_more input m x count settled value =
      let t : ℕ = (get_or steps k no_step).target in
      let c : Cells = cells input m in
      let ns : List Node = net.nodes in
      let there : t < length m.nodes = omega (arith, target_inside, count) in
      let own : (j : ℕ) → j ≡ t → x ≡ at c ns j = λ j same. value ∙ ap (at c ns) (sym same) in
      record {
        widths = λ j l. set_has (λ i y. y < 2 ^ wide ns i) m.nodes t x 0 j there (λ same. subst (λ y. y < 2 ^ wide ns j) (sym (own j same)) (at_fits c ns j l)) (λ apart. settled.widths j l);
        leads = λ j l. set_has (λ i y. y ≡ at c ns i) m.nodes t x 0 j there (own j) (λ apart. settled.leads j l);
        known = λ q l. let j : ℕ = get_or (targets steps) q 0 in
            set_has (λ i y. y ≡ at c ns i) m.nodes t x 0 j there (own j)
            (λ apart. ⊎_elim
            (λ (below : q < k). settled.known q below)
            (λ (above : k ≤ q). let e : q ≡ k = omega arith in absurd (apart (ap (λ (i : ℕ). get_or (targets steps) i 0) e ∙ target_is)))
            (cases_lt q k));
      }

-- after all steps each node that is read at the end of the cycle has its value
pub all_settled : (net : Net) (input : Input) (heads : ℕ) (steps : List Step) (m : Stored) → IsPlan net heads steps → Settled net input heads steps (length steps) m
    → OfRoots net (λ j. get_or m.nodes j 0 ≡ at (cells input m) net.nodes j)
all_settled net input heads steps m plan settled =
    let Q : ℕ → Type 0 = λ j. get_or m.nodes j 0 ≡ at (cells input m) net.nodes j in
    roots_are net (IsKnown heads (targets steps) (length steps)) Q
    (λ j known. ⊎_elim (λ (first : j < heads). settled.leads j first) (λ (a : Among (targets steps) (length steps) j). subst Q a.2 (settled.known a.0 a.1)) known)
    plan.roots

-- a node that reads no other
leaf_value : (c : Cells) (ns : List Node) (j : ℕ) (o : Kind) → AllRight ns → j < length ns → (get_or ns j no_node).kind ≡ o → length (reads o) ≡ 0
    → (word_of_kind c (seen ns []) (get_or ns j no_node).width o).value % 2 ^ (get_or ns j no_node).width ≡ at c ns j
leaf_value c ns j o right h is none =
    let n : Node = get_or ns j no_node in
    ap (λ (k : Kind). (word_of_kind c (seen ns []) n.width k).value % 2 ^ n.width) (sym is)
    ∙ step_value c ns [] j right h (subst (λ k. All (λ a. HasValue c ns [] a.0) (reads k)) (sym is) (λ q d l. absurd (omega (arith, none))))

-- a node that is a register has the register's value
pub reg_held : (net : Net) (input : Input) (st : State) (j r : ℕ) → NetOk net → StateFits net st → j < length net.nodes → (get_or net.nodes j no_node).kind ≡ Reg r
    → get_or st.regs r 0 ≡ at (cells_of input st) net.nodes j
reg_held net input st j r ok fits h is =
    let P : Kind → Type 0 = CellOk net.nodes net.parts (get_or net.nodes j no_node).width in
    let cell = subst P is (ok.parts.cells j h) in
    let Q : ℕ → Type 0 = λ w. get_or st.regs r 0 < 2 ^ w in
    sym (mod-eq_of_lt (subst Q cell.1 (fits.regs r cell.0))) ∙ leaf_value (cells_of input st) net.nodes j (Reg r) ok.right h is refl

-- a constant has its value
pub const_fits : (ns : List Node) (j n : ℕ) → AllRight ns → j < length ns → (get_or ns j no_node).kind ≡ Const n → n < 2 ^ wide ns j
unfolding wide
const_fits ns j n right h is = let P : Kind → Type 0 = KindOk ns j (get_or ns j no_node).width in subst P is (right j h).kind

const_value : (c : Cells) (ns : List Node) (j n : ℕ) → AllRight ns → j < length ns → (get_or ns j no_node).kind ≡ Const n → n ≡ at c ns j
unfolding wide
const_value c ns j n right h is = sym (mod-eq_of_lt (const_fits ns j n right h is)) ∙ leaf_value c ns j (Const n) right h is refl

-- the target of step q of a plan is a node
target_there : (net : Net) (heads : ℕ) (steps : List Step) (q : ℕ) → IsPlan net heads steps → q < length steps → get_or (targets steps) q 0 < length net.nodes
target_there net heads steps q plan h = plan.ordered.inside q (omega (arith, h, length-map steps (λ (s : Step). s.target)))

-- the registers were copied to the first nodes, and only the steps of constants have been evaluated
pub fixed_settled : (net : Net) (input : Input) (heads : ℕ) (steps : List Step) (fixed : ℕ) (old : List ℕ) (m : Stored) → IsPlan net heads steps → Fits net m → StateFits net (state_of m)
    → FitsBelow net.nodes old (length net.nodes) → AreFixed net.nodes steps fixed old
    → ((j : ℕ) → j < heads → get_or m.nodes j 0 ≡ get_or m.regs j 0) → ((j : ℕ) → heads ≤ j → get_or m.nodes j 0 ≡ get_or old j 0)
    → Settled net input heads steps fixed m
fixed_settled net input heads steps fixed old m plan fits state widths are shown others =
    let c : Cells = cells input m in
    let ns : List Node = net.nodes in
    let value : (j : ℕ) → j < heads → get_or m.nodes j 0 ≡ at c ns j =
    λ j l. shown j l ∙ reg_held net input (state_of m) j j fits.right state (omega (arith, l, plan.ordered.heads)) (plan.leads j l) in
    record {
      widths = λ j h. let P : ℕ → Type 0 = λ x. x < 2 ^ wide ns j in
          ⊎_elim
          (λ (l : j < heads). subst P (sym (value j l)) (at_fits c ns j h))
          (λ (l : heads ≤ j). subst P (sym (others j l)) (widths j h))
          (cases_lt j heads);
      leads = value;
      known = λ q l. let j : ℕ = get_or (targets steps) q 0 in let few = are.0 in
          ⊎_elim
          (λ (first : j < heads). value j first)
          (λ (rest : heads ≤ j). others j rest ∙ const_value c ns j (get_or old j 0) fits.right.right (target_there net heads steps q plan (omega (arith, few))) (are.1 q l))
          (cases_lt j heads);
    }

-- and they still have their values at the end of the cycle
pub still_fixed : (net : Net) (input : Input) (heads : ℕ) (steps : List Step) (fixed : ℕ) (old : List ℕ) (m : Stored) → NetOk net → IsPlan net heads steps
    → AreFixed net.nodes steps fixed old → Settled net input heads steps (length steps) m → AreFixed net.nodes steps fixed m.nodes
still_fixed net input heads steps fixed old m ok plan are settled = let few = are.0 in (
  few,
  λ q l. let j : ℕ = get_or (targets steps) q 0 in
      are.1 q l ∙ ap (λ (n : ℕ). Const n)
      (const_value (cells input m) net.nodes j (get_or old j 0) ok.right (target_there net heads steps q plan (omega (arith, few))) (are.1 q l)
      ∙ sym (settled.known q (omega (arith, few)))),
)

-- one constant more has its value
pub fixed_more : (net : Net) (heads : ℕ) (steps : List Step) (k t v : ℕ) (values : List ℕ) → IsPlan net heads steps → k < length steps → t ≡ get_or (targets steps) k 0 → t < length values
    → (get_or net.nodes t no_node).kind ≡ Const v → AreFixed net.nodes steps k values → AreFixed net.nodes steps (k + 1) (set values t v)
fixed_more net heads steps k t v values plan h e there is old = (
  omega (arith, h),
  λ q l. let j : ℕ = get_or (targets steps) q 0 in
      set_has (λ i x. (get_or net.nodes i no_node).kind ≡ Const x) values t v 0 j there
      (λ same. ap (λ (i : ℕ). (get_or net.nodes i no_node).kind) same ∙ is)
      (λ apart. ⊎_elim
      (old.1 q)
      (λ (above : k ≤ q). let z : q ≡ k = omega arith in absurd (apart (ap (λ (i : ℕ). get_or (targets steps) i 0) z ∙ sym e)))
      (cases_lt q k)),
)

pub widths_more : (ns : List Node) (values : List ℕ) (t v : ℕ) → t < length values → v < 2 ^ wide ns t → FitsBelow ns values (length ns) → FitsBelow ns (set values t v) (length ns)
widths_more ns values t v there fits old j l =
    set_has (λ i x. x < 2 ^ wide ns i) values t v 0 j there (λ same. subst (λ (i : ℕ). v < 2 ^ wide ns i) (sym same) fits) (λ apart. old j l)

-- there are as many registers
pub heads_fit : (net : Net) (heads : ℕ) (steps : List Step) (m : Stored) → IsPlan net heads steps → Fits net m → heads ≤ length m.regs
heads_fit net heads steps m plan fits =
    ⊎_elim
    (λ (some : 0 < heads).
    let last : heads - 1 < heads = omega arith in
    let P : Kind → Type 0 = CellOk net.nodes net.parts (get_or net.nodes (heads - 1) no_node).width in
    let cell = subst P (plan.leads (heads - 1) last) (fits.right.parts.cells (heads - 1) (omega (arith, plan.ordered.heads))) in
    let there = cell.0 in omega (arith, there, fits.regs))
    (λ (none : heads ≤ 0). omega arith)
    (cases_lt 0 heads)

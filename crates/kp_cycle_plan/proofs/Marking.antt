-- Marks of nodes, and lists in which operands come first.
use Rattle.std.proofs.Common.{◌≡◌, ◌≢◌, ℕ, Bool, true, false, true≢false, ◌+◌, ◌<◌, ◌≤◌, List, [], ◌∷◌, ◌++◌, length, get_or, set, map, take, ◌-◌, refl, sym, subst, ap, ◌∙◌, arith, ⊎_elim, inl, inr, Option, None, Some}
use Rattle.std.proofs.lemmas.Bool.{cases_lt, cases_eq}
use Rattle.std.proofs.lemmas.List.{get_or-set_other, length-set, get_or_append_left, get_or_push, length_push, get_or_past, get_or-map, length-map, length-take-le, take_more, map-append}
use Rattle.std.proofs.{lemmas.Grind.get_or-set_at, Math.Seq.take-length, lemmas.List.Elements.All-nil, lemmas.List.Elements.All-cons}
use Rattle.std.specs.Prelude.{All}
use Rattle.kp_net.specs.declared.node.{NodeId.NodeId, Kind.Kind}
use Rattle.kp_net.specs.declared.node.Kind.TheVariants.{Word, Not, Binary, Mux, Concat, Slice}
use Rattle.kp_net.specs.{declared.node.Node.Node, declared.netlist.Parts.Parts, Netlist.Net, Parts.NetOk, Parts.no_file}
use Rattle.kp_net.specs.{Widths.no_node, Widths.AllRight, Widths.KindOk, declared.netlist.WritePort.WritePort}
use Rattle.kp_cycle_plan.specs.Plans.{reads, reads_at, IsMarked, Grows, Among, IsKnown, Leads, IsOrdered, OfPort, OfRoots, Needed, Taken, IsPlan, HasCode, targets, step_for, by_node, no_step}
use Rattle.kp_cycle_plan.specs.{Latches.latch_for, Latches.OfLatch, declared.codes.Step.Step}
use Rattle.kp_cycle_plan.{proofs.Lists.set_has, proofs.Lists.each_more, proofs.Lists.some_more, proofs.Lists.some_last, specs.declared.latches.Latch.Latch}
use Rattle.kp_cycle_plan.specs.declared.latches.Latch.TheVariants.{Always, If}

-- what is true of each node of P is true of what reads only such nodes
pub port_is : (P Q : ℕ → Type 0) (port : Option WritePort) → ((j : ℕ) → P j → Q j) → OfPort P port → OfPort Q port
port_is P Q None f h = tt
port_is P Q (Some p) f h = (f p.enable.0 h.0, f p.address.0 h.1, f p.value.0 h.2)

pub latch_is : (P Q : ℕ → Type 0) (latch : Latch) → ((j : ℕ) → P j → Q j) → OfLatch P latch → OfLatch Q latch
latch_is P Q (Always next) f h = f next.0 h
latch_is P Q (If test a) f h = (f test.0 h.0, f a.0 h.1)

pub roots_are : (net : Net) (P Q : ℕ → Type 0) → ((j : ℕ) → P j → Q j) → OfRoots net P → OfRoots net Q
roots_are net P Q f h = record {
  full = f net.parts.full.0 h.full;
  ue = f net.parts.ue.0 h.ue;
  back = f net.parts.back.0 h.back;
  regs = λ r l. latch_is P Q (latch_for net r) f (h.regs r l);
  files = λ i l. port_is P Q (get_or net.parts.files i no_file).port f (h.files i l);
}

-- one mark more
pub marked_here : (marks : List Bool) (a j : ℕ) → j ≡ a → a < length marks → IsMarked (set marks a true) j
marked_here marks a j e h = get_or-set_at marks a j true false e h

pub marked_still : (marks : List Bool) (a j : ℕ) → a < length marks → IsMarked marks j → IsMarked (set marks a true) j
marked_still marks a j h m = set_has (λ i b. b ≡ true) marks a true false j h (λ e. refl) (λ apart. m)

pub grows_more : (old marks : List Bool) (a : ℕ) → a < length marks → Grows old marks → Grows old (set marks a true)
grows_more old marks a h g = record { count = length-set marks a true ∙ g.count; kept = λ j m. marked_still marks a j h (g.kept j m) }

-- all of these are marked
pub all_marked_more : (marks : List Bool) (nodes : List NodeId) (k a : ℕ) → a < length marks → ((d : NodeId) → a ≡ (get_or nodes k d).0)
    → ((q : ℕ) (d : NodeId) → q < k → IsMarked marks (get_or nodes q d).0)
    → (q : ℕ) (d : NodeId) → q < k + 1 → IsMarked (set marks a true) (get_or nodes q d).0
all_marked_more marks nodes k a l is known q d m =
    ⊎_elim
    (λ (below : q < k). marked_still marks a (get_or nodes q d).0 l (known q d below))
    (λ (above : k ≤ q). let e : q ≡ k = omega arith in marked_here marks a (get_or nodes q d).0 (ap (λ (i : ℕ). (get_or nodes i d).0) e ∙ sym (is d)) l)
    (cases_lt q k)

-- operands precede their node
pub reads_below : (ns : List Node) (i k : ℕ) (o : Kind) → KindOk ns i k o → All (λ a. a.0 < i) (reads o)
reads_below ns i k (Word f a) h = All-cons (λ (x : NodeId). x.0 < i) a [] h (All-nil (λ (x : NodeId). x.0 < i))
reads_below ns i k (Not a) h = All-cons (λ (x : NodeId). x.0 < i) a [] h.0 (All-nil (λ (x : NodeId). x.0 < i))
reads_below ns i k (Binary op a b) h = All-cons (λ (x : NodeId). x.0 < i) a (b ∷ []) h.0 (All-cons (λ (x : NodeId). x.0 < i) b [] h.1 (All-nil (λ (x : NodeId). x.0 < i)))
reads_below ns i k (Mux t a b) h = All-cons (λ (x : NodeId). x.0 < i) t (a ∷ b ∷ []) h.0 (All-cons (λ (x : NodeId). x.0 < i) a (b ∷ []) h.1 (All-cons (λ (x : NodeId). x.0 < i) b [] h.2 (All-nil (λ (x : NodeId). x.0 < i))))
reads_below ns i k (Concat parts) h = h.2
reads_below ns i k (Slice a hi lo) h = All-cons (λ (x : NodeId). x.0 < i) a [] h.0 (All-nil (λ (x : NodeId). x.0 < i))
reads_below ns i k _ h = λ q d l. absurd (omega arith)

pub all_below : (ns : List Node) (i : ℕ) → AllRight ns → i < length ns → All (λ a. a.0 < i) (reads_at ns i)
all_below ns i right h = reads_below ns i (get_or ns i no_node).width (get_or ns i no_node).kind (right i h).kind

-- one node more in a list
pub among_kept : (ts : List ℕ) (t k j : ℕ) → k ≤ length ts → Among ts k j → Among (ts ++ t ∷ []) k j
among_kept ts t k j h a = let l = a.1 in (a.0, l, get_or_append_left ts (t ∷ []) 0 a.0 (omega (arith, l)) ∙ a.2)

known_kept : (heads : ℕ) (ts : List ℕ) (t k j : ℕ) → k ≤ length ts → IsKnown heads ts k j → IsKnown heads (ts ++ t ∷ []) k j
known_kept heads ts t k j h known = ⊎_elim (λ (first : j < heads). inl first) (λ (a : Among ts k j). inr (among_kept ts t k j h a)) known

known_more : (heads : ℕ) (ts : List ℕ) (t j : ℕ) → IsKnown heads ts (length ts) j → IsKnown heads (ts ++ t ∷ []) (length (ts ++ t ∷ [])) j
known_more heads ts t j known = ⊎_elim (λ (first : j < heads). inl first) (λ (a : Among ts (length ts) j). inr (some_more ts t 0 (λ x. x ≡ j) a)) known

known_last : (heads : ℕ) (ts : List ℕ) (t j : ℕ) → j ≡ t → IsKnown heads (ts ++ t ∷ []) (length (ts ++ t ∷ [])) j
known_last heads ts t j e = inr (some_last ts t 0 (λ x. x ≡ j) (sym e))

pub ordered_more : (ns : List Node) (heads : ℕ) (ts : List ℕ) (t : ℕ) → IsOrdered ns heads ts → t < length ns → All (λ a. IsKnown heads ts (length ts) a.0) (reads_at ns t)
    → IsOrdered ns heads (ts ++ t ∷ [])
ordered_more ns heads ts t o h ready =
    let operands : ℕ → ℕ → Type 0 = λ k x. All (λ a. IsKnown heads (ts ++ t ∷ []) k a.0) (reads_at ns x) in
    record {
      heads = o.heads;
      inside = each_more ts t 0 (λ k x. x < length ns) o.inside h;
      before = each_more ts t 0 operands
          (λ k l i d m. known_kept heads ts t k (get_or (reads_at ns (get_or ts k 0)) i d).0 (omega arith) (o.before k l i d m))
          (λ i d m. known_kept heads ts t (length ts) (get_or (reads_at ns t) i d).0 (omega arith) (ready i d m));
    }

-- the list of the marked nodes after the heads, as far as node i
abbrev pub Listed : List Node → ℕ → List Bool → ℕ → List ℕ → Type 0
Listed ns heads marks i ts = IsOrdered ns heads ts × ((j : ℕ) → j < i → IsMarked marks j → IsKnown heads ts (length ts) j)

pub listed_more : (ns : List Node) (heads : ℕ) (marks : List Bool) (i : ℕ) (ts : List ℕ) → i < length ns → All (λ a. a.0 < i) (reads_at ns i)
    → All (λ a. IsMarked marks a.0) (reads_at ns i) → Listed ns heads marks i ts → Listed ns heads marks (i + 1) (ts ++ i ∷ [])
listed_more ns heads marks i ts h below operands old = (
  ordered_more ns heads ts i old.0 h (λ q d l. old.1 (get_or (reads_at ns i) q d).0 (below q d l) (operands q d l)),
  λ j l m. ⊎_elim
      (λ (low : j < i). known_more heads ts i j (old.1 j low m))
      (λ (high : i ≤ j). known_last heads ts i j (omega arith))
      (cases_lt j i),
)

pub listed_skip : (ns : List Node) (heads : ℕ) (marks : List Bool) (i : ℕ) (ts : List ℕ) → get_or marks i false ≡ false → Listed ns heads marks i ts
    → Listed ns heads marks (i + 1) ts
listed_skip ns heads marks i ts off old = (
  old.0,
  λ j l m. ⊎_elim
      (λ (low : j < i). old.1 j low m)
      (λ (high : i ≤ j). let e : j ≡ i = omega arith in absurd (true≢false (sym m ∙ ap (λ (x : ℕ). get_or marks x false) e ∙ off)))
      (cases_lt j i),
)

-- the nodes of the outputs are marked after those of registers and ports
pub roots_marked : (net : Net) (marks : List Bool) (parts : Parts) → parts ≡ net.parts → NetOk net → length marks ≡ length net.nodes
    → ((r : ℕ) → r < length net.parts.regs → OfLatch (IsMarked marks) (latch_for net r))
    → ((f : ℕ) → f < length net.parts.files → OfPort (IsMarked marks) (get_or net.parts.files f no_file).port)
    → OfRoots net (IsMarked (set (set (set marks parts.full.0 true) parts.ue.0 true) parts.back.0 true))
roots_marked net marks parts e ok many regs files =
    let a : List Bool = set marks parts.full.0 true in
    let b : List Bool = set a parts.ue.0 true in
    let d : List Bool = set b parts.back.0 true in
    let full : parts.full.0 ≡ net.parts.full.0 = ap (λ (p : Parts). p.full.0) e in
    let ue : parts.ue.0 ≡ net.parts.ue.0 = ap (λ (p : Parts). p.ue.0) e in
    let back : parts.back.0 ≡ net.parts.back.0 = ap (λ (p : Parts). p.back.0) e in
    let la : length a ≡ length marks = length-set marks parts.full.0 true in
    let lb : length b ≡ length a = length-set a parts.ue.0 true in
    let at_full : parts.full.0 < length marks = omega (arith, ok.parts.full, full, many) in
    let at_ue : parts.ue.0 < length a = omega (arith, ok.parts.ue, ue, many, la) in
    let at_back : parts.back.0 < length b = omega (arith, ok.parts.back, back, many, la, lb) in
    let last : (j : ℕ) → IsMarked b j → IsMarked d j = λ j h. marked_still b parts.back.0 j at_back h in
    let more : (j : ℕ) → IsMarked a j → IsMarked d j = λ j h. last j (marked_still a parts.ue.0 j at_ue h) in
    let kept : (j : ℕ) → IsMarked marks j → IsMarked d j = λ j h. more j (marked_still marks parts.full.0 j at_full h) in
    record {
      full = more net.parts.full.0 (marked_here marks parts.full.0 net.parts.full.0 (sym full) at_full);
      ue = last net.parts.ue.0 (marked_here a parts.ue.0 net.parts.ue.0 (sym ue) at_ue);
      back = marked_here b parts.back.0 net.parts.back.0 (sym back) at_back;
      regs = λ r l. latch_is (IsMarked marks) (IsMarked d) (latch_for net r) kept (regs r l);
      files = λ f l. port_is (IsMarked marks) (IsMarked d) (get_or net.parts.files f no_file).port kept (files f l);
    }

-- what is needed, one node further down
pub needed_more : (net : Net) (i : ℕ) (marks new : List Bool) → AllRight net.nodes → i < length net.nodes → Grows marks new → All (λ a. IsMarked new a.0) (reads_at net.nodes i)
    → ((k j : ℕ) → All (λ a. a.0 < k) (reads_at net.nodes i) → k ≤ j → get_or new j false ≡ get_or marks j false)
    → Needed net (i + 1) marks → Needed net i new
needed_more net i marks new right h grows operands others old =
    let below = all_below net.nodes i right h in (
      grows.count ∙ old.0,
      roots_are net (IsMarked marks) (IsMarked new) grows.kept old.1,
      λ j l k m. ⊎_elim
          (λ (low : j < i + 1). let e : i ≡ j = omega arith in let P : ℕ → Type 0 = λ x. All (λ a. IsMarked new a.0) (reads_at net.nodes x) in subst P e operands)
          (λ (high : i + 1 ≤ j). λ q d n. grows.kept (get_or (reads_at net.nodes j) q d).0 (old.2 j high k (sym (others i j below l) ∙ m) q d n))
          (cases_lt j (i + 1)),
    )

-- steps for an ordered list of all that is needed are a plan
targets_of : (ns : List Node) (ts : List ℕ) → targets (map (step_for ns) ts) ≡ ts
targets_of ns [] = refl
targets_of ns (t ∷ ts) = ap (λ (xs : List ℕ). t ∷ xs) (targets_of ns ts)

pub plan_is : (net : Net) (heads : ℕ) (ts : List ℕ) (steps : List Step) → 1 ≤ length ts
    → steps ≡ map (step_for net.nodes) (take (length ts - 1) ts) ++ by_node (get_or ts (length ts - 1) 0) ∷ []
    → Leads net heads → IsOrdered net.nodes heads ts → OfRoots net (IsKnown heads ts (length ts)) → IsPlan net heads steps
plan_is net heads ts steps some is leads ordered roots =
    let n : ℕ = length ts - 1 in
    let front : List ℕ = take n ts in
    let coded : List Step = map (step_for net.nodes) front in
    let end : Step = by_node (get_or ts n 0) in
    let behind : n + 1 ≡ length ts = omega (arith, some) in
    let many : length coded ≡ n = length-map front (step_for net.nodes) ∙ length-take-le n ts (omega arith) in
    let all : front ++ get_or ts n 0 ∷ [] ≡ ts = sym (take_more ts n 0 (omega arith)) ∙ ap (λ (m : ℕ). take m ts) behind ∙ take-length ts in
    let same : targets steps ≡ ts = ap targets is ∙ map-append (λ (s : Step). s.target) coded (end ∷ []) ∙ ap (λ (xs : List ℕ). xs ++ get_or ts n 0 ∷ []) (targets_of net.nodes front) ∙ all in
    let size : length ts ≡ length steps = omega (arith, ap length is, length_push coded end, many, some) in
    let P : List ℕ → Type 0 = IsOrdered net.nodes heads in
    let Q : ℕ → Type 0 = λ m. OfRoots net (IsKnown heads (targets steps) m) in
    let R : List ℕ → Type 0 = λ xs. OfRoots net (IsKnown heads xs (length ts)) in
    let H : Step → Type 0 = HasCode net.nodes in
    let code : (k : ℕ) → k < length coded → H (get_or coded k no_step) =
    λ k l. subst H (sym (get_or-map (step_for net.nodes) front k 0 no_step (omega (arith, l, length-map front (step_for net.nodes))))) (inl refl) in
    record {
      leads = leads;
      codes = subst (λ ss. (k : ℕ) → k < length ss → H (get_or ss k no_step)) (sym is) (each_more coded end no_step (λ k s. H s) code (inr refl));
      last = λ k e. ap (λ (s : Step). s.op) (ap (λ (ss : List Step). get_or ss k no_step) is ∙ get_or_push coded end no_step k (omega (arith, e, size, many)));
      ordered = subst P (sym same) ordered;
      roots = subst Q size (subst R (sym same) roots);
    }

-- a mark is that of a node
pub marked_inside : (marks : List Bool) (j : ℕ) → IsMarked marks j → j < length marks
marked_inside marks j m =
    ⊎_elim
    (λ (low : j < length marks). low)
    (λ (high : length marks ≤ j). absurd (true≢false (sym m ∙ get_or_past marks j false high)))
    (cases_lt j (length marks))

-- marks of the heads alone
pub heads_more : (marks : List Bool) (i : ℕ) → i < length marks → ((j : ℕ) → j < i → IsMarked marks j) → (j : ℕ) → j < i + 1 → IsMarked (set marks i true) j
heads_more marks i h front j l =
    ⊎_elim
    (λ (low : j < i). marked_still marks i j h (front j low))
    (λ (high : i ≤ j). marked_here marks i j (omega arith) h)
    (cases_lt j i)

pub heads_alone : (marks : List Bool) (i : ℕ) → ((j : ℕ) → IsMarked marks j → j < i) → (j : ℕ) → IsMarked (set marks i true) j → j < i + 1
heads_alone marks i alone j m =
    ⊎_elim
    (λ (e : j ≡ i). omega arith)
    (λ (apart : j ≢ i). let l = alone j (sym (get_or-set_other marks i j true false apart) ∙ m) in omega arith)
    (cases_eq j i)

-- one more node is taken
pub taken_more : (ns : List Node) (heads : ℕ) (done : List Bool) (ts : List ℕ) (t : ℕ) → Taken ns heads done ts → t < length ns → All (λ a. IsMarked done a.0) (reads_at ns t)
    → Taken ns heads (set done t true) (ts ++ t ∷ [])
taken_more ns heads done ts t old h operands = record {
  count = length-set done t true ∙ old.count;
  ordered = ordered_more ns heads ts t old.ordered h (λ q d l. old.there (get_or (reads_at ns t) q d).0 (operands q d l));
  front = λ j l. marked_still done t j (omega (arith, h, old.count)) (old.front j l);
  there = λ j m. ⊎_elim
      (λ (e : j ≡ t). known_last heads ts t j e)
      (λ (apart : j ≢ t). known_more heads ts t j (old.there j (sym (get_or-set_other done t j true false apart) ∙ m)))
      (cases_eq j t);
}

-- an operand in an ordered list is a node
pub operands_inside : (ns : List Node) (heads : ℕ) (ts : List ℕ) (k : ℕ) → IsOrdered ns heads ts → k < length ts → All (λ a. a.0 < length ns) (reads_at ns (get_or ts k 0))
operands_inside ns heads ts k o h q d l =
    let j : ℕ = (get_or (reads_at ns (get_or ts k 0)) q d).0 in
    let P : ℕ → Type 0 = λ x. x < length ns in
    ⊎_elim
    (λ (first : j < heads). omega (arith, o.heads))
    (λ (a : Among ts k j). let low = a.1 in subst P a.2 (o.inside a.0 (omega (arith, low, h))))
    (o.before k h q d l)

-- the operands of a node of the list are taken if the heads and those before it are
pub operands_taken : (ns : List Node) (heads : ℕ) (ts : List ℕ) (done : List Bool) (k : ℕ) → IsOrdered ns heads ts → k < length ts
    → ((j : ℕ) → j < heads → IsMarked done j) → ((q : ℕ) → q < k → IsMarked done (get_or ts q 0)) → All (λ a. IsMarked done a.0) (reads_at ns (get_or ts k 0))
operands_taken ns heads ts done k o h front known q d l =
    let j : ℕ = (get_or (reads_at ns (get_or ts k 0)) q d).0 in
    ⊎_elim
    (λ (first : j < heads). front j first)
    (λ (a : Among ts k j). subst (IsMarked done) a.2 (known a.0 a.1))
    (o.before k h q d l)

-- a node after the heads that is known is in the list
pub known_at : (heads : ℕ) (ts : List ℕ) (j : ℕ) → heads ≤ j → IsKnown heads ts (length ts) j → 1 ≤ length ts
known_at heads ts j h known =
    ⊎_elim (λ (first : j < heads). absurd (omega arith)) (λ (a : Among ts (length ts) j). let l = a.1 in omega (arith, l)) known

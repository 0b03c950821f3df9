-- What stays over calls of a pool.
use Rattle.std.proofs.Common.{◌≡◌, ℕ, ◌+◌, ◌<◌, ◌≤◌, false, List, [], ◌∷◌, ◌++◌, length, get_or, refl, ap, ◌∙◌, arith, length-append, ⊎_elim, inl}
use Rattle.std.proofs.{Math.ListN.get_or-append, Math.Seq.get_or-append_seam, lemmas.Bool.cases_lt}
use Rattle.kp_net.specs.{declared.node.NodeId.NodeId, declared.node.Node.Node, Nodes.Cells, Nodes.word_of_node, Nodes.word_at, Nodes.at, Nodes.on}
use Rattle.kp_net.specs.{Widths.wide, Widths.no_node, Widths.is_cell, Widths.AllRight, Growth.Held, Growth.Wire, Growth.Kept, Growth.Grown, Growth.AddsOnly}
use Rattle.kp_net.proofs.Values.{word_front, at_front, on_front, wide_front, word_new, wide_new, word_there}

-- a node is added
module _ (p q : Held) (n : Node) (e : q.nodes ≡ p.nodes ++ n ∷ []) where
  longer_by : length q.nodes ≡ length p.nodes + 1
  longer_by = ap length e ∙ length-append p.nodes (n ∷ [])

  last : (i : ℕ) → length p.nodes ≤ i → i < length q.nodes → get_or q.nodes i no_node ≡ n
  last i l m =
      let z : i ≡ length p.nodes = omega (arith, longer_by) in
      ap (λ (ns : List Node). get_or ns i no_node) e ∙ ap (λ (k : ℕ). get_or (p.nodes ++ n ∷ []) k no_node) z ∙ get_or-append_seam p.nodes n [] no_node

  pub kept_new : q.spare + 1 ≡ p.spare → Kept p q 1
  kept_new h = record {
    longer = omega (arith, longer_by);
    total = omega (arith, longer_by);
    room = omega arith;
    words = λ c i l. ap (λ (ns : List Node). word_at c ns i) e ∙ word_front c p.nodes (n ∷ []) i l;
    same = λ c i l. ap (λ (ns : List Node). at c ns i) e ∙ at_front c p.nodes (n ∷ []) i l;
    tests = λ c i l. ap (λ (ns : List Node). on c ns i) e ∙ on_front c p.nodes (n ∷ []) i l;
    widths = λ i l. ap (λ (ns : List Node). wide ns i) e ∙ wide_front p.nodes (n ∷ []) i l;
    nodes = λ i l. ap (λ (ns : List Node). get_or ns i no_node) e ∙ get_or-append p.nodes (n ∷ []) no_node i l;
  }

  pub grown_new : q.spare + 1 ≡ p.spare → is_cell n.kind ≡ false → Grown p q 1
  grown_new h f = record { kept = kept_new h; plain = λ i l m. ap (λ (x : Node). is_cell x.kind) (last i l m) ∙ f }

  pub added_new : AddsOnly n p q
  added_new i l m = inl (last i l m)

  pub wire_new : (i : NodeId) → i.0 ≡ length p.nodes → Wire q i n.width
  wire_new i f = record {
    inside = omega (arith, longer_by);
    wide = ap (λ (ns : List Node). wide ns i.0) e ∙ ap (wide (p.nodes ++ n ∷ [])) f ∙ wide_new p.nodes n;
  }

  pub value_new : (c : Cells) (i : ℕ) → i ≡ length p.nodes → word_at c q.nodes i ≡ word_of_node c (word_at c p.nodes) n
  value_new c i f = ap (λ (ns : List Node). word_at c ns i) e ∙ ap (word_at c (p.nodes ++ n ∷ [])) f ∙ word_new c p.nodes n

-- nothing is added
pub kept_none : (p : Held) → Kept p p 1
kept_none p = record { longer = omega arith; total = refl; room = omega arith; words = λ c i l. refl; same = λ c i l. refl; tests = λ c i l. refl; widths = λ i l. refl; nodes = λ i l. refl }

pub wire_there : (p : Held) (n : Node) (i : NodeId) → i.0 < length p.nodes → get_or p.nodes i.0 no_node ≡ n → Wire p i n.width
unfolding wide
wire_there p n i h e = record { inside = h; wide = ap (λ (x : Node). x.width) e }

pub value_there : (c : Cells) (ns : List Node) (n : Node) (i : ℕ) → AllRight ns → i < length ns → get_or ns i no_node ≡ n → word_at c ns i ≡ word_of_node c (word_at c ns) n
value_there c ns n i right h e = word_there c ns i h (right i h) ∙ ap (word_of_node c (word_at c ns)) e

-- calls in sequence
pub kept_then : (p q r : Held) (j k : ℕ) → Kept p q j → Kept q r k → Kept p r (j + k)
kept_then p q r j k a b = record {
  longer = omega arith;
  total = omega arith;
  room = omega arith;
  words = λ c i l. b.words c i (omega arith) ∙ a.words c i l;
  same = λ c i l. b.same c i (omega arith) ∙ a.same c i l;
  tests = λ c i l. b.tests c i (omega arith) ∙ a.tests c i l;
  widths = λ i l. b.widths i (omega arith) ∙ a.widths i l;
  nodes = λ i l. b.nodes i (omega arith) ∙ a.nodes i l;
}

pub grown_then : (p q r : Held) (j k : ℕ) → Grown p q j → Grown q r k → Grown p r (j + k)
grown_then p q r j k a b = record {
  kept = kept_then p q r j k a.kept b.kept;
  plain = λ i l m. ⊎_elim
      (λ (h : i < length q.nodes). ap (λ (x : Node). is_cell x.kind) (b.kept.nodes i h) ∙ a.plain i l h)
      (λ (h : length q.nodes ≤ i). b.plain i h m)
      (cases_lt i (length q.nodes));
}

pub kept_more : (p q : Held) (j k : ℕ) → Kept p q j → j ≤ k → Kept p q k
kept_more p q j k a h = record { longer = a.longer; total = a.total; room = omega (arith, a.room); words = a.words; same = a.same; tests = a.tests; widths = a.widths; nodes = a.nodes }

pub grown_more : (p q : Held) (j k : ℕ) → Grown p q j → j ≤ k → Grown p q k
grown_more p q j k a h = record { kept = kept_more p q j k a.kept h; plain = a.plain }

-- what is known of one node stays
pub wire_kept : (p q : Held) (k : ℕ) (i : NodeId) (w : ℕ) → Kept p q k → Wire p i w → Wire q i w
wire_kept p q k i w a h = record { inside = omega (arith, a.longer, h.inside); wide = a.widths i.0 h.inside ∙ h.wide }

pub wire_grown : (p q : Held) (k : ℕ) (i : NodeId) (w : ℕ) → Grown p q k → Wire p i w → Wire q i w
wire_grown p q k i w a h = wire_kept p q k i w a.kept h

pub word_grown : (p q : Held) (k : ℕ) (i : NodeId) (w : ℕ) → Grown p q k → Wire p i w → (c : Cells) → word_at c q.nodes i.0 ≡ word_at c p.nodes i.0
word_grown p q k i w a h c = a.kept.words c i.0 h.inside

pub value_grown : (p q : Held) (k : ℕ) (i : NodeId) (w : ℕ) → Grown p q k → Wire p i w → (c : Cells) → at c q.nodes i.0 ≡ at c p.nodes i.0
value_grown p q k i w a h c = a.kept.same c i.0 h.inside

pub test_grown : (p q : Held) (k : ℕ) (i : NodeId) (w : ℕ) → Grown p q k → Wire p i w → (c : Cells) → on c q.nodes i.0 ≡ on c p.nodes i.0
test_grown p q k i w a h c = a.kept.tests c i.0 h.inside

pub ruleset growing = (wire_grown, word_grown, value_grown, test_grown, grown_then, grown_more)

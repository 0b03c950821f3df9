-- The bits of a word that is joined of single bits.
use Rattle.std.proofs.Common.{◌≡◌, ◌∙◌, ℕ, zero, suc, ◌+◌, ◌*◌, ◌/◌, ◌%◌, ◌^◌, ◌<◌, ◌==◌, List, [], ◌∷◌, fold, map, length, get_or, refl, sym, ap, subst, arith}
use Rattle.std.proofs.{Math.Nat.pow-succ', Math.Nat.div-div-eq-div-mul, lemmas.List.get_or-map, lemmas.List.length-map, lemmas.List.get_or_default}
use Rattle.std.{proofs.lemmas.List.Sums.sum_by-cons, specs.List.sum_by, specs.List.All}
use Rattle.kp_bits.specs.Word as bits
use Rattle.kp_bits.specs.{Word.word, Word.concat_of, Operators.joined_of, Operators.no_word}
use Rattle.kp_net.specs.{declared.node.NodeId.NodeId, Nodes.Cells, Nodes.word_at, Nodes.at, Nodes.on, Widths.wide, Growth.Held, Growth.Wire}
use Rattle.kp_net.proofs.Values.{at_fits, word_wide}
use Rattle.kp_synth_registers.specs.{Holding.word_bit, Meaning.node_at}

-- a word with one more bit at its low end
low_bit : (a r : ℕ) → r < 2 → (a * 2 + r) % 2 ≡ r
low_bit a r l = omega arith

rest_of : (a r : ℕ) → r < 2 → (a * 2 + r) / 2 ≡ a
rest_of a r l = omega arith

first_is : (a r : ℕ) → r < 2 → word_bit (a * 2 + r) 0 ≡ (r == 1)
first_is a r l = ap (λ (v : ℕ). v == 1) (ap (λ v. v % 2) (div-one (a * 2 + r)) ∙ low_bit a r l) where
  div-one : (v : ℕ) → v / 2 ^ 0 ≡ v
  div-one v = omega arith

later_is : (a r j : ℕ) → r < 2 → word_bit (a * 2 + r) (suc j) ≡ word_bit a j
later_is a r j l =
    ap (λ (v : ℕ). v % 2 == 1)
    (ap (λ (d : ℕ). (a * 2 + r) / d) (pow-succ' 2 j) ∙ sym (div-div-eq-div-mul (a * 2 + r) 2 (2 ^ j)) ∙ ap (λ (v : ℕ). v / 2 ^ j) (rest_of a r l))

-- single bits
abbrev pub AreBits : List bits.Word → Type 0
AreBits [] = Unit {0}
AreBits (r ∷ rs) = (r.width ≡ 1) × (r.value < 2) × AreBits rs

step_value : (a r : bits.Word) → r.width ≡ 1 → (concat_of a r).value ≡ a.value * 2 + r.value
step_value a r w = ap (λ (n : ℕ). a.value * 2 ^ n + r.value) w

past : (a : bits.Word) (rs : List bits.Word) (k j : ℕ) → AreBits rs → k ≡ j + length rs → word_bit (fold concat_of a rs).value k ≡ word_bit a.value j
past a [] k j h e = let z : k ≡ j = omega arith in ap (word_bit a.value) z
past a (r ∷ rs) k j h e =
    past (concat_of a r) rs k (suc j) h.2 (omega arith)
    ∙ ap (λ v. word_bit v (suc j)) (step_value a r h.0) ∙ later_is a.value r.value j h.1

within : (a : bits.Word) (rs : List bits.Word) (k j : ℕ) → AreBits rs → k + (j + 1) ≡ length rs → word_bit (fold concat_of a rs).value k ≡ ((get_or rs j no_word).value == 1)
within a [] k j h e = absurd (omega arith)
within a (r ∷ rs) k zero h e =
    past (concat_of a r) rs k 0 h.2 (omega arith)
    ∙ ap (λ v. word_bit v 0) (step_value a r h.0) ∙ first_is a.value r.value h.1
within a (r ∷ rs) k (suc j) h e = within (concat_of a r) rs k j h.2 (omega arith)

one_is : (v : ℕ) → v < 2 → word_bit v 0 ≡ (v == 1)
one_is v l = ap (λ (x : ℕ). x == 1) (plain v l) where
  plain : (v : ℕ) → v < 2 → v / 2 ^ 0 % 2 ≡ v
  plain v l = omega arith

-- bit k of the concatenation is the part that is followed by k parts
pub joined_bit : (rs : List bits.Word) (k j : ℕ) → AreBits rs → k + (j + 1) ≡ length rs → word_bit (joined_of rs).value k ≡ ((get_or rs j no_word).value == 1)
joined_bit [] k j h e = absurd (omega arith)
joined_bit (r ∷ rs) k zero h e = past r rs k 0 h.2 (omega arith) ∙ one_is r.value h.1
joined_bit (r ∷ rs) k (suc j) h e = within r rs k j h.2 (omega arith)

-- nodes of one bit
module _ (p : Held) where
  abbrev AreOnes : List NodeId → Type 0
  AreOnes parts = (j : ℕ) → j < length parts → Wire p (node_at parts j) 1

  abbrev tail : (a : NodeId) (rest : List NodeId) → AreOnes (a ∷ rest) → AreOnes rest
  tail a rest h j l = h (suc j) (omega arith)

  pub widths_are : (parts : List NodeId) → AreOnes parts → sum_by (λ (a : NodeId). wide p.nodes a.0) parts ≡ length parts
  widths_are [] h = refl
  widths_are (a ∷ rest) h =
      let w = (h 0 (omega arith)).wide in
      let r = widths_are rest (tail a rest h) in
      sum_by-cons (λ (x : NodeId). wide p.nodes x.0) a rest ∙ omega (arith, w, r)

  pub all_inside : (parts : List NodeId) → AreOnes parts → All (λ (a : NodeId). a.0 < length p.nodes) parts
  all_inside parts h = λ i d l. subst (λ (a : NodeId). a.0 < length p.nodes) (get_or_default parts i (record { 0 = 0 }) d l) (h i l).inside

  pub are_bits : (c : Cells) (parts : List NodeId) → AreOnes parts → AreBits (map (λ (a : NodeId). word_at c p.nodes a.0) parts)
  unfolding word_at at
  are_bits c [] h = tt
  are_bits c (a ∷ rest) h =
      let w = h 0 (omega arith) in
      (word_wide c p.nodes a.0 w.inside ∙ w.wide, subst (λ (k : ℕ). at c p.nodes a.0 < 2 ^ k) w.wide (at_fits c p.nodes a.0 w.inside), are_bits c rest (tail a rest h))

  pub joined_on : (c : Cells) (parts : List NodeId) (k j : ℕ) → AreOnes parts → k + (j + 1) ≡ length parts
      → word_bit (joined_of (map (λ (a : NodeId). word_at c p.nodes a.0) parts)).value k ≡ on c p.nodes (node_at parts j).0
  unfolding on at
  joined_on c parts k j h e =
      joined_bit (map (λ (a : NodeId). word_at c p.nodes a.0) parts) k j (are_bits c parts h) (e ∙ sym (length-map parts (λ (a : NodeId). word_at c p.nodes a.0)))
      ∙ ap (λ (w : bits.Word). w.value == 1) (get_or-map (λ (a : NodeId). word_at c p.nodes a.0) parts j (record { 0 = 0 }) no_word (omega arith))

pub joined_is_test : (p q : Held) (parts : List NodeId) (n : NodeId) (c : Cells) (k j : ℕ) → ((i : ℕ) → i < length parts → Wire p (node_at parts i) 1) → k + (j + 1) ≡ length parts
    → ((d : Cells) → word_at d q.nodes n.0 ≡ joined_of (map (λ (a : NodeId). word_at d p.nodes a.0) parts)) → word_bit (at c q.nodes n.0) k ≡ on c p.nodes (node_at parts j).0
unfolding at
joined_is_test p q parts n c k j h e w = ap (λ (x : bits.Word). word_bit x.value k) (w c) ∙ joined_on p c parts k j h e

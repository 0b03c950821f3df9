-- Bits as tests.
use Rattle.std.proofs.Common.{◌≡◌, ℕ, Bool, ◌-◌, ◌<◌, ◌≤◌, ◌^◌, ◌&&◌, ◌||◌, ◌==◌, not, true, false, cond, refl, subst, ap, ◌∙◌, arith, ⊎_elim, bit_and, bit_or}
use Rattle.std.proofs.lemmas.Bool.{cases_lt}
use Rattle.kp_bits.specs.Word as bits
use Rattle.kp_net.specs.{declared.node.NodeId.NodeId, Nodes.Cells, Nodes.at, Nodes.word_at, Growth.Held, Growth.Wire}
use Rattle.kp_net.proofs.Values.{at_fits, word_wide}

-- a number below 2
bit_cases : (P : ℕ → Type 0) (n : ℕ) → n < 2 → P 0 → P 1 → P n
bit_cases P n h a b = ⊎_elim (λ (l : n < 1). (let e : 0 ≡ n = omega arith in subst P e a)) (λ (l : 1 ≤ n). (let e : 1 ≡ n = omega arith in subst P e b)) (cases_lt n 1)

pub and_bits : (a b : ℕ) → a < 2 → b < 2 → (bit_and a b == 1) ≡ ((a == 1) && (b == 1))
and_bits a b h k = bit_cases (λ x. (bit_and x b == 1) ≡ ((x == 1) && (b == 1))) a h
    (bit_cases (λ x. (bit_and 0 x == 1) ≡ ((0 == 1) && (x == 1))) b k refl refl)
    (bit_cases (λ x. (bit_and 1 x == 1) ≡ ((1 == 1) && (x == 1))) b k refl refl)

pub or_bits : (a b : ℕ) → a < 2 → b < 2 → (bit_or a b == 1) ≡ ((a == 1) || (b == 1))
or_bits a b h k = bit_cases (λ x. (bit_or x b == 1) ≡ ((x == 1) || (b == 1))) a h
    (bit_cases (λ x. (bit_or 0 x == 1) ≡ ((0 == 1) || (x == 1))) b k refl refl)
    (bit_cases (λ x. (bit_or 1 x == 1) ≡ ((1 == 1) || (x == 1))) b k refl refl)

pub not_bit : (a w : ℕ) → w ≡ 1 → a < 2 → (2 ^ w - 1 - a == 1) ≡ not (a == 1)
not_bit a w e h = ap (λ (k : ℕ). 2 ^ k - 1 - a == 1) e ∙ bit_cases (λ x. (2 ^ 1 - 1 - x == 1) ≡ not (x == 1)) a h refl refl

pub eq_bit : (b : Bool) → (cond b 1 0 == 1) ≡ b
eq_bit true = refl
eq_bit false = refl

pub chosen_value : (t : Bool) (a b : bits.Word) → (cond t a b).value ≡ cond t a.value b.value
chosen_value true a b = refl
chosen_value false a b = refl

pub pick_bit : (t : Bool) (a b : ℕ) → (cond t a b == 1) ≡ cond t (a == 1) (b == 1)
pick_bit true a b = refl
pick_bit false a b = refl

-- a node of one bit is below 2
pub wire_bit : (p : Held) (i : NodeId) (c : Cells) → Wire p i 1 → at c p.nodes i.0 < 2
wire_bit p i c h = let P : ℕ → Type 0 = λ k. at c p.nodes i.0 < 2 ^ k in subst P h.wide (at_fits c p.nodes i.0 h.inside)

pub wire_wide : (p : Held) (i : NodeId) (w : ℕ) (c : Cells) → Wire p i w → (word_at c p.nodes i.0).width ≡ w
wire_wide p i w c h = word_wide c p.nodes i.0 h.inside ∙ h.wide

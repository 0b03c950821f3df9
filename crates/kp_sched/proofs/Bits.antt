-- The bits of a stall word.
use Rattle.std.proofs.Common.{◌≡◌, ◌∙◌, ℕ, zero, suc, ◌+◌, ◌-◌, ◌*◌, ◌/◌, ◌%◌, ◌^◌, ◌<◌, ◌≤◌, Bool, true, false, refl, ap, subst, arith, pow-add}
use Rattle.std.proofs.{Math.Nat.div-eq_of_lt, Math.Nat.add-mul-div_right, Math.Nat.add-mul-mod_self_right, lemmas.Bool.ltb-true, lemmas.Bool.ltb-false}
use Rattle.std.{proofs.lemmas.Nat.pow_pos, specs.Prelude.◌==◌, specs.Prelude.nat_lt, specs.Prelude.if◌then◌else◌}
use Rattle.kp_ast.specs.declared.tree.Job.{Job}
use Rattle.kp_stage.specs.Start.{stall_word, is_stalled, bits_below, stalls_of}
use Rattle.kp_sched.specs.Rows.{bit_of}

-- a number with another bit on top
abbrev with_bit : ℕ → ℕ → Bool → ℕ
with_bit n b bit = b + (if bit then 2 ^ n else 0)

top_fits : (n b : ℕ) (bit : Bool) → b < 2 ^ n → with_bit n b bit < 2 ^ suc n
top_fits n b true h = let e : 2 ^ suc n ≡ 2 ^ n + 2 ^ n = omega arith in omega (arith, h, e)
top_fits n b false h = let e : 2 ^ suc n ≡ 2 ^ n + 2 ^ n = omega arith in omega (arith, h, e)

pub word_fits : (n : ℕ) (f : ℕ → Bool) → bits_below n f < 2 ^ n
word_fits zero f = omega arith
word_fits (suc n) f = top_fits n (bits_below n f) (f n) (word_fits n f)

one_bit : (bit : Bool) → ((if bit then 1 else 0) % 2 == 1) ≡ bit
one_bit true = refl
one_bit false = refl

top_is : (n b : ℕ) (bit : Bool) → b < 2 ^ n → with_bit n b bit / 2 ^ n ≡ (if bit then 1 else 0)
top_is n b true h =
    ap (λ (p : ℕ). (b + p) / 2 ^ n) (let e : 2 ^ n ≡ 1 * 2 ^ n = omega arith in e)
    ∙ add-mul-div_right b 1 (pow_pos n)
    ∙ ap (λ (q : ℕ). q + 1) (div-eq_of_lt h)
top_is n b false h = ap (λ (p : ℕ). p / 2 ^ n) (let e : b + 0 ≡ b = omega arith in e) ∙ div-eq_of_lt h

-- a bit on top leaves those below it
below_is : (n k b : ℕ) (bit : Bool) → k < n → with_bit n b bit / 2 ^ k % 2 ≡ b / 2 ^ k % 2
below_is n k b true h =
    let j : ℕ = n - suc k in
    let split : n ≡ suc j + k = omega (arith, h) in
    let power : 2 ^ n ≡ (2 ^ j * 2) * 2 ^ k = ap (λ (m : ℕ). 2 ^ m) split ∙ pow-add 2 (suc j) k ∙ ap (λ (p : ℕ). p * 2 ^ k) (let e : 2 ^ suc j ≡ 2 ^ j * 2 = omega arith in e) in
    ap (λ (p : ℕ). (b + p) / 2 ^ k % 2) power
    ∙ ap (λ (q : ℕ). q % 2) (add-mul-div_right b (2 ^ j * 2) (pow_pos k))
    ∙ add-mul-mod_self_right (b / 2 ^ k) (2 ^ j) 2
below_is n k b false h = ap (λ (p : ℕ). p / 2 ^ k % 2) (let e : b + 0 ≡ b = omega arith in e)

pub bit_below : (n : ℕ) (f : ℕ → Bool) (k : ℕ) → k < n → bit_of (bits_below n f) k ≡ f k
bit_below zero f k h = absurd (omega (arith, h))
bit_below (suc n) f k h = go (bit_below n f k) (nat_lt k n) refl
  where
    go : (k < n → bit_of (bits_below n f) k ≡ f k) → (c : Bool) → nat_lt k n ≡ c → bit_of (with_bit n (bits_below n f) (f n)) k ≡ f k
    go lower true e =
        let under : k < n = ltb-true k n e in
        ap (λ (v : ℕ). v == 1) (below_is n k (bits_below n f) (f n) under) ∙ lower under
    go lower false e =
        let above : n ≤ k = ltb-false k n e in
        let same : n ≡ k = omega (arith, above, h) in
        subst (λ (i : ℕ). bit_of (with_bit n (bits_below n f) (f n)) i ≡ f i) same
        (ap (λ (v : ℕ). v % 2 == 1) (top_is n (bits_below n f) (f n) (word_fits n f)) ∙ one_bit (f n))

-- its bit of a stage is whether the stage is stalled
pub stalled_bit : (job : Job) (cycle k : ℕ) → k < job.stages.value → bit_of (stall_word job cycle) k ≡ is_stalled (stalls_of job) k cycle
unfolding stall_word
stalled_bit job cycle k h = bit_below job.stages.value (λ j. is_stalled (stalls_of job) j cycle) k h

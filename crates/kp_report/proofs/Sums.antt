-- The steps of the loop that sums the registers.
use Rattle.std.proofs.Common.{◌≡◌, ◌∙◌, ℕ, ◌+◌, ◌*◌, ◌/◌, ◌%◌, ◌^◌, ◌<◌, ◌≤◌, List, ◌∷◌, length, get_or, drop, ap, sym, arith}
use Rattle.std.proofs.{Math.Nat.mod-add-div, Math.Nat.add-mul-mod_self_left, lemmas.List.drop_more, lemmas.List.drop_all}
use Rattle.kp_ast.specs.declared.tree.Decl.{Decl}
use Rattle.kp_report.specs.{States.State, States.targets_in, Line.summand, Line.registers_sum}

pub mod_in_sum : (a b m : ℕ) → (a % m + b) % m ≡ (a + b) % m
mod_in_sum a b m =
    let parts : a % m + m * (a / m) ≡ a = mod-add-div a m in
    let same : (a % m + b) + m * (a / m) ≡ a + b = grind (arith, parts) in
    sym (add-mul-mod_self_left (a % m + b) m (a / m)) ∙ ap (λ (k : ℕ). k % m) same

module _ (ds : List Decl) (i : ℕ) (x : Decl) (h : i < length ds) (is : x ≡ get_or ds i x) (t : ℕ) (state : State) where
  sum_next : registers_sum t state (drop i ds) ≡ summand x (state t 0) + registers_sum (t + targets_in x) state (drop (i + 1) ds)
  sum_next = ap (registers_sum t state) (drop_more ds i x h ∙ ap (λ (y : Decl). y ∷ drop (i + 1) ds) (sym is))

  -- one more declaration
  pub sum_more : (sum whole : ℕ) → (sum + registers_sum t state (drop i ds)) % 2 ^ 64 ≡ whole
      → ((sum + summand x (state t 0)) % 2 ^ 64 + registers_sum (t + targets_in x) state (drop (i + 1) ds)) % 2 ^ 64 ≡ whole
  sum_more sum whole e =
      let rest : ℕ = registers_sum (t + targets_in x) state (drop (i + 1) ds) in
      let v : ℕ = summand x (state t 0) in
      let shape : sum + registers_sum t state (drop i ds) ≡ (sum + v) + rest = let n = sum_next in omega (arith, n) in
      mod_in_sum (sum + v) rest (2 ^ 64) ∙ ap (λ (k : ℕ). k % 2 ^ 64) (sym shape) ∙ e

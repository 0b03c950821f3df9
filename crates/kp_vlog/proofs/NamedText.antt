-- The names of a netlist can be written.
use Rattle.std.proofs.Common.{◌≡◌, ℕ, ◌≤◌, List, [], ◌∷◌, length, map, Bool, true, refl, sym, subst}
use Rattle.std.proofs.lemmas.Bool.{eqb-true, false≢true, and_parts}
use Rattle.std.proofs.lemmas.List.Elements.{All-nil, All-cons, All-head, All-tail}
use Rattle.std.specs.Prelude.{All, ◌==◌, None}
use Rattle.kp_net.specs.Names.{is_in_identifier, is_module_name, is_reg_name, is_file_name, is_sample_name, IsSpelled}
use Rattle.kp_vlog.{specs.Words.keyword_of, proofs.Tests.reg_cases, proofs.Tests.file_cases, proofs.Tests.sample_cases}
use Rattle.kp_vlog.proofs.Runs.{Each, IsInitial, at_m, at_r, at_q, at_f, at_s, IsWritten}

plain_name : (a : ℕ) (bs : List ℕ) → IsInitial a → keyword_of (a ∷ 95 ∷ bs) ≡ None
plain_name _ bs at_m = refl
plain_name _ bs x = refl

initial_word : (a : ℕ) → IsInitial a → is_in_identifier a ≡ true
initial_word _ at_m = refl
initial_word _ x = refl

each_of : (bs : List ℕ) → All (λ b. is_in_identifier b ≡ true) bs → Each is_in_identifier bs
each_of [] h = tt
each_of (b ∷ bs) h = (All-head (λ b. is_in_identifier b ≡ true) b bs h, each_of bs (All-tail (λ b. is_in_identifier b ≡ true) b bs h))

-- a name of a letter, `_`, and more
abbrev Writes : List ℕ → Type 0
Writes n = All (λ c. is_in_identifier c ≡ true) n → length n ≤ 70 → IsWritten n

two_written : (a : ℕ) (bs : List ℕ) → IsInitial a → Writes (a ∷ 95 ∷ bs)
two_written a bs i h short =
    let each = each_of (a ∷ 95 ∷ bs) h in
    record { first = a; more = 95 ∷ bs; same = refl; initial = i; bytes = (initial_word a i, (refl, each.1.1)); short = short; plain = plain_name a bs i }

pub module_written : (n : List ℕ) → IsSpelled is_module_name n → IsWritten n
module_written (a ∷ b ∷ bs) h =
    let k = and_parts (a == 109) (b == 95) h.kind in
    let m : Writes (109 ∷ b ∷ bs) = subst (λ (x : ℕ). Writes (109 ∷ x ∷ bs)) (sym (eqb-true b 95 k.1)) (two_written 109 bs at_m) in
    subst (λ (x : ℕ). Writes (x ∷ b ∷ bs)) (sym (eqb-true a 109 k.0)) m h.bytes h.short
module_written x h = absurd (false≢true h.kind)

pub reg_written : (n : List ℕ) → IsSpelled is_reg_name n → IsWritten n
reg_written n h = reg_cases Writes (λ c rest. two_written 114 (c ∷ rest) at_r) (λ c rest. two_written 113 (c ∷ rest) at_q) n h.kind h.bytes h.short

pub file_written : (n : List ℕ) → IsSpelled is_file_name n → IsWritten n
file_written n h = file_cases Writes (λ c rest. two_written 102 (c ∷ rest) at_f) n h.kind h.bytes h.short

pub sample_written : (n : List ℕ) → IsSpelled is_sample_name n → IsWritten n
sample_written n h = sample_cases Writes (λ c rest. two_written 115 (c ∷ rest) at_s) n h.kind h.bytes h.short

-- each name of a list of parts
pub all_written : {X : Type 0} (test : List ℕ → Bool) (f : X → List ℕ) → ((n : List ℕ) → IsSpelled test n → IsWritten n) → (xs : List X) → All (IsSpelled test) (map f xs) → All (λ x. IsWritten (f x)) xs
all_written test f one [] h = All-nil (λ x. IsWritten (f x))
all_written test f one (x ∷ xs) h = All-cons (λ x. IsWritten (f x)) x xs (one (f x) (All-head (IsSpelled test) (f x) (map f xs) h)) (all_written test f one xs (All-tail (IsSpelled test) (f x) (map f xs) h))

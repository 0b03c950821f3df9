-- Each key that a job has is in the list of its keys, and the list has no other.
use Rattle.std.proofs.Common.{◌≡◌, ◌∙◌, ℕ, zero, suc, ◌+◌, ◌<◌, ◌≤◌, Bool, true, false, cond, ◌&&◌, ◌==◌, List, [], ◌∷◌, length, get_or, refl, sym, ap, subst, arith, ⊎_elim, inl, inr, eqb-true}
use Rattle.std.{proofs.lemmas.Bool.and_parts, proofs.lemmas.Bool.eq-eqb, proofs.lemmas.Bool.cases_lt, proofs.lemmas.Bool.ltb-true, specs.Prelude.nat_lt}
use Rattle.std.specs.List.{AllByRecursion}
use Rattle.kp_ast.specs.declared.tree.Job.{Job}
use Rattle.kp_machine.specs.Slots.{targets_of, pipes_of, hints_of}
use Rattle.kp_design.specs.{Numbers.no_slot, Numbers.no_guess, Numbers.guesses_of, Numbers.guess_at, Spans.is_carried}
use Rattle.kp_synth_registers.specs.Keys.{visible_keys, pipe_keys, result_keys, stage_keys, stages_keys, later_keys, hint_keys, keys_of, HasKey, is_same_key, place_in, place_of, key_at}
use Rattle.kp_synth_registers.specs.declared.key.Key.{Key}
use Rattle.kp_synth_registers.specs.declared.key.Key.TheVariants.{Visible, Full, Pipe, Valid, Value, Pending, Guess, Hint}
use Rattle.kp_design.specs.declared.guess.GuessSlot.{GuessSlot}
use Rattle.kp_synth_registers.proofs.Listed.{IsIn, in_left, in_right, visible, pipes, results, guesses, hints, at_entry, each_both, each}
use Rattle.kp_design.proofs.Fitting.{all_at}

two : {A : Type 0} (f : ℕ → ℕ → A) (a b x y : ℕ) → ((a == b) && (x == y)) ≡ true → f a x ≡ f b y
two f a b x y e = let p = and_parts (a == b) (x == y) e in ap (λ (n : ℕ). f n x) (eqb-true a b p.0) ∙ ap (f b) (eqb-true x y p.1)

pub same_key : (a b : Key) → is_same_key a b ≡ true → a ≡ b
same_key (Visible t) (Visible u) e = ap Visible (eqb-true t u e)
same_key (Full k) (Full l) e = ap Full (eqb-true k l e)
same_key (Pipe x k) (Pipe y l) e = two Pipe x y k l e
same_key (Valid x k) (Valid y l) e = two Valid x y k l e
same_key (Value x k) (Value y l) e = two Value x y k l e
same_key (Pending x k) (Pending y l) e = two Pending x y k l e
same_key (Guess x k) (Guess y l) e = two Guess x y k l e
same_key (Hint h) (Hint i) e = ap Hint (eqb-true h i e)
same_key _ _ e = cc

eq_self : (n : ℕ) → (n == n) ≡ true
eq_self n = eq-eqb n n refl

eq_two : (a b : ℕ) → ((a == a) && (b == b)) ≡ true
eq_two a b = rw (eq_self a, eq_self b) refl

pub is_self : (a : Key) → is_same_key a a ≡ true
is_self (Visible t) = eq_self t
is_self (Full k) = eq_self k
is_self (Pipe x k) = eq_two x k
is_self (Valid x k) = eq_two x k
is_self (Value x k) = eq_two x k
is_self (Pending x k) = eq_two x k
is_self (Guess x k) = eq_two x k
is_self (Hint h) = eq_self h

-- its index
pub record Stands (keys : List Key) (key : Key) : Type 0 where
  pub inside : place_in keys key < length keys
  pub there : get_or keys (place_in keys key) (Full 0) ≡ key

at_place : (key x : Key) (xs : List Key) (b : Bool) → (b ≡ true → key ≡ x) → (b ≡ false → Stands xs key)
    → (cond b 0 (suc (place_in xs key)) < length (x ∷ xs)) × (get_or (x ∷ xs) (cond b 0 (suc (place_in xs key))) (Full 0) ≡ key)
at_place key x xs true here later = (omega arith, sym (here refl))
at_place key x xs false here later = let s = later refl in (omega (arith, s.inside), s.there)

pub stands : (key : Key) (keys : List Key) → IsIn key keys → Stands keys key
stands key [] h = absurd h
stands key (x ∷ xs) h =
    let both = at_place key x xs (is_same_key key x) (same_key key x) (λ n. ⊎_elim
    (λ (e : key ≡ x). (let s : is_same_key key x ≡ true = ap (is_same_key key) (sym e) ∙ is_self key in cc))
    (λ (m : IsIn key xs). stands key xs m)
    h) in
    record { inside = both.0; there = both.1 }

-- the parts of the list
stages_in : (job : Job) (key : Key) (d k j : ℕ) → k ≤ j → j < k + d → IsIn key (stage_keys job j) → IsIn key (stages_keys job d k)
stages_in job key zero k j l m h = absurd (omega arith)
stages_in job key (suc d) k j l m h = ⊎_elim
    (λ (n : k < j). in_right key (stage_keys job k) (stages_keys job d (suc k)) (stages_in job key d (suc k) j (omega arith) (omega arith) h))
    (λ (n : j ≤ k). let e : j ≡ k = omega arith in in_left key (stage_keys job k) (stages_keys job d (suc k)) (subst (λ y. IsIn key (stage_keys job y)) e h))
    (cases_lt k j)

later_in : (job : Job) (key : Key) (n k : ℕ) → 0 < k → k < n → IsIn key (stage_keys job k) → IsIn key (later_keys job n)
later_in job key zero k z l h = absurd (omega arith)
later_in job key (suc n) k z l h = stages_in job key n 1 k (omega arith) (omega arith) h

staged : (job : Job) (key : Key) (k : ℕ) → 0 < k → k < job.stages.value → IsIn key (stage_keys job k) → IsIn key (keys_of job)
unfolding keys_of
staged job key k z l h =
    in_right key (visible_keys 0 (targets_of job.decls)) _
    (in_left key (later_keys job job.stages.value) (hint_keys 0 (hints_of job.decls)) (later_in job key job.stages.value k z l h))

pub carried : (s : GuessSlot) (k : ℕ) → is_carried s k ≡ true → (s.stage < k) × (k < s.write)
carried s k e = let p = and_parts (nat_lt s.stage k) (nat_lt k s.write) e in (ltb-true s.stage k p.0, ltb-true k s.write p.1)

carried_later : (s : GuessSlot) (k : ℕ) → is_carried s k ≡ true → 0 < k
carried_later s k e = let c = carried s k e in omega (arith, c.0)

pub has_in : (job : Job) (key : Key) → HasKey job key → IsIn key (keys_of job)
unfolding keys_of
has_in job (Visible t) h = in_left _ (visible_keys 0 (targets_of job.decls)) _ (at_entry visible _ no_slot 0 t t (targets_of job.decls) h.0 (omega arith) h.1 (inl refl))
has_in job (Full k) h = staged job _ k h.0 h.1 (inl refl)
has_in job (Pipe x k) h = staged job _ k h.2 h.3 (inr (in_left _ (pipe_keys job k 0 (pipes_of job.decls)) _ (at_entry (pipes job k) _ no_slot 0 x x (pipes_of job.decls) h.0 (omega arith) h.1 (inl refl))))
has_in job (Valid t k) h = staged job _ k h.2 h.3 (inr (in_right _ (pipe_keys job k 0 (pipes_of job.decls)) _
    (in_left _ (result_keys job k 0 (targets_of job.decls)) _ (at_entry (results job k) _ no_slot 0 t t (targets_of job.decls) h.0 (omega arith) h.1 (inl refl)))))
has_in job (Value t k) h = staged job _ k h.2 h.3 (inr (in_right _ (pipe_keys job k 0 (pipes_of job.decls)) _
    (in_left _ (result_keys job k 0 (targets_of job.decls)) _ (at_entry (results job k) _ no_slot 0 t t (targets_of job.decls) h.0 (omega arith) h.1 (inr (inl refl))))))
has_in job (Pending g k) h = staged job _ k (carried_later (guess_at job g) k h.1) h.2 (inr (in_right _ (pipe_keys job k 0 (pipes_of job.decls)) _
    (in_right _ (result_keys job k 0 (targets_of job.decls)) _ (at_entry (guesses k) _ no_guess 0 g g (guesses_of job) h.0 (omega arith) h.1 (inl refl)))))
has_in job (Guess g k) h = staged job _ k (carried_later (guess_at job g) k h.1) h.2 (inr (in_right _ (pipe_keys job k 0 (pipes_of job.decls)) _
    (in_right _ (result_keys job k 0 (targets_of job.decls)) _ (at_entry (guesses k) _ no_guess 0 g g (guesses_of job) h.0 (omega arith) h.1 (inr (inl refl))))))
has_in job (Hint h) l = in_right _ (visible_keys 0 (targets_of job.decls)) _ (in_right _ (later_keys job job.stages.value) _ (at_entry hints _ no_slot 0 h h (hints_of job.decls) l (omega arith) refl (inl refl)))

-- a key that a job has is at its index
pub has_place : (job : Job) (key : Key) → HasKey job key → (place_of job key < length (keys_of job)) × (key_at job (place_of job key) ≡ key)
unfolding place_of
has_place job key h = let s = stands key (keys_of job) (has_in job key h) in (s.inside, s.there)

-- The list has no other keys.
abbrev AllHad : Job → List Key → Type 0
AllHad job keys = AllByRecursion (HasKey job) keys

stage_had : (job : Job) (k : ℕ) → 0 < k → k < job.stages.value → AllHad job (stage_keys job k)
stage_had job k z l = (
  (z, l),
  each_both (HasKey job) (pipe_keys job k 0 (pipes_of job.decls)) _ (each (pipes job k) (HasKey job) (pipes_of job.decls) no_slot (λ x m r. ((m, r, z, l), tt)))
      (each_both (HasKey job) (result_keys job k 0 (targets_of job.decls)) _ (each (results job k) (HasKey job) (targets_of job.decls) no_slot (λ t m r. ((m, r, z, l), ((m, r, z, l), tt))))
      (each (guesses k) (HasKey job) (guesses_of job) no_guess (λ g m r. ((m, r, l), ((m, r, l), tt))))),
)

stages_had : (job : Job) (d k : ℕ) → 0 < k → k + d ≤ job.stages.value → AllHad job (stages_keys job d k)
stages_had job zero k z l = tt
stages_had job (suc d) k z l = each_both (HasKey job) (stage_keys job k) _ (stage_had job k z (omega arith)) (stages_had job d (suc k) (omega arith) (omega arith))

later_had : (job : Job) (n : ℕ) → n ≤ job.stages.value → AllHad job (later_keys job n)
later_had job zero l = tt
later_had job (suc n) l = stages_had job n 1 (omega arith) (omega arith)

pub key_had : (job : Job) (r : ℕ) → r < length (keys_of job) → HasKey job (key_at job r)
unfolding keys_of
key_had job r l = all_at (HasKey job) (keys_of job) (Full 0) (each_both (HasKey job) (visible_keys 0 (targets_of job.decls)) _ (each visible (HasKey job) (targets_of job.decls) no_slot (λ t m r. ((m, r), tt)))
    (each_both (HasKey job) (later_keys job job.stages.value) _ (later_had job job.stages.value (omega arith)) (each hints (HasKey job) (hints_of job.decls) no_slot (λ h m r. (m, tt))))) r l

-- the index of a key in a list that is that of the keys
pub place_is : (job : Job) (keys : List Key) (key : Key) → keys ≡ keys_of job → place_in keys key ≡ place_of job key
unfolding place_of
place_is job keys key e = ap (λ ks. place_in ks key) e

pub place_small : (job : Job) (keys : List Key) (key : Key) → keys ≡ keys_of job → HasKey job key → place_in keys key < length keys
unfolding place_of
place_small job keys key e has = let p = has_place job key has in let l : length keys ≡ length (keys_of job) = ap length e in let q = place_is job keys key e in omega (arith, p.0, l, q)

use Rattle.std.proofs.Common.{◌≡◌, subst, ℕ, zero, suc, ◌+◌, ◌<◌, ◌≤◌, true, eqb, None, refl, ap, arith, unwrap_or}
use Rattle.std.proofs.lemmas.Bool.{cond-false, ne_eqb}
use Rattle.kp_pipeline.specs.Examples.{early, early_body, ends, ghw4, ghw4_body, hint3, hint3_body, late3, late3_body, near, near_body, no_hints, nothing, only, quiets, smp3, smp3_body, unk4, unk4_body, zeros}
use Rattle.kp_pipeline.specs.{Machine.Machine, Sequential.before_stage, Sequential.seq}
use Rattle.kp_pipeline.specs.Pipeline.{above, back, from_stages, next_hints, next_stage, next_visible, outcome, stall, ue}
use Rattle.kp_pipeline.specs.{Rows.passed, Rows.pipe, Rows.taken, Accepted.Accepted, Accepted.AcceptedButForWindow, Accepted.Fits, Claims.Legal}
use Rattle.kp_pipeline.proofs.Legality.{legal}

-- THE WORKED RUNS, by computation, and that the machines are accepted: so the laws speak of them.

-- A machine that uses no sample.
pub no_sample-accepted : (m : Machine) → 1 ≤ m.stages → ((k : ℕ) (p : ℕ → ℕ) → k < m.stages → Fits m k (m.body k (λ x. 0) p))
    → ((k : ℕ) (q r p : ℕ → ℕ) → m.body k q p ≡ m.body k r p) → ((x : ℕ) → m.stages ≤ m.sample_stage x) → ((t : ℕ) → m.write_stage t < m.stages)
    → ((t : ℕ) → m.known_from t ≤ m.write_stage t) → ((x : ℕ) → m.hint_stage x < m.stages) → AcceptedButForWindow m
no_sample-accepted m some fits own none writes knows aims = record {
  some_stages = some;
  fits = λ k q p b. subst (Fits m k) (own k (λ x. 0) q p) (fits k p b);
  own_samples = λ k q r p b same. own k q r p;
  late_samples = λ x b. let e = none x in absurd (omega arith);
  writes = λ t h. writes t;
  knows = λ t h. knows t;
  aims = aims;
}

late3-fits : (k : ℕ) (p : ℕ → ℕ) → k < 3 → Fits late3 k (late3_body k p)
late3-fits zero p b = ((λ h. omega arith), (λ v. ((λ t p h k. (refl, refl)), (λ t h k. absurd (omega arith)))))
late3-fits (suc zero) p b = ((λ t p h k. (refl, refl)), (λ t h k. absurd (omega arith)))
late3-fits (suc (suc k)) p b = ((λ t p h k. (refl, refl)), (λ t h k. absurd (omega arith)))

pub late3-accepted : Accepted late3
late3-accepted = record {
  but_for_window = no_sample-accepted late3 (omega arith) late3-fits (λ k q r p. refl) (λ x. omega arith) (λ t. omega arith) (λ t. omega arith) (λ x. omega arith);
  window = λ t h. omega arith;
}

near-fits : (k : ℕ) (p : ℕ → ℕ) → k < 4 → Fits near k (near_body k p)
near-fits zero p b = ((λ h. omega arith), (λ v. ((λ t p h k. absurd (omega arith)), (λ t h k. absurd (omega arith)))))
near-fits (suc zero) p b = ((λ t p h k. (refl, refl)), (λ t h k. absurd (omega arith)))
near-fits (suc (suc k)) p b = ((λ t p h k. (refl, refl)), (λ t h k. absurd (omega arith)))

pub near-accepted : Accepted near
near-accepted = record {
  but_for_window = no_sample-accepted near (omega arith) near-fits (λ k q r p. refl) (λ x. omega arith) (λ t. omega arith) (λ t. omega arith) (λ x. omega arith);
  window = λ t h. omega arith;
}

unk4-fits : (k : ℕ) (p : ℕ → ℕ) → k < 4 → Fits unk4 k (unk4_body k p)
unk4-fits zero p b = ((λ h. omega arith), (λ v. ((λ t p h k. absurd (omega arith)), (λ t h k. absurd (omega arith)))))
unk4-fits (suc zero) p b = ((λ t p h k. absurd (omega arith)), (λ t h k. absurd (omega arith)))
unk4-fits (suc (suc k)) p b = ((λ t p h k. (refl, refl)), (λ t h k. refl))

pub unk4-accepted : Accepted unk4
unk4-accepted = record {
  but_for_window = no_sample-accepted unk4 (omega arith) unk4-fits (λ k q r p. refl) (λ x. omega arith) (λ t. omega arith) (λ t. omega arith) (λ x. omega arith);
  window = λ t h. omega arith;
}

ghw4-known : (t k : ℕ) (p : ℕ → ℕ) (v : ℕ) → ghw4.has_result t ≡ true → ghw4.known_from t ≤ suc zero
    → (ghw4.enabled t (λ q. unwrap_or (only 0 v q) (p q)) ≡ ghw4.enabled t p) × (ghw4.address t (λ q. unwrap_or (only 0 v q) (p q)) ≡ ghw4.address t p)
ghw4-known zero k p v h b = absurd (omega arith)
ghw4-known (suc t) k p v h b = (refl, refl)

ghw4-fits : (k : ℕ) (p : ℕ → ℕ) → k < 4 → Fits ghw4 k (ghw4_body k p)
ghw4-fits zero p b = (refl, omega arith, omega arith, (λ v. ((λ t p h k. (refl, refl)), (λ t h k. absurd (omega arith)))))
ghw4-fits (suc zero) p b = ((λ t p h k. ghw4-known t 1 p 0 h k), (λ t h k. absurd (omega arith)))
ghw4-fits (suc (suc k)) p b = ((λ t p h k. (refl, refl)), (λ t h k. refl))

ghw4-knows : (t : ℕ) → ghw4.known_from t ≤ 3
ghw4-knows zero = omega arith
ghw4-knows (suc t) = omega arith

pub ghw4-accepted : Accepted ghw4
ghw4-accepted = record {
  but_for_window = no_sample-accepted ghw4 (omega arith) ghw4-fits (λ k q r p. refl) (λ x. omega arith) (λ t. omega arith) (ghw4-knows) (λ x. omega arith);
  window = λ t h. omega arith;
}

hint3-fits : (k : ℕ) (p : ℕ → ℕ) → k < 3 → Fits hint3 k (hint3_body k p)
hint3-fits zero p b = (refl, omega arith, omega arith, (λ v. ((λ t p h k. (refl, refl)), (λ t h k. absurd (omega arith)))))
hint3-fits (suc zero) p b = ((λ t p h k. (refl, refl)), (λ t h k. absurd (omega arith)))
hint3-fits (suc (suc k)) p b = ((λ t p h k. (refl, refl)), (λ t h k. absurd (omega arith)))

pub hint3-accepted : Accepted hint3
hint3-accepted = record {
  but_for_window = no_sample-accepted hint3 (omega arith) hint3-fits (λ k q r p. refl) (λ x. omega arith) (λ t. omega arith) (λ t. omega arith) (λ x. omega arith);
  window = λ t h. omega arith;
}

smp3-fits : (k : ℕ) (q p : ℕ → ℕ) → k < 3 → Fits smp3 k (smp3_body k q p)
smp3-fits zero q p b = ((λ t p h k. (refl, refl)), (λ t h k. refl))
smp3-fits (suc zero) q p b = ((λ t p h k. (refl, refl)), (λ t h k. absurd (omega arith)))
smp3-fits (suc (suc k)) q p b = ((λ t p h k. (refl, refl)), (λ t h k. refl))

smp3-own : (k : ℕ) (q r p : ℕ → ℕ) → k < 3 → ((x : ℕ) → smp3.sample_stage x ≡ k → q x ≡ r x) → smp3_body k q p ≡ smp3_body k r p
smp3-own zero q r p b same = refl
smp3-own (suc zero) q r p b same = ap (λ (v : ℕ). ends nothing (only 0 v)) (same 0 refl)
smp3-own (suc (suc k)) q r p b same = refl

pub smp3-accepted : Accepted smp3
smp3-accepted = record {
  but_for_window = record {
    some_stages = omega arith;
    fits = smp3-fits;
    own_samples = smp3-own;
    late_samples = λ x b. omega arith;
    writes = λ t h. omega arith;
    knows = λ t h. omega arith;
    aims = λ x. omega arith;
  };
  window = λ t h. omega arith;
}

-- Y has the wrong guess, 7, and in the sequential machine 1.
early-shows : (pipe early zeros no_hints (quiets 5)).visible 4 1 0 ≡ 7
unfolding next_stage next_visible next_hints ue back outcome stall above from_stages before_stage seq
early-shows = refl

early-due : seq early zeros (taken early (quiets 5) (pipe early zeros no_hints (quiets 5)).rows) (passed (pipe early zeros no_hints (quiets 5)).rows 2 4) 1 0 ≡ 1
unfolding next_stage next_visible next_hints ue back outcome stall above from_stages before_stage seq
early-due = refl

pub early-illegal : Legal early zeros (quiets 5) (pipe early zeros no_hints (quiets 5)) → ⊥
early-illegal legal =
    let e = (legal 4 (omega arith) 1 0).0 refl in
    let x = early-shows in
    let y = early-due in
    absurd (omega arith)

pub ruleset accepted = (late3-accepted, near-accepted, unk4-accepted, ghw4-accepted, hint3-accepted, smp3-accepted, early-illegal)

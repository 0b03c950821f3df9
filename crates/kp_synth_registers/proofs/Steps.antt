-- The steps of the loops that list the keys of a design.
use Rattle.std.proofs.Common.{◌≡◌, ◌∙◌, ℕ, zero, suc, ◌+◌, ◌-◌, ◌<◌, ◌≤◌, List, [], ◌∷◌, ◌++◌, None, Bool, true, false, cond, drop, length, get_or, append_assoc, ap, sym, subst, arith}
use Rattle.std.proofs.lemmas.List.{append-nil, drop_all, drop_more}
use Rattle.kp_ast.specs.declared.tree.Job.{Job}
use Rattle.kp_stage.specs.{Stages.broken_of, Design.Plan, Design.IsSound}
use Rattle.kp_machine.specs.Slots.{targets_of, hints_of}
use Rattle.kp_design.specs.Fits.{Fits}
use Rattle.kp_synth_registers.specs.declared.key.Key.{Key}
use Rattle.kp_synth_registers.specs.Keys.{visible_keys, stage_keys, stages_keys, later_keys, hint_keys, keys_of}
use Rattle.kp_synth_registers.proofs.{Listed.Keyed, Counting.keys_few}

-- keys that are added if a test is passed
kept : (b : Bool) (xs more ys : List Key) → (xs ++ cond b more []) ++ ys ≡ xs ++ cond b (more ++ ys) ys
kept true xs more ys = append_assoc xs more ys
kept false xs more ys = append_assoc xs [] ys

pub both_kept : (b : Bool) (xs v w : List Key) → (xs ++ cond b v []) ++ cond b w [] ≡ xs ++ cond b (v ++ w) []
both_kept true xs v w = append_assoc xs v w
both_kept false xs v w = append_assoc xs [] []

-- the keys of an entry are added, and those of the rest remain; at the end there are none
module _ {A : Type 0} (f : ℕ → List A → List Key) (keyed : Keyed A f) (ss : List A) (d : A) (xs all : List Key) (n : ℕ) where
  pub turn : (ys : List Key) (b : Bool) → n < length ss → b ≡ keyed.test n (get_or ss n d) → ys ≡ xs ++ cond b (keyed.keys n) [] → xs ++ f n (drop n ss) ≡ all
      → ys ++ f (n + 1) (drop (n + 1) ss) ≡ all
  turn ys b l is made e =
      let one : n + 1 ≡ suc n = omega arith in
      let rest = drop (n + 1) ss in
      ap (λ (zs : List Key). zs ++ f (n + 1) rest) made
      ∙ kept b xs (keyed.keys n) (f (n + 1) rest)
      ∙ (λ i. xs ++ cond (is i) (keyed.keys n ++ f (one i) rest) (f (one i) rest))
      ∙ ap (λ (zs : List Key). xs ++ zs) (sym (keyed.more n (get_or ss n d) rest))
      ∙ ap (λ (zs : List A). xs ++ f n zs) (sym (drop_more ss n d l))
      ∙ e

  pub done : length ss ≤ n → xs ++ f n (drop n ss) ≡ all → xs ≡ all
  done l e =
      sym (append-nil xs)
      ∙ ap (λ (zs : List Key). xs ++ zs) (sym (keyed.none n))
      ∙ ap (λ (zs : List A). xs ++ f n zs) (sym (drop_all n ss l))
      ∙ e

-- one more stage has its keys
pub stage_turn : (job : Job) (n k : ℕ) (xs ys all : List Key) → k < n → ys ≡ xs ++ stage_keys job k → xs ++ stages_keys job (n - k) k ≡ all
    → ys ++ stages_keys job (n - (k + 1)) (k + 1) ≡ all
stage_turn job n k xs ys all l e h =
    let m : n - k ≡ suc (n - (k + 1)) = omega arith in
    let one : k + 1 ≡ suc k = omega arith in
    ap (λ (zs : List Key). zs ++ stages_keys job (n - (k + 1)) (k + 1)) e
    ∙ append_assoc xs (stage_keys job k) (stages_keys job (n - (k + 1)) (k + 1))
    ∙ ap (λ j. xs ++ (stage_keys job k ++ stages_keys job (n - (k + 1)) j)) one
    ∙ ap (λ d. xs ++ stages_keys job d k) (sym m)
    ∙ h

later_is : (job : Job) (n : ℕ) → 1 ≤ n → stages_keys job (n - 1) 1 ≡ later_keys job n
later_is job zero l = absurd (omega (arith, l))
later_is job (suc n) l = let z : suc n - 1 ≡ n = omega arith in ap (λ d. stages_keys job d 1) z

-- all keys
pub all_is : (job : Job) (n : ℕ) (a b c : List Key) → n ≡ job.stages.value → 1 ≤ n → a ≡ visible_keys 0 (targets_of job.decls) → b ≡ a ++ stages_keys job (n - 1) 1
    → c ≡ b ++ hint_keys 0 (hints_of job.decls) → c ≡ keys_of job
unfolding keys_of
all_is job n a b c s l first later last =
    let hints = hint_keys 0 (hints_of job.decls) in
    last
    ∙ ap (λ (zs : List Key). zs ++ hints) later
    ∙ append_assoc a (stages_keys job (n - 1) 1) hints
    ∙ (λ i. first i ++ (later_is job n l i ++ hints))
    ∙ ap (λ m. visible_keys 0 (targets_of job.decls) ++ (later_keys job m ++ hints)) s

pub few_keys : (p : Plan) (job : Job) (keys : List Key) → p.job ≡ job → IsSound p → Fits job → keys ≡ keys_of job → length keys ≤ 4096
few_keys p job keys same sound fits is =
    let few = keys_few job (subst (λ (j : Job). broken_of j ≡ None) same sound.stages) fits.at_most in
    omega (arith, few, ap length is)

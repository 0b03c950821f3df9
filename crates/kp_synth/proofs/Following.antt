-- From a stage to the one below it.
use Rattle.std.proofs.Common.{◌≡◌, ◌∙◌, ℕ, zero, suc, ◌+◌, ◌<◌, ◌≤◌, List, [], ◌++◌, take, drop, length, get_or, ◌*◌, false, Some, sym, ap, subst, arith, ⊎_elim}
use Rattle.std.proofs.lemmas.{List.drop_all, List.take_all, List.append-nil, Option.slice_get_cases}
use Rattle.std.specs.Prelude.{slice_get}
use Rattle.kp_ast.specs.declared.tree.Job.{Job}
use Rattle.kp_pipeline.specs.Pipeline.{stall}
use Rattle.kp_machine.specs.{Machine.machine_of, Slots.targets_of}
use Rattle.kp_net.specs.{declared.node.NodeId.NodeId, Nodes.Cells, Nodes.on, Growth.Held, Growth.Wire}
use Rattle.kp_synth_registers.specs.{Meaning.IsTest, Meaning.Says, Meaning.Added, declared.outcome.Outcome.Outcome}
use Rattle.kp_synth_registers.proofs.Growth.{added_then, added_more}
use Rattle.kp_synth_stage.specs.{declared.row.Source.Source, Rows.SourcesOk}
use Rattle.kp_synth.specs.inner.{Seeing.SeesAbove, Seeing.Nearer, Whole.Few, Whole.AllNearer, Descending.Faces, Descending.SayFrom}
use Rattle.kp_synth.{specs.Stages.no_outcome, specs.Stages.own_room, specs.Stages.stage_room, specs.Stages.stages_room, proofs.Downward.sees_down}
use Rattle.kp_synth.proofs.{Spoken.stall_higher, Spoken.stall_none, Spoken.say_at, Rooms.plus_in}

get_small : (ss : List Source) (t : ℕ) (s : Source) → slice_get ss t ≡ Some s → t < length ss
get_small ss t s e = ⊎_elim (λ a. a.1) (λ a. let n = a.1 in cc) (slice_get_cases ss t).1

pub faces_below : (job : Job) (k j : ℕ) (p q : Held) (ss ss' : List Source) (higher halt : NodeId) → k ≡ suc j → k < job.stages.value → Faces job p ss higher k
    → SourcesOk job q ss' → Few job j ss' → AllNearer job k (length (targets_of job.decls)) p ss q ss' → Wire q halt 1 → IsTest job q halt (λ st i. stall (machine_of job) st i k) → Faces job q ss' halt j
unfolding AllNearer
faces_below job k j p q ss ss' higher halt e l h ok few near wire is_test =
    let m : suc j < job.stages.value = omega (arith, e, l) in
    record {
      sources = ok;
      few = few;
      sees = sees_down job j p q ss ss' m h.sources.count ok.count (subst (λ n. SeesAbove job p ss n) e h.sees)
          (λ t s s' f g. subst (λ n. Nearer job n t p s q s') e (near t s s' (let b = get_small ss t s f in let n = h.sources.count in omega (arith, b, n)) f g));
      wire = wire;
      is_test = stall_higher job q j halt m (subst (λ n. IsTest job q halt (λ st i. stall (machine_of job) st i n)) e is_test);
    }

-- bounds
zero_plus : (x : ℕ) → x ≡ 0 + x
zero_plus x = omega arith

room_parts : (job : Job) (i k d : ℕ) → stages_room job i (k + d) ≡ stages_room job i k + stages_room job (i + k) d
room_parts job i zero d = let a : 0 + d ≡ d = omega arith in let b : i ≡ i + 0 = omega arith in ap (stages_room job i) a ∙ ap (λ x. stages_room job x d) b ∙ zero_plus (stages_room job (i + 0) d)
room_parts job i (suc k) d =
    let a : suc k + d ≡ suc (k + d) = omega arith in
    let b : suc i + k ≡ i + suc k = omega arith in
    let more : stages_room job (suc i) (k + d) ≡ stages_room job (suc i) k + stages_room job (i + suc k) d = room_parts job (suc i) k d ∙ ap (λ x. stages_room job (suc i) k + stages_room job x d) b in
    ap (stages_room job i) a ∙ ap (λ x. stage_room job i + x) more ∙ plus_in (stage_room job i) (stages_room job (suc i) k) (stages_room job (i + suc k) d)

pub room_left : (job : Job) (n k d : ℕ) → n ≡ k + suc d → stage_room job k + stages_room job (suc k) d ≤ stages_room job 0 n
room_left job n k d e =
    let a : stages_room job 0 n ≡ stages_room job 0 k + stages_room job (0 + k) (suc d) = ap (stages_room job 0) e ∙ room_parts job 0 k (suc d) in
    let b : 0 + k ≡ k = omega arith in
    at_most (stages_room job 0 n) (stages_room job 0 k) (stage_room job k + stages_room job (suc k) d) (a ∙ ap (λ x. stages_room job 0 k + stages_room job x (suc d)) b)
  where
    at_most : (x y z : ℕ) → x ≡ y + z → z ≤ x
    at_most x y z e = omega (arith, e)

pub room_for : (job : Job) (n k d s t : ℕ) → n ≡ k + suc d → stages_room job 0 n + 1 ≤ s → s ≤ t + (stages_room job (suc k) d + 1) → stage_room job k ≤ t
room_for job n k d s t e room kept = by_sum (stage_room job k) (stages_room job (suc k) d) (stages_room job 0 n) s t (room_left job n k d e) room kept
  where
    by_sum : (x y z s t : ℕ) → x + y ≤ z → z + 1 ≤ s → s ≤ t + (y + 1) → x ≤ t
    by_sum x y z s t a b d = omega (arith, a, b, d)

pub first_room : (job : Job) (n d s t : ℕ) → n ≡ suc d → stages_room job 0 n + 1 ≤ s → s ≤ t + (stages_room job 1 d + 1) → own_room job 0 ≤ t
first_room job n d s t e room kept = let z : n ≡ 0 + suc d = omega (arith, e) in let r = room_for job n 0 d s t z room kept in by_sum (own_room job 0) (20 * length (targets_of job.decls) + 1) t r
  where
    by_sum : (x y t : ℕ) → x + y ≤ t → x ≤ t
    by_sum x y t l = omega (arith, l)

-- what the last stage sees
pub faces_top : (job : Job) (p : Held) (ss : List Source) (n : NodeId) (k : ℕ) → job.stages.value ≡ k + 1 → SourcesOk job p ss → ((j : ℕ) → j + 1 ≤ job.stages.value → Few job j ss)
    → ((j : ℕ) → job.stages.value ≡ j + 1 → SeesAbove job p ss j) → Wire p n 1 → ((c : Cells) → on c p.nodes n.0 ≡ false) → Faces job p ss n k
unfolding IsTest
faces_top job p ss n k e ok few sees wire off = record {
  sources = ok;
  few = few k (omega (arith, e));
  sees = sees k e;
  wire = wire;
  is_test = stall_none job p k n e (λ c st i h. off c);
}

pub none_said : (job : Job) (p : Held) (k : ℕ) (os : List Outcome) → os ≡ [] → SayFrom job p k os
none_said job p k os e = subst (λ (x : List Outcome). SayFrom job p k x) (sym e) tt

-- all stages have their nodes
pub all_say : (job : Job) (p : Held) (os : List Outcome) → SayFrom job p 0 os → length os ≡ job.stages.value → (k : ℕ) → k < job.stages.value → Says job p k (get_or os k no_outcome)
all_say job p os h n k l = let z : 0 + k ≡ k = omega arith in subst (λ x. Says job p x (get_or os k no_outcome)) z (say_at job p 0 k os no_outcome h (omega (arith, n, l)))

pub more_added : (job : Job) (p q r : Held) (k d : ℕ) → Added job p q (stages_room job (suc k) d + 1) → Added job q r (stage_room job k) → Added job p r (stages_room job k (suc d) + 1)
more_added job p q r k d a b = subst (λ n. Added job p r n) (around (stages_room job (suc k) d) (stage_room job k)) (added_then job p q r (stages_room job (suc k) d + 1) (stage_room job k) a b)
  where
    around : (x y : ℕ) → x + 1 + y ≡ y + x + 1
    around x y = omega arith

pub last_added : (job : Job) (p q r : Held) (n d : ℕ) → n ≡ suc d → Added job p q (stages_room job 1 d + 1) → Added job q r (own_room job 0) → Added job p r (stages_room job 0 n + 1)
last_added job p q r n d e a b =
    added_more job p r (stages_room job 1 d + 1 + own_room job 0) (stages_room job 0 n + 1) (added_then job p q r (stages_room job 1 d + 1) (own_room job 0) a b)
    (by_sum (own_room job 0) (20 * length (targets_of job.decls) + 1) (stages_room job 1 d) (stages_room job 0 n) (ap (stages_room job 0) e))
  where
    by_sum : (x y z w : ℕ) → w ≡ x + y + z → z + 1 + x ≤ w + 1
    by_sum x y z w e = omega (arith, e)

-- a slice that was borrowed completely
pub whole_slice : (xs ys : List Source) (n : ℕ) → length xs ≡ n → length ys ≤ length xs → take n (xs ++ drop (length xs) ys) ≡ xs
whole_slice xs ys n e l = ap (λ (zs : List Source). take n (xs ++ zs)) (drop_all (length xs) ys l) ∙ ap (take n) (append-nil xs) ∙ take_all n xs (omega (arith, e))

-- The outcome of a stage, from what its nodes mean.
use Rattle.std.proofs.Common.{◌≡◌, ◌∙◌, ℕ, zero, suc, ◌+◌, ◌<◌, List, [], ◌∷◌, length, get_or, false, sym, subst, arith}
use Rattle.kp_ast.specs.declared.tree.Job.{Job}
use Rattle.kp_pipeline.{specs.Pipeline.above, specs.Pipeline.stall, specs.Pipeline.mismatches, proofs.Cycle.stall-above, proofs.Cycle.stall-top}
use Rattle.kp_machine.specs.{Machine.machine_of, Slots.Slot, Slots.pipes_of, Slots.hints_of, Slots.samples_of}
use Rattle.kp_net.{specs.declared.node.NodeId.NodeId, specs.Growth.Held, specs.Growth.Wire, specs.Growth.Kept, proofs.Growing.wire_kept}
use Rattle.kp_synth_registers.specs.{declared.outcome.Outcome.Outcome, Meaning.Ready, Meaning.IsTest, Meaning.Says, Meaning.guesses_at, Meaning.node_at}
use Rattle.kp_synth_registers.{specs.declared.registers.Reads.Reads, proofs.Growth.test_kept, proofs.Growth.gives_kept, proofs.Growth.says_kept}
use Rattle.kp_synth_stage.{specs.declared.row.Source.Source, specs.declared.work.Work.Work, specs.Work.Fits, specs.Work.SlotsHave, proofs.Nearest.sources_kept}
use Rattle.kp_synth.specs.{declared.pipeline_stage.Entered.Entered, inner.Seeing.PipesIn, inner.Seeing.SamplesIn, inner.Seeing.HintsIn, inner.Seeing.Computes}
use Rattle.kp_synth.specs.inner.{Whole.SetMeans, Whole.SetsMean, Descending.EnteredOk, Descending.Faces, Descending.SayFrom}
use Rattle.kp_synth.proofs.{Downward.stages_are, Downward.stages_end, Stalling.sees_above_kept}

-- an outcome of these nodes
pub says_by : (job : Job) (p : Held) (k : ℕ) (w : Work) (halt miss : NodeId) → Fits job p (guesses_at job k) w → Computes job p w k
    → Wire p halt 1 → IsTest job p halt (λ st i. stall (machine_of job) st i k) → Wire p miss 1 → IsTest job p miss (λ st i. mismatches (machine_of job) st i k)
    → Says job p k (record { stall = halt; miss = miss; puts = w.puts.items; sets = w.sets.items; made = w.made.items; aims = w.aims.items })
unfolding Computes
says_by job p k w halt miss fits computes sw st mw mt = record {
  stall_wire = sw;
  stall = st;
  miss_wire = mw;
  miss = mt;
  put_count = fits.put_count;
  put_wires = fits.puts;
  puts = λ c st i h. (computes c st i h).puts;
  set_count = fits.set_count;
  set_wires = fits.sets;
  sets = λ c st i h. (computes c st i h).sets;
  made_wires = fits.made;
  made = λ c st i h. (computes c st i h).made;
  aim_count = fits.aim_count;
  aim_wires = fits.aims;
  aims = λ c st i h. (computes c st i h).aims;
}

outcome_is : (o : Outcome) (w : Work) (halt miss : NodeId) → o.stall ≡ halt → o.miss ≡ miss → o.puts ≡ w.puts.items → o.sets ≡ w.sets.items → o.made ≡ w.made.items → o.aims ≡ w.aims.items
    → record { stall = halt; miss = miss; puts = w.puts.items; sets = w.sets.items; made = w.made.items; aims = w.aims.items } ≡ o
outcome_is o w halt miss a b d e f g = λ i. record { stall = sym a i; miss = sym b i; puts = sym d i; sets = sym e i; made = sym f i; aims = sym g i }

pub says_of : (job : Job) (p : Held) (k : ℕ) (w : Work) (halt miss : NodeId) (o : Outcome) → o.stall ≡ halt → o.miss ≡ miss → o.puts ≡ w.puts.items → o.sets ≡ w.sets.items → o.made ≡ w.made.items → o.aims ≡ w.aims.items
    → Fits job p (guesses_at job k) w → Computes job p w k
    → Wire p halt 1 → IsTest job p halt (λ st i. stall (machine_of job) st i k) → Wire p miss 1 → IsTest job p miss (λ st i. mismatches (machine_of job) st i k)
    → Says job p k o
says_of job p k w halt miss o a b d e f g fits computes sw st mw mt =
    subst (λ (x : Outcome). Says job p k x) (outcome_is o w halt miss a b d e f g) (says_by job p k w halt miss fits computes sw st mw mt)

-- what enters a stage stays
pub slots_kept : (p q : Held) (m : ℕ) (ss : List Slot) (ns : List NodeId) → Kept p q m → SlotsHave p ss ns → SlotsHave q ss ns
slots_kept p q m ss ns g h = record { count = h.count; wires = λ i l. wire_kept p q m (node_at ns i) _ g (h.wires i l) }

pub pipes_kept : (job : Job) (p q : Held) (m k : ℕ) (ns : List NodeId) → Kept p q m → SlotsHave p (pipes_of job.decls) ns → PipesIn job p ns k → PipesIn job q ns k
unfolding PipesIn
pipes_kept job p q m k ns g h v = λ x l. gives_kept job p q m _ (node_at ns x) _ g (h.wires x l) (v x l)

pub hints_kept : (job : Job) (p q : Held) (m : ℕ) (ns : List NodeId) → Kept p q m → SlotsHave p (hints_of job.decls) ns → HintsIn job p ns → HintsIn job q ns
unfolding HintsIn
hints_kept job p q m ns g h v = λ x l. gives_kept job p q m _ (node_at ns x) _ g (h.wires x l) (v x l)

-- the nodes of the samples that were made before the stages
pub samples_have : (job : Job) (p q : Held) (m : ℕ) (reads : Reads) → Kept p q m → Ready job p reads → SlotsHave q (samples_of job.decls) reads.samples
samples_have job p q m reads g h =
    let count = h.sample_count in
    record { count = count; wires = λ i l. wire_kept p q m (node_at reads.samples i) _ g (h.sample_wires i (omega arith)) }

pub samples_in : (job : Job) (p q : Held) (m : ℕ) (reads : Reads) → Kept p q m → Ready job p reads → SamplesIn job q reads.samples
unfolding SamplesIn
samples_in job p q m reads g h = λ i l.
    let count = h.sample_count in
    let inside : i < length (samples_of job.decls) = omega arith in
    gives_kept job p q m _ (node_at reads.samples i) _ g (h.sample_wires i inside) (h.samples i inside)

pub entered_kept : (job : Job) (p q : Held) (m k : ℕ) (e : Entered) → Kept p q m → EnteredOk job p k e → EnteredOk job q k e
entered_kept job p q m k e g h = record {
  pipes = slots_kept p q m (pipes_of job.decls) e.pipes.items g h.pipes;
  pipe_values = pipes_kept job p q m k e.pipes.items g h.pipes h.pipe_values;
  hints = slots_kept p q m (hints_of job.decls) e.hints.items g h.hints;
  hint_values = hints_kept job p q m e.hints.items g h.hints h.hint_values;
  full_wire = wire_kept p q m e.full 1 g h.full_wire;
  full_is_test = test_kept job p q m 1 e.full _ g h.full_wire h.full_is_test;
  ext_wire = wire_kept p q m e.ext 1 g h.ext_wire;
  ext_is_test = test_kept job p q m 1 e.ext _ g h.ext_wire h.ext_is_test;
}

pub faces_kept : (job : Job) (p q : Held) (m : ℕ) (ss : List Source) (higher : NodeId) (k : ℕ) → Kept p q m → Faces job p ss higher k → Faces job q ss higher k
faces_kept job p q m ss higher k g h = record {
  sources = sources_kept job p q m ss g h.sources;
  few = h.few;
  sees = sees_above_kept job p q m ss k g h.sources h.sees;
  wire = wire_kept p q m higher 1 g h.wire;
  is_test = test_kept job p q m 1 higher _ g h.wire h.is_test;
}

-- the sets of a stage
pub sets_of : (job : Job) (p : Held) (k : ℕ) (o : Outcome) → Says job p k o → SetsMean job p k o.sets
unfolding SetMeans
sets_of job p k o h = record { count = h.set_count; wires = h.set_wires; means = λ t l c st i y. h.sets c st i y t l }

-- whether the next stage stalls
pub stall_higher : (job : Job) (p : Held) (k : ℕ) (n : NodeId) → suc k < job.stages.value → IsTest job p n (λ st i. stall (machine_of job) st i (suc k)) → IsTest job p n (λ st i. (above (machine_of job) st i k).stall)
unfolding IsTest
stall_higher job p k n l h = λ c st i y. h c st i y ∙ sym (stall-above (machine_of job) st i k (stages_are job (suc k) l))

pub stall_none : (job : Job) (p : Held) (k : ℕ) (n : NodeId) → job.stages.value ≡ k + 1 → IsTest job p n (λ st i. false) → IsTest job p n (λ st i. (above (machine_of job) st i k).stall)
unfolding IsTest
stall_none job p k n e h = λ c st i y. h c st i y ∙ sym (stall-top (machine_of job) st i k (stages_end job k e))

-- the outcomes stay
pub say_from_kept : (job : Job) (p q : Held) (m k : ℕ) (os : List Outcome) → Kept p q m → SayFrom job p k os → SayFrom job q k os
say_from_kept job p q m k [] g h = tt
say_from_kept job p q m k (o ∷ os) g h = (says_kept job p q m k o g h.0, say_from_kept job p q m (suc k) os g h.1)

pub say_at : (job : Job) (p : Held) (k j : ℕ) (os : List Outcome) (d : Outcome) → SayFrom job p k os → j < length os → Says job p (k + j) (get_or os j d)
say_at job p k j [] d h l = absurd (omega arith)
say_at job p k zero (o ∷ os) d h l = let z : k ≡ k + 0 = omega arith in subst (λ n. Says job p n o) z h.0
say_at job p k (suc j) (o ∷ os) d h l = let z : suc k + j ≡ k + suc j = omega arith in subst (λ n. Says job p n (get_or os j d)) z (say_at job p (suc k) j os d h.1 (omega arith))

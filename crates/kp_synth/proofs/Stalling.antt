-- What a stage does, and whether it stalls.
use Rattle.std.proofs.Common.{◌≡◌, ◌∙◌, ℕ, ◌&&◌, ◌||◌, List}
use Rattle.kp_ast.specs.declared.tree.Job.{Job}
use Rattle.kp_pipeline.specs.Pipeline.{above, outcome, stall}
use Rattle.kp_machine.specs.Machine.{machine_of}
use Rattle.kp_net.specs.{declared.node.NodeId.NodeId, Nodes.Cells, Nodes.on, Growth.Held, Growth.Kept}
use Rattle.kp_synth_registers.specs.Meaning.{IsTest, Gives, guesses_at}
use Rattle.kp_synth_stage.specs.{declared.row.Source.Source, declared.work.Work.Work, Work.Fits, Work.Does, Rows.SourcesOk}
use Rattle.kp_synth_stage.proofs.{Binding.means_kept, Nearest.sees_kept}
use Rattle.kp_synth.specs.inner.Seeing.{SeesAbove, PipesIn, SamplesIn, HintsIn, Computes}

module _ (job : Job) (k : ℕ) (p q z : Held) (m : ℕ) (g : Kept q z m) (ss : List Source) (pipes samples hints : List NodeId) (w : Work) (fits : Fits job q (guesses_at job k) w)
    (sees : SeesAbove job p ss k) (ps : PipesIn job p pipes k) (ts : SamplesIn job p samples) (hs : HintsIn job p hints) (does : Does job k p pipes samples hints ss q w) where
  pub computes : Computes job z w k
  unfolding Computes SeesAbove PipesIn SamplesIn HintsIn Does Gives outcome machine_of
  computes = λ c st i h.
      means_kept job c q z m (guesses_at job k) w (outcome (machine_of job) st i k) g fits
      (does c (above (machine_of job) st i k).truth (st.stage k).instruction.pipes i.samples st.hints (sees c st i h) (λ x l. ps x l c st i h) (λ x l. ts x l c st i h) (λ x l. hs x l c st i h))

  pub stalls : (full ext higher halt : NodeId) → IsTest job q full (λ st i. (st.stage k).full) → IsTest job q ext (λ st i. i.ext k) → IsTest job q higher (λ st i. (above (machine_of job) st i k).stall)
      → ((c : Cells) → on c z.nodes halt.0 ≡ (on c q.nodes full.0 && (on c q.nodes w.hazard.0 || (on c q.nodes ext.0 || on c q.nodes higher.0))))
      → IsTest job z halt (λ st i. stall (machine_of job) st i k)
  unfolding IsTest SeesAbove PipesIn SamplesIn HintsIn Does Gives stall machine_of
  stalls full ext higher halt f e u is = λ c st i h.
      let a = f c st i h in
      let b = (does c (above (machine_of job) st i k).truth (st.stage k).instruction.pipes i.samples st.hints (sees c st i h) (λ x l. ps x l c st i h) (λ x l. ts x l c st i h) (λ x l. hs x l c st i h)).hazard in
      let d = e c st i h in
      let v = u c st i h in
      is c ∙ (λ j. a j && (b j || (d j || v j)))

pub sees_above_kept : (job : Job) (p q : Held) (m : ℕ) (ss : List Source) (k : ℕ) → Kept p q m → SourcesOk job p ss → SeesAbove job p ss k → SeesAbove job q ss k
unfolding SeesAbove
sees_above_kept job p q m ss k g ok h = λ c st i y. sees_kept job c p q m ss (above (machine_of job) st i k).truth g ok (h c st i y)

-- What a stage forwards to the reads below it, and what the stage below it sees.
use Rattle.std.proofs.Common.{◌≡◌, ◌∙◌, ℕ, suc, ◌+◌, ◌<◌, ◌≤◌, ◌^◌, Bool, true, false, cond, not, ◌&&◌, ◌||◌, List, ◌∷◌, length, Option, Some, None, refl, sym, ap, arith, ⊎_elim}
use Rattle.std.{proofs.lemmas.Option.slice_get_cases, specs.Prelude.slice_get}
use Rattle.kp_ast.specs.declared.tree.Job.{Job}
use Rattle.kp_pipeline.specs.Pipeline.{PipelineState, Inputs, above, hits, is_candidate, candidate_hits, intent_known, forwarded, ok_value}
use Rattle.kp_pipeline.{specs.Sequential.intends, proofs.Cycle.truth-in}
use Rattle.kp_fwd.specs.Forward.{enable_on, set_on, set_value as number_of_set}
use Rattle.kp_synth_registers.specs.{declared.outcome.Set.Set, Meaning.IsTest, Meaning.set_value, Holding.Holds, Holding.optional}
use Rattle.kp_machine.specs.{Machine.machine_of, Slots.targets_of}
use Rattle.kp_net.specs.{declared.node.NodeId.NodeId, Nodes.Cells, Nodes.at, Nodes.on, Growth.Held, Growth.Kept}
use Rattle.kp_design.specs.Numbers.{target_at}
use Rattle.kp_synth_stage.specs.declared.row.{Row.Row, Own.Own, Source.Source}
use Rattle.kp_synth_stage.specs.Rows.{row_hits, address_is, rows_view, own_value, source_view, view_of, SourceOk, Sees}
use Rattle.kp_synth_stage.proofs.Nearest.{source_view_kept}
use Rattle.kp_synth.specs.inner.Seeing.{SeesAbove, RowMeans, Nearer}

-- a row in front of those of the stages above
pub nearer_row : (job : Job) (k t : ℕ) (p q : Held) (m : ℕ) (s s' : Source) (r : Row) → Kept p q m → SourceOk job p t s → is_candidate (machine_of job) k t ≡ true → RowMeans job q r k t
    → s'.own ≡ s.own → s'.width ≡ s.width → s'.rows.items ≡ r ∷ s.rows.items → Nearer job k t p s q s'
unfolding RowMeans Nearer
nearer_row job k t p q m s s' r g ok is means own width rows = λ c st i h a l.
    let x = means c st i h in
    let f : row_hits c q r a ≡ candidate_hits (machine_of job) st k t a = x.0 a l ∙ sym (ap (λ b. b && hits (machine_of job) st k t a) is) in
    let old = source_view_kept job c p q m t s a g ok in
    let e : source_view c q s' a ≡ rows_view c q (r ∷ s.rows.items) (own_value c q s.width s.own a) a =
    ap (λ (xs : List Row). rows_view c q xs (own_value c q s'.width s'.own a) a) rows
    ∙ ap (λ (w : ℕ). rows_view c q (r ∷ s.rows.items) (own_value c q w s'.own a) a) width
    ∙ ap (λ (o : Own). rows_view c q (r ∷ s.rows.items) (own_value c q s.width o a) a) own in
    e ∙ ap (λ b. cond b (optional (on c q.nodes r.ok.0) (at c q.nodes r.value.0)) (source_view c q s a)) f
    ∙ ap (λ o. cond (candidate_hits (machine_of job) st k t a) o (source_view c q s a)) x.1
    ∙ ap (λ o. cond (candidate_hits (machine_of job) st k t a) (forwarded (machine_of job) st i k t) o) old

-- a stage that isn't a candidate forwards nothing
pub nearer_none : (job : Job) (k t : ℕ) (p q : Held) (m : ℕ) (s : Source) → Kept p q m → SourceOk job p t s → is_candidate (machine_of job) k t ≡ false → Nearer job k t p s q s
unfolding Nearer
nearer_none job k t p q m s g ok is = λ c st i h a l.
    source_view_kept job c p q m t s a g ok
    ∙ sym (ap (λ b. cond (b && hits (machine_of job) st k t a) (forwarded (machine_of job) st i k t) (source_view c p s a)) is)

-- WHAT THE NEXT STAGE SEES
next_view : (job : Job) (c : Cells) (p q : Held) (v w : ℕ → ℕ → Option ℕ) (t a : ℕ) (b : Bool) (f : Option ℕ) (o o' : Option Source) (there : (s : Source) × (o ≡ Some s)) (there' : (s : Source) × (o' ≡ Some s))
    → view_of c p o a ≡ v t a → source_view c q there'.0 a ≡ cond b f (source_view c p there.0 a) → w t a ≡ cond b f (v t a) → view_of c q o' a ≡ w t a
next_view job c p q v w t a b f o o' there there' old near law =
    ap (λ (x : Option Source). view_of c q x a) there'.1 ∙ near
    ∙ ap (cond b f) (sym (ap (λ (x : Option Source). view_of c p x a) there.1) ∙ old)
    ∙ sym law

pub source_in : (xs : List Source) (t : ℕ) → t < length xs → (s : Source) × (slice_get xs t ≡ Some s)
source_in xs t h = ⊎_elim (λ a. (a.0, a.2)) (λ a. absurd (omega (arith, a.0))) (slice_get_cases xs t).1

pub stages_are : (job : Job) (k : ℕ) → k < job.stages.value → k < (machine_of job).stages
unfolding machine_of
stages_are job k h = h

pub stages_end : (job : Job) (k : ℕ) → job.stages.value ≡ k + 1 → (machine_of job).stages ≤ suc k
unfolding machine_of
stages_end job k e = omega (arith, e)

pub sees_down : (job : Job) (k : ℕ) (p q : Held) (ss ss' : List Source) → suc k < job.stages.value → length ss ≡ length (targets_of job.decls) → length ss' ≡ length (targets_of job.decls)
    → SeesAbove job p ss (suc k)
    → ((t : ℕ) (s s' : Source) → slice_get ss t ≡ Some s → slice_get ss' t ≡ Some s' → Nearer job (suc k) t p s q s')
    → SeesAbove job q ss' k
unfolding SeesAbove Sees Nearer
sees_down job k p q ss ss' b n n' sees near = λ c st i h t a l m.
    let x = source_in ss t (omega arith) in
    let y = source_in ss' t (omega arith) in
    next_view job c p q (above (machine_of job) st i (suc k)).truth (above (machine_of job) st i k).truth t a
    (candidate_hits (machine_of job) st (suc k) t a) (forwarded (machine_of job) st i (suc k) t) (slice_get ss t) (slice_get ss' t) x y
    (sees c st i h t a l m) (near t x.0 y.0 x.1 y.1 c st i h a m) (truth-in (machine_of job) st i k t a (stages_are job (suc k) b))

-- a row from its parts
pub row_means : (job : Job) (k t : ℕ) (q : Held) (r : Row) → r.known ≡ intent_known (machine_of job) k t
    → IsTest job q r.full (λ st i. (st.stage k).full)
    → ((c : Cells) (st : PipelineState) (i : Inputs) → Holds job c st i → intent_known (machine_of job) k t ≡ true → (a : ℕ) → a < 2 ^ (target_at job t).address
    → (enable_on c q r.enable && address_is c q r.address a) ≡ intends (machine_of job) (st.stage k).instruction t a)
    → ((c : Cells) (st : PipelineState) (i : Inputs) → Holds job c st i → optional (on c q.nodes r.ok.0) (at c q.nodes r.value.0) ≡ forwarded (machine_of job) st i k t)
    → RowMeans job q r k t
unfolding RowMeans IsTest
row_means job k t q r known full intent value = λ c st i h. (
  (λ a l.
      let f : on c q.nodes r.full.0 ≡ (st.stage k).full = full c st i h in
      ap (λ b. b && (not r.known || (enable_on c q r.enable && address_is c q r.address a))) f
      ∙ ap (λ b. (st.stage k).full && (not b || (enable_on c q r.enable && address_is c q r.address a))) known
      ∙ ap (λ b. (st.stage k).full && b) (by_known (intent_known (machine_of job) k t) (enable_on c q r.enable && address_is c q r.address a) (intends (machine_of job) (st.stage k).instruction t a) (λ e. intent c st i h e a l))),
  value c st i h,
) where
  by_known : (b x y : Bool) → (b ≡ true → x ≡ y) → (not b || x) ≡ (not b || y)
  by_known true x y e = e refl
  by_known false x y e = refl

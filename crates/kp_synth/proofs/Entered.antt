-- What enters a stage.
use Rattle.std.proofs.Common.{◌≡◌, ◌∙◌, ℕ, zero, suc, ◌+◌, ◌-◌, ◌<◌, ◌≤◌, ◌^◌, ◌%◌, ◌/◌, Bool, true, false, cond, List, [], ◌∷◌, ◌++◌, take, length, get_or, length-append, Option, Some, refl, sym, ap, subst, arith, ◌⊎◌, inl, inr, ⊎_elim}
use Rattle.std.proofs.{Math.ListN.get_or-append, lemmas.List.get_or_push}
use Rattle.std.proofs.lemmas.Bool.{cases_lt, cases_Bool, cond-true, cond-false}
use Rattle.std.specs.{Prelude.slice_get, List.filter}
use Rattle.kp_bits.specs.Word as bits
use Rattle.kp_ast.specs.declared.tree.Job.{Job}
use Rattle.kp_pipeline.{specs.Pipeline.PipelineState, specs.Pipeline.Inputs, proofs.Cycle.truth-top}
use Rattle.kp_machine.specs.Slots.{Slot, targets_of, hints_of, is_register}
use Rattle.kp_machine.specs.Machine.{machine_of, registers_before, files_before}
use Rattle.kp_net.specs.{declared.node.NodeId.NodeId, Nodes.Cells, Nodes.word_at, Nodes.at, Growth.Held, Growth.Wire, Growth.Kept}
use Rattle.kp_net.proofs.Growing.{wire_kept}
use Rattle.kp_synth_registers.specs.declared.key.Key.TheVariants.{Visible, Hint}
use Rattle.kp_design.specs.Numbers.{no_slot, target_at}
use Rattle.kp_design.specs.Fits.{IsWidth, Fits}
use Rattle.kp_synth_registers.specs.{declared.registers.Reads.Reads, Holding.Holds, Holding.kept_in, Holding.own_word}
use Rattle.kp_synth_registers.{specs.Meaning.IsTest, specs.Meaning.Gives, specs.Meaning.Ready, specs.Meaning.node_at, proofs.Growth.gives_kept}
use Rattle.kp_synth_stage.specs.declared.row.{Own.TheVariants.Register, Own.TheVariants.File, Row.Row, Source.Source}
use Rattle.kp_synth_stage.specs.Rows.{Sees, view_of, rows_view, own_value, OwnOk, RowsOk, SourcesOk}
use Rattle.kp_synth.specs.inner.{Seeing.SeesAbove, Whole.Few, Whole.OwnMeans, Whole.Bare}
use Rattle.kp_synth.proofs.{Downward.source_in, Downward.stages_end, Ports.bit_value}

-- the first nodes of a list have these widths and values
pub record FirstOf (job : Job) (p : Held) (w : ℕ → ℕ) (f : ℕ → PipelineState → Inputs → ℕ) (ns : List NodeId) : Type 0 where
  pub wires : (y : ℕ) → y < length ns → Wire p (node_at ns y) (w y)
  pub gives : (y : ℕ) → y < length ns → Gives job p (node_at ns y) (f y)

pub none_first : (job : Job) (p : Held) (w : ℕ → ℕ) (f : ℕ → PipelineState → Inputs → ℕ) → FirstOf job p w f []
none_first job p w f = record { wires = λ y l. absurd (omega arith); gives = λ y l. absurd (omega arith) }

-- what holds of each node of a list holds with one more
pushed : (F : ℕ → NodeId → Type 0) (ns : List NodeId) (n : NodeId) → ((y : ℕ) → y < length ns → F y (node_at ns y)) → F (length ns) n
    → (y : ℕ) → y < length (ns ++ n ∷ []) → F y (node_at (ns ++ n ∷ []) y)
pushed F ns n old new y l = ⊎_elim
    (λ (b : y < length ns). subst (F y) (sym (get_or-append ns (n ∷ []) (record { 0 = 0 }) y b)) (old y b))
    (λ (b : length ns ≤ y). let z : length ns ≡ y = omega (arith, l, length-append ns (n ∷ [])) in
    subst (F y) (sym (get_or_push ns n (record { 0 = 0 }) y z)) (subst (λ s. F s n) z new))
    (cases_lt y (length ns))

pub one_first : (job : Job) (p q : Held) (m : ℕ) (w : ℕ → ℕ) (f : ℕ → PipelineState → Inputs → ℕ) (ns : List NodeId) (n : NodeId) → Kept p q m → FirstOf job p w f ns
    → Wire q n (w (length ns)) → Gives job q n (f (length ns)) → FirstOf job q w f (ns ++ n ∷ [])
one_first job p q m w f ns n g h wire gives = record {
  wires = pushed (λ y x. Wire q x (w y)) ns n (λ y b. wire_kept p q m (node_at ns y) _ g (h.wires y b)) wire;
  gives = pushed (λ y x. Gives job q x (f y)) ns n (λ y b. gives_kept job p q m (w y) (node_at ns y) (f y) g (h.wires y b) (h.gives y b)) gives;
}

pub hint_gives : (job : Job) (p : Held) (n : NodeId) (h : ℕ) → h < length (hints_of job.decls) → ((c : Cells) → at c p.nodes n.0 ≡ kept_in job c (Hint h)) → Gives job p n (λ st i. st.hints h)
unfolding Gives
hint_gives job p n h l e = λ c st i y. e c ∙ y.hints h l

-- the stall word
pub ext_bit : (job : Job) (p q : Held) (reads : Reads) (n : NodeId) (k : ℕ) → k < job.stages.value → Ready job p reads → ((c : Cells) → word_at c q.nodes n.0 ≡ bits.slice_of (word_at c p.nodes reads.ext.0) k k)
    → IsTest job q n (λ st i. i.ext k)
unfolding IsTest at
ext_bit job p q reads n k l ready e = λ c st i h.
    let z : k + 1 - k ≡ 1 = omega arith in
    let a : (word_at c q.nodes n.0).value ≡ (c.ext % 2 ^ job.stages.value) / 2 ^ k % 2 =
    ap (λ (x : bits.Word). x.value) (e c) ∙ ap (λ s. (word_at c p.nodes reads.ext.0).value / 2 ^ k % 2 ^ s) z ∙ ap (λ v. v / 2 ^ k % 2) (ready.ext_value c) in
    bit_value c q n _ a ∙ h.ext k l

-- a target's own value
pub register_means : (job : Job) (p : Held) (t w : ℕ) (n : NodeId) → t < length (targets_of job.decls) → is_register (target_at job t) ≡ true → ((c : Cells) → at c p.nodes n.0 ≡ kept_in job c (Visible t))
    → OwnMeans job p t w (Register n)
unfolding OwnMeans own_word
register_means job p t w n l r e = λ c st i h a m.
    e c ∙ sym (cond-true (is_register (target_at job t)) (kept_in job c (Visible t)) (c.word (files_before (targets_of job.decls) t) a % 2 ^ (target_at job t).width) r) ∙ h.visible t a l m

pub file_means : (job : Job) (p : Held) (t f : ℕ) → t < length (targets_of job.decls) → is_register (target_at job t) ≡ false → f ≡ files_before (targets_of job.decls) t
    → OwnMeans job p t (target_at job t).width (File f)
unfolding OwnMeans own_word
file_means job p t f l r e = λ c st i h a m.
    ap (λ x. c.word x a % 2 ^ (target_at job t).width) e
    ∙ sym (cond-false (is_register (target_at job t)) (kept_in job c (Visible t)) (c.word (files_before (targets_of job.decls) t) a % 2 ^ (target_at job t).width) r) ∙ h.visible t a l m

-- the first targets
unfoldable pub AllBare : Job → Held → List Source → Type 0
AllBare job p ss = (u : ℕ) (s : Source) → slice_get ss u ≡ Some s → Bare job p u s

pub none_bare : (job : Job) (p : Held) → AllBare job p []
unfolding AllBare
none_bare job p = λ u s e. cc

get_more : (ss : List Source) (x : Source) (u : ℕ) (s : Source) → slice_get (ss ++ x ∷ []) u ≡ Some s → (slice_get ss u ≡ Some s) ⊎ ((u ≡ length ss) × (s ≡ x))
get_more [] x zero s e = inr (refl, cc)
get_more [] x (suc u) s e = cc
get_more (y ∷ ss) x zero s e = inl e
get_more (y ∷ ss) x (suc u) s e = ⊎_elim (λ a. inl a) (λ a. inr (ap (λ (n : ℕ). suc n) a.0, a.1)) (get_more ss x u s e)

pub one_bare : (job : Job) (p : Held) (ss : List Source) (x : Source) (t : ℕ) → length ss ≡ t → AllBare job p ss → Bare job p t x → AllBare job p (ss ++ x ∷ [])
unfolding AllBare
one_bare job p ss x t n h b = λ u s e. ⊎_elim
    (λ a. h u s a)
    (λ a. subst (λ (y : Source). Bare job p u y) (sym a.1) (subst (λ v. Bare job p v x) (sym n ∙ sym a.0) b))
    (get_more ss x u s e)

pub bare_ok : (job : Job) (p : Held) (ss : List Source) → length ss ≡ length (targets_of job.decls) → AllBare job p ss → SourcesOk job p ss
unfolding AllBare
bare_ok job p ss n h = record { count = n; each = λ t s e. (h t s e).ok }

pub bare_few : (job : Job) (p : Held) (ss : List Source) → AllBare job p ss → (k : ℕ) → k + 1 ≤ job.stages.value → Few job k ss
unfolding AllBare Few
bare_few job p ss h k l = λ t s e. subst (λ (xs : List Row). length xs + suc k ≤ job.stages.value) (sym (h t s e).rows) (omega (arith, l))

view_bare : (job : Job) (c : Cells) (st : PipelineState) (i : Inputs) (p : Held) (t a : ℕ) (o : Option Source) → Holds job c st i → a < 2 ^ (target_at job t).address → (s : Source) → o ≡ Some s → Bare job p t s → view_of c p o a ≡ Some (st.visible t a)
unfolding OwnMeans
view_bare job c st i p t a o h l s e b =
    ap (λ (x : Option Source). view_of c p x a) e ∙ ap (λ (xs : List Row). rows_view c p xs (own_value c p s.width s.own a) a) b.rows ∙ ap (λ (v : ℕ). Some v) (b.own c st i h a l)

pub bare_sees : (job : Job) (p : Held) (ss : List Source) → length ss ≡ length (targets_of job.decls) → AllBare job p ss → (k : ℕ) → job.stages.value ≡ k + 1 → SeesAbove job p ss k
unfolding AllBare SeesAbove Sees
bare_sees job p ss n h k e = λ c st i y t a l m.
    let x = source_in ss t (omega (arith, l, n)) in
    view_bare job c st i p t a (slice_get ss t) y m x.0 x.1 (h t x.0 x.1) ∙ sym (truth-top (machine_of job) st i k t a (stages_end job k e))

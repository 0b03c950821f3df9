-- Nodes that read cells.
use Rattle.std.proofs.Common.{◌≡◌, ◌∙◌, ℕ, ◌+◌, ◌%◌, ◌^◌, ◌<◌, ◌≤◌, List, [], ◌∷◌, ◌++◌, length, length-append, sym, ap, subst, arith, ⊎_elim}
use Rattle.std.proofs.{Math.ListN.get_or-append, Math.Seq.get_or-append_seam, lemmas.Bool.cases_lt, lemmas.Bool.cond-false}
use Rattle.std.specs.Prelude.{false}
use Rattle.kp_bits.specs.Word as bits
use Rattle.kp_ast.specs.declared.tree.Job.{Job}
use Rattle.kp_pipeline.specs.Pipeline.{PipelineState, Inputs}
use Rattle.kp_machine.specs.{Slots.targets_of, Slots.samples_of, Slots.is_register, Machine.files_before}
use Rattle.kp_net.specs.{declared.node.NodeId.NodeId, Nodes.Cells, Nodes.word_of_node, Nodes.word_at, Nodes.at}
use Rattle.kp_net.{specs.Growth.Held, specs.Growth.Wire, specs.Growth.Kept, specs.Growth.AddsOnly, proofs.Growing.wire_kept, proofs.Growing.kept_then}
use Rattle.kp_net.proofs.Values.{at_fits}
use Rattle.kp_net.specs.declared.node.Kind.TheVariants as kinds
use Rattle.kp_synth_registers.specs.{declared.key.Key.TheVariants.Visible, Keys.key_width, Keys.key_at, Keys.keys_of}
use Rattle.kp_design.specs.Numbers.{target_at, sample_at}
use Rattle.kp_synth_registers.specs.{Holding.Holds, Holding.kept_in, Holding.own_word, declared.registers.Reads.Reads}
use Rattle.kp_synth_registers.specs.{Meaning.Gives, Meaning.node_at, Meaning.Added, Meaning.Ready, inner.First.FirstRead, inner.First.FirstSamples}
use Rattle.kp_synth_registers.proofs.Growth.{gives_kept, asked_added}

pub reg_value : (p q : Held) (c : Cells) (n : NodeId) (r k w : ℕ) → k ≡ w → word_at c q.nodes n.0 ≡ word_of_node c (word_at c p.nodes) (record { width = k; kind = kinds.Reg r }) → at c q.nodes n.0 ≡ c.reg r % 2 ^ w
unfolding at
reg_value p q c n r k w f e = ap (λ (x : bits.Word). x.value) e ∙ ap (λ (z : ℕ). c.reg r % 2 ^ z) f

pub ext_value : (p q : Held) (c : Cells) (n : NodeId) (k w : ℕ) → k ≡ w → word_at c q.nodes n.0 ≡ word_of_node c (word_at c p.nodes) (record { width = k; kind = kinds.Ext }) → at c q.nodes n.0 ≡ c.ext % 2 ^ w
unfolding at
ext_value p q c n k w f e = ap (λ (x : bits.Word). x.value) e ∙ ap (λ (z : ℕ). c.ext % 2 ^ z) f

pub reg_added : (job : Job) (p q : Held) (r k : ℕ) → Kept p q 1 → AddsOnly (record { width = k; kind = kinds.Reg r }) p q → r < length (keys_of job) → k ≡ key_width job (key_at job r) → Added job p q 1
reg_added job p q r k a only l e = asked_added job p q (record { width = k; kind = kinds.Reg r }) a only (l, e)

pub ext_added : (job : Job) (p q : Held) (k : ℕ) → Kept p q 1 → AddsOnly (record { width = k; kind = kinds.Ext }) p q → k ≡ job.stages.value → Added job p q 1
ext_added job p q k a only e = asked_added job p q (record { width = k; kind = kinds.Ext }) a only e

-- a sample
pub sample_gives : (job : Job) (p q : Held) (n : NodeId) (x k : ℕ) → x < length (samples_of job.decls) → k ≡ (sample_at job x).width
    → ((c : Cells) → word_at c q.nodes n.0 ≡ word_of_node c (word_at c p.nodes) (record { width = k; kind = kinds.Sample x })) → Gives job q n (λ st i. i.samples x)
unfolding Gives at
sample_gives job p q n x k l e v = λ c st i h.
    ap (λ (y : bits.Word). y.value) (v c) ∙ ap (λ (z : ℕ). c.sample x % 2 ^ z) e ∙ h.samples x l

pub sample_added : (job : Job) (p q : Held) (x k : ℕ) → Kept p q 1 → AddsOnly (record { width = k; kind = kinds.Sample x }) p q → x < length (samples_of job.decls)
    → k ≡ (sample_at job x).width → Added job p q 1
sample_added job p q x k a only l e = asked_added job p q (record { width = k; kind = kinds.Sample x }) a only (l, e)

-- ONE NODE MORE, at the end of the first.
module _ (nodes : List NodeId) (n : NodeId) where
  -- what holds of the first and of the new one holds of all
  each_then : (P : ℕ → NodeId → Type 0) → ((r : ℕ) → r < length nodes → P r (node_at nodes r)) → P (length nodes) n
      → (r : ℕ) → r < length (nodes ++ n ∷ []) → P r (node_at (nodes ++ n ∷ []) r)
  each_then P first last r m = ⊎_elim
      (λ (b : r < length nodes). subst (P r) (sym (get_or-append nodes (n ∷ []) (record { 0 = 0 }) r b)) (first r b))
      (λ (b : length nodes ≤ r). let z : length nodes ≡ r = omega (arith, m, b, length-append nodes (n ∷ [])) in
      subst (P r) (sym (ap (node_at (nodes ++ n ∷ [])) (sym z) ∙ get_or-append_seam nodes n [] (record { 0 = 0 }))) (subst (λ s. P s n) z last))
      (cases_lt r (length nodes))

-- samples
pub one_sample : (job : Job) (p q : Held) (j x : ℕ) (nodes : List NodeId) (n : NodeId) → length nodes ≡ x → Kept p q j → FirstSamples job p nodes
    → Wire q n (sample_at job x).width → Gives job q n (λ st i. i.samples x) → FirstSamples job q (nodes ++ n ∷ [])
one_sample job p q j x nodes n e a h w g = record {
  wires = each_then nodes n (λ y z. Wire q z (sample_at job y).width) (λ y b. wire_kept p q j (node_at nodes y) _ a (h.wires y b))
      (subst (λ y. Wire q n (sample_at job y).width) (sym e) w);
  gives = each_then nodes n (λ y z. Gives job q z (λ st i. i.samples y)) (λ y b. gives_kept job p q j _ (node_at nodes y) _ a (h.wires y b) (h.gives y b))
      (subst (λ y. Gives job q n (λ st i. i.samples y)) (sym e) g);
}

-- all of them
pub ready_read : (job : Job) (o p q : Held) (i j : ℕ) (reads : Reads) → reads.keys ≡ keys_of job → Kept o p i → Kept p q j → length reads.registers ≡ length (keys_of job) → FirstRead job o reads.registers
    → length reads.samples ≡ length (samples_of job.decls) → FirstSamples job p reads.samples
    → Wire q reads.ext job.stages.value → ((c : Cells) → at c q.nodes reads.ext.0 ≡ c.ext % 2 ^ job.stages.value) → Ready job q reads
ready_read job o p q i j reads k a b e h f g w v =
    let ab = kept_then o p q i j a b in
    record {
      keys = k;
      same = e;
      wires = λ r l. wire_kept o q (i + j) (node_at reads.registers r) _ ab (h.wires r (omega (arith, l, e)));
      values = λ c r l. (let m : r < length reads.registers = omega (arith, l, e) in ab.same c (node_at reads.registers r).0 (h.wires r m).inside ∙ h.values c r m);
      sample_count = f;
      sample_wires = λ x l. wire_kept p q j (node_at reads.samples x) _ b (g.wires x (omega (arith, l, f)));
      samples = λ x l. (let m : x < length reads.samples = omega (arith, l, f) in gives_kept job p q j _ (node_at reads.samples x) _ b (g.wires x m) (g.gives x m));
      ext_wire = w;
      ext_value = v;
    }

-- a word of a file
pub word_value : (job : Job) (p q : Held) (c : Cells) (st : PipelineState) (i : Inputs) (n a : NodeId) (t f k : ℕ) → t < length (targets_of job.decls) → is_register (target_at job t) ≡ false
    → f ≡ files_before (targets_of job.decls) t → k ≡ (target_at job t).width → Wire p a (target_at job t).address → Holds job c st i
    → word_at c q.nodes n.0 ≡ word_of_node c (word_at c p.nodes) (record { width = k; kind = kinds.Word f a }) → at c q.nodes n.0 ≡ st.visible t (at c p.nodes a.0)
unfolding at own_word
word_value job p q c st i n a t f k l e z w h m v =
    let b : at c p.nodes a.0 < 2 ^ (target_at job t).address = subst (λ (y : ℕ). at c p.nodes a.0 < 2 ^ y) h.wide (at_fits c p.nodes a.0 h.inside) in
    ap (λ (x : bits.Word). x.value) v
    ∙ ap (λ (y : ℕ). c.word f (at c p.nodes a.0) % 2 ^ y) w ∙ ap (λ (y : ℕ). c.word y (at c p.nodes a.0) % 2 ^ (target_at job t).width) z
    ∙ sym (cond-false (is_register (target_at job t)) (kept_in job c (Visible t)) (c.word (files_before (targets_of job.decls) t) (at c p.nodes a.0) % 2 ^ (target_at job t).width) e)
    ∙ m.visible t (at c p.nodes a.0) l b

pub word_added : (job : Job) (p q : Held) (t f k : ℕ) (a : NodeId) → Kept p q 1 → AddsOnly (record { width = k; kind = kinds.Word f a }) p q → t < length (targets_of job.decls)
    → is_register (target_at job t) ≡ false → f ≡ files_before (targets_of job.decls) t → k ≡ (target_at job t).width → Wire p a (target_at job t).address → Added job p q 1
word_added job p q t f k a g only l e z w h = asked_added job p q (record { width = k; kind = kinds.Word f a }) g only (t, l, e, z, w, wire_kept p q 1 a _ g h)

-- The names of stages keep their words while the pool grows.
use Rattle.std.proofs.Common.{◌≡◌, ℕ, zero, suc, ◌+◌, ◌<◌, List, [], ◌∷◌, length, get_or, Option, Some, None, ap, refl, sym, subst, arith, ◌∙◌}
use Rattle.std.specs.Option.{option_map}
use Rattle.kp_ast.specs.declared.tree.Job.{Job}
use Rattle.kp_machine.specs.Machine.{machine_of}
use Rattle.kp_pipeline.specs.Pipeline.{above}
use Rattle.kp_net.specs.{declared.node.NodeId.NodeId, Nodes.Cells, Nodes.word_at, Growth.Held, Growth.Kept, Netlist.Net}
use Rattle.kp_build.specs.Names.{AreInside, Scope, node_of, word_of}
use Rattle.kp_synth_registers.{specs.declared.outcome.Outcome.Outcome, specs.Meaning.Gives, specs.Meaning.guesses_at, proofs.Growth.says_kept}
use Rattle.kp_synth_stage.specs.{declared.row.Source.Source, Known.Knows}
use Rattle.kp_synth_next.specs.Control.{AllSay}
use Rattle.kp_synth.specs.{Known.Named, Known.no_names, Known.HasStages}
use Rattle.kp_synth.specs.inner.{Seeing.SeesAbove, Seeing.PipesIn, Seeing.SamplesIn, Seeing.HintsIn, Descending.NamedFrom, Descending.Contains}

same_word : (p q : Held) (m : ℕ) (c : Cells) (o : Option NodeId) → Kept p q m → ((n : NodeId) → o ≡ Some n → n.0 < length p.nodes)
    → option_map (λ n. word_at c q.nodes n.0) o ≡ option_map (λ n. word_at c p.nodes n.0) o
same_word p q m c None g h = refl
same_word p q m c (Some n) g h = ap Some (g.words c n.0 (h n refl))

words_kept : (p q : Held) (m : ℕ) (env : Scope) → Kept p q m → AreInside p env → (c : Cells) (x : List ℕ) → word_of c q env x ≡ word_of c p env x
unfolding word_of
words_kept p q m env g h c x = same_word p q m c (node_of env.names x) g (h x)

inside_kept : (p q : Held) (m : ℕ) (env : Scope) → Kept p q m → AreInside p env → AreInside q env
inside_kept p q m env g h x n e = let l = h x n e in let longer = g.longer in omega arith

pub named_kept : (job : Job) (p q : Held) (m k : ℕ) (env : Scope) → Kept p q m → Named job p k env → Named job q k env
named_kept job p q m k env g h = record {
  inside = inside_kept p q m env g h.inside;
  means = λ c st i holds x sense found bound. words_kept p q m env g h.inside c x ∙ h.means c st i holds x sense found bound;
}

-- the names of a stage, from those of its block
pub named_by : (job : Job) (k : ℕ) (p q z : Held) (m : ℕ) → Kept q z m → (ss : List Source) (pipes samples hints : List NodeId) (env : Scope)
    → SeesAbove job p ss k → PipesIn job p pipes k → SamplesIn job p samples → HintsIn job p hints → AreInside q env → Knows job k p pipes samples hints ss q env
    → Named job z k env
unfolding SeesAbove PipesIn SamplesIn HintsIn Knows Gives
named_by job k p q z m g ss pipes samples hints env sees ps ts hs inside knows = record {
  inside = inside_kept q z m env g inside;
  means = λ c st i h x sense found bound.
      words_kept q z m env g inside c x
      ∙ knows c (above (machine_of job) st i k).truth (st.stage k).instruction.pipes i.samples st.hints (sees c st i h) (λ y l. ps y l c st i h) (λ y l. ts y l c st i h) (λ y l. hs y l c st i h)
      x sense found bound;
}

-- the names of all stages
pub named_from_kept : (job : Job) (p q : Held) (m k : ℕ) (envs : List Scope) → Kept p q m → NamedFrom job p k envs → NamedFrom job q k envs
named_from_kept job p q m k [] g h = tt
named_from_kept job p q m k (env ∷ envs) g h = (named_kept job p q m k env g h.0, named_from_kept job p q m (suc k) envs g h.1)

named_at : (job : Job) (p : Held) (k j : ℕ) (envs : List Scope) → NamedFrom job p k envs → j < length envs → Named job p (k + j) (get_or envs j no_names)
named_at job p k j [] h l = absurd (omega arith)
named_at job p k zero (env ∷ envs) h l = let z : k ≡ k + 0 = omega arith in subst (λ n. Named job p n env) z h.0
named_at job p k (suc j) (env ∷ envs) h l =
    let z : suc k + j ≡ k + suc j = omega arith in subst (λ n. Named job p n (get_or envs j no_names)) z (named_at job p (suc k) j envs h.1 (omega arith))

pub all_named : (job : Job) (p : Held) (envs : List Scope) → NamedFrom job p 0 envs → length envs ≡ job.stages.value
    → (k : ℕ) → k < job.stages.value → Named job p k (get_or envs k no_names)
all_named job p envs h n k l = let z : 0 + k ≡ k = omega arith in subst (λ x. Named job p x (get_or envs k no_names)) z (named_at job p 0 k envs h (omega (arith, n, l)))

pub none_named : (job : Job) (p : Held) (k : ℕ) (envs : List Scope) → envs ≡ [] → NamedFrom job p k envs
none_named job p k envs e = subst (λ x. NamedFrom job p k x) (sym e) tt

-- the stages of a netlist that contains their pool
pub has_stages : (job : Job) (p : Held) (m : ℕ) (net : Net) (outs : List Outcome) (envs : List Scope) → Contains p m net → AllSay job p outs
    → length envs ≡ job.stages.value → ((k : ℕ) → k < job.stages.value → Named job p k (get_or envs k no_names)) → HasStages net job outs envs
has_stages job p m net outs envs has says count named = record {
  pool = has.pool;
  nodes = has.nodes;
  says = record { count = says.count; says = λ k l. says_kept job p has.pool m k _ has.kept (says.says k l) };
  count = count;
  named = λ k l. named_kept job p has.pool m k _ has.kept (named k l);
}

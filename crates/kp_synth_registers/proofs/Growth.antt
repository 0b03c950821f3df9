-- What stays while a pool grows.
use Rattle.std.proofs.Common.{◌≡◌, ◌∙◌, ℕ, ◌+◌, ◌<◌, ◌≤◌, Bool, List, [], ◌∷◌, length, get_or, Option, Some, None, false, refl, sym, ap, subst, ⊎_elim}
use Rattle.std.proofs.lemmas.Bool.{cases_lt}
use Rattle.kp_ast.specs.declared.tree.Job.{Job}
use Rattle.kp_pipeline.specs.Pipeline.{PipelineState, Inputs}
use Rattle.kp_net.specs.{declared.node.NodeId.NodeId, declared.node.Node.Node, declared.node.Kind.Kind, Nodes.Cells, Nodes.at, Nodes.on}
use Rattle.kp_net.specs.{Widths.no_node, Widths.is_cell, Growth.Held, Growth.Wire, Growth.Kept, Growth.Grown, Growth.AddsOnly}
use Rattle.kp_net.proofs.Growing.{wire_kept, kept_then, kept_more}
use Rattle.kp_net.specs.declared.node.Kind.TheVariants as kinds
use Rattle.kp_synth_registers.specs.Meaning.{IsTest, Gives, MayGive, node_at, CellFits, CellsFit, Added, Ready, Says, put_value, set_value, guess_value, made_values, PutFits, SetFits, MadeFit}
use Rattle.kp_synth_registers.specs.declared.{outcome.Set.Set, outcome.Made.Made, outcome.Outcome.Outcome, registers.Reads.Reads}
use Rattle.kp_synth_registers.specs.Holding.{optional, pending_guess}
use Rattle.kp_design.specs.declared.guess.GuessSlot.{GuessSlot}

pub test_kept : (job : Job) (p q : Held) (j w : ℕ) (n : NodeId) (f : PipelineState → Inputs → Bool) → Kept p q j → Wire p n w → IsTest job p n f → IsTest job q n f
unfolding IsTest
test_kept job p q j w n f a h e = λ c st i m. a.tests c n.0 h.inside ∙ e c st i m

pub gives_kept : (job : Job) (p q : Held) (j w : ℕ) (n : NodeId) (f : PipelineState → Inputs → ℕ) → Kept p q j → Wire p n w → Gives job p n f → Gives job q n f
unfolding Gives
gives_kept job p q j w n f a h e = λ c st i m. a.same c n.0 h.inside ∙ e c st i m

same_optional : (b d : Bool) (v w : ℕ) → b ≡ d → v ≡ w → optional b v ≡ optional d w
same_optional b d v w e f = ap (λ x. optional x v) e ∙ ap (optional d) f

pub may_give_kept : (job : Job) (p q : Held) (j w : ℕ) (bit value : NodeId) (f : PipelineState → Inputs → Option ℕ)
    → Kept p q j → Wire p bit 1 → Wire p value w → MayGive job p bit value f → MayGive job q bit value f
unfolding MayGive
may_give_kept job p q j w bit value f a b v e = λ c st i m. same_optional _ _ _ _ (a.tests c bit.0 b.inside) (a.same c value.0 v.inside) ∙ e c st i m

-- the nodes that read the cells
pub ready_kept : (job : Job) (p q : Held) (k : ℕ) (reads : Reads) → Kept p q k → Ready job p reads → Ready job q reads
ready_kept job p q k reads a h = record {
  keys = h.keys;
  same = h.same;
  wires = λ r l. wire_kept p q k (node_at reads.registers r) _ a (h.wires r l);
  values = λ c r l. a.same c (node_at reads.registers r).0 (h.wires r l).inside ∙ h.values c r l;
  sample_count = h.sample_count;
  sample_wires = λ x l. wire_kept p q k (node_at reads.samples x) _ a (h.sample_wires x l);
  samples = λ x l. gives_kept job p q k _ (node_at reads.samples x) _ a (h.sample_wires x l) (h.samples x l);
  ext_wire = wire_kept p q k reads.ext _ a h.ext_wire;
  ext_value = λ c. a.same c reads.ext.0 h.ext_wire.inside ∙ h.ext_value c;
}

-- cells
fits_kept : (job : Job) (p q : Held) (j k : ℕ) (kind : Kind) → Kept p q j → CellFits job p k kind → CellFits job q k kind
fits_kept job p q j k (kinds.Word f n) a h = (h.0, h.1, h.2, h.3, h.4, wire_kept p q j n _ a h.5)
fits_kept job p q j k _ a h = h

fits_at : (job : Job) (p q : Held) (j i : ℕ) → Kept p q j → i < length p.nodes → CellsFit job p
    → CellFits job q (get_or q.nodes i no_node).width (get_or q.nodes i no_node).kind
unfolding CellsFit
fits_at job p q j i a l h =
    subst (λ (n : Node). CellFits job q n.width n.kind) (sym (a.nodes i l))
    (fits_kept job p q j (get_or p.nodes i no_node).width (get_or p.nodes i no_node).kind a (h i l))

plain_fits : (job : Job) (p : Held) (k : ℕ) (kind : Kind) → is_cell kind ≡ false → CellFits job p k kind
plain_fits job p k kinds.Ext e = cc
plain_fits job p k (kinds.Sample x) e = cc
plain_fits job p k (kinds.Reg r) e = cc
plain_fits job p k (kinds.Word f n) e = cc
plain_fits job p k _ e = tt

grown_fits : (job : Job) (p q : Held) (k : ℕ) → Grown p q k → CellsFit job p → CellsFit job q
unfolding CellsFit
grown_fits job p q k a h = λ i m. ⊎_elim
    (λ (l : i < length p.nodes). fits_at job p q k i a.kept l h)
    (λ (l : length p.nodes ≤ i). plain_fits job q _ _ (a.plain i l m))
    (cases_lt i (length p.nodes))

pub grown_added : (job : Job) (p q : Held) (k : ℕ) → Grown p q k → Added job p q k
grown_added job p q k a = record { kept = a.kept; fits = grown_fits job p q k a }

-- a node is requested, which reads a cell of the job
pub asked_added : (job : Job) (p q : Held) (n : Node) → Kept p q 1 → AddsOnly n p q → CellFits job q n.width n.kind → Added job p q 1
unfolding CellsFit
asked_added job p q n a only fits = record {
  kept = a;
  fits = λ h i m. ⊎_elim
      (λ (l : i < length p.nodes). fits_at job p q 1 i a l h)
      (λ (l : length p.nodes ≤ i). ⊎_elim
      (λ (e : get_or q.nodes i no_node ≡ n). subst (λ (x : Node). CellFits job q x.width x.kind) (sym e) fits)
      (λ (e : is_cell (get_or q.nodes i no_node).kind ≡ false). plain_fits job q _ _ e)
      (only i l m))
      (cases_lt i (length p.nodes));
}

pub added_then : (job : Job) (p q r : Held) (j k : ℕ) → Added job p q j → Added job q r k → Added job p r (j + k)
added_then job p q r j k a b = record { kept = kept_then p q r j k a.kept b.kept; fits = λ h. b.fits (a.fits h) }

pub added_more : (job : Job) (p q : Held) (j k : ℕ) → Added job p q j → j ≤ k → Added job p q k
added_more job p q j k a h = record { kept = kept_more p q j k a.kept h; fits = a.fits }

-- what a stage says
pub put_kept : (c : Cells) (p q : Held) (j w : ℕ) (o : Option NodeId) → Kept p q j → PutFits p w o → put_value c q o ≡ put_value c p o
put_kept c p q j w None a h = refl
put_kept c p q j w (Some n) a h = ap Some (a.same c n.0 h.inside)

pub put_fits : (p q : Held) (j w : ℕ) (o : Option NodeId) → Kept p q j → PutFits p w o → PutFits q w o
put_fits p q j w None a h = tt
put_fits p q j w (Some n) a h = wire_kept p q j n w a h

pub set_kept : (c : Cells) (p q : Held) (j w : ℕ) (o : Option Set) → Kept p q j → SetFits p w o → set_value c q o ≡ set_value c p o
set_kept c p q j w None a h = refl
set_kept c p q j w (Some s) a h = same_optional _ _ _ _ (a.tests c s.enabled.0 h.0.inside) (a.same c s.value.0 h.1.inside)

pub set_fits : (p q : Held) (j w : ℕ) (o : Option Set) → Kept p q j → SetFits p w o → SetFits q w o
set_fits p q j w None a h = tt
set_fits p q j w (Some s) a h = (wire_kept p q j s.enabled 1 a h.0, wire_kept p q j s.value w a h.1)

pub made_fit : (p q : Held) (j : ℕ) (ss : List GuessSlot) (made : List Made) → Kept p q j → MadeFit p ss made → MadeFit q ss made
made_fit p q j (s ∷ ss) (m ∷ made) a h = (wire_kept p q j m.pending 1 a h.0, wire_kept p q j m.value s.width a h.1, made_fit p q j ss made a h.2)
made_fit p q j _ _ a h = h

pub made_kept : (c : Cells) (p q : Held) (j : ℕ) (ss : List GuessSlot) (made : List Made) → Kept p q j → MadeFit p ss made → made_values c q ss made ≡ made_values c p ss made
made_kept c p q j [] [] a h = refl
made_kept c p q j [] (m ∷ made) a h = absurd h
made_kept c p q j (s ∷ ss) [] a h = absurd h
made_kept c p q j (s ∷ ss) (m ∷ made) a h =
    let b = a.tests c m.pending.0 h.0.inside in
    let v = a.same c m.value.0 h.1.inside in
    let r = made_kept c p q j ss made a h.2 in
    ap (λ (x : Bool). guess_value x (pending_guess s (at c q.nodes m.value.0)) (made_values c q ss made)) b
    ∙ ap (λ (x : ℕ). guess_value (on c p.nodes m.pending.0) (pending_guess s x) (made_values c q ss made)) v
    ∙ ap (guess_value (on c p.nodes m.pending.0) (pending_guess s (at c p.nodes m.value.0))) r

pub says_kept : (job : Job) (p q : Held) (j k : ℕ) (o : Outcome) → Kept p q j → Says job p k o → Says job q k o
says_kept job p q j k o a h = record {
  stall_wire = wire_kept p q j o.stall 1 a h.stall_wire;
  stall = test_kept job p q j 1 o.stall _ a h.stall_wire h.stall;
  miss_wire = wire_kept p q j o.miss 1 a h.miss_wire;
  miss = test_kept job p q j 1 o.miss _ a h.miss_wire h.miss;
  put_count = h.put_count;
  put_wires = λ x. put_fits p q j _ _ a (h.put_wires x);
  puts = λ c st i m x l. put_kept c p q j _ _ a (h.put_wires x) ∙ h.puts c st i m x l;
  set_count = h.set_count;
  set_wires = λ t. set_fits p q j _ _ a (h.set_wires t);
  sets = λ c st i m t l. set_kept c p q j _ _ a (h.set_wires t) ∙ h.sets c st i m t l;
  made_wires = made_fit p q j _ _ a h.made_wires;
  made = λ c st i m. made_kept c p q j _ _ a h.made_wires ∙ h.made c st i m;
  aim_count = h.aim_count;
  aim_wires = λ x. put_fits p q j _ _ a (h.aim_wires x);
  aims = λ c st i m x l. put_kept c p q j _ _ a (h.aim_wires x) ∙ h.aims c st i m x l;
}

pub ruleset adding = (grown_added, added_then, added_more)

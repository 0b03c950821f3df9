-- What the next nodes mean stays while the pool grows.
use Rattle.std.proofs.Common.{◌≡◌, ◌∙◌, ℕ, ◌<◌, ◌≤◌, Bool, true, false, cond, ◌==◌, List, [], ◌∷◌, ◌++◌, length, length-append, get_or, Option, Some, None, refl, sym, ap, subst, arith, ⊎_elim, eqb-true}
use Rattle.std.{proofs.lemmas.Bool.cases_lt, proofs.lemmas.List.get_or_push, proofs.Math.ListN.get_or-append, specs.Prelude.is_some}
use Rattle.kp_net.{proofs.Growing.wire_kept, specs.declared.netlist.WritePort.WritePort, specs.declared.node.NodeId.NodeId}
use Rattle.kp_net.specs.{Nodes.Cells, Nodes.at, Nodes.on, Growth.Held, Growth.Wire, Growth.Kept}
use Rattle.kp_synth_registers.{proofs.Growth.test_kept, proofs.Growth.gives_kept, specs.declared.outcome.Outcome.Outcome}
use Rattle.kp_synth_registers.specs.Holding.{Holds, kept_in, optional}
use Rattle.kp_synth_registers.specs.Meaning.{Says, IsTest, Gives, MayGive, node_at}
use Rattle.kp_synth_registers.proofs.Places.{carried, key_had}
use Rattle.kp_synth_registers.specs.declared.key.Key.{Key}
use Rattle.kp_synth_registers.specs.declared.key.Key.TheVariants.{Visible, Full, Pipe, Valid, Value, Pending, Guess, Hint}
use Rattle.kp_design.specs.Numbers.{guesses_of, guess_at, target_at}
use Rattle.kp_synth_registers.specs.Keys.{HasKey, keys_of, key_at, key_width}
use Rattle.kp_synth_next.specs.{declared.control.Control.Control, Control.AllSay, Control.Updating, Control.Controls, Control.NextsFrom, Control.PortsFrom}
use Rattle.kp_synth_next.specs.Nexts.{outcome_at, made_at, leaves_pending, leaves_with, NextIs, PortFits, port_word, Closes}
use Rattle.kp_synth_next.proofs.Made.{made_wires}
use Rattle.kp_ast.specs.declared.tree.Job.{Job}
use Rattle.kp_pipeline.specs.Pipeline.{PipelineState, Inputs, ue, next_visible}
use Rattle.kp_machine.{specs.Slots.targets_of, specs.Slots.is_register, specs.Machine.machine_of, proofs.Cases.by_test}

pub pending_kept : (job : Job) (p q : Held) (j k g : ℕ) (outs : List Outcome) (c : Cells) → Kept p q j → g < length (guesses_of job) → Says job p k (outcome_at outs k)
    → leaves_pending job q outs c k g (guess_at job g) ≡ leaves_pending job p outs c k g (guess_at job g)
pending_kept job p q j k g outs c a l says = by_test ((guess_at job g).stage == k)
    (λ e.
    let w = made_wires job p outs k g (guess_at job g) refl l (eqb-true (guess_at job g).stage k e) says in
    rw e (a.tests c (made_at outs (guess_at job g)).pending.0 w.0.inside))
    (λ e. rw e refl)

pub guessed_kept : (job : Job) (p q : Held) (j k g : ℕ) (outs : List Outcome) (c : Cells) → Kept p q j → g < length (guesses_of job) → Says job p k (outcome_at outs k)
    → leaves_with job q outs c k g (guess_at job g) ≡ leaves_with job p outs c k g (guess_at job g)
guessed_kept job p q j k g outs c a l says = by_test ((guess_at job g).stage == k)
    (λ e.
    let w = made_wires job p outs k g (guess_at job g) refl l (eqb-true (guess_at job g).stage k e) says in
    rw e (a.same c (made_at outs (guess_at job g)).value.0 w.1.inside))
    (λ e. rw e refl)

pub next_kept : (job : Job) (p q : Held) (j w : ℕ) (outs : List Outcome) (n : NodeId) (c : Cells) (st : PipelineState) (i : Inputs) (key : Key) → Kept p q j → Wire p n w
    → HasKey job key → AllSay job p outs → NextIs job p outs n c st i key → NextIs job q outs n c st i key
next_kept job p q j w outs n c st i (Visible t) a h has says e = a.same c n.0 h.inside ∙ e
next_kept job p q j w outs n c st i (Full k) a h has says e = a.tests c n.0 h.inside ∙ e
next_kept job p q j w outs n c st i (Pipe x k) a h has says e = a.same c n.0 h.inside ∙ e
next_kept job p q j w outs n c st i (Valid t k) a h has says e = a.tests c n.0 h.inside ∙ e
next_kept job p q j w outs n c st i (Value t k) a h has says e = λ v r. a.same c n.0 h.inside ∙ e v r
next_kept job p q j w outs n c st i (Pending g k) a h has says e = λ d z.
    let s = pending_kept job p q j d g outs c a has.0 (says.says d (omega (arith, has.2, z))) in
    a.tests c n.0 h.inside ∙ e d z ∙ ap (λ b. cond (ue (machine_of job) st i d) b (kept_in job c (Pending g k) == 1)) (sym s)
next_kept job p q j w outs n c st i (Guess g k) a h has says e = λ d z.
    let s = guessed_kept job p q j d g outs c a has.0 (says.says d (omega (arith, has.2, z))) in
    a.same c n.0 h.inside ∙ e d z ∙ ap (λ b. cond (ue (machine_of job) st i d) b (kept_in job c (Guess g k))) (sym s)
next_kept job p q j w outs n c st i (Hint x) a h has says e = a.same c n.0 h.inside ∙ e

-- what a bit and a value distinguish
is_some_of : (b : Bool) (v : ℕ) → is_some (optional b v) ≡ b
is_some_of true v = refl
is_some_of false v = refl

value_of : (b : Bool) (v y : ℕ) → optional b v ≡ Some y → v ≡ y
value_of true v y e = cc
value_of false v y e = cc

pub valid_next : (job : Job) (p : Held) (b v : NodeId) (f : PipelineState → Inputs → Option ℕ) → MayGive job p b v f
    → (c : Cells) (st : PipelineState) (i : Inputs) → Holds job c st i → on c p.nodes b.0 ≡ is_some (f st i)
unfolding MayGive
valid_next job p b v f h c st i m = sym (is_some_of (on c p.nodes b.0) (at c p.nodes v.0)) ∙ ap is_some (h c st i m)

pub value_next : (job : Job) (p : Held) (b v : NodeId) (f : PipelineState → Inputs → Option ℕ) → MayGive job p b v f
    → (c : Cells) (st : PipelineState) (i : Inputs) → Holds job c st i → (y : ℕ) → f st i ≡ Some y → at c p.nodes v.0 ≡ y
unfolding MayGive
value_next job p b v f h c st i m y e = value_of (on c p.nodes b.0) (at c p.nodes v.0) y (h c st i m ∙ e)

pub test_out : (job : Job) (p : Held) (n : NodeId) (f : PipelineState → Inputs → Bool) → IsTest job p n f → (c : Cells) (st : PipelineState) (i : Inputs) → Holds job c st i → on c p.nodes n.0 ≡ f st i
unfolding IsTest
test_out job p n f h = h

pub gives_out : (job : Job) (p : Held) (n : NodeId) (f : PipelineState → Inputs → ℕ) → Gives job p n f → (c : Cells) (st : PipelineState) (i : Inputs) → Holds job c st i → at c p.nodes n.0 ≡ f st i
unfolding Gives
gives_out job p n f h = h

-- a guess is pending in a later stage
pub guess_later : (job : Job) (g k : ℕ) → HasKey job (Pending g k) → 1 ≤ k
guess_later job g k h = let s = carried (guess_at job g) k h.1 in omega (arith, s.0)

pub updating_of : (job : Job) (p : Held) (d : Control) → Controls job p d → Updating job p d.updates
updating_of job p d h = h.updating

-- the same over calls that add to the pool
pub updating_kept : (job : Job) (p q : Held) (j : ℕ) (updates : List NodeId) → Kept p q j → Updating job p updates → Updating job q updates
updating_kept job p q j updates a h = record {
  few = h.few;
  wires = λ k l. wire_kept p q j (node_at updates k) 1 a (h.wires k l);
  is_test = λ k l. test_kept job p q j 1 (node_at updates k) _ a (h.wires k l) (h.is_test k l);
}

pub controls_kept : (job : Job) (p q : Held) (j : ℕ) (d : Control) → Kept p q j → Controls job p d → Controls job q d
controls_kept job p q j d a h = record {
  back_wire = wire_kept p q j d.back 4 a h.back_wire;
  back_gives = gives_kept job p q j 4 d.back _ a h.back_wire h.back_gives;
  swept_wires = λ k l. wire_kept p q j (node_at d.swept k) 1 a (h.swept_wires k l);
  swept_test = λ k l. test_kept job p q j 1 (node_at d.swept k) _ a (h.swept_wires k l) (h.swept_test k l);
  updating = updating_kept job p q j d.updates a h.updating;
}

-- what holds of each entry of a list holds with one more
pushed : {A : Type 0} (F : ℕ → A → Type 0) (xs : List A) (x d : A) → ((r : ℕ) → r < length xs → F r (get_or xs r d)) → F (length xs) x
    → (r : ℕ) → r < length (xs ++ x ∷ []) → F r (get_or (xs ++ x ∷ []) r d)
pushed F xs x d old new r l = ⊎_elim
    (λ (b : r < length xs). subst (F r) (sym (get_or-append xs (x ∷ []) d r b)) (old r b))
    (λ (b : length xs ≤ r). let z : length xs ≡ r = omega (arith, l, length-append xs (x ∷ [])) in
    subst (F r) (sym (get_or_push xs x d r z)) (subst (λ s. F s x) z new))
    (cases_lt r (length xs))

pub nexts_more : (job : Job) (p q : Held) (j w : ℕ) (outs : List Outcome) (nexts : List NodeId) (n : NodeId) → Kept p q j → AllSay job p outs → NextsFrom job p outs nexts
    → length nexts < length (keys_of job) → Wire q n (key_width job (key_at job (length nexts)))
    → ((c : Cells) (st : PipelineState) (i : Inputs) → Holds job c st i → NextIs job q outs n c st i (key_at job (length nexts)))
    → NextsFrom job q outs (nexts ++ n ∷ [])
nexts_more job p q j w outs nexts n a says h l wire next = record {
  few = omega (arith, length-append nexts (n ∷ []), l);
  wires = pushed (λ (r : ℕ) (x : NodeId). Wire q x (key_width job (key_at job r))) nexts n (record { 0 = 0 }) (λ r b. wire_kept p q j (node_at nexts r) _ a (h.wires r b)) wire;
  next = λ c st i k. pushed (λ (r : ℕ) (x : NodeId). NextIs job q outs x c st i (key_at job r)) nexts n (record { 0 = 0 })
      (λ r b. next_kept job p q j _ outs (node_at nexts r) c st i (key_at job r) a (h.wires r b) (key_had job r (omega (arith, b, l))) says (h.next c st i k r b)) (next c st i k);
}

-- WRITE PORTS.
fits_kept : (job : Job) (p q : Held) (j t : ℕ) (o : Option WritePort) → Kept p q j → PortFits job p t o → PortFits job q t o
fits_kept job p q j t None a h = tt
fits_kept job p q j t (Some o) a h = (wire_kept p q j o.enable 1 a h.0, wire_kept p q j o.address _ a h.1, wire_kept p q j o.value _ a h.2)

port_kept : (job : Job) (p q : Held) (j t : ℕ) (o : Option WritePort) (c : Cells) (a v : ℕ) → Kept p q j → PortFits job p t o → port_word c q o a v ≡ port_word c p o a v
port_kept job p q j t None c a v k h = refl
port_kept job p q j t (Some o) c a v k h =
    let e = k.tests c o.enable.0 h.0.inside in
    let f = k.same c o.address.0 h.1.inside in
    let g = k.same c o.value.0 h.2.inside in
    rw (e, f, g) refl

pub ports_more : (job : Job) (p q : Held) (j : ℕ) (ports : List (Option WritePort)) (o : Option WritePort) → Kept p q j → PortsFrom job p ports
    → length ports < length (targets_of job.decls) → PortFits job q (length ports) o
    → (is_register (target_at job (length ports)) ≡ false → (c : Cells) (st : PipelineState) (i : Inputs) → Holds job c st i
    → (a : ℕ) → next_visible (machine_of job) st i (length ports) a ≡ port_word c q o a (st.visible (length ports) a))
    → PortsFrom job q (ports ++ o ∷ [])
ports_more job p q j ports o k h l fit is = record {
  few = omega (arith, length-append ports (o ∷ []), l);
  fits = pushed (PortFits job q) ports o None (λ t b. fits_kept job p q j t _ k (h.fits t b)) fit;
  port = λ c st i w t m f a. pushed (λ (t : ℕ) (x : Option WritePort). is_register (target_at job t) ≡ false → next_visible (machine_of job) st i t a ≡ port_word c q x a (st.visible t a)) ports o None
      (λ t b g. h.port c st i w t b g a ∙ sym (port_kept job p q j t _ c a (st.visible t a) k (h.fits t b))) (λ g. is g c st i w a) t m f;
}

-- What the loops gave closes the netlist.
pub closes : (job : Job) (p : Held) (outs : List Outcome) (nexts : List NodeId) (ports : List (Option WritePort)) → AllSay job p outs → NextsFrom job p outs nexts → PortsFrom job p ports
    → length nexts ≡ length (keys_of job) → length ports ≡ length (targets_of job.decls) → Closes job p outs (node_at nexts) (λ t. get_or ports t None)
closes job p outs nexts ports says n o e f = record {
  says = says.says;
  wires = λ r l. n.wires r (omega (arith, l, e));
  next = λ c st i h r l. n.next c st i h r (omega (arith, l, e));
  port_wires = λ t l g. o.fits t (omega (arith, l, f));
  port = λ c st i h t a l g m. o.port c st i h t (omega (arith, l, f)) g a;
}

pub nexts_kept : (job : Job) (p q : Held) (j : ℕ) (outs : List Outcome) (nexts : List NodeId) → Kept p q j → AllSay job p outs → NextsFrom job p outs nexts → NextsFrom job q outs nexts
nexts_kept job p q j outs nexts a says h = record {
  few = h.few;
  wires = λ r l. wire_kept p q j (node_at nexts r) _ a (h.wires r l);
  next = λ c st i k r l. next_kept job p q j _ outs (node_at nexts r) c st i (key_at job r) a (h.wires r l) (key_had job r (omega (arith, l, h.few))) says (h.next c st i k r l);
}

pub ports_kept : (job : Job) (p q : Held) (j : ℕ) (ports : List (Option WritePort)) → Kept p q j → PortsFrom job p ports → PortsFrom job q ports
ports_kept job p q j ports a h = record {
  few = h.few;
  fits = λ t l. fits_kept job p q j t _ a (h.fits t l);
  port = λ c st i k t l f b. h.port c st i k t l f b ∙ sym (port_kept job p q j t _ c b (st.visible t b) a (h.fits t l));
}

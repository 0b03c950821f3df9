-- What a target takes, by the tables.
use Rattle.std.proofs.Common.{◌≡◌, ◌∙◌, ℕ, ◌<◌, Bool, true, false, cond, ◌&&◌, ◌==◌, ◌^◌, eqb-true, length, Option, Some, None, refl, sym, ap, subst, arith}
use Rattle.std.{proofs.Math.Bool.and-true, proofs.Math.Bool.and_assoc, proofs.lemmas.Bool.cond-true, specs.Prelude.unwrap_or, specs.Prelude.is_some}
use Rattle.kp_ast.specs.declared.tree.{Named.Named, ResultDecl.ResultDecl, Job.Job}
use Rattle.kp_pipeline.specs.Sequential.{first_value, intends}
use Rattle.kp_pipeline.specs.Pipeline.{PipelineState, Inputs, ue, outcome, next_visible}
use Rattle.kp_machine.specs.Slots.{pipes_of, targets_of, is_register}
use Rattle.kp_machine.specs.Machine.{machine_of, result_for, write_stage_of, is_enabled_by, address_by, enabled_of, address_in}
use Rattle.kp_net.specs.{declared.node.NodeId.NodeId, Nodes.Cells, Nodes.at, Nodes.on, Growth.Held, Growth.Wire, Growth.Kept}
use Rattle.kp_design.specs.{declared.layout.Port.Port, Numbers.target_at}
use Rattle.kp_synth_registers.specs.declared.key.Key.TheVariants.{Visible}
use Rattle.kp_design.specs.Fits.{pipe_number, port_for, port_at, ResultFits, AddressFits}
use Rattle.kp_synth_registers.specs.{Holding.Holds, Holding.optional, Holding.kept_in, Holding.own_word, Meaning.IsTest, Meaning.Gives, Meaning.MayGive}
use Rattle.kp_synth_next.specs.{Nexts.port_word, inner.Written.writes, inner.Written.written_value, inner.Written.enabled_pipe, inner.Written.address_pipe}
use Rattle.kp_synth_next.proofs.Bits.{test_kept}

enable_number : (job : Job) (o : Option Named) (values : ℕ → ℕ) → is_enabled_by (pipes_of job.decls) values o ≡ enabled_pipe (pipe_number job o) values
enable_number job None values = refl
enable_number job (Some n) values = refl

address_number : (job : Job) (o : Option Named) (values : ℕ → ℕ) → address_by (pipes_of job.decls) values o ≡ address_pipe (pipe_number job o) values
address_number job None values = refl
address_number job (Some n) values = refl

some_port : (x y : Port) → Some x ≡ Some y → x ≡ y
some_port x y e = cc

-- what the machine has of a target with a result
pub record HasPort (job : Job) (t : ℕ) (port : Port) : Type 0 where
  pub has : is_some (result_for job t) ≡ true
  pub write : write_stage_of (result_for job t) ≡ port.write
  pub enabled : (values : ℕ → ℕ) → enabled_of (pipes_of job.decls) values (result_for job t) ≡ enabled_pipe port.enable values
  pub address : (values : ℕ → ℕ) → address_in (pipes_of job.decls) values (result_for job t) ≡ address_pipe port.address values

of_result : (job : Job) (t : ℕ) (port : Port) (o : Option ResultDecl) → port_for job t o ≡ Some port
    → (is_some o ≡ true) × (write_stage_of o ≡ port.write) × ((values : ℕ → ℕ) → enabled_of (pipes_of job.decls) values o ≡ enabled_pipe port.enable values)
    × ((values : ℕ → ℕ) → address_in (pipes_of job.decls) values o ≡ address_pipe port.address values)
of_result job t port None e = cc
of_result job t port (Some r) e =
    let f = some_port _ port e in (
      refl,
      ap (λ (p : Port). p.write) f,
      λ values. enable_number job r.enable values ∙ ap (λ (p : Port). enabled_pipe p.enable values) f,
      λ values. address_number job r.address values ∙ ap (λ (p : Port). address_pipe p.address values) f,
    )

pub has_port : (job : Job) (t : ℕ) (port : Port) → port_at job t ≡ Some port → HasPort job t port
has_port job t port e = let h = of_result job t port (result_for job t) e in record { has = h.0; write = h.1; enabled = h.2; address = h.3 }

no_result : (job : Job) (t : ℕ) (o : Option ResultDecl) → port_for job t o ≡ None → is_some o ≡ false
no_result job t None e = refl
no_result job t (Some r) e = cc

-- what a target takes
pub visible_is : (job : Job) (st : PipelineState) (i : Inputs) (t a : ℕ) (port : Port) → port_at job t ≡ Some port
    → next_visible (machine_of job) st i t a
    ≡ cond (writes job t port.write st i && (address_pipe port.address (st.stage port.write).instruction.pipes == a)) (written_value job t port.write st i) (st.visible t a)
unfolding next_visible machine_of
visible_is job st i t a port e =
    let h = has_port job t port e in
    let d = h.enabled (st.stage port.write).instruction.pipes in
    let f = h.address (st.stage port.write).instruction.pipes in
    rw (h.write, h.has, f) (ap (λ (b : Bool). cond b (written_value job t port.write st i) (st.visible t a)) (sym (and_assoc (ue (machine_of job) st i port.write) _ _)))

stays : (u b : Bool) (v w : ℕ) → cond (u && (false && b)) v w ≡ w
stays true b v w = refl
stays false b v w = refl

pub visible_stays : (job : Job) (st : PipelineState) (i : Inputs) (t a : ℕ) → port_at job t ≡ None → next_visible (machine_of job) st i t a ≡ st.visible t a
unfolding next_visible machine_of
visible_stays job st i t a e =
    let h = no_result job t (result_for job t) e in
    rw h (stays _ (intends (machine_of job) (st.stage ((machine_of job).write_stage t)).instruction t a) _ _)

-- the nodes
pub writes_none : (job : Job) (p : Held) (t : ℕ) (port : Port) (u : NodeId) → port_at job t ≡ Some port → port.enable ≡ None
    → IsTest job p u (λ st i. ue (machine_of job) st i port.write) → IsTest job p u (writes job t port.write)
unfolding IsTest machine_of
writes_none job p t port u e f h = λ c st i m.
    let d = (has_port job t port e).enabled (st.stage port.write).instruction.pipes ∙ ap (λ o. enabled_pipe o (st.stage port.write).instruction.pipes) f in
    h c st i m ∙ rw d (sym (and-true (ue (machine_of job) st i port.write)))

pub writes_some : (job : Job) (p q r : Held) (j t x w : ℕ) (port : Port) (u n b : NodeId) → port_at job t ≡ Some port → port.enable ≡ Some x → Kept p q j → Wire p u w
    → IsTest job p u (λ st i. ue (machine_of job) st i port.write) → Gives job q n (λ st i. (st.stage port.write).instruction.pipes x)
    → ((c : Cells) → on c r.nodes b.0 ≡ (on c q.nodes u.0 && on c q.nodes n.0)) → IsTest job r b (writes job t port.write)
unfolding IsTest Gives machine_of
writes_some job p q r j t x w port u n b e f k l h g v = λ c st i m.
    let d = (has_port job t port e).enabled (st.stage port.write).instruction.pipes ∙ ap (λ o. enabled_pipe o (st.stage port.write).instruction.pipes) f in
    let a = k.tests c u.0 l.inside ∙ h c st i m in
    let z = test_kept c q n _ (g c st i m) in
    v c ∙ rw (a, z, d) refl

or_zero : (b : Bool) (v : ℕ) → cond b v 0 ≡ unwrap_or (optional b v) 0
or_zero true v = refl
or_zero false v = refl

pub value_is : (job : Job) (p q r : Held) (j t k w : ℕ) (e v z n : NodeId) → Kept p q j → Wire p e 1 → Wire p v w
    → MayGive job p e v (λ st i. first_value ((st.stage k).instruction.results t) ((outcome (machine_of job) st i k).sets t))
    → ((c : Cells) → at c q.nodes z.0 ≡ 0) → ((c : Cells) → at c r.nodes n.0 ≡ cond (on c q.nodes e.0) (at c q.nodes v.0) (at c q.nodes z.0))
    → Gives job r n (written_value job t k)
unfolding Gives MayGive
value_is job p q r j t k w e v z n a f g m h b = λ c st i l.
    let x = a.tests c e.0 f.inside in
    let y = a.same c v.0 g.inside in
    b c ∙ rw (x, y, h c) (or_zero (on c p.nodes e.0) (at c p.nodes v.0)) ∙ ap (λ o. unwrap_or o 0) (m c st i l)

-- a register
pub address_none : (job : Job) (t : ℕ) (port : Port) → ResultFits job t (Some port) → is_register (target_at job t) ≡ true → port.address ≡ None
address_none job t port fits e = none_of port.address fits.2 where
  none_of : (o : Option ℕ) → AddressFits job t o → o ≡ None
  none_of None f = refl
  none_of (Some q) f = (let z : true ≡ false = sym e ∙ f.0 in cc)

own_value : (job : Job) (c : Cells) (st : PipelineState) (i : Inputs) (t : ℕ) → t < length (targets_of job.decls) → is_register (target_at job t) ≡ true → Holds job c st i
    → kept_in job c (Visible t) ≡ st.visible t 0
unfolding own_word
own_value job c st i t l e h =
    let z : (target_at job t).address ≡ 0 = eqb-true (target_at job t).address 0 e in
    let m : 0 < 2 ^ (target_at job t).address = subst (λ (w : ℕ). 0 < 2 ^ w) (sym z) (omega arith) in
    sym (cond-true (is_register (target_at job t)) (kept_in job c (Visible t)) _ e) ∙ h.visible t 0 l m

pub register_none : (job : Job) (p : Held) (t : ℕ) (o : NodeId) → t < length (targets_of job.decls) → is_register (target_at job t) ≡ true → port_at job t ≡ None
    → ((c : Cells) → at c p.nodes o.0 ≡ kept_in job c (Visible t)) → Gives job p o (λ st i. next_visible (machine_of job) st i t 0)
unfolding Gives
register_none job p t o l e f v = λ c st i h. v c ∙ own_value job c st i t l e h ∙ sym (visible_stays job st i t 0 f)

pub register_some : (job : Job) (p q r : Held) (j t w : ℕ) (port : Port) (b v o n : NodeId) → t < length (targets_of job.decls) → is_register (target_at job t) ≡ true
    → port_at job t ≡ Some port → ResultFits job t (Some port) → Kept p q j → Wire p o w → ((c : Cells) → at c p.nodes o.0 ≡ kept_in job c (Visible t))
    → IsTest job q b (writes job t port.write) → Gives job q v (written_value job t port.write)
    → ((c : Cells) → at c r.nodes n.0 ≡ cond (on c q.nodes b.0) (at c q.nodes v.0) (at c q.nodes o.0))
    → Gives job r n (λ st i. next_visible (machine_of job) st i t 0)
unfolding Gives IsTest
register_some job p q r j t w port b v o n l e f fits a g m x y z = λ c st i h.
    let own : at c q.nodes o.0 ≡ st.visible t 0 = a.same c o.0 g.inside ∙ m c ∙ own_value job c st i t l e h in
    let no = address_none job t port fits e in
    let new : at c r.nodes n.0 ≡ cond (writes job t port.write st i) (written_value job t port.write st i) (st.visible t 0) = z c ∙ rw (x c st i h, y c st i h, own) refl in
    let due : next_visible (machine_of job) st i t 0 ≡ cond (writes job t port.write st i) (written_value job t port.write st i) (st.visible t 0) =
    visible_is job st i t 0 port f ∙ rw no (ap (λ d. cond d (written_value job t port.write st i) (st.visible t 0)) (and-true (writes job t port.write st i))) in
    new ∙ sym due

-- a file
pub port_none : (job : Job) (p : Held) (t : ℕ) → port_at job t ≡ None → (c : Cells) (st : PipelineState) (i : Inputs) → Holds job c st i
    → (a : ℕ) → next_visible (machine_of job) st i t a ≡ port_word c p None a (st.visible t a)
port_none job p t e c st i h a = visible_stays job st i t a e

pub port_some : (job : Job) (q r : Held) (j t w : ℕ) (port : Port) (b v d : NodeId) → port_at job t ≡ Some port → Kept q r j → Wire q b 1 → Wire q v w
    → IsTest job q b (writes job t port.write) → Gives job q v (written_value job t port.write)
    → Gives job r d (λ st i. address_pipe port.address (st.stage port.write).instruction.pipes)
    → (c : Cells) (st : PipelineState) (i : Inputs) → Holds job c st i
    → (a : ℕ) → next_visible (machine_of job) st i t a ≡ port_word c r (Some (record { enable = b; address = d; value = v })) a (st.visible t a)
unfolding Gives IsTest
port_some job q r j t w port b v d e k f g x y z c st i h a =
    let xx : on c r.nodes b.0 ≡ writes job t port.write st i = k.tests c b.0 f.inside ∙ x c st i h in
    let yy : at c r.nodes v.0 ≡ written_value job t port.write st i = k.same c v.0 g.inside ∙ y c st i h in
    let zz : at c r.nodes d.0 ≡ address_pipe port.address (st.stage port.write).instruction.pipes = z c st i h in
    visible_is job st i t a port e ∙ sym (rw (xx, yy, zz) refl)

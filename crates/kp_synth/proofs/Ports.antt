-- What a stage adds to a target.
use Rattle.std.proofs.Common.{◌≡◌, ◌∙◌, ℕ, ◌+◌, ◌<◌, ◌≤◌, ◌^◌, Bool, true, false, ◌&&◌, ◌==◌, eqb, leb, List, ◌∷◌, length, Option, Some, None, refl, sym, ap, subst, arith, eqb-true}
use Rattle.std.specs.Prelude.{is_some}
use Rattle.kp_ast.specs.declared.tree.{Named.Named, ResultDecl.ResultDecl, Job.Job}
use Rattle.kp_pipeline.specs.Sequential.{Instruction, intends}
use Rattle.kp_pipeline.specs.Pipeline.{PipelineState, Inputs, is_candidate, intent_known, ok_value, stall, outcome}
use Rattle.kp_machine.specs.Slots.{pipes_of}
use Rattle.kp_machine.specs.Machine.{machine_of, result_for, write_stage_of, is_enabled_by, address_by, enabled_of, address_in}
use Rattle.kp_net.specs.{declared.node.NodeId.NodeId, Nodes.Cells, Nodes.at, Nodes.on, Growth.Held, Growth.Wire, Growth.Kept}
use Rattle.kp_net.proofs.Growing.{kept_then}
use Rattle.kp_fwd.specs.Forward.{BitOk, enable_on}
use Rattle.kp_synth_registers.specs.{declared.outcome.Set.Set, Holding.Holds, Holding.optional}
use Rattle.kp_synth_registers.specs.Meaning.{IsTest, MayGive, SetFits, set_value}
use Rattle.kp_synth_registers.proofs.Growth.{test_kept, may_give_kept, set_kept}
use Rattle.kp_design.specs.{declared.layout.Port.Port, Numbers.target_at, Spans.set_after, Fits.pipe_number, Fits.port_for, Fits.port_at, Fits.AddressFits}
use Rattle.kp_synth_stage.specs.declared.row.{Row.Row, Source.Source, Own.Own}
use Rattle.kp_synth_stage.specs.Rows.{AddressOk, address_is, RowOk, RowsOk, OwnOk, SourceOk}
use Rattle.kp_synth_stage.proofs.Nearest.{source_kept, enable_kept}
use Rattle.kp_synth.specs.inner.{Seeing.Nearer, Whole.enabled_by, Whole.addressed_by, Whole.SetMeans}
use Rattle.kp_synth.proofs.Downward.{nearer_row, row_means}

-- a bit by the value of its node
pub bit_value : (c : Cells) (p : Held) (n : NodeId) (v : ℕ) → at c p.nodes n.0 ≡ v → on c p.nodes n.0 ≡ (v == 1)
unfolding on
bit_value c p n v e = ap (λ (x : ℕ). x == 1) e

-- the result that a port was made of
pub record PortIs (job : Job) (t : ℕ) (p : Port) : Type 0 where
  pub result : ResultDecl
  pub is : result_for job t ≡ Some result
  pub write : p.write ≡ result.stage.value
  pub known : p.known ≡ (machine_of job).known_from t
  pub enable : p.enable ≡ pipe_number job result.enable
  pub address : p.address ≡ pipe_number job result.address

pub port_is : (job : Job) (t : ℕ) (p : Port) → port_at job t ≡ Some p → PortIs job t p
port_is job t p e = by_result (result_for job t) refl e
  where
    by_result : (o : Option ResultDecl) → result_for job t ≡ o → port_for job t o ≡ Some p → PortIs job t p
    by_result None f e = cc
    by_result (Some r) f e =
        let z : p ≡ record { write = r.stage.value; known = (machine_of job).known_from t; set = set_after r.name.name 0 job.blocks; enable = pipe_number job r.enable; address = pipe_number job r.address } = cc in
        record { result = r; is = f; write = ap (λ (x : Port). x.write) z; known = ap (λ (x : Port). x.known) z; enable = ap (λ (x : Port). x.enable) z; address = ap (λ (x : Port). x.address) z }

pub no_port : (job : Job) (t : ℕ) → port_at job t ≡ None → result_for job t ≡ None
no_port job t e = by_result (result_for job t) e
  where
    by_result : (o : Option ResultDecl) → port_for job t o ≡ None → o ≡ None
    by_result None e = refl
    by_result (Some r) e = cc

pub no_candidate : (job : Job) (k t : ℕ) → port_at job t ≡ None → is_candidate (machine_of job) k t ≡ false
unfolding machine_of
no_candidate job k t e = ap (λ (o : Option ResultDecl). is_some o && leb k (write_stage_of o)) (no_port job t e)

pub candidate_by : (job : Job) (k t : ℕ) (p : Port) → port_at job t ≡ Some p → is_candidate (machine_of job) k t ≡ leb k p.write
unfolding machine_of
candidate_by job k t p e = let x = port_is job t p e in
    ap (λ (o : Option ResultDecl). is_some o && leb k (write_stage_of o)) x.is ∙ ap (leb k) (sym x.write)

last_by : (job : Job) (k t : ℕ) (p : Port) → port_at job t ≡ Some p → eqb k ((machine_of job).write_stage t) ≡ eqb k p.write
unfolding machine_of
last_by job k t p e = let x = port_is job t p e in ap (λ (o : Option ResultDecl). eqb k (write_stage_of o)) x.is ∙ ap (eqb k) (sym x.write)

known_by : (job : Job) (k t : ℕ) (p : Port) → port_at job t ≡ Some p → intent_known (machine_of job) k t ≡ leb p.known k
known_by job k t p e = ap (λ (n : ℕ). leb n k) (sym (port_is job t p e).known)

enabled_same : (job : Job) (values : ℕ → ℕ) (o : Option Named) → enabled_by values (pipe_number job o) ≡ is_enabled_by (pipes_of job.decls) values o
enabled_same job values None = refl
enabled_same job values (Some n) = refl

addressed_same : (job : Job) (t a : ℕ) (values : ℕ → ℕ) (o : Option Named) → AddressFits job t (pipe_number job o) → a < 2 ^ (target_at job t).address
    → addressed_by values (pipe_number job o) a ≡ eqb (address_by (pipes_of job.decls) values o) a
addressed_same job t a values None h l =
    let z : (target_at job t).address ≡ 0 = eqb-true _ _ h in
    let m : a < 2 ^ 0 = subst (λ n. a < 2 ^ n) z l in
    let y : 0 ≡ a = omega arith in
    subst (λ n. true ≡ eqb 0 n) y refl
addressed_same job t a values (Some n) h l = refl

-- THE INTENT of an instruction, by the pipes of the result
pub intent_by : (job : Job) (t : ℕ) (p : Port) → port_at job t ≡ Some p → AddressFits job t p.address → (x : Instruction) (a : ℕ) → a < 2 ^ (target_at job t).address
    → (enabled_by x.pipes p.enable && addressed_by x.pipes p.address a) ≡ intends (machine_of job) x t a
unfolding machine_of
intent_by job t p e fits x a l =
    let y = port_is job t p e in
    let ps = pipes_of job.decls in
    let f : AddressFits job t (pipe_number job y.result.address) = subst (λ (o : Option ℕ). AddressFits job t o) y.address fits in
    let u : enabled_by x.pipes p.enable ≡ enabled_of ps x.pipes (result_for job t) =
    ap (enabled_by x.pipes) y.enable ∙ enabled_same job x.pipes y.result.enable ∙ sym (ap (enabled_of ps x.pipes) y.is) in
    let v : addressed_by x.pipes p.address a ≡ eqb (address_in ps x.pipes (result_for job t)) a =
    ap (λ (o : Option ℕ). addressed_by x.pipes o a) y.address ∙ addressed_same job t a x.pipes y.result.address f l ∙ sym (ap (λ (o : Option ResultDecl). eqb (address_in ps x.pipes o) a) y.is) in
    λ i. u i && v i

address_kept : (c : Cells) (p q : Held) (k w a : ℕ) (o : Option NodeId) → Kept p q k → AddressOk p w o → address_is c q o a ≡ address_is c p o a
address_kept c p q k w a None g b = refl
address_kept c p q k w a (Some n) g b = ap (λ (v : ℕ). v == a) (g.same c n.0 b.inside)

-- a row of stage k for target t; p, then p1 after the stored result, p2 after the enable, p3 after the address, and q after the row
module _ (job : Job) (k t : ℕ) (port : Port) (is : port_at job t ≡ Some port) (fits : AddressFits job t port.address)
    (p p1 p2 p3 q : Held) (g1 : Kept p p1 2) (g2 : Kept p1 p2 1) (g3 : Kept p2 p3 1) (g4 : Kept p3 q 12)
    (stored : Set) (enable address : Option NodeId) (set : Option Set) (full halt : NodeId) (r : Row) (known last : Bool) (w : ℕ)
    (valid_wire : Wire p1 stored.enabled 1) (value_wire : Wire p1 stored.value w) (gives : MayGive job p1 stored.enabled stored.value (λ st i. (st.stage k).instruction.results t))
    (bit : BitOk p2 enable) (enables : (c : Cells) (st : PipelineState) (i : Inputs) → Holds job c st i → enable_on c p2 enable ≡ enabled_by (st.stage k).instruction.pipes port.enable)
    (wide : AddressOk p3 (target_at job t).address address)
    (addresses : (c : Cells) (st : PipelineState) (i : Inputs) → Holds job c st i → (a : ℕ) → address_is c p3 address a ≡ addressed_by (st.stage k).instruction.pipes port.address a)
    (set_wires : SetFits p w set) (sets : SetMeans job p k t set)
    (full_wire : Wire p full 1) (fulls : IsTest job p full (λ st i. (st.stage k).full)) (halt_wire : Wire p halt 1) (halts : IsTest job p halt (λ st i. stall (machine_of job) st i k))
    (knows : known ≡ leb port.known k) (ends : last ≡ eqb k port.write)
    (hits : (r.full ≡ full) × (r.known ≡ known) × (r.enable ≡ enable) × (r.address ≡ address))
    (value : (c : Cells) → optional (on c q.nodes r.ok.0) (at c q.nodes r.value.0)
    ≡ ok_value known (optional (on c p3.nodes stored.enabled.0) (at c p3.nodes stored.value.0)) (on c p3.nodes halt.0) (set_value c p3 set) last) where
  g24 : Kept p2 q 13
  g24 = kept_then p2 p3 q 1 12 g3 g4

  g13 : Kept p1 p3 2
  g13 = kept_then p1 p2 p3 1 1 g2 g3

  g03 : Kept p p3 4
  g03 = kept_then p p1 p3 2 2 g1 g13

  g04 : Kept p q 16
  g04 = kept_then p p3 q 4 12 g03 g4

  intends_here : (c : Cells) (st : PipelineState) (i : Inputs) → Holds job c st i → (a : ℕ) → a < 2 ^ (target_at job t).address
      → (enable_on c q r.enable && address_is c q r.address a) ≡ intends (machine_of job) (st.stage k).instruction t a
  intends_here c st i h a l =
      let e : enable_on c q r.enable ≡ enabled_by (st.stage k).instruction.pipes port.enable = ap (enable_on c q) hits.2 ∙ enable_kept c p2 q 13 enable g24 bit ∙ enables c st i h in
      let d : address_is c q r.address a ≡ addressed_by (st.stage k).instruction.pipes port.address a =
      ap (λ (o : Option NodeId). address_is c q o a) hits.3 ∙ address_kept c p3 q 12 (target_at job t).address a address g4 wide ∙ addresses c st i h a in
      (λ j. e j && d j) ∙ intent_by job t port is fits (st.stage k).instruction a l

  full_here : IsTest job q r.full (λ st i. (st.stage k).full)
  full_here = subst (λ (n : NodeId). IsTest job q n (λ st i. (st.stage k).full)) (sym hits.0) (test_kept job p q 16 1 full _ g04 full_wire fulls)

  value_here : (c : Cells) (st : PipelineState) (i : Inputs) → Holds job c st i → optional (on c q.nodes r.ok.0) (at c q.nodes r.value.0)
      ≡ ok_value (intent_known (machine_of job) k t) ((st.stage k).instruction.results t) (stall (machine_of job) st i k) ((outcome (machine_of job) st i k).sets t) (eqb k ((machine_of job).write_stage t))
  unfolding MayGive IsTest SetMeans
  value_here c st i h =
      let a = knows ∙ sym (known_by job k t port is) in
      let b = may_give_kept job p1 p3 2 w stored.enabled stored.value (λ st i. (st.stage k).instruction.results t) g13 valid_wire value_wire gives c st i h in
      let d = test_kept job p p3 4 1 halt (λ st i. stall (machine_of job) st i k) g03 halt_wire halts c st i h in
      let e = set_kept c p p3 4 w set g03 set_wires ∙ sets c st i h in
      let f = ends ∙ sym (last_by job k t port is) in
      value c ∙ (λ j. ok_value (a j) (b j) (d j) (e j) (f j))

  pub row_nearer : (s s' : Source) → SourceOk job p t s → leb k port.write ≡ true → s'.own ≡ s.own → s'.width ≡ s.width → s'.rows.items ≡ r ∷ s.rows.items → Nearer job k t p s q s'
  row_nearer s s' ok early own width rows =
      nearer_row job k t p q 16 s s' r g04 ok (candidate_by job k t port is ∙ early)
      (row_means job k t q r (hits.1 ∙ knows ∙ sym (known_by job k t port is)) full_here (λ c st i h y. intends_here c st i h) value_here) own width rows

-- a source with one more row
pub source_more : (job : Job) (t : ℕ) (p q : Held) (m : ℕ) (s s' : Source) (r : Row) → Kept p q m → SourceOk job p t s → RowOk q (target_at job t).address (target_at job t).width r
    → length s.rows.items + 2 ≤ job.stages.value → s'.own ≡ s.own → s'.width ≡ s.width → s'.rows.items ≡ r ∷ s.rows.items → SourceOk job q t s'
source_more job t p q m s s' r g ok row few own width rows =
    let o = source_kept job p q m t s g ok in
    record {
      width = width ∙ o.width;
      positive = subst (λ n. 1 ≤ n) (sym width) o.positive;
      at_most = subst (λ n. n ≤ 64) (sym width) o.at_most;
      own = subst (λ (x : Own). OwnOk job q t x) (sym own) o.own;
      rows = subst (λ (xs : List Row). RowsOk q (target_at job t).address (target_at job t).width xs) (sym rows) (row, o.rows);
      few = subst (λ (xs : List Row). length xs + 1 ≤ job.stages.value) (sym rows) (let e : length (r ∷ s.rows.items) + 1 ≡ length s.rows.items + 2 = omega arith in subst (λ n. n ≤ job.stages.value) (sym e) few);
      stages = o.stages;
    }

-- Each wire of the table is true.
use Rattle.std.proofs.Common.{◌≡◌, ◌∙◌, ℕ, zero, suc, ◌+◌, ◌<◌, ◌==◌, Bool, true, false, cond, List, [], ◌∷◌, ◌++◌, All, length, get_or, Option, Some, None, is_some, refl, sym, ap, subst, arith}
use Rattle.std.{proofs.lemmas.List.Elements.All-append, specs.Option.option_map, specs.Prelude.slice_get}
use Rattle.kp_bits.specs.Word.{Word}
use Rattle.kp_ast.specs.{Expressions.look_up, declared.tree.Job.Job, declared.tree.Stmt.Stmt, declared.tree.StmtKind.StmtKind}
use Rattle.kp_ast.specs.declared.tree.StmtKind.TheVariants as stmts
use Rattle.kp_pipeline.specs.Pipeline.{PipelineState, Inputs, outcome}
use Rattle.kp_machine.specs.{Machine.machine_of, Slots.hints_of, Slots.pipes_of, Slots.targets_of}
use Rattle.kp_net.specs.{Growth.Held, Netlist.Net, Nodes.Cells, Nodes.at, Nodes.on, Nodes.word_at, Widths.no_node, declared.node.NodeId.NodeId}
use Rattle.kp_build.specs.Names.{Scope, node_of, word_of}
use Rattle.kp_synth_registers.specs.{Holding.Holds, Holding.optional, Meaning.IsTest, Meaning.Says, Meaning.put_value, Meaning.set_value, declared.outcome.Outcome.Outcome, declared.outcome.Set.Set}
use Rattle.kp_synth_stage.specs.Work.{stmts_at}
use Rattle.kp_synth_next.specs.Nexts.{outcome_at}
use Rattle.kp_synth.specs.Known.{HasStages, Named, names_in, no_names}
use Rattle.kp_wires.specs.Table.{AreWires, below, is_constant, wire_of, bound_wire, stmt_wire, set_wires, bound_wires, put_wires, all_set_wires, aim_wires, stage_wires, wires_of}
use Rattle.kp_wires.specs.{Texts.bound_name, Texts.name_in, Texts.stmt_name, Truth.Has, Truth.HasName, Truth.IsTrue, declared.wire.Signal.Signal, declared.wire.Wire.Wire}
use Rattle.kp_wires.specs.declared.wire.Signal.TheVariants.{Let, Read, Put, When, Set as SetTo, Aim, Stall, WrongGuess}

-- ---- lists

all_below : (P : Wire → Type 0) (f : ℕ → List Wire) (n : ℕ) → ((m : ℕ) → m < n → All P (f m)) → All P (below f n)
all_below P f zero h = λ k d l. absurd (omega (arith, l))
all_below P f (suc n) h = All-append P (below f n) (f n) (all_below P f n (λ m l. h m (omega (arith, l)))) (h n (omega arith))

module _ (job : Job) (net : Net) where
  abbrev AllTrue : List Wire → Type 0
  AllTrue ws = All (IsTrue job net) ws

  none : AllTrue []
  none = λ k d l. absurd (omega (arith, l))

  one : (w : Wire) → IsTrue job net w → AllTrue (w ∷ [])
  one w h zero d l = h
  one w h (suc k) d l = absurd (omega (arith, l))

  by_kind : (b : Bool) (w : Wire) → IsTrue job net w → AllTrue (cond b [] (w ∷ []))
  by_kind true w h = none
  by_kind false w h = one w h

  wire_true : (k : ℕ) (signal : Signal) (o : Option NodeId) → ((n : NodeId) → o ≡ Some n → IsTrue job net (record { node = n; stage = k; signal = signal })) → AllTrue (wire_of net k signal o)
  wire_true k signal None h = none
  wire_true k signal (Some n) h = by_kind (is_constant (get_or net.nodes n.0 no_node).kind) _ (h n refl)

-- ---- one stage, in the pool of the netlist

value_some : (o : Option ℕ) (v : ℕ) (x : Option ℕ) → o ≡ x → o ≡ Some v → x ≡ Some v
value_some o v x a b = sym a ∙ b

optional_on : (b : Bool) (v : ℕ) → is_some (optional b v) ≡ b
optional_on true v = refl
optional_on false v = refl

optional_value : (b : Bool) (v y : ℕ) → optional b v ≡ Some y → v ≡ y
optional_value true v y e = cc
optional_value false v y e = cc

module _ (job : Job) (net : Net) (p : Held) (same : net.nodes ≡ p.nodes) (k : ℕ) where
  value_at : (c : Cells) (n : NodeId) → at c net.nodes n.0 ≡ at c p.nodes n.0
  value_at c n = ap (λ ns. at c ns n.0) same

  module _ (o : Outcome) (says : Says job p k o) where
    puts_true : (x : ℕ) → x < length o.puts → AllTrue job net (wire_of net k (Put x) (get_or o.puts x None))
    puts_true x l = wire_true job net k (Put x) (get_or o.puts x None) (λ n e c st i h.
        let count = says.put_count in
        sym (says.puts c st i h x (omega (arith, l, count))) ∙ ap (put_value c p) e ∙ ap Some (sym (value_at c n)))

    aims_true : (x : ℕ) → x < length o.aims → AllTrue job net (wire_of net k (Aim x) (get_or o.aims x None))
    aims_true x l = wire_true job net k (Aim x) (get_or o.aims x None) (λ n e c st i h.
        let count = says.aim_count in
        sym (says.aims c st i h x (omega (arith, l, count))) ∙ ap (put_value c p) e ∙ ap Some (sym (value_at c n)))

    set_true : (t : ℕ) → t < length o.sets → (s : Option Set) → get_or o.sets t None ≡ s → AllTrue job net (set_wires net k t s)
    unfolding on
    set_true t l None e = none job net
    set_true t l (Some s) e =
        let count = says.set_count in
        let is : (c : Cells) (st : PipelineState) (i : Inputs) → Holds job c st i → set_value c p (Some s) ≡ (outcome (machine_of job) st i k).sets t =
        λ c st i h. ap (set_value c p) (sym e) ∙ says.sets c st i h t (omega (arith, l, count)) in
        All-append (IsTrue job net) (wire_of net k (When t) (Some s.enabled)) (wire_of net k (SetTo t) (Some s.value))
        (wire_true job net k (When t) (Some s.enabled) (λ n f c st i h.
        let m : s.enabled ≡ n = cc in
        ap (λ v. v == 1) (value_at c n) ∙ ap (λ (x : NodeId). at c p.nodes x.0 == 1) (sym m)
        ∙ sym (optional_on (on c p.nodes s.enabled.0) (at c p.nodes s.value.0)) ∙ ap is_some (is c st i h)))
        (wire_true job net k (SetTo t) (Some s.value) (λ n f c st i h y g.
        let m : s.value ≡ n = cc in
        value_at c n ∙ ap (λ (x : NodeId). at c p.nodes x.0) (sym m)
        ∙ optional_value (on c p.nodes s.enabled.0) (at c p.nodes s.value.0) y (is c st i h ∙ g)))

    stall_true : AllTrue job net (wire_of net k Stall (Some o.stall))
    unfolding IsTest on
    stall_true = wire_true job net k Stall (Some o.stall) (λ n f c st i h.
        let m : o.stall ≡ n = cc in
        ap (λ v. v == 1) (value_at c n) ∙ ap (λ (x : NodeId). at c p.nodes x.0 == 1) (sym m) ∙ says.stall c st i h)

    wrong_true : AllTrue job net (wire_of net k WrongGuess (Some o.miss))
    unfolding IsTest on
    wrong_true = wire_true job net k WrongGuess (Some o.miss) (λ n f c st i h.
        let m : o.miss ≡ n = cc in
        ap (λ v. v == 1) (value_at c n) ∙ ap (λ (x : NodeId). at c p.nodes x.0 == 1) (sym m) ∙ says.miss c st i h)

  module _ (env : Scope) (named : Named job p k env) where
    name_has : (x : List ℕ) (n : NodeId) → node_of env.names x ≡ Some n → (c : Cells) (st : PipelineState) (i : Inputs) → Holds job c st i
        → HasName job st i k x (at c net.nodes n.0)
    unfolding word_of at
    name_has x n e c st i h m found bound =
        sym (ap (option_map (λ (y : Word). y.value)) (named.means c st i h x m found bound))
        ∙ ap (λ (o : Option NodeId). option_map (λ (y : Word). y.value) (option_map (λ (a : NodeId). word_at c p.nodes a.0) o)) e
        ∙ ap Some (sym (value_at c n))

    bound_true : (j : ℕ) (s : StmtKind) → bound_name s ≡ stmt_name job k j → AllTrue job net (bound_wire net k env j s)
    bound_true j (stmts.Let name e) is = wire_true job net k (Let j) (node_of env.names name.name) (λ n f c st i h.
        subst (λ (x : List ℕ). HasName job st i k x (at c net.nodes n.0)) is (name_has name.name n f c st i h))
    bound_true j (stmts.Read r) is = wire_true job net k (Read j) (node_of env.names r.name.name) (λ n f c st i h.
        subst (λ (x : List ℕ). HasName job st i k x (at c net.nodes n.0)) is (name_has r.name.name n f c st i h))
    bound_true j (stmts.Put n e) is = none job net
    bound_true j (stmts.Set n e w) is = none job net
    bound_true j (stmts.Aim n e) is = none job net

    stmt_true : (j : ℕ) (s : Option Stmt) → slice_get (stmts_at job k) j ≡ s → AllTrue job net (stmt_wire net k env j s)
    stmt_true j None e = none job net
    stmt_true j (Some s) e = bound_true j s.kind (sym (ap name_in e))

  stage_true : (o : Outcome) (env : Scope) → Says job p k o → Named job p k env → AllTrue job net (stage_wires net job k o env)
  stage_true o env says named =
      let P : Wire → Type 0 = IsTrue job net in
      All-append P (bound_wires net job k env) _ (all_below P _ (length (stmts_at job k)) (λ j l. stmt_true env named j (slice_get (stmts_at job k) j) refl))
      (All-append P (put_wires net k o) _ (all_below P _ (length o.puts) (λ x l. puts_true o says x l))
      (All-append P (all_set_wires net k o) _ (all_below P _ (length o.sets) (λ t l. set_true o says t l (get_or o.sets t None) refl))
      (All-append P (aim_wires net k o) _ (all_below P _ (length o.aims) (λ x l. aims_true o says x l))
      (All-append P (wire_of net k Stall (Some o.stall)) _ (stall_true o says) (wrong_true o says)))))

pub all_true : (net : Net) (job : Job) (outs : List Outcome) (names : List Scope) → HasStages net job outs names → All (IsTrue job net) (wires_of net job outs names)
unfolding wires_of
all_true net job outs names h =
    all_below (IsTrue job net) _ job.stages.value (λ k l. stage_true job net h.pool h.nodes k (outcome_at outs k) (get_or names k no_names) (h.says.says k l) (h.named k l))

pub are_wires : (net : Net) (job : Job) (outs : List Outcome) (names : List Scope) (wires : List Wire) → HasStages net job outs names → wires ≡ wires_of net job outs names
    → AreWires net job wires
are_wires net job outs names wires h e = record { outcomes = outs; names = names; stages = h; table = e }

-- Registers take their next values.
use Rattle.std.proofs.Common.{◌≡◌, ◌==◌, ◌⊎◌, ℕ, Bool, true, false, cond, ◌<◌, List, length, get_or, set, sym, subst, ap, refl, ◌∙◌, arith, ⊎_elim}
use Rattle.std.proofs.lemmas.{Bool.eqb-true, List.Elements.All-get_or, Grind.get_or-set_at}
use Rattle.kp_bits.specs.Word as bits
use Rattle.kp_net.specs.declared.node.{NodeId.NodeId, Kind.Kind, Kind.TheVariants.Reg, Kind.TheVariants.Mux, Node.Node}
use Rattle.kp_net.specs.{Nodes.Cells, Nodes.word_of_kind, Nodes.word_at, Nodes.at, Widths.no_node, Widths.is_cell, Widths.KindOk, Widths.AllRight}
use Rattle.kp_net.specs.{Netlist.Net, Netlist.Input, Netlist.State, Netlist.cells_of, Parts.NetOk, Parts.RegOk, Parts.no_reg}
use Rattle.kp_net.proofs.{Exact.node_exact, Exact.word_has, Values.word_there}
use Rattle.kp_cycle_plan.specs.declared.latches.{Latch.TheVariants.Always, Latch.TheVariants.If, Held.Held, Moved.Moved}
use Rattle.kp_cycle_plan.specs.Latches.{is_reg, latch_in, latch_for, OfLatch, latched, no_moved, no_held, IsMoved, IsHeld, IsLatched}
use Rattle.kp_cycle_plan.{specs.Storage.StateFits, proofs.Lists.set_has}
use Rattle.kp_cycle.proofs.{Coding.cond_value, Stepping.reg_held}

-- a node of this kind is this register
pub reg_is : (o : Kind) (r : ℕ) → is_reg o r ≡ true → o ≡ Reg r
reg_is (Reg shown) r e = ap (λ (i : ℕ). Reg i) (eqb-true shown r e)
reg_is _ r e = cc

-- the next value of a register is that of its next node
module _ (c : Cells) (ns : List Node) (values : List ℕ) (r own : ℕ) (next : NodeId) (right : AllRight ns) (h : next.0 < length ns)
    (held : (b : ℕ) → b < length ns → (get_or ns b no_node).kind ≡ Reg r → own ≡ at c ns b) where
  abbrev Known : ℕ → Type 0
  Known j = get_or values j 0 ≡ at c ns j

  mux_value : (t a b : NodeId) → (get_or ns next.0 no_node).kind ≡ Mux t a b → at c ns next.0 ≡ cond (at c ns t.0 == 1) (at c ns a.0) (at c ns b.0)
  unfolding at
  mux_value t a b is =
      let n : Node = get_or ns next.0 no_node in
      ap (λ (w : bits.Word). w.value) (word_there c ns next.0 h (right next.0 h)
      ∙ node_exact c ns next.0 n (word_at c ns) (right next.0 h) (ap is_cell is) (λ j l. word_has c ns j right (omega arith)))
      ∙ ap (λ (o : Kind). (word_of_kind c (word_at c ns) n.width o).value) is
      ∙ sym (cond_value (at c ns t.0 == 1) (word_at c ns a.0) (word_at c ns b.0))

  mux_latch : (t a b : NodeId) (on : Bool) → is_reg (get_or ns b.0 no_node).kind r ≡ on → (get_or ns next.0 no_node).kind ≡ Mux t a b
      → OfLatch Known (cond on (If t a) (Always next)) → latched values own (cond on (If t a) (Always next)) ≡ at c ns next.0
  mux_latch t a b false e is known = known
  mux_latch t a b true e is known =
      let P : Kind → Type 0 = KindOk ns next.0 (get_or ns next.0 no_node).width in
      let ok = subst P is (right next.0 h).kind in
      let below : b.0 < next.0 = ok.2 in
      let kept : own ≡ at c ns b.0 = held b.0 (omega arith) (reg_is (get_or ns b.0 no_node).kind r e) in
      let x = known.0 in
      let y = known.1 in
      (λ i. cond (x i == 1) (y i) (kept i)) ∙ sym (mux_value t a b is)

  latch_value : (o : Kind) → (get_or ns next.0 no_node).kind ≡ o → OfLatch Known (latch_in ns r next o) → latched values own (latch_in ns r next o) ≡ at c ns next.0
  latch_value (Mux t a b) is known = mux_latch t a b (is_reg (get_or ns b.0 no_node).kind r) refl is known
  latch_value _ is known = known

pub next_value : (net : Net) (input : Input) (st : State) (values : List ℕ) (r : ℕ) → NetOk net → StateFits net st → r < length net.parts.regs
    → OfLatch (λ j. get_or values j 0 ≡ at (cells_of input st) net.nodes j) (latch_for net r)
    → latched values (get_or st.regs r 0) (latch_for net r) ≡ at (cells_of input st) net.nodes (get_or net.parts.regs r no_reg).next.0
next_value net input st values r ok fits h known =
    let next : NodeId = (get_or net.parts.regs r no_reg).next in
    let there : RegOk net.nodes (get_or net.parts.regs r no_reg) = All-get_or (RegOk net.nodes) net.parts.regs r no_reg h ok.parts.regs in
    latch_value (cells_of input st) net.nodes values r (get_or st.regs r 0) next ok.right there.next.0
    (λ b l is. reg_held net input st b r ok fits l is)
    (get_or net.nodes next.0 no_node).kind refl known

-- a register has its next value, from the values of nodes and its old value
abbrev pub IsNext : Net → List ℕ → List ℕ → List ℕ → ℕ → Type 0
IsNext net values old new r = get_or new r 0 ≡ latched values (get_or old r 0) (latch_for net r)

-- each register has its old value or its next one
abbrev pub Partly : Net → List ℕ → List ℕ → List ℕ → Type 0
Partly net values old new = (r : ℕ) → (get_or new r 0 ≡ get_or old r 0) ⊎ IsNext net values old new r

-- register i gets its next value
module _ (net : Net) (values old new : List ℕ) (i v : ℕ) (h : i < length new) (is : v ≡ latched values (get_or old i 0) (latch_for net i)) where
  pub next_here : (r : ℕ) → r ≡ i → IsNext net values old (set new i v) r
  next_here r e = get_or-set_at new i r v 0 e h ∙ is ∙ ap (λ (x : ℕ). latched values (get_or old x 0) (latch_for net x)) (sym e)

  pub next_kept : (r : ℕ) → IsNext net values old new r → IsNext net values old (set new i v) r
  next_kept r done = set_has (λ q x. x ≡ latched values (get_or old q 0) (latch_for net q)) new i v 0 r h (λ e. sym (get_or-set_at new i r v 0 e h) ∙ next_here r e) (λ apart. done)

-- the registers of the first entries have their next values, and each other register its old value or its next one
pub record Turned {X : Type 0} (net : Net) (values old new : List ℕ) (reg : X → ℕ) (d : X) (xs : List X) (i : ℕ) : Type 0 where
  pub part : Partly net values old new
  pub done : (q : ℕ) → q < i → IsNext net values old new (reg (get_or xs q d))

abbrev pub Moving : Net → List ℕ → List ℕ → List ℕ → List Moved → ℕ → Type 0
Moving net values old new moved i = Turned net values old new (λ (m : Moved). m.reg) no_moved moved i

abbrev pub Holding : Net → List ℕ → List ℕ → List ℕ → List Held → ℕ → Type 0
Holding net values old new held i = Turned net values old new (λ (m : Held). m.reg) no_held held i

-- every register has its next value once all entries have
pub all_next : (net : Net) (n : ℕ) (moved : List Moved) (held : List Held) (values old new : List ℕ) (r : ℕ) → IsLatched net n moved held
    → Moving net values old new moved (length moved) → Holding net values old new held (length held) → r < n → IsNext net values old new r
all_next net n moved held values old new r is m h l = ⊎_elim
    (λ (a : IsMoved moved r). subst (IsNext net values old new) a.2 (m.done a.0 a.1))
    (λ (a : IsHeld held r). subst (IsNext net values old new) a.2 (h.done a.0 a.1))
    (is.each r l)

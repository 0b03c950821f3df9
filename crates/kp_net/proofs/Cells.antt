-- Nodes that read existing cells continue to do so while a pool grows.
use Rattle.std.proofs.Common.{◌≡◌, ℕ, ◌<◌, ◌≤◌, false, List, length, get_or, sym, subst, ◌∙◌, arith, ⊎_elim}
use Rattle.std.proofs.lemmas.Bool.{cases_lt, true≢false}
use Rattle.kp_net.specs.declared.node.Kind.{Kind}
use Rattle.kp_net.specs.declared.node.Kind.TheVariants.{Const, Ext, Sample, Reg, Word, Not, Binary, Mux, Concat, Slice}
use Rattle.kp_net.specs.{declared.node.Node.Node, declared.netlist.Parts.Parts, Widths.wide, Widths.no_node, Widths.is_cell, Widths.KindOk, Widths.AllRight}
use Rattle.kp_net.specs.{Growth.Held, Growth.Kept, Growth.Grown, Growth.AddsOnly, Parts.CellOk, Parts.AllCells}

-- constants and operations read no cell
pub plain_ok : (ns : List Node) (p : Parts) (k : ℕ) (o : Kind) → is_cell o ≡ false → CellOk ns p k o
plain_ok ns p k Ext h = absurd (true≢false h)
plain_ok ns p k (Sample s) h = absurd (true≢false h)
plain_ok ns p k (Reg r) h = absurd (true≢false h)
plain_ok ns p k (Word f a) h = absurd (true≢false h)
plain_ok ns p k _ h = tt

cell_stays : (ns ms : List Node) (p : Parts) (m k : ℕ) (o : Kind) → KindOk ns m k o → ((j : ℕ) → j < m → wide ms j ≡ wide ns j) → CellOk ns p k o → CellOk ms p k o
cell_stays ns ms p m k Ext ok e h = h
cell_stays ns ms p m k (Sample s) ok e h = h
cell_stays ns ms p m k (Reg r) ok e h = h
cell_stays ns ms p m k (Word f a) ok e h = (h.0, h.1, e a.0 ok ∙ h.2)
cell_stays ns ms p m k _ ok e h = tt

-- the old nodes of a pool that kept them
old_cells : (p q : Held) (k : ℕ) (parts : Parts) → AllRight p.nodes → Kept p q k → AllCells p.nodes parts → (i : ℕ) → i < length p.nodes
    → CellOk q.nodes parts (get_or q.nodes i no_node).width (get_or q.nodes i no_node).kind
old_cells p q k parts right kept cells i h =
    let P : Node → Type 0 = λ n. CellOk q.nodes parts n.width n.kind in
    subst P (sym (kept.nodes i h)) (cell_stays p.nodes q.nodes parts i _ _ (right i h).kind (λ j l. kept.widths j (omega arith)) (cells i h))

pub cells_added : (p q : Held) (k : ℕ) (n : Node) (parts : Parts) → AllRight p.nodes → Kept p q k → AddsOnly n p q → CellOk q.nodes parts n.width n.kind → AllCells p.nodes parts → AllCells q.nodes parts
cells_added p q k n parts right kept added ok cells i h =
    let P : Node → Type 0 = λ x. CellOk q.nodes parts x.width x.kind in
    ⊎_elim
    (λ (l : i < length p.nodes). old_cells p q k parts right kept cells i l)
    (λ (l : length p.nodes ≤ i). ⊎_elim (λ e. subst P (sym e) ok) (λ f. plain_ok q.nodes parts _ _ f) (added i l h))
    (cases_lt i (length p.nodes))

-- WHAT THE NODES OF THE STAGES ABOVE MEAN for a read.
use Rattle.std.specs.Prelude.{Bool, List, None, Option, Some, [], false, if◌then◌else◌, length, not, slice_get, true, ℕ, ◌%◌, ◌&&◌, ◌+◌, ◌<◌, ◌==◌, ◌^◌, ◌||◌, ◌∷◌, ◌≡◌, ◌≤◌}
use Rattle.kp_ast.specs.declared.tree.Job.{Job}
use Rattle.kp_machine.specs.{Machine.files_before, Slots.is_register, Slots.targets_of}
use Rattle.kp_net.specs.{Growth.Held, Growth.Wire, Nodes.Cells, Nodes.at, Nodes.on, declared.node.NodeId.NodeId}
use Rattle.kp_fwd.specs.Forward.{BitOk, enable_on}
use Rattle.kp_design.specs.Numbers.{target_at}
use Rattle.kp_synth_registers.specs.Holding.{optional}
use Rattle.kp_synth_stage.specs.declared.row.{Own.Own, Own.TheVariants.File, Own.TheVariants.Register, Row.Row, Source.Source}

-- the address of a read: a register is read at address 0
abbrev pub asked : Cells → Held → Option NodeId → ℕ
asked c p None = 0
asked c p (Some a) = at c p.nodes a.0

-- the node of the address of a read: none for a register
abbrev pub AskOk : Held → ℕ → Option NodeId → Type 0
AskOk p a None = a ≡ 0
AskOk p a (Some n) = Wire p n a

-- whether a stage writes at this address; a row without an address always does
abbrev pub address_is : Cells → Held → Option NodeId → ℕ → Bool
address_is c p None a = true
address_is c p (Some q) a = at c p.nodes q.0 == a

abbrev pub row_hits : Cells → Held → Row → ℕ → Bool
row_hits c p r a = on c p.nodes r.full.0 && (not r.known || (enable_on c p r.enable && address_is c p r.address a))

-- the truth of a read at an address, where the target's own value there is `own`
abbrev pub rows_view : Cells → Held → List Row → ℕ → ℕ → Option ℕ
rows_view c p [] own a = Some own
rows_view c p (r ∷ rs) own a = if row_hits c p r a then optional (on c p.nodes r.ok.0) (at c p.nodes r.value.0) else rows_view c p rs own a

abbrev pub own_value : Cells → Held → ℕ → Own → ℕ → ℕ
own_value c p w (Register n) a = at c p.nodes n.0
own_value c p w (File f) a = c.word f a % 2 ^ w

abbrev pub source_view : Cells → Held → Source → ℕ → Option ℕ
source_view c p s a = rows_view c p s.rows.items (own_value c p s.width s.own a) a

abbrev pub view_of : Cells → Held → Option Source → ℕ → Option ℕ
view_of c p None a = None
view_of c p (Some s) a = source_view c p s a

-- the truth of a read of target t
abbrev pub view : Cells → Held → List Source → ℕ → ℕ → Option ℕ
view c p ss t a = view_of c p (slice_get ss t) a

-- WIDTHS. A row for a target with addresses of a bits and values of w bits.
abbrev pub AddressOk : Held → ℕ → Option NodeId → Type 0
AddressOk p a None = Unit {0}
AddressOk p a (Some q) = Wire p q a

pub record RowOk (p : Held) (a w : ℕ) (r : Row) : Type 0 where
  pub full : Wire p r.full 1
  pub enable : BitOk p r.enable
  pub address : AddressOk p a r.address
  pub ok : Wire p r.ok 1
  pub value : Wire p r.value w

abbrev pub RowsOk : Held → ℕ → ℕ → List Row → Type 0
RowsOk p a w [] = Unit {0}
RowsOk p a w (r ∷ rs) = RowOk p a w r × RowsOk p a w rs

abbrev pub OwnOk : Job → Held → ℕ → Own → Type 0
OwnOk job p t (Register n) = (is_register (target_at job t) ≡ true) × Wire p n (target_at job t).width
OwnOk job p t (File f) = (is_register (target_at job t) ≡ false) × (f ≡ files_before (targets_of job.decls) t)

-- target t of a job
pub record SourceOk (job : Job) (p : Held) (t : ℕ) (s : Source) : Type 0 where
  pub width : s.width ≡ (target_at job t).width
  pub positive : 1 ≤ s.width
  pub at_most : s.width ≤ 64
  pub own : OwnOk job p t s.own
  pub rows : RowsOk p (target_at job t).address (target_at job t).width s.rows.items
  pub few : length s.rows.items + 1 ≤ job.stages.value
  pub stages : job.stages.value ≤ 12

-- all targets of a job
pub record SourcesOk (job : Job) (p : Held) (ss : List Source) : Type 0 where
  pub count : length ss ≡ length (targets_of job.decls)
  pub each : (t : ℕ) (s : Source) → slice_get ss t ≡ Some s → SourceOk job p t s

-- the sources have these truths, at all valid addresses; a register has only address 0
unfoldable pub Sees : Job → Cells → Held → List Source → (ℕ → ℕ → Option ℕ) → Type 0
Sees job c p ss v = (t a : ℕ) → t < length (targets_of job.decls) → a < 2 ^ (target_at job t).address → view c p ss t a ≡ v t a

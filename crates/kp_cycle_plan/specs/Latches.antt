-- How registers get their next values at the end of a cycle.
use Rattle.std.specs.Prelude.{ℕ, ◌<◌, ◌≡◌, ◌⊎◌, ◌==◌, if◌then◌else◌, Bool, false, List, length, get_or}
use Rattle.kp_net.specs.declared.node.{NodeId.NodeId, Kind.Kind, Kind.TheVariants.Reg, Kind.TheVariants.Mux, Node.Node}
use Rattle.kp_net.specs.{Netlist.Net, Parts.no_reg, Widths.no_node}
use Rattle.kp_cycle_plan.specs.declared.latches.{Held.Held, Latch.Latch, Latch.TheVariants.Always, Latch.TheVariants.If, Moved.Moved}

-- whether a node of this kind is this register
abbrev pub is_reg : Kind → ℕ → Bool
is_reg (Reg shown) r = shown == r
is_reg _ r = false

-- the latch of register r, whose next node has this kind
abbrev pub latch_in : List Node → ℕ → NodeId → Kind → Latch
latch_in ns r next (Mux test a b) = if is_reg (get_or ns b.0 no_node).kind r then If test a else Always next
latch_in ns r next _ = Always next

abbrev pub latch_for : Net → ℕ → Latch
latch_for net r = latch_in net.nodes r (get_or net.parts.regs r no_reg).next (get_or net.nodes (get_or net.parts.regs r no_reg).next.0 no_node).kind

-- the defaults for entries that don't exist
abbrev pub no_moved : Moved
no_moved = record { reg = 0; next = record { 0 = 0 } }

abbrev pub no_held : Held
no_held = record { reg = 0; test = record { 0 = 0 }; value = record { 0 = 0 } }

-- register r has an entry
abbrev pub IsMoved : List Moved → ℕ → Type 0
IsMoved moved r = (k : ℕ) × (k < length moved) × ((get_or moved k no_moved).reg ≡ r)

abbrev pub IsHeld : List Held → ℕ → Type 0
IsHeld held r = (k : ℕ) × (k < length held) × ((get_or held k no_held).reg ≡ r)

-- each entry is the latch of its register, and each of the first n registers has one
pub record IsLatched (net : Net) (n : ℕ) (moved : List Moved) (held : List Held) : Type 0 where
  pub moves : (k : ℕ) → k < length moved
      → ((get_or moved k no_moved).reg < length net.parts.regs) × (latch_for net (get_or moved k no_moved).reg ≡ Always (get_or moved k no_moved).next)
  pub holds : (k : ℕ) → k < length held
      → ((get_or held k no_held).reg < length net.parts.regs) × (latch_for net (get_or held k no_held).reg ≡ If (get_or held k no_held).test (get_or held k no_held).value)
  pub each : (r : ℕ) → r < n → IsMoved moved r ⊎ IsHeld held r

-- this is true of the nodes that a latch reads
abbrev pub OfLatch : (ℕ → Type 0) → Latch → Type 0
OfLatch P (Always next) = P next.0
OfLatch P (If test a) = P test.0 × P a.0

-- the next value of a register, from the values of nodes and its own
abbrev pub latched : List ℕ → ℕ → Latch → ℕ
latched values own (Always next) = get_or values next.0 0
latched values own (If test a) = if get_or values test.0 0 == 1 then get_or values a.0 0 else own

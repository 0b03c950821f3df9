-- THE DEPTH OF A NETLIST of a job: for each stage a longest path to what it stores and one to what controls it, and the bits of the registers after it.
use Rattle.std.specs.Prelude.{◌≡◌, ℕ, zero, suc, ◌+◌, ◌<◌, ◌≤◌, Bool, true, false, ◌==◌, ◌&&◌, List, length, get_or, All, Contains, Option, Some, None, if◌then◌else◌}
use Rattle.kp_ast.specs.declared.tree.Job.{Job}
use Rattle.kp_net.specs.{declared.node.Node.Node, Netlist.Net, Parts.no_reg}
use Rattle.kp_synth_registers.specs.{declared.key.Key.Key, Keys.keys_of, Keys.key_at}
use Rattle.kp_synth_registers.specs.declared.key.Key.TheVariants.{Visible, Full, Pipe, Valid, Value, Pending, Guess, Hint}
use Rattle.kp_depth.specs.declared.{ends.End.End, ends.Sort.Sort, ends.Sort.TheVariants.Data, ends.Sort.TheVariants.Control, stages.Path.Path, stages.Row.Row, stages.Depths.Depths}
use Rattle.kp_depth.specs.{Ends.ends_of, Paths.IsPath, Paths.path_length, Paths.NoneLonger, Times.times_of}

abbrev pub is_same_sort : Sort → Sort → Bool
is_same_sort Data Data = true
is_same_sort Control Control = true
is_same_sort _ _ = false

abbrev pub is_at : ℕ → Sort → End → Bool
is_at k sort e = (e.stage == k) && is_same_sort e.sort sort

-- A LONGEST PATH to the ends of this sort in stage k: it ends in one of them, it has this length, and no path to any of them is longer. Without a path
-- there are no such ends.
pub record IsLongestPath (ns : List Node) (inside : Bool) (k : ℕ) (sort : Sort) (ends : List End) (p : Path) : Type 0 where
  pub there : Contains ends p.end
  pub at_stage : is_at k sort p.end ≡ true
  pub path : IsPath ns inside p.end.node.0 p.steps.items
  pub length : path_length ns inside p.end.node.0 p.steps.items ≡ p.length
  pub none_longer : All (λ e. is_at k sort e ≡ true → NoneLonger ns inside e.node.0 p.length) ends

abbrev pub IsLongest : List Node → Bool → ℕ → Sort → List End → Option Path → Type 0
IsLongest ns inside k sort ends None = All (λ e. is_at k sort e ≡ false) ends
IsLongest ns inside k sort ends (Some p) = IsLongestPath ns inside k sort ends p

-- THE BITS of the registers that hold the state of stage k
abbrev pub held_in : Key → ℕ
held_in (Full k) = k
held_in (Pipe x k) = k
held_in (Valid t k) = k
held_in (Value t k) = k
held_in (Pending g k) = k
held_in (Guess g k) = k
held_in _ = 0

abbrev pub held_bits : Job → Net → (stage register : ℕ) → ℕ
held_bits job net k r = if held_in (key_at job r) == k then (get_or net.parts.regs r no_reg).start.width else 0

abbrev pub bits_below : Job → Net → (stage registers : ℕ) → ℕ
bits_below job net k zero = 0
bits_below job net k (suc r) = bits_below job net k r + held_bits job net k r

-- THE ROW of stage k
pub record IsRow (job : Job) (net : Net) (inside : Bool) (ends : List End) (k : ℕ) (row : Row) : Type 0 where
  pub to_data : IsLongest net.nodes inside k Data ends row.to_data
  pub to_control : IsLongest net.nodes inside k Control ends row.to_control
  pub bits : row.bits ≡ bits_below job net (k + 1) (length (keys_of job))

abbrev pub row_count : Job → Bool → ℕ
row_count job inside = if inside then job.stages.value else job.stages.value + 1

abbrev pub no_row : Row
no_row = record { to_data = None; to_control = None; bits = 0 }

pub record IsDepth (job : Job) (net : Net) (inside : Bool) (d : Depths) : Type 0 where
  pub files : d.times.inside ≡ inside
  pub times : d.times.all.items ≡ times_of net.nodes inside
  pub count : length d.rows.items ≡ row_count job inside
  pub rows : (k : ℕ) → k < length d.rows.items → IsRow job net inside (ends_of job net inside) k (get_or d.rows.items k no_row)

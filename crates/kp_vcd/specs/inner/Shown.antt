-- The values of the signals in a netlist.
use Rattle.std.specs.Prelude.{◌≡◌, ℕ, ◌<◌, ◌≤◌, ◌%◌, ◌^◌, List, [], ◌∷◌, ◌++◌, Some, get_or, length, map, codes}
use Rattle.kp_base.specs.declared.row.Row.{Row}
use Rattle.kp_bits.specs.Word.{word}
use Rattle.kp_ast.specs.declared.tree.{Decl.Decl, Job.Job}
use Rattle.kp_ast.specs.declared.tree.Decl.TheVariants as decls
use Rattle.kp_cycle.specs.Steps.{Running, reg_shown}
use Rattle.kp_net.specs.Netlist.{Net, State}
use Rattle.kp_implements.specs.Naming.{place_among, value_shown}
use Rattle.kp_vcd.specs.{Recording.Values, Dumps.register_values}

-- the numbers of the registers with these names in a netlist
abbrev pub places_from : List (List ℕ) → List Decl → List ℕ
places_from names [] = []
places_from names (decls.Reg n width start ∷ ds) = place_among names (codes "r_" ++ n.name) ∷ places_from names ds
places_from names (_ ∷ ds) = places_from names ds

-- the values of the registers with these numbers
abbrev pub shown_at : Running → List ℕ → Values
shown_at sim places = map (λ p. Some (reg_shown sim p)) places

-- the numbers of the registers of a job
pub record ArePlaces (job : Job) (net : Net) (places : List ℕ) : Type 0 where
  pub few : length places ≤ length job.decls
  pub within : (i d : ℕ) → i < length places → get_or places i d < length net.parts.regs
  pub shown : (st : State) → shown_at (record { net = net; state = st; slots = [] }) places ≡ register_values (λ t. value_shown job net st t 0) 0 job.decls

-- the low bits of the masks of a row of n stages
abbrev pub mask_values : ℕ → Row → Values
mask_values n r = Some (word n (r.full % 2 ^ n)) ∷ Some (word n (r.ue % 2 ^ n)) ∷ Some (word 4 (r.back % 2 ^ 4)) ∷ []

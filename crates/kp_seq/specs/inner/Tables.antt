-- The tables of a sequential machine, as they are built when it is opened.
use Rattle.std.specs.Prelude.{ℕ, zero, suc, List, [], ◌∷◌, Option, Some, None, length}
use Rattle.kp_ast.specs.declared.tree.{Named.Named, ResultDecl.ResultDecl, Decl.Decl}
use Rattle.kp_machine.specs.Slots.{Slot, targets_of, pipes_of, number_of, result_to}
use Rattle.kp_seq.specs.declared.tables.Port.{Port}

-- how a target is written: the numbers of its enable and its address pipe, if it has them
abbrev pub pipe_number : List Slot → Option Named → Option ℕ
pipe_number pipes None = None
pipe_number pipes (Some n) = Some (number_of pipes n.name)

abbrev pub port_by : List Slot → ResultDecl → Port
port_by pipes r = record { enable = pipe_number pipes r.enable; address = pipe_number pipes r.address }

abbrev pub port_of : List Slot → Option ResultDecl → Option Port
port_of pipes None = None
port_of pipes (Some r) = Some (port_by pipes r)

-- the ports of n targets from this number on
abbrev pub ports_from : List Decl → List Slot → List Slot → ℕ → ℕ → List (Option Port)
ports_from ds targets pipes t zero = []
ports_from ds targets pipes t (suc n) = port_of pipes (result_to targets ds t) ∷ ports_from ds targets pipes (suc t) n

abbrev pub ports_of : List Decl → List (Option Port)
ports_of ds = ports_from ds (targets_of ds) (pipes_of ds) 0 (length (targets_of ds))

-- the tables: the declarations, the targets, the pipes, the samples, the ports of the targets, and all names that may have values
pub record Laid : Type 0 where
  pub decls : List Decl
  pub targets : List Slot
  pub pipes : List Slot
  pub samples : List Slot
  pub ports : List (Option Port)
  pub names : List (List ℕ)

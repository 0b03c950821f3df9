-- The step of the loop over declarations.
use Rattle.std.proofs.Common.{◌≡◌, ◌∙◌, ℕ, ◌+◌, ◌<◌, List, ◌∷◌, ◌++◌, length, get_or, drop, ap, sym}
use Rattle.std.proofs.lemmas.List.{drop_more}
use Rattle.kp_ast.specs.declared.tree.Decl.{Decl}
use Rattle.kp_machine.specs.Slots.{Slot}
use Rattle.kp_core_ports.specs.Names.{names_of}

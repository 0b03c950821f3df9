-- The first of the names of a module that declares a name, or drives it.
use Rattle.std.specs.Prelude.{ℕ, List, [], ◌∷◌, Bool, true, false, ◌&&◌, if◌then◌else◌, Option, Some, None}
use Rattle.kp_net.specs.Names.{same}
use Rattle.kp_vlog.specs.{Occurrences.Role, Occurrences.Occurrence, declared.tree.Named.Named}
use Rattle.kp_vlog.specs.Occurrences as roles

-- What a role does.
abbrev pub declares : Role → Bool
declares (roles.declares_port k) = true
declares roles.declares_sample = true
declares roles.declares_reg = true
declares roles.declares_file = true
declares roles.declares_integer = true
declares roles.declares_wire = true
declares _ = false

abbrev pub is_target : Role → Bool
is_target roles.gives = true
is_target _ = false

abbrev pub starts : Role → Bool
starts roles.starts_reg = true
starts _ = false

abbrev pub fills : Role → Bool
fills roles.fills_file = true
fills _ = false

abbrev pub resets : Role → Bool
resets roles.resets_reg = true
resets _ = false

abbrev pub updates : Role → Bool
updates roles.updates_reg = true
updates roles.updates_file = true
updates _ = false

-- the first of these names that is this one and does this
abbrev pub first_that : (Role → Bool) → List ℕ → List Occurrence → Option Occurrence
first_that does n [] = None
first_that does n (o ∷ os) = if does o.role && same n o.named.name then Some o else first_that does n os

-- its offset, or that of the name itself if there is none
abbrev pub offset_or : ℕ → Option Occurrence → ℕ
offset_or at (Some o) = o.named.at
offset_or at None = at

abbrev pub first_at : (Role → Bool) → Named → List Occurrence → ℕ
first_at does n os = offset_or n.at (first_that does n.name os)

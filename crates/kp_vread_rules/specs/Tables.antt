-- The entries of a module's tables for a name.
use Rattle.std.specs.{Prelude.ℕ, Prelude.◌+◌, Prelude.◌≡◌, Prelude.List, Prelude.Option, Map.lookup}
use Rattle.kp_bits.specs.declared.literal.Literal.{Literal}
use Rattle.kp_net.specs.Names.{same}
use Rattle.kp_vlog.specs.Scope.{Sized, Sizes, address_width, or_zero, width_in, address_in}
use Rattle.kp_vread_rules.specs.declared.sizes.Size.{Size}

-- the literal that a register starts with
abbrev pub found : List (List ℕ × Literal) → List ℕ → Option Literal
found entries n = lookup (same n) entries

-- an entry of the table of sizes
abbrev pub sized_of : List ℕ × Size → Sized
sized_of e = record { name = e.0; width = e.1.high + 1; address = or_zero (address_width e.1.last) }

-- each name has the same size in both
pub record AlikeSizes (xs ys : Sizes) : Type 0 where
  pub widths : (n : List ℕ) → width_in xs n ≡ width_in ys n
  pub addresses : (n : List ℕ) → address_in xs n ≡ address_in ys n

-- THE LAST END of a stage.
use Rattle.std.specs.Prelude.{◌≡◌, ℕ, ◌≤◌, Bool, true, false, ◌&&◌, nat_lt, List, All, Contains, Option, Some, None, if◌then◌else◌}
use Rattle.kp_depth.specs.declared.{ends.End.End, ends.Sort.Sort, time.Time.Time}
use Rattle.kp_depth.specs.Depths.{is_at}

abbrev pub is_later : (ℕ → Time) → Option End → End → Bool
is_later t None e = true
is_later t (Some b) e = nat_lt (t b.node.0).arrival (t e.node.0).arrival

abbrev pub later : (ℕ → Time) → ℕ → Sort → Option End → End → Option End
later t k sort best e = if is_at k sort e && is_later t best e then Some e else best

-- the last end of a list, if the stage has one there
pub record IsLast (t : ℕ → Time) (k : ℕ) (sort : Sort) (ends : List End) (b : End) : Type 0 where
  pub there : Contains ends b
  pub at_stage : is_at k sort b ≡ true
  pub last : All (λ e. is_at k sort e ≡ true → (t e.node.0).arrival ≤ (t b.node.0).arrival) ends

abbrev pub Reaches : (ℕ → Time) → ℕ → Sort → List End → Option End → Type 0
Reaches t k sort ends None = All (λ e. is_at k sort e ≡ false) ends
Reaches t k sort ends (Some b) = IsLast t k sort ends b

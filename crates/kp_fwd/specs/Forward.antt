-- Hits, carried results and the nearest hit, in terms of the values of the given nodes.
use Rattle.std.specs.Prelude.{ℕ, Bool, true, false, ◌==◌, if◌then◌else◌, List, [], ◌∷◌, Option, Some, None}
use Rattle.kp_net.specs.{declared.node.NodeId.NodeId, Nodes.Cells, Nodes.at, Nodes.on, Depth.IsNoDeeper, Growth.Held, Growth.Wire}
use Rattle.kp_fwd.specs.declared.entries.{Candidate.Candidate, Picked.Picked}

-- an optional bit, 1 if omitted
abbrev pub enable_on : Cells → Held → Option NodeId → Bool
enable_on c p None = true
enable_on c p (Some e) = on c p.nodes e.0

-- two optional addresses, equal if omitted
abbrev pub addresses_agree : Cells → Held → Option (NodeId × NodeId) → Bool
addresses_agree c p None = true
addresses_agree c p (Some (a, b)) = at c p.nodes a.0 == at c p.nodes b.0

-- whether a set is enabled, and its value
abbrev pub set_on : Cells → Held → Option (NodeId × NodeId) → Bool
set_on c p None = false
set_on c p (Some (enable, value)) = on c p.nodes enable.0

abbrev pub set_value : Cells → Held → Option (NodeId × NodeId) → ℕ
set_value c p None = 0
set_value c p (Some (enable, value)) = if on c p.nodes enable.0 then at c p.nodes value.0 else 0

-- the value of f for the first row that hits, or `none` if no row does
abbrev pub first_of : {A : Type 0} → Cells → Held → (Candidate → A) → A → List Candidate → A
first_of c p f none [] = none
first_of c p f none (r ∷ rs) = if on c p.nodes r.hit.0 then f r else first_of c p f none rs

-- whether some row hits, whether the first that does is ok (or none does), and its value (or `none`)
abbrev pub some_hits : Cells → Held → List Candidate → Bool
some_hits c p rows = first_of c p (λ r. true) false rows

abbrev pub first_ok : Cells → Held → List Candidate → Bool
first_ok c p rows = first_of c p (λ r. on c p.nodes r.ok.0) true rows

abbrev pub first_value : Cells → Held → List Candidate → ℕ → ℕ
first_value c p rows none = first_of c p (λ r. at c p.nodes r.value.0) none rows

-- WIDTHS. An optional bit, and an optional pair of nodes of these widths.
abbrev pub BitOk : Held → Option NodeId → Type 0
BitOk p None = Unit {0}
BitOk p (Some e) = Wire p e 1

abbrev pub PairOk : Held → ℕ → ℕ → Option (NodeId × NodeId) → Type 0
PairOk p v w None = Unit {0}
PairOk p v w (Some (a, b)) = Wire p a v × Wire p b w

-- two nodes of the same width
abbrev pub SameWidth : Held → Option (NodeId × NodeId) → Type 0
SameWidth p None = Unit {0}
SameWidth p (Some (a, b)) = (w : ℕ) × Wire p a w × Wire p b w

-- two bits, and a value of w bits
pub record CandidateOk (p : Held) (w : ℕ) (r : Candidate) : Type 0 where
  pub hit : Wire p r.hit 1
  pub ok : Wire p r.ok 1
  pub value : Wire p r.value w

-- DEPTHS. None of the three nodes is deeper than d.
pub record IsWithin (p : Held) (d : ℕ) (r : Candidate) : Type 0 where
  pub hit : IsNoDeeper p.nodes r.hit d
  pub ok : IsNoDeeper p.nodes r.ok d
  pub value : IsNoDeeper p.nodes r.value d

pub record IsPickedWithin (p : Held) (d : ℕ) (r : Picked) : Type 0 where
  pub any : IsNoDeeper p.nodes r.any d
  pub ok : IsNoDeeper p.nodes r.ok d
  pub value : IsNoDeeper p.nodes r.value d

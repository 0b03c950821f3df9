-- What the nodes of one read mean.
use Rattle.std.specs.Prelude.{Bool, List, None, Option, Some, [], if◌then◌else◌, is_some, length, not, unwrap_or, ℕ, ◌&&◌, ◌<◌, ◌∷◌, ◌≡◌}
use Rattle.kp_net.specs.{Growth.Held, Nodes.Cells, Nodes.at, Nodes.on, Widths.wide, declared.node.NodeId.NodeId}
use Rattle.kp_fwd.specs.declared.entries.Candidate.{Candidate}
use Rattle.kp_synth_stage.specs.{Rows.row_hits, declared.row.Row.Row}

-- the width of the address of a read, and that its node is in the pool
abbrev pub ask_width : Held → Option NodeId → ℕ
ask_width p None = 0
ask_width p (Some a) = wide p.nodes a.0

abbrev pub AskInside : Held → Option NodeId → Type 0
AskInside p None = Unit {0}
AskInside p (Some a) = a.0 < length p.nodes

-- THE VALUE OF A READ, whether or not its condition holds: its truth, or the replacement if the truth is missing
abbrev pub given : Bool → (truth : Option ℕ) → (miss : ℕ) → ℕ
given when truth miss = if when then unwrap_or truth miss else 0

-- whether the truth of a read whose condition holds is missing
abbrev pub lacks : Bool → Option ℕ → Bool
lacks when truth = when && not (is_some truth)

-- an optional node, 0 if omitted
abbrev pub value_or_zero : Cells → Held → Option NodeId → ℕ
value_or_zero c p None = 0
value_or_zero c p (Some n) = at c p.nodes n.0

-- candidates that were computed from rows, for reads at address a
abbrev pub Matched : Cells → Held → ℕ → Held → List Row → List Candidate → Type 0
Matched c p a q [] [] = Unit {0}
Matched c p a q [] (x ∷ xs) = ⊥
Matched c p a q (r ∷ rs) [] = ⊥
Matched c p a q (r ∷ rs) (x ∷ xs) = (on c q.nodes x.hit.0 ≡ row_hits c p r a) × (x.ok ≡ r.ok) × (x.value ≡ r.value) × Matched c p a q rs xs

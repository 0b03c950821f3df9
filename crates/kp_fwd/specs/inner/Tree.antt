-- The meaning of a part of a tree over rows.
use Rattle.std.specs.Prelude.{ℕ, ◌≡◌, Bool, true, if◌then◌else◌, List}
use Rattle.kp_net.specs.{Nodes.Cells, Nodes.at, Nodes.on, Growth.Held}
use Rattle.kp_fwd.specs.{declared.entries.Candidate.Candidate, Forward.first_of}

-- In q this candidate replaces these rows of p: it hits if one of them does, and has the value of the first that hits.
pub record StandsFor (p : Held) (rows : List Candidate) (q : Held) (r : Candidate) : Type 0 where
  pub hit : (c : Cells) (none : Bool) → (if on c q.nodes r.hit.0 then true else none) ≡ first_of c p (λ s. true) none rows
  pub ok : (c : Cells) (none : Bool) → (if on c q.nodes r.hit.0 then on c q.nodes r.ok.0 else none) ≡ first_of c p (λ s. on c p.nodes s.ok.0) none rows
  pub value : (c : Cells) (none : ℕ) → (if on c q.nodes r.hit.0 then at c q.nodes r.value.0 else none) ≡ first_of c p (λ s. at c p.nodes s.value.0) none rows

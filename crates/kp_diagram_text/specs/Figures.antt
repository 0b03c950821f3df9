-- A FIGURE of a run: what its diagram shows, as text or as a picture.
use Rattle.std.specs.Prelude.{ℕ, ◌-◌, Bool, List, length}
use Rattle.kp_pipeline.specs.Rows.{Row}
use Rattle.kp_diagram.specs.Diagram.{Account, Fetch, account, diagram}

-- The name of the machine, the names of its stages (a stage past their end has its number as its name), how many stages it has, how many
-- cycles are shown, the fetches in the order in which they enter stage 0, and the account.
pub record Figure : Type 0 where
  pub name : List ℕ
  pub names : List (List ℕ)
  pub stages : ℕ
  pub cycles : ℕ
  pub fetches : List Fetch
  pub account : Account

-- The figure of a run of n stages, with its rows and its stalls from outside.
abbrev pub figure_from : List ℕ → List (List ℕ) → ℕ → (ℕ → ℕ → Bool) → List Row → Figure
figure_from name names n ext rows = record {
  name = name;
  names = names;
  stages = n;
  cycles = length rows;
  fetches = diagram n ext rows;
  account = account (n - 1) ext rows;
}

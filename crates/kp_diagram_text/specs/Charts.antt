-- What a chart is, in terms of the diagram's definitions.
use Rattle.std.specs.Prelude.{◌≡◌, ℕ, ◌≤◌, ◌==◌, ◌&&◌, ◌||◌, ltb, leb, Bool, true, List, length, get_or, map, string_bytes}
use Rattle.std.specs.List.{list_all}
use Rattle.kp_base.specs.Characters.{is_word, run_length}
use Rattle.kp_pipeline.specs.Rows.{Row}
use Rattle.kp_sched.specs.Rows.{bit_of, rows_seen}
use Rattle.kp_diagram_text.specs.{declared.chart.Chart.Chart, Figures.Figure, Figures.figure_from}

-- A name of a stage: 1 to 8 letters, digits or `_`.
abbrev pub is_name : List ℕ → Bool
is_name name = ltb 0 (length name) && leb (length name) 8 && run_length is_word name == length name

-- Names for the stages of a machine of n stages: none, or one for each stage.
abbrev pub are_names : List (List ℕ) → ℕ → Bool
are_names names n = (length names == 0 || length names == n) && list_all is_name names

abbrev pub names_of : Chart → List (List ℕ)
names_of c = map string_bytes c.names.now

-- Stage k is stalled from outside in cycle T.
abbrev pub ext_of : Chart → ℕ → ℕ → Bool
ext_of c T k = bit_of (get_or c.words.now T 0) k

abbrev pub rows_of : Chart → List Row
rows_of c = rows_seen c.stages c.rows.now

-- 2 to 12 stages, a stall word for each cycle, at most 100,000 cycles, and names of the stages or none.
pub record IsDrawable (c : Chart) : Type 0 where
  pub some : 2 ≤ c.stages
  pub few : c.stages ≤ 12
  pub words : length c.words.now ≡ length c.rows.now
  pub cycles : length c.rows.now ≤ 100000
  pub names : are_names (names_of c) c.stages ≡ true

-- THE FIGURE of a chart: what is drawn of it.
abbrev pub figure_of : Chart → Figure
figure_of c = figure_from c.name.now (names_of c) c.stages (ext_of c) (rows_of c)

-- The texts of a picture and of a page, by the figure and the rows of their chart.
use Rattle.std.proofs.Common.{◌≡◌, ◌∙◌, ℕ, List, [], ap, ap₂}
use Rattle.kp_ast.specs.declared.tree.Job.{Job}
use Rattle.kp_pipeline.specs.Rows.{Row}
use Rattle.kp_diagram_text.specs.{declared.chart.Chart.Chart, Charts.figure_of, Charts.rows_of, Figures.Figure}
use Rattle.kp_diagram_svg.specs.Picture.{picture, svg_text}
use Rattle.kp_page.specs.Page.{page}
use Rattle.kp_paths.specs.Text.{paths_text}

pub picture_is : (c : Chart) (f : Figure) (rows : List Row) → figure_of c ≡ f → rows_of c ≡ rows → svg_text c ≡ picture f rows
unfolding svg_text
picture_is c f rows figure same = ap₂ (λ (x : Figure) (y : List Row). picture x y) figure same

pub page_is : (c : Chart) (f : Figure) (rows : List Row) (seen job : Job) (input states : List ℕ) → figure_of c ≡ f → rows_of c ≡ rows → seen ≡ job
    → page (figure_of c) (rows_of c) input (paths_text [] seen) states ≡ page f rows input (paths_text [] job) states
page_is c f rows seen job input states figure same is =
    ap₂ (λ (x : Figure) (y : List Row). page x y input (paths_text [] seen) states) figure same ∙ ap (λ (j : Job). page f rows input (paths_text [] j) states) is

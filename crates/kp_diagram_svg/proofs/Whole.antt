-- The parts of a picture are the picture.
use Rattle.std.proofs.Common.{◌≡◌, ◌∙◌, ℕ, ◌-◌, List, ◌++◌, length, refl, ap, ap₂, sym}
use Rattle.kp_sched.proofs.Counting.{seen_length}
use Rattle.kp_diagram.specs.Diagram.{account, diagram}
use Rattle.kp_diagram_text.specs.{declared.chart.Chart.Chart, Charts.ext_of, Charts.names_of, Charts.rows_of, Text.longest}
use Rattle.kp_diagram_svg.specs.{Sizes.half_of, Picture.head, Picture.cells_part, Picture.foot, Picture.svg_text}

-- the parts, for any half of a cell's width, and any numbers of cycles and rows
abbrev pub parts : Chart → ℕ → ℕ → ℕ → List ℕ
parts c half cycles rows =
    head c.name.now c.stages half cycles rows
    ++ (cells_part half (names_of c) (rows_of c) (diagram c.stages (ext_of c) (rows_of c))
    ++ foot half cycles rows (account (c.stages - 1) (ext_of c) (rows_of c)))

seen : (c : Chart) → parts c (half_of (longest (names_of c) c.stages)) (length (rows_of c)) (length (diagram c.stages (ext_of c) (rows_of c))) ≡ svg_text c
unfolding svg_text
seen c = refl

pub whole : (c : Chart) (half rows : ℕ) → half ≡ half_of (longest (names_of c) c.stages) → rows ≡ length (diagram c.stages (ext_of c) (rows_of c))
    → parts c half (length c.rows.now) rows ≡ svg_text c
whole c half rows h r =
    ap₂ (λ (a b : ℕ). parts c a (length c.rows.now) b) h r
    ∙ ap (λ (cycles : ℕ). parts c (half_of (longest (names_of c) c.stages)) cycles (length (diagram c.stages (ext_of c) (rows_of c)))) (sym (seen_length c.stages c.rows.now))
    ∙ seen c

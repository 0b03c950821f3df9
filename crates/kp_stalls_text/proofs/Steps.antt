-- The steps of the loops.
use Rattle.std.proofs.Common.{◌≡◌, ◌∙◌, ℕ, suc, ◌+◌, ◌-◌, ◌<◌, List, ◌∷◌, ◌++◌, length, get_or, drop, ap, sym, arith, append_assoc}
use Rattle.std.proofs.lemmas.List.{drop_more}
use Rattle.kp_ast.specs.declared.tree.{Stmt.Stmt, Block.Block}
use Rattle.kp_stalls.specs.declared.cause.Line.{Line}
use Rattle.kp_stalls_text.specs.{Labels.Labelled, Labels.label_at, Labels.label_in, Labels.labels_from, Labels.labels_in, Reports.AreWaits}
use Rattle.kp_stalls_text.specs.Text.{line_text, lines_text, read_sum, reads_text}

pub lines_next : (names : List (List ℕ)) (labels : List Labelled) (lines : List Line) (i : ℕ) (x : Line) → i < length lines → x ≡ get_or lines i x
    → lines_text names labels (drop i lines) ≡ line_text names labels x ++ lines_text names labels (drop (i + 1) lines)
lines_next names labels lines i x b is =
    ap (lines_text names labels) (drop_more lines i x b ∙ ap (λ (y : Line). y ∷ drop (i + 1) lines) (sym is))

-- LABELS.
pub stmts_step : (done whole : List Labelled) (stmts : List Stmt) (i : ℕ) (x : Stmt) → i < length stmts → x ≡ get_or stmts i x
    → done ++ labels_in (drop i stmts) ≡ whole → (done ++ label_in x.kind) ++ labels_in (drop (i + 1) stmts) ≡ whole
stmts_step done whole stmts i x b is so_far =
    append_assoc done (label_in x.kind) (labels_in (drop (i + 1) stmts))
    ∙ ap (λ (rest : List Stmt). done ++ labels_in rest) (sym (drop_more stmts i x b ∙ ap (λ (y : Stmt). y ∷ drop (i + 1) stmts) (sym is)))
    ∙ so_far

pub blocks_step : (done whole : List Labelled) (blocks : List Block) (i : ℕ) (x : Block) → i < length blocks → x ≡ get_or blocks i x
    → done ++ labels_from (drop i blocks) ≡ whole → (done ++ labels_in x.stmts) ++ labels_from (drop (i + 1) blocks) ≡ whole
blocks_step done whole blocks i x b is so_far =
    append_assoc done (labels_in x.stmts) (labels_from (drop (i + 1) blocks))
    ∙ ap (λ (rest : List Block). done ++ labels_from rest) (sym (drop_more blocks i x b ∙ ap (λ (y : Block). y ∷ drop (i + 1) blocks) (sym is)))
    ∙ so_far

-- THE SUMS of the reads.
pub reads_next : (labels : List Labelled) (lines : List Line) (waits : List ℕ) (i : ℕ) → AreWaits (length labels) lines waits → i < length waits
    → reads_text labels lines i (length labels - i)
    ≡ read_sum (label_at labels i) (get_or waits i 0) ++ reads_text labels lines (i + 1) (length labels - (i + 1))
reads_next labels lines waits i are b =
    let long : length waits ≡ length labels = are.count in
    let one : length labels - i ≡ suc (length labels - (i + 1)) = omega (arith, long, b) in
    let there : i < length labels = omega (arith, long, b) in
    ap (λ (d : ℕ). reads_text labels lines i d) one
    ∙ ap (λ (n : ℕ). read_sum (label_at labels i) n ++ reads_text labels lines (i + 1) (length labels - (i + 1))) (sym (are.waits i there))

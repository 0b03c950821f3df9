-- Labels, as they are read word by word.
use Rattle.std.proofs.Common.{◌≡◌, ◌∙◌, ℕ, ◌+◌, ◌<◌, List, [], ◌∷◌, ◌++◌, length, map, drop, get_or, Result, Ok, Err, Option, Some, refl, sym, ap, append_assoc}
use Rattle.std.proofs.lemmas.List.{drop_more}
use Rattle.kp_base.specs.{Lines.IsWithin, Lines.piece_of, declared.run.Run.Run}
use Rattle.kp_ast.specs.declared.tree.Job.{Job}
use Rattle.kp_directive.proofs.Ranges.{run_again}
use Rattle.kp_diagram_labels.specs.{Labels.and_label, Labels.label_named, Labels.labels_from, Labels.with_label, declared.label.Label.Label}

-- these labels, and then those
abbrev pub prefixed : List Label → Result (List Label) Run → Result (List Label) Run
prefixed labels (Ok rest) = Ok (labels ++ rest)
prefixed labels (Err word) = Err word

prefixed_more : (labels : List Label) (l : Label) (rest : Result (List Label) Run) → prefixed labels (and_label l rest) ≡ prefixed (labels ++ l ∷ []) rest
prefixed_more labels l (Ok rest) = ap (λ (ls : List Label). Ok ls) (sym (append_assoc labels (l ∷ []) rest))
prefixed_more labels l (Err word) = refl

module _ (job : Job) (text : List ℕ) (words : List Run) (all : Result (List Label) Run) (i : ℕ) where
  abbrev left : ℕ → Result (List Label) Run
  left n = labels_from job (map (piece_of text) (drop n words))

  module _ (x : Run) (b : i < length words) (is : x ≡ get_or words i x) (within : IsWithin text x) where
    one_word : left i ≡ with_label (label_named job (piece_of text x)) x (left (i + 1))
    one_word =
        ap (λ (ws : List Run). labels_from job (map (piece_of text) ws)) (drop_more words i x b ∙ ap (λ (y : Run). y ∷ drop (i + 1) words) (sym is))
        ∙ ap (λ (r : Run). with_label (label_named job (piece_of text x)) r (left (i + 1))) (run_again text x within)

    pub label_read : (l : Label) (labels items : List Label) → Some l ≡ label_named job (piece_of text x) → items ≡ labels ++ l ∷ [] → all ≡ prefixed labels (left i)
        → all ≡ prefixed items (left (i + 1))
    label_read l labels items named pushed kept =
        kept
        ∙ ap (prefixed labels) (one_word ∙ ap (λ (o : Option Label). with_label o x (left (i + 1))) (sym named))
        ∙ prefixed_more labels l (left (i + 1))
        ∙ ap (λ (ls : List Label). prefixed ls (left (i + 1))) (sym pushed)

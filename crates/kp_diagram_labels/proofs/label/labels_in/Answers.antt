use Rattle.std.proofs.Common.{◌≡◌, ◌∙◌, ℕ, ◌<◌, ◌≤◌, ◌^◌, List, length, map, ap, sym, subst, arith, All, Result}
use Rattle.std.proofs.lemmas.{List.length-map, List.Elements.All-weaker, Result.IfErr-weaker, Result.IfOk-weaker}
use Rattle.kp_base.specs.{Lines.IsWithin, Lines.piece_of, Lines.words_of, declared.run.Run.Run}
use Rattle.kp_diagram_labels.specs.{Labels.IsIn, Labels.IsLabel, Labels.Yields, Labels.labels_from, Labels.unseparated, declared.label.Label.Label, declared.label.LabelsRefused.LabelsRefused}
use Rattle.kp_diagram_labels.specs.declared.label.LabelsRefused.TheVariants.{Word, NoMemory}
use Rattle.kp_diagram_labels.proofs.label.labels_in.Goals as goal

same_length : (text plain given : List ℕ) → given ≡ plain → plain ≡ map unseparated text → length given ≡ length text
same_length text plain given at is = ap (λ (l : List ℕ). length l) (at ∙ is) ∙ length-map text unseparated

within_as : (a b : List ℕ) (r : Run) → length a ≡ length b → IsWithin a r → IsWithin b r
within_as a b r e w = (w.0, subst (λ (n : ℕ). r.end ≤ n) e w.1)

refused_as : (a b : List ℕ) → length a ≡ length b → (e : LabelsRefused) → IsIn a e → IsIn b e
refused_as a b e (Word word) h = within_as a b word e h
refused_as a b e NoMemory h = tt

pub words_in-requires-clause-within : goal.words_in-requires-clause-within
words_in-requires-clause-within c =
    within_as c.args.text.now c.as_slice-bytes.result.now c.args.run
    (sym (same_length c.args.text.now _ c.as_slice-bytes.result.now c.as_slice-bytes.ensures.value c.in_ok-plain.ensures)) c.requires.within

pub words_in-requires-clause-few : goal.words_in-requires-clause-few
words_in-requires-clause-few c =
    subst (λ (n : ℕ). n < 2 ^ 32) (sym (same_length c.args.text.now _ c.as_slice-bytes.result.now c.as_slice-bytes.ensures.value c.in_ok-plain.ensures)) c.requires.few

pub labels_of-requires : goal.labels_of-requires
labels_of-requires c = rw c.as_slice.ensures.value c.in_ok-words.ensures.within

pub returns-clause-labels : goal.returns-clause-labels
returns-clause-labels c =
    let bytes = c.as_slice-bytes.result.now in
    subst (λ (found : Result (List Label) Run). Yields c.labels_of.result (λ labels. labels.items) found)
    (ap (labels_from c.args.layout.now)
    (ap (map (piece_of bytes)) c.as_slice.ensures.value ∙ c.in_ok-words.ensures.words
    ∙ ap (λ (t : List ℕ). words_of (piece_of t c.args.run)) (c.as_slice-bytes.ensures.value ∙ c.in_ok-plain.ensures)))
    c.labels_of.ensures.labels

pub returns-clause-fits : goal.returns-clause-fits
returns-clause-fits c =
    let text = c.args.text.now in
    let bytes = c.as_slice-bytes.result.now in
    let e : length bytes ≡ length text = same_length text _ bytes c.as_slice-bytes.ensures.value c.in_ok-plain.ensures in
    let job = c.args.layout.now in
    IfOk-weaker c.labels_of.result _ _
    (λ labels all. All-weaker (IsLabel job bytes) (IsLabel job text) (λ l is. record { name = within_as bytes text l.name e is.name; there = is.there }) labels.items all)
    c.labels_of.ensures.fits

pub returns-clause-within : goal.returns-clause-within
returns-clause-within c =
    let text = c.args.text.now in
    let bytes = c.as_slice-bytes.result.now in
    let e : length bytes ≡ length text = same_length text _ bytes c.as_slice-bytes.ensures.value c.in_ok-plain.ensures in
    IfErr-weaker c.labels_of.result _ _ (refused_as bytes text e) c.labels_of.ensures.within

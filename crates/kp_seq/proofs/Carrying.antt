-- The names of the pipes are bound in one copy where their indices are in sequence.
use Rattle.std.proofs.Common.{◌≡◌, ◌∙◌, ℕ, suc, ◌+◌, ◌-◌, ◌<◌, ◌≤◌, List, [], ◌∷◌, ◌++◌, Option, Some, None, length, get_or, take, drop, set, ap, sym, arith, slice_index, ⊎_elim}
use Rattle.std.proofs.lemmas.Bool.{cases_lt}
use Rattle.std.proofs.lemmas.List.{append_assoc, drop_all, drop_more, drop-set-lt, length-set, take-append-drop, take_more_set}
use Rattle.kp_seq.specs.inner.{Names.IsRun, Resolved.Raw, Resolved.with_place, Resolved.with_carried, Resolved.with_run}

abbrev with_names : Raw → List ℕ → Raw
with_names r names = record r { names = names }

-- the indices after the first one
run_first : (f : ℕ) (p : Option ℕ) (ps : List (Option ℕ)) → IsRun f (p ∷ ps) → p ≡ Some f
run_first f p ps h = let n : f + 0 ≡ f = omega arith in h 0 (omega arith) ∙ ap Some n

run_rest : (f : ℕ) (p : Option ℕ) (ps : List (Option ℕ)) → IsRun f (p ∷ ps) → IsRun (f + 1) ps
run_rest f p ps h = λ j k. let n : f + suc j ≡ f + 1 + j = omega arith in h (suc j) (omega (arith, k)) ∙ ap Some n

-- one more place
pub run_next : (ps : List (Option ℕ)) (f i p : ℕ) → ((j : ℕ) → j < i → get_or ps j None ≡ Some (f + j)) → get_or ps i None ≡ Some p → i ≤ p → p - i ≡ f
    → (j : ℕ) → j < i + 1 → get_or ps j None ≡ Some (f + j)
run_next ps f i p h e l m = λ j k. ⊎_elim (λ (b : j < i). h j b)
    (λ (b : i ≤ j).
    let same : j ≡ i = omega (arith, b, k) in
    let n : p ≡ f + j = omega (arith, l, m, same) in
    ap (λ x. get_or ps x None) same ∙ e ∙ ap Some n)
    (cases_lt j i)

carried_run : (r : Raw) (i f : ℕ) (ps : List (Option ℕ)) → IsRun f ps → length r.pipes ≡ i + length ps → f + length ps ≤ length r.names
    → with_carried r i ps ≡ with_names r (take f r.names ++ (drop i r.pipes ++ drop (f + length ps) r.names))
carried_run r i f [] h n l =
    let none : drop i r.pipes ≡ [] = drop_all i r.pipes (omega (arith, n)) in
    let end : f + 0 ≡ f = omega arith in
    ap (with_names r) (
    sym (take-append-drop f r.names)
    ∙ ap (λ k. take f r.names ++ drop k r.names) (sym end)
    ∙ ap (λ xs. take f r.names ++ (xs ++ drop (f + 0) r.names)) (sym none)
    )
carried_run r i f (p ∷ ps) h n l =
    let v : ℕ = slice_index r.pipes i in
    let names : List ℕ = set r.names f v in
    let next : Raw = with_names r names in
    let count : length r.pipes ≡ (i + 1) + length ps = omega (arith, n) in
    let inside : f < length r.names = omega (arith, l) in
    let sized : length names ≡ length r.names = length-set r.names f v in
    let last : f + 1 + length ps ≡ f + suc (length ps) = omega arith in
    let back : drop (f + 1 + length ps) names ≡ drop (f + suc (length ps)) r.names =
    drop-set-lt (f + 1 + length ps) r.names f v (omega arith) ∙ ap (λ k. drop k r.names) last in
    ap (λ o. with_carried (with_place r o v) (i + 1) ps) (run_first f p ps h)
    ∙ carried_run next (i + 1) (f + 1) ps (run_rest f p ps h) count (omega (arith, l, sized))
    ∙ ap (with_names r) (
    ap (λ xs. xs ++ (drop (i + 1) r.pipes ++ drop (f + 1 + length ps) names)) (take_more_set r.names f v inside)
    ∙ append_assoc (take f r.names) (v ∷ []) (drop (i + 1) r.pipes ++ drop (f + 1 + length ps) names)
    ∙ ap (λ xs. take f r.names ++ (v ∷ (drop (i + 1) r.pipes ++ xs))) back
    ∙ ap (λ xs. take f r.names ++ (xs ++ drop (f + suc (length ps)) r.names)) (sym (drop_more r.pipes i 0 (omega (arith, n))))
    )

-- all of them, from the first pipe on
pub carried_all : (r s : Raw) (f : ℕ) (ps : List (Option ℕ)) → IsRun f ps → length ps ≡ length r.pipes → f + length ps ≤ length r.names → s ≡ with_run r f → s ≡ with_carried r 0 ps
carried_all r s f ps h n l is =
    let m : length r.pipes ≡ 0 + length ps = omega (arith, n) in
    is
    ∙ ap (λ k. with_names r (take f r.names ++ (r.pipes ++ drop (f + k) r.names))) (sym n)
    ∙ sym (carried_run r 0 f ps h m l)

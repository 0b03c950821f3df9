-- The names of a reset list, by a table of start values.
use Rattle.std.proofs.Common.{◌≡◌, ◌∙◌, ℕ, List, [], ◌∷◌, ◌++◌, Option, Some, Result, Ok, Err, OnOk, codes, refl, ap}
use Rattle.kp_bits.specs.declared.literal.Literal.{Literal}
use Rattle.kp_vlog.specs.declared.tree.{Init.Init, ResetValue.ResetValue, ResetList.ResetList}
use Rattle.kp_vlog.specs.Occurrences.{Occurrence, occurs, resets_reg, needs, uses_port, start_in, is_literal, values_names, reset_names}
use Rattle.kp_vread_rules.specs.inner.Starting.{values_by}

pub values_same : (start : List ℕ → Option Literal) (is : List Init) (xs : List ResetValue) → ((n : List ℕ) → start n ≡ start_in is n) → values_by start xs ≡ values_names is xs
values_same start is [] h = refl
values_same start is (x ∷ xs) h =
    ap (λ o. occurs resets_reg x.name ∷ occurs (needs (is_literal o x.value.literal)) x.name ∷ values_by start xs) (h x.name.name)
    ∙ ap (λ os. occurs resets_reg x.name ∷ occurs (needs (is_literal (start_in is x.name.name) x.value.literal)) x.name ∷ os) (values_same start is xs h)

-- the names of a reset list come after the name of its port
pub reset_done : {A B : Type 0} (r : Result A B) (old new : List Occurrence) (start : List ℕ → Option Literal) (is : List Init) (l : ResetList) (middle : List Occurrence)
    → middle ≡ old ++ occurs (uses_port (codes "rst")) l.reset ∷ [] → ((n : List ℕ) → start n ≡ start_in is n) → OnOk r (new ≡ middle ++ values_by start l.values)
    → OnOk r (new ≡ old ++ reset_names is (Some l))
reset_done (Ok x) old new start is l middle m h e =
    e ∙ ap (λ os. os ++ values_by start l.values) m ∙ append-assoc old (occurs (uses_port (codes "rst")) l.reset ∷ []) (values_by start l.values)
    ∙ ap (λ os. old ++ (occurs (uses_port (codes "rst")) l.reset ∷ os)) (values_same start is l.values h)
  where
    append-assoc : (xs ys zs : List Occurrence) → (xs ++ ys) ++ zs ≡ xs ++ (ys ++ zs)
    append-assoc [] ys zs = refl
    append-assoc (x ∷ xs) ys zs = ap (λ os. x ∷ os) (append-assoc xs ys zs)
reset_done (Err y) old new start is l middle m h e = tt

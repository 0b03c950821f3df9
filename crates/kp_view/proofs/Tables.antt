-- A text of a table.
use Rattle.std.proofs.Common.{◌≡◌, ◌∙◌, ℕ, ◌<◌, ◌≤◌, List, [], map, length, slice_index_or, Some, None, refl, sym, ap, subst}
use Rattle.std.proofs.lemmas.Option.{slice_get-map, slice_get_past, slice_get_read}
use Rattle.std.specs.{declared.option.Option.Option, Prelude.option_map, Prelude.slice_get, Prelude.unwrap_or, Option.option_map_or}

mapped : {Y : Type 0} (text : Y → List ℕ) (entry : Option Y) → option_map_or text entry [] ≡ unwrap_or (option_map text entry) []
mapped text None = refl
mapped text (Some y) = refl

-- an entry, where the texts are those of another table
pub found : {X Y : Type 0} (x : X) (entries written : List X) (table : List Y) (text : X → List ℕ) (other : Y → List ℕ) (n m : ℕ) → n ≡ m → n < length entries
    → x ≡ slice_index_or entries n x → entries ≡ written → map text written ≡ map other table → text x ≡ option_map_or other (slice_get table m) []
found x entries written table text other n m is within at all same =
    let read : slice_get entries n ≡ Some x = slice_get_read entries (length entries) n x refl within at in
    let texts : option_map other (slice_get table n) ≡ Some (text x) =
    sym (slice_get-map other table n) ∙ ap (λ (l : List (List ℕ)). slice_get l n) (sym (ap (map text) all ∙ same)) ∙ slice_get-map text entries n ∙ ap (option_map text) read in
    rw (← is) (sym (mapped other (slice_get table n) ∙ ap (λ (t : Option (List ℕ)). unwrap_or t []) texts))

-- no entry
pub missing : {X Y : Type 0} (entries written : List X) (table : List Y) (other : Y → List ℕ) (n m : ℕ) → n ≡ m → length entries ≤ n → entries ≡ written
    → length written ≡ length table → [] ≡ option_map_or other (slice_get table m) []
missing entries written table other n m is past all same =
    let beyond : length table ≤ n = subst (λ (k : ℕ). k ≤ n) (ap length all ∙ same) past in
    rw (← is, slice_get_past table n beyond) refl

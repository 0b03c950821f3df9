-- What holds for each form of statement holds for each statement of a generated job.
use Rattle.std.proofs.Common.{ℕ, ◌+◌, List, [], ◌∷◌, ◌++◌, length}
use Rattle.std.specs.Prelude.{◌==◌}
use Rattle.kp_ast.specs.declared.tree.Stmt.{Stmt}
use Rattle.kp_gen.specs.declared.draws.Route.{Route}
use Rattle.kp_gen.specs.Generated.{set, file_read, address_put, value_put, file_set, file_sets, for_each, sets_from, first_stmts, later_stmts}
use Rattle.kp_gen.proofs.{Forms.read, Forms.put, Lookups.either}

abbrev pub Each : (Stmt → Type 0) → List Stmt → Type 0
Each P [] = Unit {0}
Each P (s ∷ ss) = P s × Each P ss

module _ (P : Stmt → Type 0) where
  each_append : (xs ys : List Stmt) → Each P xs → Each P ys → Each P (xs ++ ys)
  each_append [] ys a b = b
  each_append (x ∷ xs) ys a b = (a.0, each_append xs ys a.1 b)

  each_made : (make : ℕ → Route → Stmt) (j : ℕ) (rs : List Route) → ((i : ℕ) (r : Route) → P (make i r)) → Each P (for_each make j rs)
  each_made make j [] h = tt
  each_made make j (r ∷ rs) h = (h j r, each_made make (j + 1) rs h)

  pub each_first : (rs : List Route) → ((i : ℕ) (r : Route) → P (read i r)) → P file_read → ((i : ℕ) (r : Route) → P (put (length rs) i r)) → P address_put → P value_put → Each P (first_stmts rs)
  each_first rs reads file puts address value =
      each_append (for_each read 0 rs ++ file_read ∷ for_each (put (length rs)) 0 rs) (address_put ∷ value_put ∷ [])
      (each_append (for_each read 0 rs) (file_read ∷ for_each (put (length rs)) 0 rs) (each_made read 0 rs reads) (file, each_made (put (length rs)) 0 rs puts)) (address, (value, tt))

  each_set : ((i : ℕ) (r : Route) → P (set i r)) → (k j : ℕ) (rs : List Route) → Each P (sets_from k j rs)
  each_set sets k j [] = tt
  each_set sets k j (r ∷ rs) = either (r.set == k) (λ e. rw e (sets j r, each_set sets k (j + 1) rs)) (λ e. rw e (each_set sets k (j + 1) rs))

  pub each_later : ((i : ℕ) (r : Route) → P (set i r)) → P file_set → (rs : List Route) (k : ℕ) → Each P (later_stmts rs k)
  each_later sets last rs k = each_append (sets_from k 0 rs) (file_sets k) (each_set sets k 0 rs) (either (k == 1) (λ e. rw e (last, tt)) (λ e. rw e tt))

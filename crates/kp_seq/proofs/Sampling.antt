-- Input vectors: past the end of a vector no names are bound, and a machine without samples takes the empty vector.
use Rattle.std.proofs.Common.{◌≡◌, ◌∙◌, ℕ, ◌≤◌, List, [], ◌∷◌, Option, drop, length, refl, ap}
use Rattle.std.proofs.lemmas.List.{drop_all}
use Rattle.kp_bits.specs.Word.{Word}
use Rattle.kp_ast.specs.declared.tree.Decl.{Decl}
use Rattle.kp_ast.specs.declared.tree.Decl.TheVariants as decls
use Rattle.kp_stage.specs.Start.{AreSamples}
use Rattle.kp_machine.specs.Slots.{samples_of}
use Rattle.kp_seq.specs.inner.Resolved.{Raw, with_row_at}

pub no_row : (ds : List Decl) → samples_of ds ≡ [] → AreSamples ds []
no_row [] e = refl
no_row (decls.Sample n width stage ∷ ds) e = cc
no_row (_ ∷ ds) e = no_row ds e

no_more : (u : Raw) (ps : List (Option ℕ)) → with_row_at u ps [] ≡ u
no_more u [] = refl
no_more u (p ∷ ps) = refl

pub row_ends : (u : Raw) (ps : List (Option ℕ)) (row : List Word) (i : ℕ) → length row ≤ i → with_row_at u ps (drop i row) ≡ u
row_ends u ps row i h = ap (with_row_at u ps) (drop_all i row h) ∙ no_more u ps

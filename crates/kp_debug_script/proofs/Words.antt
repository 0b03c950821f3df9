-- The tokens after `until`.
use Rattle.std.proofs.Common.{◌≡◌, ℕ, List, [], ◌∷◌, length, map, refl}
use Rattle.kp_ast.specs.declared.tree.Decl.{Decl}
use Rattle.kp_base.specs.{declared.run.Run.Run, Lines.Piece}
use Rattle.kp_debug_script.specs.Scripts.{broken, until_by}
use Rattle.kp_debug_script.specs.declared.command.Verb.TheVariants as verbs
use Rattle.kp_debug_script.specs.declared.fault.ScriptFault.TheVariants as faults

-- other than three are none of its forms
pub not_three : (ds : List Decl) (at : ℕ) (f : Run → Piece) (args : List Run) → (length args ≡ 3 → ⊥) → broken (faults.Words verbs.Until) at ≡ until_by ds at (map f args)
not_three ds at f [] h = refl
not_three ds at f (a ∷ []) h = refl
not_three ds at f (a ∷ b ∷ []) h = refl
not_three ds at f (a ∷ b ∷ c ∷ []) h = absurd (h refl)
not_three ds at f (a ∷ b ∷ c ∷ d ∷ rest) h = refl

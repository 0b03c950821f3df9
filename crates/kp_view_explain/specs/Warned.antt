-- WHAT IS SAID OF A WARNING: the names and numbers that its sentence prints.
use Rattle.std.specs.Prelude.{◌≡◌, ℕ, List, [], Option, Some, Bool, false, is_some, slice_get}
use Rattle.kp_base.specs.declared.place.Place.{Place}
use Rattle.kp_ast.specs.declared.tree.{Decl.Decl, Job.Job}
use Rattle.kp_ast.specs.declared.tree.Decl.TheVariants as decls
use Rattle.kp_lint.specs.declared.lint.Lint.{Lint}
use Rattle.kp_lint.specs.declared.lint.Lint.TheVariants as lints
use Rattle.kp_view_excerpt.specs.Tokens.{token_at}
use Rattle.kp_view_help.specs.declared.{kind.Kind.Kind, word.Word.Word}
use Rattle.kp_view_help.specs.declared.kind.Kind.TheVariants as kinds
use Rattle.kp_view_message.specs.declared.warning.Warning.{Warning}
use Rattle.kp_view_message.specs.declared.warning.Warning.TheVariants as warnings

-- a result and its target: the names, whether the target is a file, and the write stage
abbrev pub result_name : Option Decl → List ℕ
result_name (Some (decls.Target r)) = r.name.name
result_name _ = []

abbrev pub target_name : Option Decl → List ℕ
target_name (Some (decls.Target r)) = r.target.name
target_name _ = []

abbrev pub has_address : Option Decl → Bool
has_address (Some (decls.Target r)) = is_some r.address
has_address _ = false

abbrev pub write_stage : Option Decl → ℕ
write_stage (Some (decls.Target r)) = r.stage.value
write_stage _ = 0

-- The name is the token at the place of the warning. A result is that of the declaration whose number the warning has.
abbrev pub SaysOf : List ℕ → Job → Place → Lint → Warning → Type 0
SaysOf text job at (lints.NeverSet i) (warnings.NeverSet result target) =
    (result.0.now ≡ token_at text at) × (target.0.now ≡ target_name (slice_get job.decls i))
SaysOf text job at (lints.MaybeUnset i lines) (warnings.MaybeUnset result target file stage printed) =
    let output = slice_get job.decls i in
    (result.0.now ≡ token_at text at) × (target.0.now ≡ target_name output) × (file ≡ has_address output) × (stage ≡ write_stage output) × (printed ≡ lines)
SaysOf text job at (lints.SetInVain i stage line) (warnings.SetInVain result first first_line) =
    (result.0.now ≡ result_name (slice_get job.decls i)) × (first ≡ stage) × (first_line ≡ line)
SaysOf text job at lints.UnusedPipe (warnings.UnusedPipe name) = name.0.now ≡ token_at text at
SaysOf text job at (lints.UnusedLocal k) (warnings.UnusedLocal name stage) = (name.0.now ≡ token_at text at) × (stage ≡ k)
SaysOf text job at lints.UnusedHint (warnings.UnusedName name kind) = (name.0.now ≡ token_at text at) × (kind ≡ kinds.Hint)
SaysOf text job at lints.UnusedSample (warnings.UnusedName name kind) = (name.0.now ≡ token_at text at) × (kind ≡ kinds.Sample)
SaysOf text job at lints.UnusedFunction (warnings.UnusedName name kind) = (name.0.now ≡ token_at text at) × (kind ≡ kinds.Function)
SaysOf text job at lints.NoResult (warnings.NoResult name) = name.0.now ≡ token_at text at
SaysOf text job at lints.KeywordPort (warnings.KeywordPort name) = name.0.now ≡ token_at text at
SaysOf text job at (lints.PutLate i k) (warnings.PutLate name target earliest) =
    (name.0.now ≡ token_at text at) × (target.0.now ≡ target_name (slice_get job.decls i)) × (earliest ≡ k)
SaysOf _ _ _ _ _ = ⊥

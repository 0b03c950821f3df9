-- What helps where a rule of names is violated (E5, E6 and E7).
use Rattle.std.specs.Prelude.{ℕ, ◌≡◌, Bool, true, false, List, Option, Some, None, option_map, ◌==◌, nat_lt, if◌then◌else◌, position}
use Rattle.kp_base.specs.declared.place.Place.{Place}
use Rattle.kp_ast.specs.declared.{tree.Job.Job, widths.NameKind.NameKind, widths.Scope.Scope}
use Rattle.kp_ast.specs.declared.widths.NameKind.TheVariants as named
use Rattle.kp_ast.specs.declared.widths.Scope.TheVariants as scopes
use Rattle.kp_width.specs.declared.fault.Position.{Position}
use Rattle.kp_width.specs.declared.fault.Position.TheVariants as positions
use Rattle.kp_view_help.specs.declared.{help.Help.Help, word.Word.Word, kind.Kind.Kind, kind.Wanted.Wanted}
use Rattle.kp_view_help.specs.declared.help.Help.TheVariants as help
use Rattle.kp_view_help.specs.declared.kind.Kind.TheVariants as kinds
use Rattle.kp_view_help.specs.declared.kind.Wanted.TheVariants as wanted
use Rattle.kp_view_help.specs.Texts.{kind_of}
use Rattle.kp_view_message.specs.Sites.{binds_in, declares, holder, is_own, other_case}

-- a pipe whose name a statement binds
abbrev pub again_help : NameKind → Scope → Option Help
again_help named.Pipe (scopes.Stage k) = Some help.PipeIsPut
again_help _ _ = None

-- a later stage gets a value of an earlier one through a pipe
abbrev pub through_pipe : Word → ℕ → Option ℕ → ℕ → Option Help
through_pipe n here width there = if nat_lt there here then Some (help.ThroughPipe n there width) else None

-- the line with the word that has these bytes, and else another line
abbrev pub with_word : (Word → Help) → Option Help → Option Word → Option Help
with_word line other (Some w) = Some (line w)
with_word line other None = other

abbrev pub bytes_of : Word → List ℕ
bytes_of w = w.0.now

-- a value of this other stage: a pipe that holds it, and else a new one
abbrev pub AreElsewhereHelps : List ℕ → Word → Job → ℕ → Option ℕ → ℕ → Option Help × Option Help → Type 0
AreElsewhereHelps text n job here width there helps =
    (pipe : Option Word) × (option_map bytes_of pipe ≡ holder text job n.0.now here there)
    × (helps ≡ (Some (help.KnownThere there), with_word help.HeldBy (through_pipe n here width there) pipe))

-- a name that isn't in scope in a stage, and this stage is the first that binds it
abbrev pub AreBoundHelps : List ℕ → Word → Job → ℕ → Option ℕ → ℕ → Bool → Option Help × Option Help → Type 0
AreBoundHelps text n job here width there true helps = helps ≡ (Some help.MoveUp, None)
AreBoundHelps text n job here width there false helps = AreElsewhereHelps text n job here width there helps

abbrev pub AreStageHelps : List ℕ → Word → Job → ℕ → Option ℕ → Option ℕ → Option Help × Option Help → Type 0
AreStageHelps text n job here width None helps = helps ≡ (None, None)
AreStageHelps text n job here width (Some there) helps = AreBoundHelps text n job here width there (there == here) helps

-- a name that isn't in scope here, and this declaration is the first of it
abbrev pub AreLaterHelps : List ℕ → Word → Job → Scope → Option ℕ → Option ℕ → Option Help × Option Help → Type 0
AreLaterHelps text n job here width (Some number) helps = helps ≡ (Some help.MoveUp, None)
AreLaterHelps text n job (scopes.Stage here) width None helps = AreStageHelps text n job here width (position (binds_in n.0.now) job.blocks) helps
AreLaterHelps text n job _ width None helps = helps ≡ (None, None)

-- a name in its own definition: a declared name that differs in the case of letters alone is meant
abbrev pub AreOwnHelps : Word → Job → Option Help × Option Help → Type 0
AreOwnHelps n job helps =
    (other : Option Word) × (option_map bytes_of other ≡ other_case n.0.now job)
    × (helps ≡ (with_word help.OtherCase (Some help.OwnDefinition) other, None))

abbrev pub AreHelpsIf : List ℕ → Bool → Word → Job → Scope → Option ℕ → Option Help × Option Help → Type 0
AreHelpsIf text true n job here width helps = AreOwnHelps n job helps
AreHelpsIf text false n job here width helps = AreLaterHelps text n job here width (position (declares n.0.now) job.decls) helps

abbrev pub AreScopeHelps : List ℕ → Word → Job → Place → Scope → Option ℕ → Option Help × Option Help → Type 0
AreScopeHelps text n job at here width helps = AreHelpsIf text (is_own n.0.now at job here) n job here width helps

-- what is wanted in a position: in a function a value is a parameter
abbrev pub wanted_in : Position → Scope → Wanted
wanted_in positions.Value (scopes.Function k) = wanted.Parameter
wanted_in positions.Value _ = wanted.Value
wanted_in positions.Register _ = wanted.Register
wanted_in positions.File _ = wanted.File
wanted_in positions.Pipe _ = wanted.Pipe
wanted_in positions.Result _ = wanted.Output
wanted_in positions.Hint _ = wanted.Hint
wanted_in positions.Callee _ = wanted.Function

-- what is written in the place of a name of another kind than is wanted
abbrev pub instead : Word → Kind → Wanted → Option Help
instead n kinds.Register wanted.Value = Some (help.ReadRegister n)
instead n kinds.File wanted.Value = Some (help.ReadFile n)
instead n kinds.Pipe wanted.Output = Some (help.WritePut n)
instead n kinds.Output wanted.Pipe = Some (help.WriteSet n)
instead n kinds.Register wanted.Pipe = Some (help.SetItsResult n)
instead n kinds.Register wanted.Output = Some (help.SetItsResult n)
instead n kinds.Hint wanted.Pipe = Some (help.WriteAim n)
instead n kinds.Hint wanted.Output = Some (help.WriteAim n)
instead _ _ _ = None

-- a file where a register may stand
abbrev pub needs_address : NameKind → Position → Bool
needs_address (named.File bits) positions.Register = true
needs_address _ _ = false

-- a file needs an address, and another name is replaced
abbrev pub kind_help : Word → NameKind → Position → Scope → Option Help
kind_help n found position here = if needs_address found position then Some (help.WithAddress n) else instead n (kind_of found) (wanted_in position here)

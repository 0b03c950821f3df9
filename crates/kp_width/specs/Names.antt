-- Names and their scopes: rules E5, E6 and E7.
--
-- A name that is declared before the stages is in scope from the end of its declaration to the end of the text. A
-- parameter is in scope to the end of its function, and the name of a `read` or a `let` from the end of its statement
-- to the end of its block.
use Rattle.std.specs.Prelude.{ℕ, List, [], ◌∷◌, ◌++◌, Option, Some, None, Bool, true, false, is_some, not, ◌&&◌, nat_eq, map, if◌then◌else◌}
use Rattle.std.specs.{Map.lookup, Cmp.Lexicographic.pointwise}
use Rattle.indexmap.specs.IndexMap.{insert_entry}
use Rattle.kp_base.specs.{First.first, Check.Check, Check.ok, Check.wants, declared.place.Place.Place}
use Rattle.kp_ast.specs.Expressions.{is_same_name}
use Rattle.kp_ast.specs.declared.widths.{Entry.Entry, Scope.Scope, NameKind.NameKind}
use Rattle.kp_ast.specs.declared.widths.Scope.TheVariants as scopes
use Rattle.kp_ast.specs.declared.widths.NameKind.TheVariants as kinds
use Rattle.kp_width.specs.{Faults.WidthFinding, Faults.found_at, declared.fault.Position.Position, declared.fault.WidthFault.WidthFault}
use Rattle.kp_width.specs.declared.fault.WidthFault.TheVariants as faults

-- a check without a value: only whether a rule is violated
abbrev pub Checked : Type 0
Checked = Check WidthFinding (Unit {0})

abbrev pub passed : Checked
passed = ok tt

-- the meaning of a name: its kind, the width of its values, and the number of its declaration; or it is doubtful, since its declaration is
-- refused
pub record Sense : Type 0 where
  pub kind : NameKind
  pub width : ℕ
  pub from : ℕ
  pub doubtful : Bool

abbrev pub sense : NameKind → ℕ → ℕ → Sense
sense kind width from = record { kind = kind; width = width; from = from; doubtful = false }

abbrev pub doubtful : Sense
doubtful = record { kind = kinds.Reg; width = 0; from = 0; doubtful = true }

abbrev pub Names : Type 0
Names = List (List ℕ × Sense)

-- a position in the text: the names of the text that are in scope, those of the open function or block, which
-- function or block is open, the entries of all names that were declared so far, and whether a name may be doubtful
pub record Scoped : Type 0 where
  pub text : Names
  pub local : Names
  pub here : Scope
  pub entries : List Entry
  pub doubts : Bool

-- names are equal if their bytes are
abbrev pub look_up : Names → List ℕ → Option Sense
look_up names name = lookup (pointwise nat_eq name) names

abbrev pub or_else : Option Sense → Option Sense → Option Sense
or_else None other = other
or_else (Some m) other = Some m

-- the meaning of a name, if it is in scope
abbrev pub find : Scoped → List ℕ → Option Sense
find s name = or_else (look_up s.local name) (look_up s.text name)

-- the start of the text
abbrev pub nothing : Scoped
nothing = record { text = []; local = []; here = scopes.Text; entries = []; doubts = false }

-- the scope of a function or a block is opened: the names declared in the previous one go out of scope
abbrev pub opened : Scoped → Scope → Scoped
opened s scope = record { text = s.text; local = []; here = scope; entries = s.entries; doubts = s.doubts }

-- the entry of a name is added
abbrev pub with_entry : Scoped → Scope → List ℕ → Sense → Scoped
with_entry s scope name m = record {
  text = s.text;
  local = s.local;
  here = s.here;
  entries = s.entries ++ record { name = name; scope = scope; kind = m.kind; width = m.width } ∷ [];
  doubts = s.doubts;
}

-- a name comes into scope to the end of the text, and the open scope ends
abbrev pub with_text : Scoped → List ℕ → Sense → Scoped
with_text s name m = record { text = s.text ++ (name, m) ∷ []; local = []; here = scopes.Text; entries = s.entries; doubts = s.doubts }

-- a name comes into scope to the end of the open function or block
abbrev pub with_local : Scoped → List ℕ → Sense → Scoped
with_local s name m = record { text = s.text; local = s.local ++ (name, m) ∷ []; here = s.here; entries = s.entries; doubts = s.doubts }

-- the declaration of a name of the text, and of one of the open function or block
abbrev pub declared_text : Scoped → List ℕ → Sense → Scoped
declared_text s name m = with_text (with_entry s scopes.Text name m) name m

abbrev pub declared_local : Scoped → List ℕ → Sense → Scoped
declared_local s name m = with_local (with_entry s s.here name m) name m

-- A name whose declaration is refused is doubtful: to the end of the text, or of the open block.
abbrev pub doubted_text : Scoped → List ℕ → Scoped
doubted_text s name = record { text = insert_entry (pointwise nat_eq) s.text name doubtful; local = []; here = scopes.Text; entries = []; doubts = true }

abbrev pub doubted_local : Scoped → List ℕ → Scoped
doubted_local s name = record { text = s.text; local = insert_entry (pointwise nat_eq) s.local name doubtful; here = s.here; entries = s.entries; doubts = true }

-- An expression in a function may use the function's parameters. One in a stage may use the names that the stage has
-- bound by `read` or `let`, pipes, samples, and hints. That a sample occurs only in its own stage (E34), and a hint
-- only in a guess or an aim (E25), are separate rules, which are checked later.
abbrev pub is_value_in : Scope → NameKind → Bool
is_value_in (scopes.Function k) kinds.Param = true
is_value_in (scopes.Function k) _ = false
is_value_in _ kinds.Pipe = true
is_value_in _ kinds.Hint = true
is_value_in _ kinds.Sample = true
is_value_in _ kinds.Read = true
is_value_in _ kinds.Let = true
is_value_in _ _ = false

-- the kinds that the other positions accept
abbrev pub is_register : NameKind → Bool
is_register kinds.Reg = true
is_register _ = false

abbrev pub is_file : NameKind → Bool
is_file (kinds.File a) = true
is_file _ = false

abbrev pub is_pipe : NameKind → Bool
is_pipe kinds.Pipe = true
is_pipe _ = false

abbrev pub is_result : NameKind → Bool
is_result kinds.Target = true
is_result _ = false

abbrev pub is_hint : NameKind → Bool
is_hint kinds.Hint = true
is_hint _ = false

abbrev pub is_callee : NameKind → Bool
is_callee kinds.Func = true
is_callee _ = false

abbrev pub takes : Position → Scope → NameKind → Bool
takes Position.Value here = is_value_in here
takes Position.Register here = is_register
takes Position.File here = is_file
takes Position.Pipe here = is_pipe
takes Position.Result here = is_result
takes Position.Hint here = is_hint
takes Position.Callee here = is_callee

-- E5: a name is declared only if it isn't in scope
abbrev pub again : Scope → Option Sense → WidthFault
again here None = faults.NotInScope here None
again here (Some m) = if m.doubtful then faults.Doubtful else faults.DeclaredAgain m.kind m.from here

abbrev pub fresh : {X : Type 0} → Scoped → List ℕ → Place → Check WidthFinding X → Check WidthFinding X
fresh s name at next = wants (not (is_some (find s name))) (found_at at (again s.here (find s name))) next

-- the width of the first name of a block that is this one
abbrev pub is_of_block : Scope → Bool
is_of_block (scopes.Stage k) = true
is_of_block _ = false

abbrev pub bound_by : List ℕ → Entry → Option ℕ
bound_by name e = if is_of_block e.scope && is_same_name e.name name then Some e.width else None

abbrev pub bound_width : List Entry → List ℕ → Option ℕ
bound_width entries name = first (map (bound_by name) entries)

-- E6: a name that is used is in scope; and E7: its kind is accepted in its position. A doubtful name is accepted nowhere.
abbrev pub used_as : Scope → Option ℕ → Position → Place → Option Sense → Check WidthFinding Sense
used_as here bound position at None = wants false (found_at at (faults.NotInScope here bound)) (ok (sense kinds.Reg 0 0))
used_as here bound position at (Some m) =
    wants (not m.doubtful) (found_at at faults.Doubtful)
    (wants (takes position here m.kind) (found_at at (faults.WrongKind m.kind m.from position here)) (ok m))

abbrev pub used : Scoped → Position → List ℕ → Place → Check WidthFinding Sense
used s position name at = used_as s.here (bound_width s.entries name) position at (find s name)

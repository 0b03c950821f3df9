-- Declarations: rules E5 to E14 on them, from left to right.
use Rattle.std.specs.Prelude.{ℕ, ◌+◌, List, [], ◌∷◌, Option, Some, None, Bool, ◌&&◌, if◌then◌else◌, ◌==◌, nat_le, is_some}
use Rattle.kp_base.specs.{Check.Check, Check.ok, Check.◌>>=◌, Check.wants}
use Rattle.kp_ast.specs.declared.tree.{Num.Num, Lit.Lit, Named.Named, Param.Param, ResultDecl.ResultDecl, FuncDecl.FuncDecl, Decl.Decl}
use Rattle.kp_ast.specs.declared.widths.NameKind.{NameKind}
use Rattle.kp_ast.specs.declared.tree.Decl.TheVariants as decls
use Rattle.kp_ast.specs.declared.widths.Scope.TheVariants as scopes
use Rattle.kp_ast.specs.declared.widths.NameKind.TheVariants as kinds
use Rattle.kp_width.specs.{Faults.WidthFinding, Faults.found_at, declared.fault.Position.Position, declared.fault.WidthFault.WidthFault}
use Rattle.kp_width.specs.declared.fault.WidthFault.TheVariants as faults
use Rattle.kp_width.specs.declared.fault.Destination.TheVariants as to
use Rattle.kp_width.specs.Names.{Sense, sense, Checked, passed, Scoped, fresh, used, opened, with_entry, with_text, declared_text, declared_local}
use Rattle.kp_width.specs.Expressions.{is_width, literal_of, part_of, value_of}

-- E8: a declared width is in 1 to 64
abbrev pub declared : Num → Check WidthFinding ℕ
declared n = wants (is_width n.value) (found_at n.at (faults.DeclaredWidth n.value)) (ok n.value)

-- E10: a start value, once it is a valid literal, has the width of the register or hint
abbrev pub start_of : Lit → ℕ → Checked
start_of l w = literal_of l.literal l.at >>= (λ x. wants (x == w) (found_at l.at (faults.Start x w)) passed)

-- the width of a register or a hint, which has a start value
abbrev pub started_of : Num → Lit → Check WidthFinding ℕ
started_of width start = declared width >>= (λ w. start_of start w >>= (λ x. ok w))

-- E14: the addresses of a file are 1 to 16 bits wide
abbrev pub addresses_of : Num → Check WidthFinding ℕ
addresses_of n = wants (nat_le 1 n.value && nat_le n.value 16) (found_at n.at (faults.DeclaredAddress n.value)) (ok n.value)

-- an optional part
abbrev pub kept : {X : Type 0} → Option X → (X → Checked) → Checked
kept None check = passed
kept (Some x) check = check x

-- E6 and E7: the name in a read or a result is a file if it has an address, else a register
abbrev pub storage_of : Scoped → Named → Bool → Check WidthFinding Sense
storage_of s n addressed = used s (if addressed then Position.File else Position.Register) n.name n.at

abbrev pub address_width : NameKind → ℕ
address_width (kinds.File a) = a
address_width _ = 0

-- a pipe of this required width; this is violated by another one
abbrev pub pipe_of : Scoped → ℕ → (Sense → WidthFault) → Named → Checked
pipe_of s width fault n = used s Position.Pipe n.name n.at >>= (λ m. wants (m.width == width) (found_at n.at (fault m)) passed)

-- the address pipe of a result whose target is this file, and the enable pipe
abbrev pub address_fault : Sense → Sense → WidthFault
address_fault file m = faults.Address m.width (address_width file.kind) file.from

abbrev pub enable_fault : Sense → WidthFault
enable_fault m = faults.Enable m.width m.from

-- a result after its width. E10: its target has the same width; E14: its address pipe has the width of the file's
-- addresses; and E11: its enable pipe is one bit wide
abbrev pub target_of : Scoped → ResultDecl → ℕ → Checked
target_of s r w =
    storage_of s r.target (is_some r.address)
    >>= (λ t. wants (t.width == w) (found_at r.target.at (faults.Target w t.width t.kind t.from)) (kept r.address (pipe_of s (address_width t.kind) (address_fault t))
    >>= (λ a. kept r.enable (pipe_of s 1 enable_fault))))

-- the width of a result
abbrev pub result_of : Scoped → ResultDecl → Check WidthFinding ℕ
result_of s r = declared r.width >>= (λ w. target_of s r w >>= (λ x. ok w))

-- the parameters of the function that the declaration of this number declares
abbrev pub parameters_of : ℕ → Scoped → List Param → Check WidthFinding Scoped
parameters_of i s [] = ok s
parameters_of i s (p ∷ ps) =
    fresh s p.name.name p.name.at (declared p.width >>= (λ w. parameters_of i (declared_local s p.name.name (sense kinds.Param w i)) ps))

-- a width, or 0 if it is invalid
abbrev pub width_or_zero : ℕ → ℕ
width_or_zero w = if is_width w then w else 0

-- the scope of a function is opened, with this number among the functions: its entry precedes those of its
-- parameters, but its width is checked after them
abbrev pub function_opened : Scoped → ℕ → FuncDecl → Scoped
function_opened s k f = opened (with_entry s scopes.Text f.name.name (sense kinds.Func (width_or_zero f.width.value) 0)) (scopes.Function k)

-- a function after its name: the number of its declaration, and its number among the functions. It comes into scope
-- at its end, so a parameter may have its name. E10: its body has the width of the function
abbrev pub function_of : List Decl → ℕ → ℕ → Scoped → FuncDecl → Check WidthFinding Scoped
function_of ds i k s f =
    parameters_of i (function_opened s k f) f.params
    >>= (λ t. declared f.width >>= (λ w. value_of (part_of ds i t f.body) w (to.Body i) >>= (λ x. ok (with_text t f.name.name (sense kinds.Func w i)))))

abbrev pub name_of : Decl → Named
name_of (decls.Reg n width start) = n
name_of (decls.File n width address) = n
name_of (decls.Pipe n width) = n
name_of (decls.Hint n width start) = n
name_of (decls.Target r) = r.name
name_of (decls.Func f) = f.name
name_of (decls.Sample n width stage) = n

-- a declaration after its name: the number of the declaration, and its number among the functions
abbrev pub after_name : List Decl → ℕ → ℕ → Scoped → Decl → Check WidthFinding Scoped
after_name ds i k s (decls.Reg n width start) = started_of width start >>= (λ w. ok (declared_text s n.name (sense kinds.Reg w i)))
after_name ds i k s (decls.File n width address) =
    declared width >>= (λ w. addresses_of address >>= (λ a. ok (declared_text s n.name (sense (kinds.File a) w i))))
after_name ds i k s (decls.Pipe n width) = declared width >>= (λ w. ok (declared_text s n.name (sense kinds.Pipe w i)))
after_name ds i k s (decls.Hint n width start) = started_of width start >>= (λ w. ok (declared_text s n.name (sense kinds.Hint w i)))
after_name ds i k s (decls.Target r) = result_of s r >>= (λ w. ok (declared_text s r.name.name (sense kinds.Target w i)))
after_name ds i k s (decls.Func f) = function_of ds i k s f
after_name ds i k s (decls.Sample n width stage) = declared width >>= (λ w. ok (declared_text s n.name (sense kinds.Sample w i)))

-- a declaration that i declarations and k functions precede
abbrev pub declaration_of : List Decl → ℕ → ℕ → Scoped → Decl → Check WidthFinding Scoped
declaration_of ds i k s d = fresh s (name_of d).name (name_of d).at (after_name ds i k s d)

abbrev pub functions_in : Decl → ℕ
functions_in (decls.Func f) = 1
functions_in _ = 0

-- the declarations from one on
abbrev pub declarations_of : List Decl → ℕ → ℕ → Scoped → List Decl → Check WidthFinding Scoped
declarations_of ds i k s [] = ok s
declarations_of ds i k s (d ∷ rest) = declaration_of ds i k s d >>= (λ t. declarations_of ds (i + 1) (k + functions_in d) t rest)

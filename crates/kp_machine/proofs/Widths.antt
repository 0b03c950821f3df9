-- The widths of the targets of a job whose names and widths are right.
use Rattle.std.proofs.Common.{◌≡◌, ℕ, ◌+◌, ◌≤◌, List, [], ◌∷◌, true, ◌&&◌}
use Rattle.std.{proofs.lemmas.Bool.and_parts, proofs.lemmas.Bool.leb-true, specs.Prelude.nat_le, specs.Prelude.is_some, specs.Prelude.not}
use Rattle.kp_base.specs.{Check.ok, Check.◌>>=◌}
use Rattle.kp_ast.specs.declared.tree.{Decl.Decl, Job.Job}
use Rattle.kp_ast.specs.declared.tree.Decl.TheVariants as decls
use Rattle.kp_ast.specs.declared.widths.NameKind.TheVariants as kinds
use Rattle.kp_width.specs.{Names.Scoped, Names.nothing, Names.sense, Names.find, Names.declared_text, Expressions.is_width}
use Rattle.kp_width.specs.Declarations.{declared, start_of, started_of, addresses_of, after_name, declaration_of, declarations_of, functions_in}
use Rattle.kp_width.{specs.Widths.widths_of, proofs.Unbroken.Unbroken, proofs.Unbroken.bind_unbroken, proofs.Unbroken.answer_unbroken}
use Rattle.kp_machine.proofs.Text.{declared_right}

-- the width of a target is 1 to 64, and that of the addresses of a file is not 0
abbrev pub Fine : List Decl → Type 0
Fine [] = Unit {0}
Fine (decls.Reg n width start ∷ ds) = (1 ≤ width.value) × (width.value ≤ 64) × Fine ds
Fine (decls.File n width address ∷ ds) = (1 ≤ width.value) × (width.value ≤ 64) × (1 ≤ address.value) × Fine ds
Fine (_ ∷ ds) = Fine ds

-- a width that is accepted
pub bounds : (w : ℕ) → is_width w ≡ true → (1 ≤ w) × (w ≤ 64)
bounds w e = let p = and_parts (nat_le 1 w) (nat_le w 64) e in (leb-true 1 w p.0, leb-true w 64 p.1)

-- so it is if names and widths are valid
pub all_fine : (ds : List Decl) (i k : ℕ) (s : Scoped) (rest : List Decl) → Unbroken (declarations_of ds i k s rest) → Fine rest
all_fine ds i k s [] u = tt
all_fine ds i k s (decls.Reg n width start ∷ rest) u =
    let x = bind_unbroken (declaration_of ds i k s (decls.Reg n width start)) (λ t. declarations_of ds (i + 1) (k + 0) t rest) u in
    let y = (answer_unbroken (not (is_some (find s n.name))) _ (after_name ds i k s (decls.Reg n width start)).asked x.0).1 in
    let z = (bind_unbroken (started_of width start) (λ w. ok (declared_text s n.name (sense kinds.Reg w i))) y).0 in
    let d = (bind_unbroken (declared width) (λ w. start_of start w >>= (λ v. ok w)) z).0 in
    let b = bounds width.value (answer_unbroken (is_width width.value) _ [] d).0 in
    (b.0, b.1, all_fine ds (i + 1) (k + 0) _ rest x.1)
all_fine ds i k s (decls.File n width address ∷ rest) u =
    let x = bind_unbroken (declaration_of ds i k s (decls.File n width address)) (λ t. declarations_of ds (i + 1) (k + 0) t rest) u in
    let y = (answer_unbroken (not (is_some (find s n.name))) _ (after_name ds i k s (decls.File n width address)).asked x.0).1 in
    let z = bind_unbroken (declared width) (λ w. addresses_of address >>= (λ a. ok (declared_text s n.name (sense (kinds.File a) w i)))) y in
    let b = bounds width.value (answer_unbroken (is_width width.value) _ [] z.0).0 in
    let v = (bind_unbroken (addresses_of address) (λ a. ok (declared_text s n.name (sense (kinds.File a) width.value i))) z.1).0 in
    let a = and_parts (nat_le 1 address.value) (nat_le address.value 16) (answer_unbroken (nat_le 1 address.value && nat_le address.value 16) _ [] v).0 in
    (b.0, b.1, leb-true 1 address.value a.0, all_fine ds (i + 1) (k + 0) _ rest x.1)
all_fine ds i k s (d ∷ rest) u =
    all_fine ds (i + 1) (k + functions_in d) _ rest
    (bind_unbroken (declaration_of ds i k s d) (λ t. declarations_of ds (i + 1) (k + functions_in d) t rest) u).1

-- the declarations of a job whose names and widths are right
pub job_fine : (job : Job) → Unbroken (widths_of job) → Fine job.decls
job_fine job u = all_fine job.decls 0 0 nothing job.decls (declared_right job u)

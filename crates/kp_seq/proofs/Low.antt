-- The addresses of the files of a job whose names and widths are right have at most 16 bits.
use Rattle.std.proofs.Common.{◌≡◌, ℕ, zero, suc, ◌+◌, ◌≤◌, List, [], ◌∷◌, Some, ◌&&◌, ap, ◌∙◌, arith}
use Rattle.std.proofs.lemmas.Bool.{and_parts, leb-true}
use Rattle.std.specs.Prelude.{nat_le, is_some, not, slice_get}
use Rattle.kp_base.specs.{Check.ok, Check.◌>>=◌}
use Rattle.kp_ast.specs.declared.tree.{Decl.Decl, Job.Job}
use Rattle.kp_ast.specs.declared.tree.Decl.TheVariants as decls
use Rattle.kp_ast.specs.declared.widths.NameKind.TheVariants as kinds
use Rattle.kp_width.specs.Names.{Scoped, nothing, sense, find, declared_text}
use Rattle.kp_width.specs.Declarations.{declared, addresses_of, after_name, declaration_of, declarations_of, functions_in}
use Rattle.kp_width.{specs.Widths.widths_of, proofs.Unbroken.Unbroken, proofs.Unbroken.bind_unbroken, proofs.Unbroken.answer_unbroken}
use Rattle.kp_machine.{specs.Slots.Slot, specs.Slots.slot, specs.Slots.targets_of, proofs.Scopes.IsSlot, proofs.Scopes.slot_of, proofs.Text.declared_right}

abbrev pub Low : List Decl → Type 0
Low [] = Unit {0}
Low (decls.File n width address ∷ ds) = (address.value ≤ 16) × Low ds
Low (_ ∷ ds) = Low ds

all_low : (ds : List Decl) (i k : ℕ) (s : Scoped) (rest : List Decl) → Unbroken (declarations_of ds i k s rest) → Low rest
all_low ds i k s [] u = tt
all_low ds i k s (decls.File n width address ∷ rest) u =
    let x = bind_unbroken (declaration_of ds i k s (decls.File n width address)) (λ t. declarations_of ds (i + 1) (k + 0) t rest) u in
    let y = (answer_unbroken (not (is_some (find s n.name))) _ (after_name ds i k s (decls.File n width address)).asked x.0).1 in
    let z = bind_unbroken (declared width) (λ w. addresses_of address >>= (λ a. ok (declared_text s n.name (sense (kinds.File a) w i)))) y in
    let v = (bind_unbroken (addresses_of address) (λ a. ok (declared_text s n.name (sense (kinds.File a) width.value i))) z.1).0 in
    let a = and_parts (nat_le 1 address.value) (nat_le address.value 16) (answer_unbroken (nat_le 1 address.value && nat_le address.value 16) _ [] v).0 in
    (leb-true address.value 16 a.1, all_low ds (i + 1) (k + 0) _ rest x.1)
all_low ds i k s (d ∷ rest) u =
    all_low ds (i + 1) (k + functions_in d) _ rest
    (bind_unbroken (declaration_of ds i k s d) (λ t. declarations_of ds (i + 1) (k + functions_in d) t rest) u).1

slot_low : (ds : List Decl) (i : ℕ) (x : Slot) → Low ds → slice_get (targets_of ds) i ≡ Some x → x.address ≤ 16
slot_low [] i x h e = cc
slot_low (decls.Reg n width start ∷ ds) zero x h e =
    let is : slot n width 0 ≡ x = cc in
    let a : 0 ≡ x.address = ap (λ (y : Slot). y.address) is in
    omega arith
slot_low (decls.Reg n width start ∷ ds) (suc i) x h e = slot_low ds i x h e
slot_low (decls.File n width address ∷ ds) zero x h e =
    let is : slot n width address.value ≡ x = cc in
    let a : address.value ≡ x.address = ap (λ (y : Slot). y.address) is in
    let low : address.value ≤ 16 = h.0 in
    omega arith
slot_low (decls.File n width address ∷ ds) (suc i) x h e = slot_low ds i x h.1 e
slot_low (_ ∷ ds) i x h e = slot_low ds i x h e

pub target_low : (job : Job) → Unbroken (widths_of job) → (q : List ℕ) (w a : ℕ) → IsSlot (targets_of job.decls) q w a → a ≤ 16
target_low job unbroken q w a at =
    let s = slot_of (targets_of job.decls) q at.inside in
    let low = slot_low job.decls _ s.0 (all_low job.decls 0 0 nothing job.decls (declared_right job unbroken)) s.1 in
    let e : s.0.address ≡ a = s.3 ∙ at.address in
    omega arith

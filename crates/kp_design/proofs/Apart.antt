-- No two targets of a job that violates no rule have the same name.
use Rattle.std.proofs.Common.{◌≡◌, ◌∙◌, ℕ, zero, suc, ◌+◌, ◌<◌, List, [], ◌∷◌, Some, None, false, length, get_or, ap, sym, arith}
use Rattle.std.proofs.lemmas.Bool.{false_from_ne_true}
use Rattle.kp_ast.specs.{Expressions.is_same_name, declared.tree.Decl.Decl, declared.tree.Job.Job}
use Rattle.kp_ast.specs.declared.tree.Decl.TheVariants as decls
use Rattle.kp_width.specs.Names.{Sense, Scoped, nothing, look_up}
use Rattle.kp_width.specs.{Declarations.name_of, Declarations.declaration_of, Declarations.declarations_of, Declarations.functions_in, Widths.widths_of}
use Rattle.kp_width.proofs.Unbroken.{Unbroken, bind_unbroken}
use Rattle.kp_machine.{specs.Slots.targets_of, proofs.Names.same_name}
use Rattle.kp_machine.proofs.{Scopes.sense_of, Scopes.stays, Scopes.new_name, Scopes.text_has, Text.declared_right}
use Rattle.kp_design.specs.Numbers.{no_slot, target_at}

module _ (ds : List Decl) where
  -- a declaration, and those after it
  here_right : (i k : ℕ) (s : Scoped) (d : Decl) (rest : List Decl) → Unbroken (declarations_of ds i k s (d ∷ rest)) → Unbroken (declaration_of ds i k s d)
  here_right i k s d rest u = (bind_unbroken (declaration_of ds i k s d) (λ t. declarations_of ds (i + 1) (k + functions_in d) t rest) u).0

  pub rest_right : (i k : ℕ) (s : Scoped) (d : Decl) (rest : List Decl) → Unbroken (declarations_of ds i k s (d ∷ rest))
      → Unbroken (declarations_of ds (i + 1) (k + functions_in d) (declaration_of ds i k s d).value rest)
  rest_right i k s d rest u = (bind_unbroken (declaration_of ds i k s d) (λ t. declarations_of ds (i + 1) (k + functions_in d) t rest) u).1

  -- a name of the text isn't that of a declaration after it
  not_same : (i k : ℕ) (s : Scoped) (d : Decl) (rest : List Decl) (q : List ℕ) (x : Sense) → look_up s.text q ≡ Some x → Unbroken (declarations_of ds i k s (d ∷ rest))
      → is_same_name q (name_of d).name ≡ false
  not_same i k s d rest q x e u = false_from_ne_true _ (λ y.
      let f : Some x ≡ None = sym e ∙ ap (look_up s.text) (same_name q (name_of d).name y) ∙ new_name ds i k s d (here_right i k s d rest u) in
      cc)

  -- so it is that of no target after it
  not_later : (i k : ℕ) (s : Scoped) (rest : List Decl) (q : List ℕ) (x : Sense) → look_up s.text q ≡ Some x → Unbroken (declarations_of ds i k s rest)
      → (t : ℕ) → t < length (targets_of rest) → is_same_name q (get_or (targets_of rest) t no_slot).name ≡ false
  not_later i k s [] q x e u t l = absurd (omega (arith, l))
  not_later i k s (decls.Reg n width start ∷ rest) q x e u zero l = not_same i k s (decls.Reg n width start) rest q x e u
  not_later i k s (decls.Reg n width start ∷ rest) q x e u (suc t) l =
      let d = decls.Reg n width start in
      not_later (i + 1) (k + functions_in d) (declaration_of ds i k s d).value rest q x (stays ds i k s (d ∷ []) q x e) (rest_right i k s d rest u) t (omega (arith, l))
  not_later i k s (decls.File n width address ∷ rest) q x e u zero l = not_same i k s (decls.File n width address) rest q x e u
  not_later i k s (decls.File n width address ∷ rest) q x e u (suc t) l =
      let d = decls.File n width address in
      not_later (i + 1) (k + functions_in d) (declaration_of ds i k s d).value rest q x (stays ds i k s (d ∷ []) q x e) (rest_right i k s d rest u) t (omega (arith, l))
  not_later i k s (d ∷ rest) q x e u t l =
      not_later (i + 1) (k + functions_in d) (declaration_of ds i k s d).value rest q x (stays ds i k s (d ∷ []) q x e) (rest_right i k s d rest u) t l

  behind : (i k : ℕ) (s : Scoped) (d : Decl) (rest : List Decl) → Unbroken (declarations_of ds i k s (d ∷ rest))
      → (t : ℕ) → t < length (targets_of rest) → is_same_name (name_of d).name (get_or (targets_of rest) t no_slot).name ≡ false
  behind i k s d rest u =
      not_later (i + 1) (k + functions_in d) (declaration_of ds i k s d).value rest (name_of d).name (sense_of i d) (text_has ds i k s d (here_right i k s d rest u)) (rest_right i k s d rest u)

  apart : (i k : ℕ) (s : Scoped) (rest : List Decl) → Unbroken (declarations_of ds i k s rest)
      → (t v : ℕ) → t < v → v < length (targets_of rest) → is_same_name (get_or (targets_of rest) t no_slot).name (get_or (targets_of rest) v no_slot).name ≡ false
  apart i k s [] u t v m l = absurd (omega (arith, l))
  apart i k s (decls.Reg n width start ∷ rest) u t zero m l = absurd (omega (arith, m))
  apart i k s (decls.Reg n width start ∷ rest) u zero (suc v) m l = behind i k s (decls.Reg n width start) rest u v (omega (arith, l))
  apart i k s (decls.Reg n width start ∷ rest) u (suc t) (suc v) m l =
      let d = decls.Reg n width start in
      apart (i + 1) (k + functions_in d) (declaration_of ds i k s d).value rest (rest_right i k s d rest u) t v (omega (arith, m)) (omega (arith, l))
  apart i k s (decls.File n width address ∷ rest) u t zero m l = absurd (omega (arith, m))
  apart i k s (decls.File n width address ∷ rest) u zero (suc v) m l = behind i k s (decls.File n width address) rest u v (omega (arith, l))
  apart i k s (decls.File n width address ∷ rest) u (suc t) (suc v) m l =
      let d = decls.File n width address in
      apart (i + 1) (k + functions_in d) (declaration_of ds i k s d).value rest (rest_right i k s d rest u) t v (omega (arith, m)) (omega (arith, l))
  apart i k s (d ∷ rest) u t v m l =
      apart (i + 1) (k + functions_in d) (declaration_of ds i k s d).value rest (rest_right i k s d rest u) t v m l

-- of a complete job
pub targets_apart : (job : Job) → Unbroken (widths_of job) → (t v : ℕ) → t < v → v < length (targets_of job.decls) → is_same_name (target_at job t).name (target_at job v).name ≡ false
targets_apart job u t v m l = apart job.decls 0 0 nothing job.decls (declared_right job u) t v m l

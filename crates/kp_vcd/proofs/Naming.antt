-- The widths of registers, and the signals of declarations.
use Rattle.std.proofs.Common.{◌≡◌, ◌∙◌, ℕ, zero, suc, ◌+◌, ◌<◌, ◌≤◌, List, [], ◌∷◌, ◌++◌, length, get_or, drop, refl, ap, sym, append_assoc, arith}
use Rattle.std.proofs.lemmas.List.{drop_more}
use Rattle.kp_ast.specs.declared.tree.{Decl.Decl, Named.Named, Num.Num, Lit.Lit}
use Rattle.kp_ast.specs.declared.tree.Decl.TheVariants as decls
use Rattle.kp_machine.proofs.Widths.{Fine}
use Rattle.kp_vcd.specs.{declared.dump.Signal.Signal, Dumps.register, Dumps.register_signals}

width_at : (ds : List Decl) (i : ℕ) (d : Decl) (n : Named) (width : Num) (start : Lit) → Fine ds → i < length ds → get_or ds i d ≡ decls.Reg n width start → width.value ≤ 64
width_at [] i d n width start fine h e = absurd (omega (arith, h))
width_at (decls.Reg m w v ∷ ds) zero d n width start fine h e = let same : w.value ≡ width.value = cc in omega (arith, same, fine.1)
width_at (_ ∷ ds) zero d n width start fine h e = cc
width_at (decls.Reg m w v ∷ ds) (suc i) d n width start fine h e = width_at ds i d n width start fine.2 (omega (arith, h)) e
width_at (decls.File m w a ∷ ds) (suc i) d n width start fine h e = width_at ds i d n width start fine.3 (omega (arith, h)) e
width_at (_ ∷ ds) (suc i) d n width start fine h e = width_at ds i d n width start fine (omega (arith, h)) e

-- the width of a register
pub width_fits : (ds : List Decl) (i : ℕ) (x : Decl) (n : Named) (width : Num) (start : Lit) → Fine ds → i < length ds → x ≡ get_or ds i x → x ≡ decls.Reg n width start → width.value ≤ 64
width_fits ds i x n width start fine h is e = width_at ds i x n width start fine h (sym is ∙ e)

module _ (ds : List Decl) (i : ℕ) (x : Decl) (h : i < length ds) (is : x ≡ get_or ds i x) where
  pub signals_next : register_signals (drop i ds) ≡ register_signals (x ∷ drop (i + 1) ds)
  signals_next = ap register_signals (drop_more ds i x h ∙ ap (λ (y : Decl). y ∷ drop (i + 1) ds) (sym is))

-- a declaration, with its signal or none
pub one_signal : (olds : List Signal) (x : Decl) (rest : List Decl) (n : Named) (width : Num) (start : Lit) (s : Signal) → x ≡ decls.Reg n width start → s ≡ register n.name width.value
    → (olds ++ s ∷ []) ++ register_signals rest ≡ olds ++ register_signals (x ∷ rest)
one_signal olds x rest n width start s e is =
    append_assoc olds (s ∷ []) (register_signals rest)
    ∙ ap (λ (t : Signal). olds ++ t ∷ register_signals rest) is
    ∙ ap (λ (y : Decl). olds ++ register_signals (y ∷ rest)) (sym e)

pub no_signal : (x : Decl) (rest : List Decl) → ((n : Named) (width : Num) (start : Lit) → x ≡ decls.Reg n width start → ⊥) → register_signals rest ≡ register_signals (x ∷ rest)
no_signal (decls.Reg n width start) rest other = absurd (other n width start refl)
no_signal _ rest other = refl

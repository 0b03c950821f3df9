-- Lists of distinct names.
use Rattle.std.proofs.Common.{◌≡◌, ◌∙◌, ℕ, zero, suc, ◌<◌, true, List, [], ◌∷◌, length, get_or, sym, arith}
use Rattle.std.{proofs.lemmas.Bool.or_left, proofs.lemmas.Bool.or_right, proofs.lemmas.Bool.false≢true, specs.Cmp.Lexicographic.bytes_decides}
use Rattle.kp_net.specs.Names.{same, among, Differ}

-- a name in a list is among its names
pub among_at : (ns : List (List ℕ)) (i : ℕ) (n : List ℕ) → i < length ns → get_or ns i [] ≡ n → among ns n ≡ true
among_at [] i n l e = absurd (omega (arith, l))
among_at (m ∷ ns) zero n l e = or_left (same n m) (among ns n) ((bytes_decides n m).1 (sym e))
among_at (m ∷ ns) (suc i) n l e = or_right (same n m) (among ns n) (among_at ns i n (omega (arith, l)) e)

-- distinct names occur once
pub stands_once : (ns : List (List ℕ)) → Differ ns → (i j : ℕ) → i < j → j < length ns → get_or ns i [] ≡ get_or ns j [] → ⊥
stands_once [] d i j l h e = absurd (omega (arith, h))
stands_once (n ∷ ns) d zero zero l h e = absurd (omega (arith, l))
stands_once (n ∷ ns) d zero (suc j) l h e = false≢true (sym d.0 ∙ among_at ns j n (omega (arith, h)) (sym e))
stands_once (n ∷ ns) d (suc i) zero l h e = absurd (omega (arith, l))
stands_once (n ∷ ns) d (suc i) (suc j) l h e = stands_once ns d.1 i j (omega (arith, l)) (omega (arith, h)) e

pub one_number : (ns : List (List ℕ)) → Differ ns → (i j : ℕ) → i < length ns → j < length ns → get_or ns i [] ≡ get_or ns j [] → i ≡ j
one_number ns d i j li lj e =
    let f : i < j → ⊥ = λ h. stands_once ns d i j h lj e in let g : j < i → ⊥ = λ h. stands_once ns d j i h li (sym e) in
    omega (arith, f, g)

use Rattle.std.proofs.Common.{◌≡◌, ℕ, suc, ◌+◌, Bool, true, false, cond, List, [], ◌∷◌, length, Option, Some, None, refl, ap, ◌∙◌, arith}
use Rattle.kp_pipeline.specs.Rows.{Row, bit, one_if, passed}
use Rattle.kp_diagram.specs.Diagram.{Account, Loss, Filling, account_from, and_cycle, loss_of_wait, losses_after, lost_to}
use Rattle.kp_diagram.specs.Claims.{cycles_of}

-- THE ACCOUNT ADDS UP, and what it says is retired are the update enables of the last stage.
pub one-more : (o : Option Loss) (a : Account) → cycles_of (and_cycle o a) ≡ suc (cycles_of a)
one-more None a = omega arith
one-more (Some Filling) a = omega arith
one-more (Some _) a = omega arith

pub adds-up : (last : ℕ) (ext : ℕ → ℕ → Bool) (T : ℕ) (loss : ℕ → Loss) (rows : List Row)
    → cycles_of (account_from last ext T loss rows) ≡ length rows
adds-up last ext T loss [] = refl
adds-up last ext T loss (r ∷ rows) =
    one-more (lost_to last (ext T) r loss) (account_from last ext (suc T) (losses_after (ext T) r loss) rows)
    ∙ ap suc (adds-up last ext (suc T) (losses_after (ext T) r loss) rows)

lost-retired : (l : Loss) (a : Account) → (and_cycle (Some l) a).retired ≡ a.retired
lost-retired Filling a = refl
lost-retired _ a = refl

retired-more : (u : Bool) (l : Loss) (a : Account) → (and_cycle (cond u None (Some l)) a).retired ≡ one_if u + a.retired
retired-more true l a = omega arith
retired-more false l a = lost-retired l a ∙ omega arith

pub retired-passed : (last : ℕ) (ext : ℕ → ℕ → Bool) (T : ℕ) (loss : ℕ → Loss) (rows : List Row)
    → (account_from last ext T loss rows).retired ≡ passed rows last (length rows)
retired-passed last ext T loss [] = refl
retired-passed last ext T loss (r ∷ rows) =
    let x = retired-passed last ext (suc T) (losses_after (ext T) r loss) rows in
    let y = retired-more (bit r.ue last) (cond (bit r.full last) (loss_of_wait (ext T) last) (loss last)) (account_from last ext (suc T) (losses_after (ext T) r loss) rows) in
    omega arith

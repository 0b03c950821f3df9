-- A sequence of steps is the sequential run.
use Rattle.std.proofs.Common.{◌≡◌, ◌∙◌, ℕ, zero, suc, List, [], ◌∷◌, length, refl, ap, sym}
use Rattle.kp_bits.specs.Word.{Word}
use Rattle.kp_ast.specs.declared.tree.Job.{Job}
use Rattle.kp_pipeline.specs.{Machine.Machine, Sequential.exec, Sequential.seq}
use Rattle.kp_machine.specs.{Machine.machine_of, Words.after_rows, Words.after_one, Words.given_by}

-- a run is its first instruction, and then the others
from_second : (m : Machine) (s : ℕ → ℕ → ℕ) (given : ℕ → ℕ → ℕ) (i : ℕ) → seq m s given (suc i) ≡ seq m (exec m s (given 0)) (λ j. given (suc j)) i
unfolding seq
from_second m s given zero = refl
from_second m s given (suc i) = ap (λ (x : ℕ → ℕ → ℕ). exec m x (given (suc i))) (from_second m s given i)

pub is_run : (job : Job) (s : ℕ → ℕ → ℕ) (rows : List (List Word)) → after_rows job s rows ≡ seq (machine_of job) s (given_by rows) (length rows)
unfolding seq
is_run job s [] = refl
is_run job s (row ∷ rows) = is_run job (after_one job s row) rows ∙ sym (from_second (machine_of job) s (given_by (row ∷ rows)) (length rows))

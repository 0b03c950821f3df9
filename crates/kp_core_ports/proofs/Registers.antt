-- The register of a pipe in a stage.
use Rattle.std.proofs.Common.{◌≡◌, ℕ, zero, suc, ◌<◌, ◌≤◌, List, [], ◌∷◌, length, get_or, false, ◌==◌, refl, ap, arith}
use Rattle.kp_ast.specs.declared.tree.Job.{Job}
use Rattle.kp_net.specs.Netlist.{Net}
use Rattle.kp_synth_registers.specs.{Keys.keys_of, Keys.place_in, Keys.HasKey, declared.key.Key.Key, declared.key.Key.TheVariants.Pipe}
use Rattle.kp_synth_registers.proofs.Places.{place_small}

pub there : (net : Net) (job : Job) (keys : List Key) (x k : ℕ) → keys ≡ keys_of job → length net.parts.regs ≡ length (keys_of job) → HasKey job (Pipe x k)
    → place_in keys (Pipe x k) < length net.parts.regs
there net job keys x k is same has = let small = place_small job keys (Pipe x k) is has in omega (arith, small, ap length is, same)

-- the entry at an index of a list doesn't depend on the default past its end
pub any_default : {X : Type 0} (xs : List X) (i : ℕ) (d e : X) → i < length xs → get_or xs i d ≡ get_or xs i e
any_default [] i d e h = absurd (omega arith)
any_default (x ∷ xs) zero d e h = refl
any_default (x ∷ xs) (suc i) d e h = any_default xs i d e (omega arith)

-- the addresses of a file have a width
pub positive : (a : ℕ) → (a == 0) ≡ false → 1 ≤ a
positive zero h = absurd (cc h)
positive (suc a) h = omega arith

-- Runs of the sequential machine are runs by the table.
use Rattle.std.proofs.Common.{◌≡◌, ℕ, Option, List, refl, sym, subst}
use Rattle.kp_ast.specs.declared.tree.Image.{Image}
use Rattle.kp_pipeline.specs.Sequential.{exec, seq}
use Rattle.kp_machine.specs.Machine.{machine_of}
use Rattle.kp_isa_rv.specs.Isa.{IsState, Cpu, word_at, cpu_of}
use Rattle.kp_isa_rvm.specs.Rv32im.{rv32im}
use Rattle.kp_isa_rvm.specs.Isa.{Executes, Runs}
use Rattle.kp_isa_rvm.proofs.Table.{stepped, keeps}

pub step : (image : Option (List Image)) (q : ℕ → ℕ) (s : ℕ → ℕ → ℕ) (c : Cpu) → IsState s → Executes (cpu_of s) (s 1 (word_at (s 0 0))) c → cpu_of (exec (machine_of (rv32im image)) s q) ≡ c
step image q s c ok e = stepped image q s ok c e

pub next : (image : Option (List Image)) (q : ℕ → ℕ) (s : ℕ → ℕ → ℕ) (c : Cpu) → IsState s → Executes (cpu_of s) (s 1 (word_at (s 0 0))) c → IsState (exec (machine_of (rv32im image)) s q)
next image q s c ok e = keeps image q s ok c e

module _ (image : Option (List Image)) (given : ℕ → ℕ → ℕ) (s : ℕ → ℕ → ℕ) (ok : IsState s) where
  abbrev after : ℕ → ℕ → ℕ → ℕ
  after n = seq (machine_of (rv32im image)) s given n

  along : (n : ℕ) (c : Cpu) → Runs (cpu_of s) n c → (cpu_of (after n) ≡ c) × IsState (after n)
  unfolding seq
  along _ _ Runs.begins = (refl, ok)
  along _ _ (Runs.goes_on {n = n} {d = d} {e = e} r x) =
      let h = along n d r in
      let y : Executes (cpu_of (after n)) ((cpu_of (after n)).code (word_at (cpu_of (after n)).pc)) e = subst (λ (d : Cpu). Executes d (d.code (word_at d.pc)) e) (sym h.0) x in
      (stepped image (given n) (after n) h.1 e y, keeps image (given n) (after n) h.1 e y)

pub runs : (image : Option (List Image)) (given : ℕ → ℕ → ℕ) (s : ℕ → ℕ → ℕ) (n : ℕ) (c : Cpu) → IsState s → Runs (cpu_of s) n c → cpu_of (seq (machine_of (rv32im image)) s given n) ≡ c
runs image given s n c ok r = (along image given s ok n c r).0

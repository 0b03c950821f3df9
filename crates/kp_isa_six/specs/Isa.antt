-- THE INSTRUCTION SET of the accumulator machine, as a table: what each of its six instructions does to the program counter, the accumulator and the
-- memory.
use Rattle.std.specs.Prelude.{◌≡◌, ℕ, suc, ◌+◌, ◌-◌, ◌/◌, ◌%◌, ◌^◌, not, ◌==◌, if◌then◌else◌}
use Rattle.kp_pipeline.specs.Machine.{State}

-- the address of the next instruction, the accumulator, and the words of the program and of the memory by number
pub record Cpu : Type 0 where
  pub pc : ℕ
  pub acc : ℕ
  pub code : ℕ → ℕ
  pub mem : ℕ → ℕ

-- the bits of a number from position hi down to position lo
abbrev pub bits : (number high low : ℕ) → ℕ
bits n hi lo = n / 2 ^ lo % 2 ^ (hi + 1 - lo)

-- the fields of an instruction: its code, and its constant or address
pub record Fields : Type 0 where
  pub op : ℕ
  pub ad : ℕ

abbrev pub fields : ℕ → Fields
fields i = record { op = bits i 7 5; ad = bits i 4 0 }

-- the address after the instruction
abbrev pub next : Cpu → ℕ
next c = (c.pc + 1) % 2 ^ 5

-- The accumulator becomes x, and on to the next instruction.
abbrev pub with_acc : Cpu → ℕ → Cpu
with_acc c x = record { pc = next c; acc = x; code = c.code; mem = c.mem }

-- The word at an address becomes the accumulator, and on to the next instruction.
abbrev pub stored : Cpu → ℕ → Cpu
stored c address = record { pc = next c; acc = c.acc; code = c.code; mem = λ n. if address == n then c.acc else c.mem n }

-- To an address.
abbrev pub to : Cpu → ℕ → Cpu
to c address = record { pc = address; acc = c.acc; code = c.code; mem = c.mem }

-- THE TABLE. An instruction with these fields leads from the state c to the state after it.
pub data Executes (c : Cpu) (f : Fields) : Cpu → Type 0 where
  constant : f.op ≡ 0 → Executes c f (with_acc c f.ad)
  load : f.op ≡ 1 → Executes c f (with_acc c (c.mem f.ad))
  add : f.op ≡ 2 → Executes c f (with_acc c ((c.acc + c.mem f.ad) % 2 ^ 8))
  store : f.op ≡ 3 → Executes c f (stored c f.ad)
  jump : f.op ≡ 4 → Executes c f (to c f.ad)
  jump_if : f.op ≡ 5 → Executes c f (to c (if not (c.acc == 0) then f.ad else next c))

-- the program counter, the accumulator, the program and the memory in a state of the machine: the targets PC, ACC, IM and DM have the numbers 0 to 3
abbrev pub cpu_of : State → Cpu
cpu_of s = record { pc = s 0 0; acc = s 1 0; code = λ n. s 2 n; mem = λ n. s 3 n }

-- A RUN of n instructions by the table, each of which is the word of the program at the program counter.
pub data Runs (c : Cpu) : ℕ → Cpu → Type 0 where
  begins : Runs c 0 c
  goes_on : {n : ℕ} {d e : Cpu} → Runs c n d → Executes d (fields (d.code d.pc)) e → Runs c (suc n) e

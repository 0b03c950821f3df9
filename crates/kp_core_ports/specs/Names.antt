-- THE TABLE OF REGISTERS of a module: which register stores what. A line is the name of the register in the module and what it stores, words between
-- blanks: `r_R register R`, `q_0 full 1` (whether stage 1 holds an instruction), `q_1 pipe A 1` (the pipe A in stage 1), `q_2 set R 2` and `q_3 result R 2`
-- (whether the result of R is set in stage 2, and its value), `q_4 pending R 2 1` and `q_5 guess R 2 1` (whether a guess of R is pending in stage 2, and its
-- value; the guessed read is in stage 1), `q_6 hint H`.
use Rattle.std.specs.Prelude.{ℕ, zero, suc, List, [], ◌++◌, length, map, get_or, codes, decimal}
use Rattle.kp_ast.specs.declared.tree.Job.{Job}
use Rattle.kp_machine.specs.Slots.{Slot, hints_of, pipes_of, targets_of}
use Rattle.kp_net.specs.{Netlist.Net, Parts.no_reg}
use Rattle.kp_design.specs.{Numbers.guess_at, declared.guess.GuessSlot.GuessSlot}
use Rattle.kp_synth_registers.specs.{Keys.key_at, Keys.keys_of, declared.key.Key.Key}
use Rattle.kp_synth_registers.specs.declared.key.Key.TheVariants.{Visible, Full, Pipe, Valid, Value, Pending, Guess, Hint}

abbrev pub names_of : List Slot → List (List ℕ)
names_of slots = map (λ s. s.name) slots

-- the name with a number, or nothing
abbrev pub name_at : List (List ℕ) → ℕ → List ℕ
name_at names i = get_or names i []

abbrev pub target_name : Job → ℕ → List ℕ
target_name job t = name_at (names_of (targets_of job.decls)) t

abbrev pub pipe_name : Job → ℕ → List ℕ
pipe_name job x = name_at (names_of (pipes_of job.decls)) x

abbrev pub hint_name : Job → ℕ → List ℕ
hint_name job h = name_at (names_of (hints_of job.decls)) h

-- a name and a stage
unfoldable pub in_stage : List ℕ → ℕ → List ℕ
in_stage name k = name ++ (codes " " ++ decimal k)

-- a guess in a stage, by the names of the targets: its register, the stage, and the stage of the guessed read
unfoldable pub guess_in : List (List ℕ) → GuessSlot → ℕ → List ℕ
guess_in targets g k = in_stage (name_at targets g.register) k ++ (codes " " ++ decimal g.stage)

-- what the register of a key stores
abbrev pub stored : Job → Key → List ℕ
stored job (Visible t) = codes "register " ++ target_name job t
stored job (Full k) = codes "full " ++ decimal k
stored job (Pipe x k) = codes "pipe " ++ in_stage (pipe_name job x) k
stored job (Valid t k) = codes "set " ++ in_stage (target_name job t) k
stored job (Value t k) = codes "result " ++ in_stage (target_name job t) k
stored job (Pending g k) = codes "pending " ++ guess_in (names_of (targets_of job.decls)) (guess_at job g) k
stored job (Guess g k) = codes "guess " ++ guess_in (names_of (targets_of job.decls)) (guess_at job g) k
stored job (Hint h) = codes "hint " ++ hint_name job h

-- the line of a register
unfoldable pub name_line : Net → Job → ℕ → List ℕ
name_line net job i = (get_or net.parts.regs i no_reg).name ++ (codes " " ++ (stored job (key_at job i) ++ codes "\n"))

-- the lines of the first n registers
abbrev pub lines_below : Net → Job → ℕ → List ℕ
lines_below net job zero = []
lines_below net job (suc n) = lines_below net job n ++ name_line net job n

-- the lines of all registers, in their order
unfoldable pub names_text : Net → Job → List ℕ
names_text net job = lines_below net job (length (keys_of job))

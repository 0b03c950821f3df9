-- THE REGISTERS of the netlist of a job, by what each of them stores.
--
-- Stage 0 is always full, with a fresh instruction, so it has no registers. Each later stage stores its full bit,
-- each pipe from its put to its last use, each result from its first set to its write stage, and each guess from the
-- stage after its read to the stage before the write stage of its register.
use Rattle.std.specs.Prelude.{◌≡◌, ℕ, zero, suc, ◌<◌, List, [], ◌∷◌, ◌++◌, length, get_or, Bool, true, false, ◌&&◌, ◌==◌, if◌then◌else◌}
use Rattle.kp_ast.specs.declared.tree.Job.{Job}
use Rattle.kp_stage.specs.declared.start.Start.{Start}
use Rattle.kp_machine.specs.Slots.{Slot, targets_of, pipes_of, hints_of, is_register}
use Rattle.kp_machine.specs.Machine.{state_of, start_hints}
use Rattle.kp_design.specs.{declared.guess.GuessSlot.GuessSlot, Numbers.target_at, Numbers.pipe_at, Numbers.hint_at, Numbers.guesses_of, Numbers.guess_at}
use Rattle.kp_design.specs.Spans.{is_carried, piped_at, is_piped, is_stored}
use Rattle.kp_synth_registers.specs.declared.key.Key.{Key}
use Rattle.kp_synth_registers.specs.declared.key.Key.TheVariants.{Visible, Full, Pipe, Valid, Value, Pending, Guess, Hint}

-- THE KEYS. First the visible registers.
abbrev pub visible_keys : ℕ → List Slot → List Key
visible_keys t [] = []
visible_keys t (s ∷ ss) = if is_register s then Visible t ∷ visible_keys (suc t) ss else visible_keys (suc t) ss

-- then stage after stage
abbrev pub pipe_keys : Job → ℕ → ℕ → List Slot → List Key
pipe_keys job k x [] = []
pipe_keys job k x (s ∷ ss) = if piped_at job s.name k then Pipe x k ∷ pipe_keys job k (suc x) ss else pipe_keys job k (suc x) ss

abbrev pub result_keys : Job → ℕ → ℕ → List Slot → List Key
result_keys job k t [] = []
result_keys job k t (s ∷ ss) = if is_stored job t k then Valid t k ∷ Value t k ∷ result_keys job k (suc t) ss else result_keys job k (suc t) ss

abbrev pub guess_keys : ℕ → ℕ → List GuessSlot → List Key
guess_keys k g [] = []
guess_keys k g (s ∷ ss) = if is_carried s k then Pending g k ∷ Guess g k ∷ guess_keys k (suc g) ss else guess_keys k (suc g) ss

abbrev pub stage_keys : Job → ℕ → List Key
stage_keys job k = Full k ∷ (pipe_keys job k 0 (pipes_of job.decls) ++ (result_keys job k 0 (targets_of job.decls) ++ guess_keys k 0 (guesses_of job)))

-- d stages from k on
abbrev pub stages_keys : Job → ℕ → ℕ → List Key
stages_keys job zero k = []
stages_keys job (suc d) k = stage_keys job k ++ stages_keys job d (suc k)

abbrev pub later_keys : Job → ℕ → List Key
later_keys job zero = []
later_keys job (suc n) = stages_keys job n 1

-- and the hints last
abbrev pub hint_keys : ℕ → List Slot → List Key
hint_keys h [] = []
hint_keys h (s ∷ ss) = Hint h ∷ hint_keys (suc h) ss

-- The registers of the netlist of a job are those of these keys, in this order.
unfoldable pub keys_of : Job → List Key
keys_of job = visible_keys 0 (targets_of job.decls) ++ (later_keys job job.stages.value ++ hint_keys 0 (hints_of job.decls))

-- Which keys a job has.
abbrev pub HasKey : Job → Key → Type 0
HasKey job (Visible t) = (t < length (targets_of job.decls)) × (is_register (target_at job t) ≡ true)
HasKey job (Full k) = (0 < k) × (k < job.stages.value)
HasKey job (Pipe x k) = (x < length (pipes_of job.decls)) × (is_piped job x k ≡ true) × (0 < k) × (k < job.stages.value)
HasKey job (Valid t k) = (t < length (targets_of job.decls)) × (is_stored job t k ≡ true) × (0 < k) × (k < job.stages.value)
HasKey job (Value t k) = (t < length (targets_of job.decls)) × (is_stored job t k ≡ true) × (0 < k) × (k < job.stages.value)
HasKey job (Pending g k) = (g < length (guesses_of job)) × (is_carried (guess_at job g) k ≡ true) × (k < job.stages.value)
HasKey job (Guess g k) = (g < length (guesses_of job)) × (is_carried (guess_at job g) k ≡ true) × (k < job.stages.value)
HasKey job (Hint h) = h < length (hints_of job.decls)

-- The width of a register.
abbrev pub key_width : Job → Key → ℕ
key_width job (Visible t) = (target_at job t).width
key_width job (Full k) = 1
key_width job (Pipe x k) = (pipe_at job x).width
key_width job (Valid t k) = 1
key_width job (Value t k) = (target_at job t).width
key_width job (Pending g k) = 1
key_width job (Guess g k) = (guess_at job g).width
key_width job (Hint h) = (hint_at job h).width

-- Its start value: that of the target or the hint, else 0.
abbrev pub key_start : Job → Start → Key → ℕ
key_start job start (Visible t) = state_of job start t 0
key_start job start (Hint h) = start_hints job h
key_start job start _ = 0

-- The number of the register of a key, which is that of the first equal key in the list.
abbrev pub is_same_key : Key → Key → Bool
is_same_key (Visible t) (Visible u) = t == u
is_same_key (Full k) (Full l) = k == l
is_same_key (Pipe x k) (Pipe y l) = (x == y) && (k == l)
is_same_key (Valid t k) (Valid u l) = (t == u) && (k == l)
is_same_key (Value t k) (Value u l) = (t == u) && (k == l)
is_same_key (Pending g k) (Pending h l) = (g == h) && (k == l)
is_same_key (Guess g k) (Guess h l) = (g == h) && (k == l)
is_same_key (Hint h) (Hint i) = h == i
is_same_key _ _ = false

abbrev pub place_in : List Key → Key → ℕ
place_in [] key = 0
place_in (x ∷ xs) key = if is_same_key key x then 0 else suc (place_in xs key)

unfoldable pub place_of : Job → Key → ℕ
place_of job key = place_in (keys_of job) key

-- the default for a key that doesn't exist
abbrev pub key_at : Job → ℕ → Key
key_at job r = get_or (keys_of job) r (Full 0)

-- Rows of small machines of three stages, as masks. The rows, their counts and their lines were computed by an independent program.
use Rattle.std.specs.Prelude.{ℕ, List, [], ◌∷◌, ◌++◌, codes}
use Rattle.kp_base.specs.declared.row.Row.{Row}
use Rattle.kp_pipeline.specs.Rows.{counts}
use Rattle.kp_sched.specs.Rows.{rows_seen}

abbrev pub masks : (full ue back : ℕ) → Row
masks full ue back = record { full = full; ue = ue; back = back }

-- The numbers of the instructions in the three stages after n of these rows.
abbrev pub counts3 : List Row → ℕ → List ℕ
counts3 rows T = counts 3 (rows_seen 3 rows) T 0 ∷ counts 3 (rows_seen 3 rows) T 1 ∷ counts 3 (rows_seen 3 rows) T 2 ∷ []

-- smp3: stage 1 takes a sample, and nothing waits
abbrev pub smp3_rows : List Row
smp3_rows = masks 1 1 0 ∷ masks 3 3 0 ∷ masks 7 7 0 ∷ masks 7 7 0 ∷ []

-- the same machine, with stage 1 stalled in cycle 1
abbrev pub smp3_stalled_rows : List Row
smp3_stalled_rows = masks 1 1 0 ∷ masks 3 0 0 ∷ masks 3 3 0 ∷ masks 7 7 0 ∷ []

-- irq3: an interrupt redirects a guessed program counter, so in cycle 3 stage 1 finds its guess wrong
abbrev pub irq3_rows : List Row
irq3_rows = masks 1 1 0 ∷ masks 3 3 0 ∷ masks 7 7 0 ∷ masks 7 4 2 ∷ masks 1 1 0 ∷ []

abbrev pub irq3_lines : List ℕ
irq3_lines =
    codes "cycle 0 full 100 ue 100 back -\n"
    ++ codes "cycle 1 full 110 ue 110 back -\n"
    ++ codes "cycle 2 full 111 ue 111 back -\n"
    ++ codes "cycle 3 full 111 ue 001 back 1\n"
    ++ codes "cycle 4 full 100 ue 100 back -\n"

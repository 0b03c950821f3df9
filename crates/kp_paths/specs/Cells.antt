-- THE CELLS of a read: what each stage has for it.
use Rattle.std.specs.Prelude.{ℕ, Bool, not, ◌&&◌, ◌||◌, ◌==◌, nat_lt, if◌then◌else◌}
use Rattle.kp_pipeline.specs.{Machine.Machine, Pipeline.is_candidate, Pipeline.intent_known}
use Rattle.kp_paths.specs.declared.cell.Cell.{Cell}
use Rattle.kp_paths.specs.declared.cell.Cell.TheVariants.{Reads, Empty, Wait, Guess, Maybe, Bypass}

-- no value can be had: a guessed read goes on with its guess
abbrev pub unmet : Bool → Cell
unmet guessed = if guessed then Guess else Wait

-- THE CELL of stage j for a read of target t in stage k. `some`: a set of the target's result is in a stage up to j. `sure`: so is one without a
-- condition.
abbrev pub cell_of : Machine → Bool → (target stage other : ℕ) → (some sure : Bool) → Cell
cell_of m guessed t k j some sure =
    if j == k then Reads
    else (if not (nat_lt k j && is_candidate m j t) then Empty
    else (if not (intent_known m j t) then unmet guessed
    else (if sure || (j == m.write_stage t) then Bypass
    else (if some then Maybe
    else unmet guessed))))

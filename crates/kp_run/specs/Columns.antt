-- The sample values that the instructions of a run read, collected from its rows.
use Rattle.std.specs.Prelude.{◌≡◌, ℕ, suc, ◌<◌, List, [], ◌∷◌, length, get_or, map, if◌then◌else◌}
use Rattle.kp_base.specs.declared.row.Row as masks
use Rattle.kp_bits.specs.{Word.Word, Word.word, Operators.no_word}
use Rattle.kp_ast.specs.declared.tree.Job.{Job}
use Rattle.kp_pipeline.specs.Rows.{Row, bit}
use Rattle.kp_stage.specs.Start.{input}
use Rattle.kp_machine.specs.Slots.{sample_stages}
use Rattle.kp_sched.specs.Rows.{rows_seen}

-- the words of the instructions that leave the stage of a sample, in order, and the word that all others read
pub record Taken : Type 0 where
  pub words : List Word
  pub none : Word

abbrev pub word_taken : Taken → ℕ → Word
word_taken c i = get_or c.words i c.none

abbrev pub row_taken : List Taken → ℕ → List Word
row_taken columns i = map (λ c. word_taken c i) columns

-- the words of sample x in the cycles of these rows in which stage k updates, where the first row has number `cycle`
abbrev pub words_taken : (ℕ → List Word) → (sample stage cycle : ℕ) → List Row → List Word
words_taken given x k cycle [] = []
words_taken given x k cycle (r ∷ rows) =
    if bit r.ue k then get_or (given cycle) x no_word ∷ words_taken given x k (suc cycle) rows else words_taken given x k (suc cycle) rows

abbrev pub no_column : Taken
no_column = record { words = []; none = no_word }

-- the column of sample x, given the stages of the samples in a machine of n stages
pub record HasColumn (given : ℕ → List Word) (stages : List ℕ) (n : ℕ) (rows : List masks.Row) (x : ℕ) (columns : List Taken) : Type 0 where
  pub words : (get_or columns x no_column).words ≡ words_taken given x (get_or stages x n) 0 (rows_seen n rows)
  pub none : (get_or columns x no_column).none ≡ word (get_or (given 0) x no_word).width 0

-- a column for each sample of a job
pub record AreColumns (job : Job) (rows : List masks.Row) (columns : List Taken) : Type 0 where
  pub count : length columns ≡ length (sample_stages job.decls)
  pub each : (x : ℕ) → x < length columns → HasColumn (input job) (sample_stages job.decls) job.stages.value rows x columns

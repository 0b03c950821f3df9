-- The cycles of a run, in order.
use Rattle.std.proofs.Common.{◌≡◌, ◌∙◌, ℕ, suc, ◌+◌, List, [], ◌∷◌, ◌++◌, false, refl, ap, sym, arith}
use Rattle.kp_base.specs.declared.row.Row.{Row}
use Rattle.kp_bits.specs.Word.{Word}
use Rattle.kp_ast.specs.declared.tree.Job.{Job}
use Rattle.kp_stage.specs.Start.{stall_word, input}
use Rattle.kp_cycle.specs.Steps.{given}
use Rattle.kp_net.specs.Netlist.{Net, Input, State, start_of, row_of, state_after, last_of, run}
use Rattle.kp_net.proofs.Runs.{rows_more, last_more}
use Rattle.kp_sched.specs.Monitors.{Kept, HasSeen}
use Rattle.kp_run.specs.Cycles.{input_at, inputs_to, HasRows}

-- the inputs of a cycle, as the sections of the job specify them
pub given_at : (job : Job) (stalls : ℕ → ℕ) (inputs : ℕ → List Word) (m n : ℕ) → stalls ≡ stall_word job → inputs ≡ input job → m ≡ n → given (stalls m) false (inputs m) ≡ input_at job n
given_at job stalls inputs m n words rows same = λ i. given (words i (same i)) false (rows i (same i))

module _ (job : Job) (net : Net) (n : ℕ) (i : Input) (is : i ≡ input_at job n) where
  next : n + 1 ≡ suc n
  next = omega arith

  -- the state after one cycle more
  pub state_next : (s : State) → s ≡ last_of net (inputs_to job n) → state_after net i s ≡ last_of net (inputs_to job (n + 1))
  state_next s e =
      ap (state_after net i) e
      ∙ ap (λ (j : Input). state_after net j (last_of net (inputs_to job n))) is
      ∙ sym (last_more net (start_of net) (inputs_to job n) (input_at job n))
      ∙ ap (λ (m : ℕ). last_of net (inputs_to job m)) (sym next)

  pub rows_next : (s : State) (row : Row) (rows : List Row) (old new : Kept) → s ≡ last_of net (inputs_to job n) → row ≡ row_of net i s
      → HasRows job net n rows old → new.stages ≡ old.stages → ((given : List Row) → HasSeen old given → HasSeen new (given ++ row ∷ []))
      → HasRows job net (n + 1) (rows ++ row ∷ []) new
  rows_next s row rows old new e shows has stages counted =
      let row_is : row ≡ row_of net (input_at job n) (last_of net (inputs_to job n)) =
      shows ∙ ap (row_of net i) e ∙ ap (λ (j : Input). row_of net j (last_of net (inputs_to job n))) is in
      record {
        rows =
            ap (λ (r : Row). rows ++ r ∷ []) row_is
            ∙ ap (λ (rs : List Row). rs ++ row_of net (input_at job n) (last_of net (inputs_to job n)) ∷ []) has.rows
            ∙ sym (rows_more net (start_of net) (inputs_to job n) (input_at job n))
            ∙ ap (λ (m : ℕ). (run net (inputs_to job m)).rows) (sym next);
        seen = counted rows has.seen;
        stages = stages ∙ has.stages;
      }

pub rows_begin : (job : Job) (net : Net) (monitor : Kept) → monitor.stages ≡ job.stages.value → HasSeen monitor [] → HasRows job net 0 [] monitor
rows_begin job net monitor stages seen = record { rows = refl; seen = seen; stages = stages }

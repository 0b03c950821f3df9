-- THE CHANGE DUMP OF A RUN of the pipelined machine of a job, in which files, hints and samples have no signals.
use Rattle.std.specs.Prelude.{ℕ, zero, suc, ◌+◌, ◌*◌, List, [], ◌∷◌, ◌++◌, Bool, true, false, None, Some, codes}
use Rattle.kp_bits.specs.Word.{word}
use Rattle.kp_ast.specs.declared.tree.{Decl.Decl, Job.Job}
use Rattle.kp_ast.specs.declared.tree.Decl.TheVariants as decls
use Rattle.kp_pipeline.specs.Rows.{Row, Trace, one_if}
use Rattle.kp_machine.specs.Machine.{pipe_of, inputs_from}
use Rattle.kp_implements.specs.Naming.{module_name}
use Rattle.kp_vcd.specs.{Recording.Values, Recording.recorded, Text.dump_text, declared.dump.Signal.Signal, declared.dump.Dump.Dump}

-- ---- the signals

abbrev pub wire : List ℕ → ℕ → Signal
wire name width = record { name = name; reg = false; width = width }

abbrev pub register : List ℕ → ℕ → Signal
register name width = record { name = codes "r_" ++ name; reg = true; width = width }

-- the registers in the order of declaration
abbrev pub register_signals : List Decl → List Signal
register_signals [] = []
register_signals (decls.Reg n width start ∷ ds) = register n.name width.value ∷ register_signals ds
register_signals (_ ∷ ds) = register_signals ds

-- full and ue have a bit for each stage
abbrev pub signals_of : Job → List Signal
signals_of job =
    wire (codes "full") job.stages.value ∷ wire (codes "ue") job.stages.value ∷ wire (codes "back") 4 ∷ register_signals job.decls

-- ---- their values

-- the number with these bits, the lowest first
abbrev pub number : List Bool → ℕ
number [] = 0
number (b ∷ bs) = one_if b + 2 * number bs

-- full, ue and back in a cycle of n stages: they have no value after the last cycle
abbrev pub row_values : ℕ → Row → Values
row_values n r = Some (word n (number r.full)) ∷ Some (word n (number r.ue)) ∷ Some (word 4 r.back) ∷ []

abbrev pub no_row : Values
no_row = None ∷ None ∷ None ∷ []

abbrev pub output_values : ℕ → List Row → ℕ → Values
output_values n [] T = no_row
output_values n (r ∷ rows) zero = row_values n r
output_values n (r ∷ rows) (suc T) = output_values n rows T

-- the values of the registers among declarations, the first register or file of which is target t
abbrev pub register_values : (ℕ → ℕ) → ℕ → List Decl → Values
register_values visible t [] = []
register_values visible t (decls.Reg n width start ∷ ds) = Some (word width.value (visible t)) ∷ register_values visible (t + 1) ds
register_values visible t (decls.File n width address ∷ ds) = register_values visible (t + 1) ds
register_values visible t (_ ∷ ds) = register_values visible t ds

-- the values of all signals at time T of a trace
abbrev pub values_at : Job → Trace → ℕ → Values
values_at job trace T = output_values job.stages.value trace.rows T ++ register_values (λ t. trace.visible T t 0) 0 job.decls

-- the run of n cycles under the job's own stall words and samples
abbrev pub own_run : Job → ℕ → Trace
own_run job n = pipe_of job (inputs_from job 0 n)

-- ---- the dump

unfoldable pub vcd_dump : ℕ → Job → Dump
vcd_dump n job = record { «module» = module_name job; signals = signals_of job; moments = recorded (values_at job (own_run job n)) n }

abbrev pub vcd_text : ℕ → Job → List ℕ
vcd_text n job = dump_text (vcd_dump n job)

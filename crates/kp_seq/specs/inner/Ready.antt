-- The contents of a machine at its start, and what it preserves between its instructions.
use Rattle.std.specs.Prelude.{◌≡◌, ℕ, ◌≤◌, List, [], ◌∷◌, map, None, length}
use Rattle.kp_base.specs.First.{first}
use Rattle.kp_bits.specs.Word.{Word}
use Rattle.kp_ast.specs.declared.tree.{Decl.Decl, Job.Job}
use Rattle.kp_ast.specs.declared.tree.Decl.TheVariants as decls
use Rattle.kp_width.specs.{TextOrder.declared_names, Widths.widths_of}
use Rattle.kp_stage.specs.{Counts.summary_of, Sizes.size_of_job, Stages.broken_of}
use Rattle.kp_machine.specs.Slots.{targets_of, pipes_of, samples_of}
use Rattle.kp_seq_plan.specs.Names.{keys_of}
use Rattle.kp_seq.specs.inner.{Tables.Laid, Tables.ports_of, Fits.FitSlots, Resolved.Outline, Resolved.Raw, Resolved.Resolves, Steps.Under}
use Rattle.kp_seq.specs.inner.Notes.{Noted, outlets_of}

-- the tables of a job, in which each declared name has an index
pub record AreTables (job : Job) (t : Laid) : Type 0 where
  pub decls : t.decls ≡ job.decls
  pub targets : t.targets ≡ targets_of job.decls
  pub pipes : t.pipes ≡ pipes_of job.decls
  pub samples : t.samples ≡ samples_of job.decls
  pub ports : t.ports ≡ ports_of job.decls
  pub names : t.names ≡ keys_of [] (widths_of job).value
  pub declared : map (λ e. e.name) (widths_of job).value ≡ declared_names job

-- an entry for each name, pipe and result
pub record HasPlaces (t : Laid) (u : Under) : Type 0 where
  pub names : length u.names ≡ length t.names
  pub pipes : length u.pipes ≡ length t.pipes
  pub results : length u.results ≡ length t.targets

pub record HasRoom (t : Laid) (r : Raw) : Type 0 where
  pub names : length r.names ≡ length t.names
  pub pipes : length r.pipes ≡ length t.pipes
  pub results : length r.results ≡ length t.targets

-- storage for the record: for the results, and for as many reads as the job has
pub record IsNoted (job : Job) (n : Noted) : Type 0 where
  pub outlets : n.outlets ≡ outlets_of (targets_of job.decls) (pipes_of job.decls) job.decls
  pub reads : length n.reads ≡ (summary_of job).reads
  pub set_in : length n.set_in ≡ length n.outlets
  pub writes : length n.writes ≡ length n.outlets
  pub settings : length n.settings ≡ length n.outlets

pub record IsReady (job : Job) (t : Laid) (o : Outline) (r : Raw) (space : ℕ) (held : List (List ℕ)) (n : Noted) : Type 0 where
  pub names : first (widths_of job).asked ≡ None
  pub stages : broken_of job ≡ None
  pub tables : AreTables job t
  pub program : Resolves t job.blocks o
  pub places : HasRoom t r
  pub room : size_of_job job ≤ space
  pub words : FitSlots (targets_of job.decls) held
  pub notes : IsNoted job n

-- the words of the targets of these declarations, given these values of the registers and words of the files
abbrev pub words_of_start : List Decl → List Word → List (List ℕ) → List (List ℕ)
words_of_start [] regs files = []
words_of_start (decls.Reg n width start ∷ ds) [] files = [] ∷ words_of_start ds [] files
words_of_start (decls.Reg n width start ∷ ds) (r ∷ regs) files = (r.value ∷ []) ∷ words_of_start ds regs files
words_of_start (decls.File n width address ∷ ds) regs [] = [] ∷ words_of_start ds regs []
words_of_start (decls.File n width address ∷ ds) regs (f ∷ files) = f ∷ words_of_start ds regs files
words_of_start (_ ∷ ds) regs files = words_of_start ds regs files

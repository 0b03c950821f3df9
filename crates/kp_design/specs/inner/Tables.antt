-- The contents of the tables of a job, as numbers of limited width.
use Rattle.std.specs.Prelude.{◌≡◌, ℕ, ◌+◌, min, max, List, [], ◌∷◌, map, Option, Some, None, Bool, if◌then◌else◌}
use Rattle.std.specs.List.{list_any}
use Rattle.kp_ast.specs.declared.tree.{Named.Named, ResultDecl.ResultDecl, Expr.Expr, ReadStmt.ReadStmt, Stmt.Stmt, StmtKind.StmtKind, Block.Block, Job.Job}
use Rattle.kp_ast.specs.declared.tree.StmtKind.TheVariants as stmts
use Rattle.kp_stage.specs.{Counts.one_if_some, Uses.aims}
use Rattle.kp_machine.specs.Slots.{Slot, targets_of, pipes_of, hints_of, samples_of, number_of}
use Rattle.kp_design.specs.declared.guess.GuessSlot.{GuessSlot}
use Rattle.kp_design.specs.{Numbers.guess_slot, declared.layout.Sized.Sized, declared.layout.Port.Port, declared.layout.Piped.Piped}
use Rattle.kp_design.specs.{Spans.put_after, Spans.set_after, Spans.last_use, declared.layout.Aimed.Aimed, declared.tables.Declared.Declared}

-- a number that fits, else the largest that does
abbrev pub byte : ℕ → ℕ
byte n = min n 255

abbrev pub short : ℕ → ℕ
short n = min n 4294967295

abbrev pub sized : Slot → Sized
sized s = record { width = byte s.width; address = byte s.address }

abbrev pub bytes_of : List Slot → List ℕ
bytes_of ss = map (λ (s : Slot). byte s.width) ss

-- the stage that aims a hint, among the blocks from number k on, and 0 if none does
abbrev pub has_aim : List ℕ → List Stmt → Bool
has_aim name ss = list_any (λ (s : Stmt). aims name s.kind) ss

abbrev pub aimed_in : List ℕ → ℕ → List Block → ℕ
aimed_in name k [] = 0
aimed_in name k (b ∷ bs) = if has_aim name b.stmts then k else aimed_in name (k + 1) bs

-- the pipes
abbrev pub short_piped : Job → Slot → Piped
short_piped job s = record { width = byte s.width; from = short (put_after s.name 0 job.blocks); to = short (last_use job s.name) }

-- the hints
abbrev pub short_aimed : Job → Slot → Aimed
short_aimed job s = record { width = byte s.width; stage = short (aimed_in s.name 0 job.blocks) }

-- what a job declares
pub record IsDeclared (job : Job) (all : Declared) : Type 0 where
  pub targets : all.targets.items ≡ map sized (targets_of job.decls)
  pub pipes : all.pipes.items ≡ map (short_piped job) (pipes_of job.decls)
  pub hints : all.hints.items ≡ map (short_aimed job) (hints_of job.decls)
  pub samples : all.samples.items ≡ bytes_of (samples_of job.decls)

-- how a target is written, by its result
abbrev pub known_in : Job → Option Named → ℕ
known_in job None = 0
known_in job (Some n) = put_after n.name 0 job.blocks

abbrev pub short_number : Job → Option Named → Option ℕ
short_number job None = None
short_number job (Some n) = Some (short (number_of (pipes_of job.decls) n.name))

abbrev pub short_port : Job → Option ResultDecl → Option Port
short_port job None = None
short_port job (Some r) = Some (record {
  write = short r.stage.value;
  known = short (max (known_in job r.address) (known_in job r.enable));
  set = short (set_after r.name.name 0 job.blocks);
  enable = short_number job r.enable;
  address = short_number job r.address;
})

-- the guesses
abbrev pub short_guess : GuessSlot → GuessSlot
short_guess g = record { stage = short g.stage; index = short g.index; register = short g.register; width = byte g.width; write = short g.write }

-- the guess of a statement
abbrev pub read_here : Job → ℕ → ℕ → ReadStmt → Option Expr → List GuessSlot
read_here job k i r None = []
read_here job k i r (Some e) = guess_slot job k i r ∷ []

abbrev pub guess_here : Job → ℕ → ℕ → StmtKind → List GuessSlot
guess_here job k i (stmts.Read r) = read_here job k i r r.guess
guess_here job k i _ = []

abbrev pub guess_count : StmtKind → ℕ
guess_count (stmts.Read r) = one_if_some r.guess
guess_count _ = 0

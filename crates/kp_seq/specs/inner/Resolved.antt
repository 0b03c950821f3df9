-- A resolved job, and the effect of its instructions, on plain numbers.
use Rattle.std.specs.Prelude.{◌≡◌, ◌≤◌, ◌+◌, ℕ, List, [], ◌∷◌, ◌++◌, take, drop, Option, Some, None, Bool, ◌==◌, if◌then◌else◌, length, map, sum_by, replicate, set, get_or, slice_index, unwrap_or}
use Rattle.std.specs.List.{position}
use Rattle.kp_bits.specs.Word.{Word}
use Rattle.kp_ast.specs.{Expressions.is_same_name, Size.size, declared.tree.Expr.Expr, declared.tree.ReadStmt.ReadStmt, declared.tree.Stmt.Stmt}
use Rattle.kp_ast.specs.declared.tree.{StmtKind.StmtKind, Block.Block}
use Rattle.kp_ast.specs.declared.tree.StmtKind.TheVariants as stmts
use Rattle.kp_pipeline.specs.Sequential.{first_value}
use Rattle.kp_stage.specs.Sizes.{size_of_option, size_of_kind, size_of_stmt}
use Rattle.kp_machine.specs.{Slots.Slot, Words.state_in}
use Rattle.kp_seq_plan.specs.{Codes.value_of, Codes.space_of, Lowering.Holds, Lowering.AllSuit, declared.code.Code.Code, declared.code.Typed.Typed}
use Rattle.kp_seq.specs.declared.{program.Reading.Reading, program.Step.Step, program.Made.Made, tables.Port.Port}
use Rattle.kp_seq.specs.inner.{Fits.FitSlots, Tables.Laid}
use Rattle.kp_seq.specs.inner.Steps.{Under, word_in, value_read, after_stmt, after_stmts, written_from}
use Rattle.kp_seq.specs.Recorded.{where_true}
use Rattle.kp_seq.specs.inner.Notes.{Noted, narrow_address, begun_notes, with_read, with_marks, with_results, asked_in, note_stmt, note_stmts}
use Rattle.kp_seq.specs.declared.program.Step.TheVariants as moves
use Rattle.kp_seq.specs.declared.computed.Computed.{Computed, TheVariants.Pipe, TheVariants.Result}

-- the indices of the names of the samples and of the pipes, and the steps of each stage
pub record Outline : Type 0 where
  pub samples : List (Option ℕ)
  pub pipes : List (Option ℕ)
  pub stages : List (List Step)

-- an instruction in flight as plain numbers: the values of names by index, the values of pipes, and results by their targets
pub record Raw : Type 0 where
  pub names : List ℕ
  pub pipes : List ℕ
  pub results : List (Option ℕ)

-- its pipes and results, which determine what it writes
abbrev pub outputs : Raw → Under
outputs r = record { names = []; pipes = r.pipes; results = r.results }

-- what it computes
abbrev pub value_held : Raw → Computed → ℕ
value_held r (Pipe p) = slice_index r.pipes p
value_held r (Result t) = unwrap_or (get_or r.results t None) 0

-- a condition
abbrev pub holds_at : Raw → Code → Bool
holds_at r c = value_of c r.names == 1

-- the value of a read: 0 if its condition is false; a guess is of a register
abbrev pub value_at : List (List ℕ) → Raw → Reading → ℕ
value_at words r s = if holds_at r s.when then state_in words s.target (if s.is_guessed then 0 else value_of s.address r.names) else 0

abbrev pub put_place : List ℕ → Option ℕ → ℕ → List ℕ
put_place values None v = values
put_place values (Some i) v = set values i v

abbrev pub with_place : Raw → Option ℕ → ℕ → Raw
with_place r place v = record r { names = put_place r.names place v }

abbrev pub put_pipe : Raw → ℕ → ℕ → Raw
put_pipe r p v = record r { pipes = set r.pipes p v }

-- the first value of a result counts
abbrev pub set_first : Raw → ℕ → ℕ → Raw
set_first r t v = record r { results = set r.results t (first_value (get_or r.results t None) (Some v)) }

abbrev pub with_target : Raw → Option ℕ → ℕ → Raw
with_target r None v = r
with_target r (Some t) v = set_first r t v

-- after a step
abbrev pub after_step : List (List ℕ) → Raw → Step → Raw
after_step words r (moves.Read s) = with_place r s.place (value_at words r s)
after_step words r (moves.Let place c) = with_place r place (value_of c r.names)
after_step words r (moves.Put pipe c) = put_pipe r pipe (value_of c r.names)
after_step words r (moves.Set target c when) = if holds_at r when then with_target r target (value_of c r.names) else r
after_step words r moves.Nothing = r

abbrev pub after_steps : List (List ℕ) → Raw → List Step → Raw
after_steps words r [] = r
after_steps words r (s ∷ ss) = after_steps words (after_step words r s) ss

-- the values under these indices are set to those of an input vector
abbrev pub with_row_at : Raw → List (Option ℕ) → List Word → Raw
with_row_at r [] row = r
with_row_at r (p ∷ ps) [] = r
with_row_at r (p ∷ ps) (w ∷ row) = with_row_at (with_place r p w.value) ps row

-- the values under these indices are set to those of the pipes, the first of which has this number
abbrev pub with_carried : Raw → ℕ → List (Option ℕ) → Raw
with_carried r i [] = r
with_carried r i (p ∷ ps) = with_carried (with_place r p (slice_index r.pipes i)) (i + 1) ps

-- the values from this index on are set to those of the pipes
abbrev pub with_run : Raw → ℕ → Raw
with_run r f = record r { names = take f r.names ++ (r.pipes ++ drop (f + length r.pipes) r.names) }

-- the start of a stage: the names of the samples and of the pipes are bound to their values
abbrev pub entered_at : Outline → List Word → Raw → Raw
entered_at o row r = with_carried (with_row_at r o.samples row) 0 o.pipes

abbrev pub after_stages : Outline → List (List ℕ) → List Word → Raw → List (List Step) → Raw
after_stages o words row r [] = r
after_stages o words row r (s ∷ ss) = after_stages o words row (after_steps words (entered_at o row r) s) ss

-- the start of an instruction: no pipe and no result has a value
abbrev pub begun_at : Raw → Raw
begun_at r = record { names = r.names; pipes = replicate (length r.pipes) 0; results = replicate (length r.results) None }

-- the words after one instruction
abbrev pub ran : Outline → List (Option Port) → List Word → Raw → List (List ℕ) → List (List ℕ)
ran o ports row r words = written_from (outputs (after_stages o words row (begun_at r) o.stages)) words 0 ports

-- THE RECORD. The address of a read, if its condition holds
abbrev pub asked_at : Raw → Reading → Option ℕ
asked_at r s = where_true (holds_at r s.when) (value_of s.address r.names)

-- the value of the read, given that address
abbrev pub value_asked : List (List ℕ) → Reading → Option ℕ → ℕ
value_asked words s None = 0
value_asked words s (Some a) = state_in words s.target (if s.is_guessed then 0 else a)

abbrev pub note_step : Raw → Noted → Step → Noted
note_step r n (moves.Read s) = with_read n (narrow_address (asked_at r s))
note_step r n _ = n

abbrev pub note_steps : List (List ℕ) → Raw → Noted → List Step → Noted
note_steps words r n [] = n
note_steps words r n (s ∷ ss) = note_steps words (after_step words r s) (note_step r n s) ss

-- stage k and those after it
abbrev pub note_stages : Outline → List (List ℕ) → List Word → ℕ → Raw → Noted → List (List Step) → Noted
note_stages o words row k r n [] = n
note_stages o words row k r n (s ∷ ss) =
    let v = entered_at o row r in
    let w = after_steps words v s in
    note_stages o words row (k + 1) w (with_marks k (outputs w) (note_steps words v n s)) ss

-- an instruction
abbrev pub noted : Outline → List (List ℕ) → List Word → Raw → Noted → Noted
noted o words row r n =
    with_results (outputs (after_stages o words row (begun_at r) o.stages)) (note_stages o words row 0 (begun_at r) (begun_notes n) o.stages)

-- the scratch space that a step needs
abbrev pub step_space : Step → ℕ
step_space (moves.Read s) = space_of s.address + space_of s.when
step_space (moves.Let place c) = space_of c
step_space (moves.Put pipe c) = space_of c
step_space (moves.Set target c when) = space_of c + space_of when
step_space moves.Nothing = 0

abbrev pub steps_space : List Step → ℕ
steps_space ss = sum_by step_space ss

-- the widths of the values under indices that have a value in a stage
abbrev pub with_width : List (Option ℕ) → Option ℕ → ℕ → List (Option ℕ)
with_width ws None w = ws
with_width ws (Some i) w = set ws i (Some w)

abbrev pub place_in : List (List ℕ) → Slot → Option ℕ
place_in keys s = position (is_same_name s.name) keys

abbrev pub places_of : List (List ℕ) → List Slot → List (Option ℕ)
places_of keys ss = map (place_in keys) ss

abbrev pub with_widths : List (List ℕ) → List (Option ℕ) → List Slot → List (Option ℕ)
with_widths keys ws [] = ws
with_widths keys ws (s ∷ ss) = with_widths keys (with_width ws (place_in keys s) s.width) ss

abbrev pub entry_widths : Laid → List (Option ℕ)
entry_widths t = with_widths t.names (with_widths t.names (replicate (length t.names) None) t.samples) t.pipes

-- an instruction in flight as plain numbers, given these widths of the names that have values
pub record IsShown (ws : List (Option ℕ)) (u : Under) (r : Raw) : Type 0 where
  pub names : AllSuit ws u.names r.names
  pub pipes : r.pipes ≡ u.pipes
  pub results : r.results ≡ u.results

-- a code computes the words of an expression of a stage
pub record IsCode (t : Laid) (ws : List (Option ℕ)) (e : Expr) (c : Typed) : Type 0 where
  pub value : (u : Under) (values : List ℕ) → AllSuit ws u.names values → Holds (Some (word_in t u e)) c.width (value_of c.code values)
  pub space : space_of c.code ≤ size t.decls e

-- the value of an optional expression, and this number if it is omitted
abbrev pub value_or : Laid → Under → ℕ → Option Expr → ℕ
value_or t u omitted None = omitted
value_or t u omitted (Some e) = (word_in t u e).value

pub record IsOptionCode (t : Laid) (ws : List (Option ℕ)) (omitted : ℕ) (e : Option Expr) (c : Code) : Type 0 where
  pub value : (u : Under) (r : Raw) → AllSuit ws u.names r.names → value_of c r.names ≡ value_or t u omitted e
  pub space : space_of c ≤ size_of_option t.decls e

pub record IsReading (t : Laid) (ws : List (Option ℕ)) (r : ReadStmt) (s : Reading) : Type 0 where
  pub place : s.place ≡ position (is_same_name r.name.name) t.names
  pub value : (words : List (List ℕ)) (u : Under) (x : Raw) → AllSuit ws u.names x.names → value_at words x s ≡ value_read t words u r
  pub asked : (u : Under) (x : Raw) → AllSuit ws u.names x.names → asked_at x s ≡ asked_in t u r
  pub space : space_of s.address + space_of s.when ≤ size_of_option t.decls r.address + size_of_option t.decls r.when

-- a step does what a statement does, and binds a name with this width
pub record Does (t : Laid) (ws : List (Option ℕ)) (k : StmtKind) (m : Made) : Type 0 where
  pub after : (words : List (List ℕ)) (u : Under) (r : Raw) → FitSlots t.targets words → IsShown ws u r
      → IsShown (with_width ws m.place m.width) (after_stmt t words u k) (after_step words r m.step)
  pub noted : (u : Under) (r : Raw) (n : Noted) → IsShown ws u r → note_step r n m.step ≡ note_stmt t u n k
  pub space : step_space m.step ≤ size_of_kind t.decls k

abbrev pub DoesRead : Laid → List (Option ℕ) → ReadStmt → Made → Type 0
DoesRead t ws r m = Does t ws (stmts.Read r) m

abbrev pub unnamed : Step → Made
unnamed s = record { step = s; place = None; width = 0 }

-- so do several steps, after which the names have these widths
pub record DoesAll (t : Laid) (ws : List (Option ℕ)) (xs : List Stmt) (ss : List Step) (after : List (Option ℕ)) : Type 0 where
  pub shown : (words : List (List ℕ)) (u : Under) (r : Raw) → FitSlots t.targets words → IsShown ws u r
      → IsShown after (after_stmts t words u xs) (after_steps words r ss)
  pub noted : (words : List (List ℕ)) (u : Under) (r : Raw) (n : Noted) → FitSlots t.targets words → IsShown ws u r
      → note_steps words r n ss ≡ note_stmts t words u n xs
  pub space : steps_space ss ≤ sum_by (size_of_stmt t.decls) xs

abbrev pub DoesStage : Laid → List (Option ℕ) → List Stmt → List Step → Type 0
DoesStage t ws xs ss = (after : List (Option ℕ)) × DoesAll t ws xs ss after

-- stage by stage
abbrev pub AllDo : Laid → List (Option ℕ) → List Block → List (List Step) → Type 0
AllDo t ws [] ss = ss ≡ []
AllDo t ws (b ∷ bs) [] = ⊥
AllDo t ws (b ∷ bs) (s ∷ ss) = DoesStage t ws b.stmts s × AllDo t ws bs ss

-- the blocks of a job are resolved
pub record Resolves (t : Laid) (blocks : List Block) (o : Outline) : Type 0 where
  pub samples : o.samples ≡ places_of t.names t.samples
  pub pipes : o.pipes ≡ places_of t.names t.pipes
  pub stages : AllDo t (entry_widths t) blocks o.stages

-- The record of a running instruction, over lists.
use Rattle.std.specs.Prelude.{ℕ, ◌+◌, ◌^◌, List, [], ◌∷◌, Option, None, Bool, ◌&&◌, nat_le, nat_lt, if◌then◌else◌, is_some, length, get_or, set, replicate, unwrap_or}
use Rattle.std.specs.Option.{option_map}
use Rattle.kp_bits.specs.Word.{Word}
use Rattle.kp_ast.specs.declared.tree.{ResultDecl.ResultDecl, Decl.Decl, ReadStmt.ReadStmt, Stmt.Stmt, StmtKind.StmtKind, Block.Block}
use Rattle.kp_ast.specs.declared.tree.Decl.TheVariants as decls
use Rattle.kp_ast.specs.declared.tree.StmtKind.TheVariants as stmts
use Rattle.kp_pipeline.specs.Sequential.{first_value}
use Rattle.kp_machine.specs.Slots.{Slot, number_of, width_of}
use Rattle.kp_seq.specs.{declared.notes.Outlet.Outlet, Recorded.Recorded, Recorded.where_true, inner.Tables.Laid, inner.Tables.pipe_number}
use Rattle.kp_seq.specs.inner.Steps.{Under, holds, address_in, is_enabled, address_by, after_stmt, entered, after_block}

-- the results of a machine; the record of the reads and of the results of an instruction; the number of reads so far;
-- and for each result the stage in which it was set
pub record Noted : Type 0 where
  pub outlets : List Outlet
  pub reads : List (Option ℕ)
  pub next : ℕ
  pub set_in : List (Option ℕ)
  pub writes : List (Option ℕ)
  pub settings : List ℕ

abbrev pub record_by : Noted → Recorded
record_by n = record { reads = n.reads; writes = n.writes; settings = n.settings }

-- the results of these declarations
abbrev pub outlet_by : List Slot → List Slot → ResultDecl → Outlet
outlet_by targets pipes r = record {
  target = number_of targets r.target.name;
  enable = pipe_number pipes r.enable;
  address = pipe_number pipes r.address;
  stage = r.stage.value;
}

abbrev pub outlets_of : List Slot → List Slot → List Decl → List Outlet
outlets_of targets pipes [] = []
outlets_of targets pipes (decls.Target r ∷ ds) = outlet_by targets pipes r ∷ outlets_of targets pipes ds
outlets_of targets pipes (_ ∷ ds) = outlets_of targets pipes ds

-- a number if it fits, else 0
abbrev pub narrowed : (bits number : ℕ) → ℕ
narrowed bits a = if nat_lt a (2 ^ bits) then a else 0

abbrev pub narrow_address : Option ℕ → Option ℕ
narrow_address o = option_map (narrowed 32) o

-- the start of an instruction
abbrev pub begun_notes : Noted → Noted
begun_notes n = record n { next = 0; set_in = replicate (length n.set_in) None }

-- the next read
abbrev pub with_read : Noted → Option ℕ → Noted
with_read n o = record n { reads = set n.reads n.next o; next = if nat_lt n.next (length n.reads) then n.next + 1 else n.next }

-- the entries from number i on are changed, by a list
abbrev pub changed_from : {X Y : Type 0} → (ℕ → X → Y → Y) → Y → List Y → ℕ → List X → List Y
changed_from f d ys i [] = ys
changed_from f d ys i (x ∷ xs) = changed_from f d (set ys i (f i x (get_or ys i d))) (i + 1) xs

-- the end of a stage: results that have a value and had none before were set in it
abbrev pub marked : ℕ → List (Option ℕ) → Outlet → Option ℕ → Option ℕ
marked k results o old = first_value old (where_true (is_some (get_or results o.target None)) k)

abbrev pub with_marks : ℕ → Under → Noted → Noted
with_marks k u n = record n { set_in = changed_from (λ i o old. marked k u.results o old) None n.set_in 0 n.outlets }

-- the end of the instruction
abbrev pub write_noted : Under → Outlet → Option ℕ
write_noted u o = where_true (is_enabled u o.enable) (narrowed 32 (address_by u o.address))

abbrev pub setting_noted : Option ℕ → Outlet → ℕ
setting_noted at o = narrowed 8 (unwrap_or at o.stage)

abbrev pub with_results : Under → Noted → Noted
with_results u n = record n {
  writes = changed_from (λ i o old. write_noted u o) None n.writes 0 n.outlets;
  settings = changed_from (λ i o old. setting_noted (get_or n.set_in i None) o) 0 n.settings 0 n.outlets;
}

-- the address of a read, if its condition holds
abbrev pub asked_in : Laid → Under → ReadStmt → Option ℕ
asked_in t u r = where_true (holds t u r.when) (address_in t u r.address)

-- a target of an accepted job has a width
abbrev pub is_wide : Laid → ReadStmt → Bool
is_wide t r = nat_le 1 (width_of t.targets r.target.name) && nat_le (width_of t.targets r.target.name) 64

abbrev pub note_stmt : Laid → Under → Noted → StmtKind → Noted
note_stmt t u n (stmts.Read r) = if is_wide t r then with_read n (narrow_address (asked_in t u r)) else n
note_stmt t u n _ = n

abbrev pub note_stmts : Laid → List (List ℕ) → Under → Noted → List Stmt → Noted
note_stmts t words u n [] = n
note_stmts t words u n (s ∷ ss) = note_stmts t words (after_stmt t words u s.kind) (note_stmt t u n s.kind) ss

abbrev pub note_blocks : Laid → List (List ℕ) → List Word → ℕ → Under → Noted → List Block → Noted
note_blocks t words row k u n [] = n
note_blocks t words row k u n (b ∷ bs) =
    let w = after_block t words row u b in
    note_blocks t words row (k + 1) w (with_marks k w (note_stmts t words (entered t row u) n b.stmts)) bs

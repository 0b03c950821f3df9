-- How a target is written, from the tables of its design.
use Rattle.std.proofs.Common.{◌≡◌, ◌∙◌, ℕ, ◌≤◌, Bool, true, false, not, ◌&&◌, eqb, List, length, Option, Some, None, refl, ap, sym, subst, arith}
use Rattle.std.specs.{List.list_any, Prelude.nat_lt, Prelude.if◌then◌else◌, Prelude.is_some}
use Rattle.kp_ast.specs.declared.tree.{Decl.Decl, ReadStmt.ReadStmt, ResultDecl.ResultDecl, Job.Job}
use Rattle.kp_width.{specs.Widths.widths_of, proofs.Unbroken.Unbroken}
use Rattle.kp_stage.specs.Design.{IsSound, Plan}
use Rattle.kp_machine.{specs.Slots.number_of, specs.Slots.targets_of, specs.Machine.machine_of, specs.Machine.result_for, proofs.Cases.by_option}
use Rattle.kp_machine.proofs.Placing.{result_placed, stands}
use Rattle.kp_design.specs.{declared.layout.Port.Port, Fits.port_at, Fits.port_for}
use Rattle.kp_paths.specs.{declared.cell.Cell.Cell, declared.cell.Cell.TheVariants.Reads, declared.cell.Cell.TheVariants.Empty, Cells.cell_of}
use Rattle.kp_paths.specs.{declared.sets.Placed.Placed, Table.cell_at, Table.is_set_by, Table.is_surely_set_by, Table.sets_of, Table.target_read}
use Rattle.kp_paths.specs.inner.Ported.{cell_by}

empty_cell : (own later : Bool) (rest : Cell) → (if own then Reads else Empty) ≡ (if own then Reads else (if not (later && false) then Empty else rest))
empty_cell true later rest = refl
empty_cell false true rest = refl
empty_cell false false rest = refl

-- The cell by the port of a target is that of the machine.
ported_by : (job : Job) (t : ℕ) (guessed : Bool) (k j : ℕ) (some sure : Bool) (o : Option ResultDecl) → result_for job t ≡ o
    → cell_by (port_for job t o) guessed k j some sure ≡ cell_of (machine_of job) guessed t k j some sure
unfolding machine_of
ported_by job t guessed k j some sure None e = rw e (empty_cell (eqb j k) (nat_lt k j) _)
ported_by job t guessed k j some sure (Some r) e = rw e refl

pub ported : (job : Job) (t : ℕ) (guessed : Bool) (k j : ℕ) (some sure : Bool)
    → cell_by (port_at job t) guessed k j some sure ≡ cell_of (machine_of job) guessed t k j some sure
ported job t guessed k j some sure = ported_by job t guessed k j some sure (result_for job t) refl

-- A target has a port if it has a result.
written_by : (job : Job) (t : ℕ) (o : Option ResultDecl) → is_some (port_for job t o) ≡ is_some o
written_by job t None = refl
written_by job t (Some r) = refl

pub written : (job : Job) (t : ℕ) → is_some (port_at job t) ≡ is_some (result_for job t)
written job t = written_by job t (result_for job t)

-- What isn't declared isn't written.
pub none_past : (job : Job) → Unbroken (widths_of job) → (t : ℕ) → length (targets_of job.decls) ≤ t → port_at job t ≡ None
none_past job right t b = by_option (result_for job t)
    (λ e. ap (port_for job t) e)
    (λ r e.
    let s = stands job right t r e in
    let i = (result_placed job right r s.0).target in
    let n = s.1 in
    absurd (omega (arith, i, n)))

-- THE TABLES of a design as those of its job.
pub cell_same : (job : Job) (r : ReadStmt) (k j t : ℕ) (port : Option Port) (guessed some sure : Bool) (xs ys : List Placed) (cell : Cell)
    → cell ≡ cell_by port guessed k j some sure → t ≡ target_read job r → port ≡ port_at job t → guessed ≡ is_some r.guess
    → some ≡ list_any (is_set_by t j) xs → xs ≡ sets_of job → sure ≡ list_any (is_surely_set_by t j) ys → ys ≡ sets_of job → cell ≡ cell_at job r k j
unfolding cell_at
cell_same job r k j t port guessed some sure xs ys cell is target by guess set from surely from_too =
    let t2 = target_read job r in
    is ∙ rw (by, guess, set, from, surely, from_too, target)
    (ported job t2 (is_some r.guess) k j (list_any (is_set_by t2 j) (sets_of job)) (list_any (is_surely_set_by t2 j) (sets_of job)))

pub written_same : (job : Job) (r : ReadStmt) (t : ℕ) (port : Option Port) (b : Bool) → b ≡ is_some port → t ≡ target_read job r → port ≡ port_at job t
    → b ≡ is_some (result_for job (target_read job r))
written_same job r t port b is target by =
    is ∙ ap (λ (p : Option Port). is_some p) (by ∙ ap (port_at job) target) ∙ written job (target_read job r)

pub target_same : (job other : Job) (r : ReadStmt) (ds : List Decl) (n : ℕ) → n ≡ number_of (targets_of ds) r.target.name → ds ≡ other.decls → other ≡ job
    → n ≡ target_read job r
target_same job other r ds n is from same =
    is ∙ ap (λ (xs : List Decl). number_of (targets_of xs) r.target.name) (from ∙ ap (λ (x : Job). x.decls) same)

pub no_port_same : (p : Plan) (job : Job) (t : ℕ) → p.job ≡ job → IsSound p → length (targets_of job.decls) ≤ t → None ≡ port_at job t
no_port_same p job t e sound b = sym (none_past job (subst (λ (x : Job). Unbroken (widths_of x)) e sound.names) t b)

-- The capacity for the nodes.
use Rattle.std.proofs.Common.{ap, ◌≡◌, ℕ, ◌+◌, ◌*◌, ◌≤◌, [], length, None, arith}
use Rattle.std.proofs.Math.Nat.{mul-le-mul}
use Rattle.kp_ast.specs.declared.tree.Job.{Job}
use Rattle.kp_width.{specs.Widths.widths_of, proofs.Unbroken.Unbroken}
use Rattle.kp_stage.specs.{Counts.summary_of, Stages.broken_of}
use Rattle.kp_net.specs.Growth.{Held}
use Rattle.kp_design.proofs.{Fitting.fits, Limits.limits, Limits.samples_counted}
use Rattle.kp_synth_registers.specs.Meaning.{CellsFit}
use Rattle.kp_synth_next.{specs.Bound.node_bound, proofs.Bounding.closing_few}
use Rattle.kp_synth.{proofs.Rooms.stages_few, specs.inner.Rooms.reading_room, specs.inner.Rooms.inside_room, specs.inner.Rooms.closing_room}

-- a product of small numbers is small
pub times_few : (a b : ℕ) → a ≤ 12 → b ≤ 4096 → a * b ≤ 49152
times_few a b l h = let p : a * b ≤ 12 * 4096 = mul-le-mul l h in omega (arith, p)

-- the bound is enough for all
pub enough : (job : Job) → Unbroken (widths_of job) → broken_of job ≡ None → reading_room job + inside_room job + closing_room job ≤ node_bound (summary_of job)
unfolding inside_room
enough job right kept =
    let f = fits job right kept in
    let n = f.at_least in
    let c = limits job kept in
    let s = c.samples in
    let x = samples_counted job.decls in
    let a = closing_few job (omega (arith, n)) (omega (arith, s, x)) in
    let b = stages_few job right kept in
    omega (arith, a, b)

-- a pool without nodes has no cells
pub no_cells : (job : Job) (p : Held) → p.nodes ≡ [] → CellsFit job p
unfolding CellsFit
no_cells job p e i l = let n = ap length e in absurd (omega (arith, l, n))

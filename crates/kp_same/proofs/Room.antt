-- The nodes of a job are few.
use Rattle.std.proofs.Common.{◌≡◌, ℕ, zero, suc, ◌+◌, ◌*◌, ◌≤◌, length, None, subst, sym, arith}
use Rattle.std.proofs.Math.Nat.{mul-le-mul}
use Rattle.kp_ast.specs.declared.tree.Job.{Job}
use Rattle.kp_width.{specs.Widths.widths_of, proofs.Unbroken.Unbroken}
use Rattle.kp_stage.{specs.Counts.summary_of, specs.Stages.broken_of, proofs.Bounds.numbers_few}
use Rattle.kp_machine.specs.Slots.{targets_of, pipes_of, hints_of}
use Rattle.kp_design.specs.Numbers.{guesses_of}
use Rattle.kp_design.proofs.Limits.{few as slots_few}
use Rattle.kp_synth_stage.specs.Work.{stmts_at, costs_of}
use Rattle.kp_synth.specs.Stages as synth
use Rattle.kp_synth.proofs.Rooms.{stages_few}
use Rattle.kp_same.specs.Rooms.{stages_room, job_room}

-- a stage adds fewer nodes than that of a pipeline
fewer_in : (c t p h g : ℕ) → c + 1 + 2 * t ≤ (c + (p + h + g + 68)) + (20 * t + 1)
fewer_in c t p h g = omega arith

one_more : (all s here own rest : ℕ) → all ≤ (s + here) + rest → here ≤ own → all ≤ s + (own + rest)
one_more all s here own rest l h = omega (arith, l, h)

fewer : (job : Job) (k d : ℕ) → stages_room job (k + d) ≤ stages_room job k + synth.stages_room job k d
fewer job k zero =
    let e : k + 0 ≡ k = omega arith in
    subst (λ n. stages_room job n ≤ stages_room job k + 0) (sym e) (omega arith)
fewer job k (suc d) =
    let e : k + suc d ≡ suc k + d = omega arith in
    let all = one_more (stages_room job (suc k + d)) (stages_room job k) (costs_of job (stmts_at job k) + 1 + 2 * length (targets_of job.decls)) (synth.stage_room job k) (synth.stages_room job (suc k) d)
    (fewer job (suc k) d)
    (fewer_in (costs_of job (stmts_at job k)) (length (targets_of job.decls)) (length (pipes_of job.decls)) (length (hints_of job.decls)) (synth.guess_room job (length (guesses_of job)))) in
    subst (λ n. stages_room job n ≤ stages_room job k + synth.stages_room job k (suc d)) (sym e) all

sum : (n size entries guesses room : ℕ) → n ≤ 12 → size ≤ 100000 → entries ≤ 545 → guesses ≤ 8
    → room + 1 ≤ 8 * size + (25 * (n * entries) + 20 * (n * (n * guesses)) + 529) → room ≤ 987068
sum n size entries guesses room a b c d l =
    let x : n * entries ≤ 12 * 545 = mul-le-mul a c in
    let y : n * guesses ≤ 12 * 8 = mul-le-mul a d in
    let w : n * guesses ≤ 96 = omega (arith, y) in
    let z : n * (n * guesses) ≤ 12 * 96 = mul-le-mul a w in
    omega (arith, b, l, x, z)

pub few : (job : Job) → Unbroken (widths_of job) → broken_of job ≡ None → job_room job ≤ 1048576
unfolding summary_of
few job right kept =
    let n = job.stages.value in
    let s = summary_of job in
    let f = numbers_few job kept in
    let c = slots_few job kept in
    let z : 0 + n ≡ n = omega arith in
    let all : stages_room job n ≤ stages_room job 0 + synth.stages_room job 0 n = subst (λ (m : ℕ). stages_room job m ≤ stages_room job 0 + synth.stages_room job 0 n) z (fewer job 0 n) in
    let synths : synth.stages_room job 0 n ≤ 987068 = sum n s.size (s.reads + s.results + s.pipes + s.hints + s.files + s.regs + 1) s.guesses (synth.stages_room job 0 n) f.stages f.size
    (let r = f.reads in let u = f.results in let p = f.pipes in let h = f.hints in let i = f.files in let g = f.regs in omega (arith, r, u, p, h, i, g))
    f.guesses (stages_few job right kept) in
    omega (arith, all, synths, c.targets, c.pipes, c.hints, c.samples)

-- The nodes that read the registers and that close the netlist fit into a part of the bound.
use Rattle.std.proofs.{Common.◌≡◌, Common.ℕ, Common.zero, Common.suc, Common.◌+◌, Common.◌*◌, Common.◌≤◌, Common.length, Common.arith, Math.Nat.suc-mul}
use Rattle.kp_ast.specs.declared.tree.Job.{Job}
use Rattle.kp_stage.specs.Counts.{summary_of}
use Rattle.kp_machine.specs.Slots.{targets_of, samples_of}
use Rattle.kp_synth_registers.specs.Keys.{keys_of}
use Rattle.kp_synth_registers.proofs.Counting.{keys_counted}
use Rattle.kp_design.proofs.Limits.{targets_counted}
use Rattle.kp_synth_next.specs.Bound.{node_bound, closing_cost}

times_few : (n a q g : ℕ) → a ≤ 2 * q + 2 * g → n * a ≤ 2 * (n * q) + 2 * (n * g)
times_few zero a q g l = omega arith
times_few (suc n) a q g l =
    let more = times_few n a q g l in
    let x : suc n * a ≡ n * a + a = suc-mul n a in
    let y : suc n * q ≡ n * q + q = suc-mul n q in
    let z : suc n * g ≡ n * g + g = suc-mul n g in
    omega (arith, more, l, x, y, z)

once : (n q : ℕ) → 1 ≤ n → q ≤ n * q
once zero q l = absurd (omega (arith, l))
once (suc n) q l = let y : suc n * q ≡ n * q + q = suc-mul n q in omega (arith, y)

-- what is left of the bound for the stages
few_nodes : (n k t x regs files pipes results hints reads guesses : ℕ) → 1 ≤ n → t ≤ regs + files → x ≤ 16 → k ≤ regs + files + hints + n * (1 + (pipes + (2 * results + 2 * guesses)))
    → closing_cost k t x + (25 * (n * (reads + results + pipes + hints + files + regs + 1)) + 44 * (n * (n * guesses)) + 3920)
    ≤ 64 * (n * (reads + results + pipes + hints + files + regs + 1)) + 64 * (n * (n * guesses)) + 4096
few_nodes n k t x regs files pipes results hints reads guesses l m f h =
    let q = reads + results + pipes + hints + files + regs + 1 in
    let a = times_few n (1 + (pipes + (2 * results + 2 * guesses))) q guesses (omega arith) in
    let b = once n q l in
    let d = once n (n * guesses) l in
    omega (arith, a, b, d, m, f, h)

-- of a job
pub closing_few : (job : Job) → 1 ≤ job.stages.value → length (samples_of job.decls) ≤ 16
    → closing_cost (length (keys_of job)) (length (targets_of job.decls)) (length (samples_of job.decls))
    + (25 * (job.stages.value * ((summary_of job).reads + (summary_of job).results + (summary_of job).pipes + (summary_of job).hints + (summary_of job).files + (summary_of job).regs + 1)) + 44 * (job.stages.value * (job.stages.value * (summary_of job).guesses)) + 3920)
    + 8 * (summary_of job).size ≤ node_bound (summary_of job)
unfolding summary_of
closing_few job l m =
    let s = summary_of job in
    let t = targets_counted job.decls in
    let f = few_nodes job.stages.value (length (keys_of job)) (length (targets_of job.decls)) (length (samples_of job.decls)) s.regs s.files s.pipes s.results s.hints s.reads s.guesses l (omega (arith, t)) m (keys_counted job) in
    omega (arith, f)

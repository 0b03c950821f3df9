-- The bound on the nodes of the stages, below what the registers and the ends of the netlist leave of the bound on all nodes.
use Rattle.std.proofs.Common.{◌≡◌, ◌∙◌, ℕ, zero, suc, ◌+◌, ◌*◌, ◌≤◌, List, [], ◌∷◌, length, Some, None, Bool, true, false, cond, ◌||◌, refl, sym, ap, subst, arith}
use Rattle.std.proofs.Math.Nat.{suc-mul, mul-add, mul_comm, mul_left_comm}
use Rattle.std.{proofs.lemmas.List.Sums.sum_by-cons, proofs.lemmas.List.Sums.sum_by-le-sum_by, specs.Prelude.slice_get, specs.Prelude.sum_by}
use Rattle.std.specs.Cmp.Lexicographic.{bytes_decides}
use Rattle.kp_ast.specs.{Expressions.is_same_name, declared.tree.ResultDecl.ResultDecl, declared.tree.Decl.Decl, declared.tree.Stmt.Stmt}
use Rattle.kp_ast.specs.declared.tree.{StmtKind.StmtKind, Block.Block, Job.Job}
use Rattle.kp_ast.specs.declared.tree.Decl.TheVariants as decls
use Rattle.kp_ast.specs.declared.tree.StmtKind.TheVariants as stmts
use Rattle.kp_width.{specs.Widths.widths_of, proofs.Unbroken.Unbroken}
use Rattle.kp_stage.specs.{Facts.stmts_in, Uses.sets, Counts.results_in, Counts.reads_of, Counts.reads_in, Counts.summary_of}
use Rattle.kp_stage.{specs.Sizes.size_of_stmt, specs.Sizes.size_of_block, specs.Stages.broken_of, proofs.Placed.set_once}
use Rattle.kp_machine.{specs.Slots.targets_of, specs.Slots.pipes_of, specs.Slots.hints_of, specs.Slots.result_named, proofs.Cases.by_test}
use Rattle.kp_machine.proofs.Stages.{stages_inside}
use Rattle.kp_design.specs.Numbers.{guesses_of}
use Rattle.kp_design.proofs.Fitting.{fits}
use Rattle.kp_design.proofs.Limits.{targets_counted, pipes_counted, hints_counted, guesses_counted}
use Rattle.kp_synth_stage.specs.{Work.stmts_at, Work.extra_of, Work.cost_of, Work.costs_of, inner.Standing.StmtRight}
use Rattle.kp_synth_stage.proofs.{Scoping.is_right, Setting.set_right}
use Rattle.kp_synth.{specs.Stages.guess_room, specs.Stages.stages_room, proofs.Rules.StandFrom, proofs.Rules.stand_next, proofs.Rules.stand_here}

-- THE SETS of a stage are no more than the results: no two are of one result
abbrev one : Bool → ℕ
one b = cond b 1 0

abbrev is_set : StmtKind → ℕ
is_set (stmts.Set n e when) = 1
is_set _ = 0

abbrev sets_in : List Stmt → ℕ
sets_in xs = sum_by (λ (s : Stmt). is_set s.kind) xs

abbrev some_set : List ℕ → List Stmt → Bool
some_set q [] = false
some_set q (s ∷ ss) = sets q s.kind || some_set q ss

-- how many results are set
abbrev is_hit : List Stmt → Decl → ℕ
is_hit ss (decls.Target r) = one (some_set r.name.name ss)
is_hit ss _ = 0

abbrev hits : List Stmt → List Decl → ℕ
hits ss ds = sum_by (is_hit ss) ds

one_or : (a b : Bool) → one b ≤ one (a || b)
one_or true true = omega arith
one_or true false = omega arith
one_or false b = omega arith

one_few : (b : Bool) → one b ≤ 1
one_few true = omega arith
one_few false = omega arith

hit_more : (s : Stmt) (ss : List Stmt) (d : Decl) → is_hit ss d ≤ is_hit (s ∷ ss) d
hit_more s ss (decls.Target r) = one_or (sets r.name.name s.kind) (some_set r.name.name ss)
hit_more s ss _ = omega arith

hit_few : (ss : List Stmt) (d : Decl) → is_hit ss d ≤ results_in d
hit_few ss (decls.Target r) = one_few (some_set r.name.name ss)
hit_few ss _ = omega arith

hits_more : (s : Stmt) (ss : List Stmt) (ds : List Decl) → hits ss ds ≤ hits (s ∷ ss) ds
hits_more s ss ds = sum_by-le-sum_by (is_hit ss) (is_hit (s ∷ ss)) ds (hit_more s ss)

hits_few : (ss : List Stmt) (ds : List Decl) → hits ss ds ≤ sum_by results_in ds
hits_few ss ds = sum_by-le-sum_by (is_hit ss) results_in ds (hit_few ss)

-- a result that wasn't set
hit_new : (s : Stmt) (ss : List Stmt) (q n : List ℕ) → q ≡ n → sets q s.kind ≡ true → some_set q ss ≡ false → one (some_set n ss) + 1 ≤ one (some_set n (s ∷ ss))
hit_new s ss q n same here before =
    let a : some_set n ss ≡ false = subst (λ m. some_set m ss ≡ false) same before in
    let b : sets n s.kind ≡ true = subst (λ m. sets m s.kind ≡ true) same here in
    let x : one (some_set n ss) ≡ 0 = ap one a in
    let y : one (some_set n (s ∷ ss)) ≡ 1 = ap (λ b. one (b || some_set n ss)) b in
    omega (arith, x, y)

hits_new : (s : Stmt) (ss : List Stmt) (q : List ℕ) (ds : List Decl) (r : ResultDecl) → result_named ds q ≡ Some r → sets q s.kind ≡ true → some_set q ss ≡ false → hits ss ds + 1 ≤ hits (s ∷ ss) ds
hits_new s ss q [] r e here before = cc
hits_new s ss q (decls.Target x ∷ ds) r e here before =
    let d : Decl = decls.Target x in
    let a = sum_by-cons (is_hit ss) d ds in
    let b = sum_by-cons (is_hit (s ∷ ss)) d ds in
    by_test (is_same_name q x.name.name)
    (λ y.
    let new = hit_new s ss q x.name.name ((bytes_decides q x.name.name).0 y) here before in
    let more = hits_more s ss ds in
    omega (arith, new, more, a, b))
    (λ y.
    let rest : result_named ds q ≡ Some r = sym (ap (λ b. cond b (Some x) (result_named ds q)) y) ∙ e in
    let more = hits_new s ss q ds r rest here before in
    let old = hit_more s ss d in
    omega (arith, old, more, a, b))
hits_new s ss q (d ∷ ds) r e here before =
    let more = hits_new s ss q ds r e here before in
    let old = hit_more s ss d in
    omega (arith, old, more, sum_by-cons (is_hit ss) d ds, sum_by-cons (is_hit (s ∷ ss)) d ds)

-- a name that some statement sets
record SetAt (q : List ℕ) (ss : List Stmt) : Type 0 where
  index : ℕ
  stmt : Stmt
  there : slice_get ss index ≡ Some stmt
  sets_it : sets q stmt.kind ≡ true

set_at : (q : List ℕ) (ss : List Stmt) → some_set q ss ≡ true → SetAt q ss
set_at q [] e = cc
set_at q (s ∷ ss) e = by_test (sets q s.kind)
    (λ y. record { index = 0; stmt = s; there = refl; sets_it = y })
    (λ y. let more = set_at q ss (sym (ap (λ b. b || some_set q ss) y) ∙ e) in record { index = suc more.index; stmt = more.stmt; there = more.there; sets_it = more.sets_it })

module _ (job : Job) (right : Unbroken (widths_of job)) (kept : broken_of job ≡ None) where
  set_new : (k j : ℕ) (s : Stmt) (ss : List Stmt) (q : List ℕ) → StandFrom job k j (s ∷ ss) → sets q s.kind ≡ true → some_set q ss ≡ false
  set_new k j s ss q h here = by_test (some_set q ss)
      (λ y.
      let x = set_at q ss y in
      let z = set_once job kept q k j (suc j + x.index) s x.stmt (stand_here job k j s ss h) here (stand_next job k j s ss h x.index x.stmt x.there) x.sets_it in
      absurd (omega (arith, z)))
      (λ n. n)

  one_more : (k j : ℕ) (s : Stmt) (x : StmtKind) (ss : List Stmt) → s.kind ≡ x → StandFrom job k j (s ∷ ss) → hits ss job.decls + is_set x ≤ hits (s ∷ ss) job.decls
  one_more k j s (stmts.Set n e when) ss is h =
      let r = set_right job right k j n e when (subst (λ (y : StmtKind). StmtRight job k j y) is (is_right job k j s right kept (stand_here job k j s ss h))) in
      let here : sets n.name s.kind ≡ true = subst (λ (y : StmtKind). sets n.name y ≡ true) (sym is) ((bytes_decides n.name n.name).1 refl) in
      hits_new s ss n.name job.decls r.result r.named here (set_new k j s ss n.name h here)
  one_more k j s x ss is h = let more = hits_more s ss job.decls in omega (arith, more)

  sets_few : (k j : ℕ) (ss : List Stmt) → StandFrom job k j ss → sets_in ss ≤ hits ss job.decls
  sets_few k j [] h = omega arith
  sets_few k j (s ∷ ss) h =
      let here = one_more k j s s.kind ss refl h in
      let more = sets_few k (suc j) ss (stand_next job k j s ss h) in
      omega (arith, here, more, sum_by-cons (λ (s : Stmt). is_set s.kind) s ss)

  stage_sets : (k : ℕ) → sets_in (stmts_at job k) ≤ sum_by results_in job.decls
  stage_sets k =
      let a = sets_few k 0 (stmts_at job k) (λ n s e. let z : n ≡ 0 + n = omega arith in subst (λ i. slice_get (stmts_at job k) i ≡ Some s) z e) in
      let b = hits_few (stmts_at job k) job.decls in
      omega (arith, a, b)

-- THE COSTS of the statements of a stage
abbrev reads_at : List Stmt → ℕ
reads_at xs = sum_by reads_in xs

extra_by : (n : ℕ) (x : StmtKind) → extra_of n x ≡ 20 * (n * reads_of x) + 4 * is_set x
extra_by n (stmts.Read r) = omega arith
extra_by n (stmts.Set e x when) = omega arith
extra_by n (stmts.Let e x) = omega arith
extra_by n (stmts.Put e x) = omega arith
extra_by n (stmts.Aim e x) = omega arith

pub plus_in : (x y z : ℕ) → x + (y + z) ≡ x + y + z
plus_in x y z = omega arith

one_cost : (n all c cs s ss sizes r rs reads t ts sets : ℕ) → all ≡ c + cs → c ≡ 8 * s + 20 * (n * r) + 4 * t → cs ≡ 8 * ss + 20 * (n * rs) + 4 * ts → sizes ≡ s + ss → reads ≡ r + rs → sets ≡ t + ts
    → all ≡ 8 * sizes + 20 * (n * reads) + 4 * sets
one_cost n all c cs s ss sizes r rs reads t ts sets a b d e f g =
    let h : n * reads ≡ n * r + n * rs = ap (λ m. n * m) f ∙ mul-add n r rs in
    omega (arith, a, b, d, e, g, h)

costs_by : (job : Job) (xs : List Stmt) → costs_of job xs ≡ 8 * sum_by (size_of_stmt job.decls) xs + 20 * (job.stages.value * reads_at xs) + 4 * sets_in xs
costs_by job [] = omega arith
costs_by job (s ∷ ss) =
    let n : ℕ = job.stages.value in
    let x = extra_by n s.kind in
    let more = costs_by job ss in
    one_cost n (costs_of job (s ∷ ss)) (cost_of job s.kind) (costs_of job ss) (size_of_stmt job.decls s) (sum_by (size_of_stmt job.decls) ss) (sum_by (size_of_stmt job.decls) (s ∷ ss)) (reads_of s.kind) (reads_at ss) (reads_at (s ∷ ss)) (is_set s.kind) (sets_in ss) (sets_in (s ∷ ss))
    (sum_by-cons (λ (s : Stmt). cost_of job s.kind) s ss) (ap (λ v. 8 * size_of_stmt job.decls s + v) x ∙ plus_in (8 * size_of_stmt job.decls s) (20 * (n * reads_of s.kind)) (4 * is_set s.kind)) more
    (sum_by-cons (size_of_stmt job.decls) s ss) (sum_by-cons reads_in s ss) (sum_by-cons (λ (s : Stmt). is_set s.kind) s ss)

-- the nodes of each stage other than those of its statements
abbrev beside : Job → ℕ
beside job = length (pipes_of job.decls) + length (hints_of job.decls) + guess_room job (length (guesses_of job)) + 20 * length (targets_of job.decls) + 69

abbrev reads_by : Block → ℕ
reads_by b = reads_at b.stmts

regroup : (c p h g t : ℕ) → c + (p + h + g + 68) + (20 * t + 1) ≡ c + (p + h + g + 20 * t + 69)
regroup c p h g t = omega arith

one_stage : (n m c s r sets results fix sizes reads rest : ℕ) → c ≡ 8 * s + 20 * (n * r) + 4 * sets → sets ≤ results → rest ≤ 8 * sizes + 20 * (n * reads) + 4 * (m * results) + m * fix
    → c + fix + rest ≤ 8 * (s + sizes) + 20 * (n * (r + reads)) + 4 * (suc m * results) + suc m * fix
one_stage n m c s r sets results fix sizes reads rest here few more = omega (arith, here, few, more, mul-add n r reads, suc-mul m results, suc-mul m fix)

stages_by : (job : Job) → Unbroken (widths_of job) → broken_of job ≡ None → (k : ℕ) (bs : List Block) → ((i : ℕ) → stmts_in (slice_get bs i) ≡ stmts_at job (k + i))
    → stages_room job k (length bs) ≤ 8 * sum_by (size_of_block job.decls) bs + 20 * (job.stages.value * sum_by reads_by bs) + 4 * (length bs * sum_by results_in job.decls) + length bs * beside job
stages_by job right kept k [] at = omega arith
stages_by job right kept k (b ∷ bs) at =
    let n : ℕ = job.stages.value in
    let m : ℕ = length bs in
    let results : ℕ = sum_by results_in job.decls in
    let rest : ℕ = stages_room job (suc k) m in
    let here : k + 0 ≡ k = omega arith in
    let e : stmts_at job k ≡ b.stmts = sym (at 0 ∙ ap (stmts_at job) here) in
    let costs : costs_of job (stmts_at job k) ≡ 8 * size_of_block job.decls b + 20 * (n * reads_by b) + 4 * sets_in (stmts_at job k) =
    costs_by job (stmts_at job k) ∙ ap (λ (xs : List Stmt). 8 * sum_by (size_of_stmt job.decls) xs + 20 * (n * reads_at xs) + 4 * sets_in (stmts_at job k)) e in
    let more = stages_by job right kept (suc k) bs (λ i. let next : k + suc i ≡ suc k + i = omega arith in at (suc i) ∙ ap (stmts_at job) next) in
    let all = one_stage n m (costs_of job (stmts_at job k)) (size_of_block job.decls b) (reads_by b) (sets_in (stmts_at job k)) results (beside job) (sum_by (size_of_block job.decls) bs) (sum_by reads_by bs) rest
    costs (stage_sets job right kept k) more in
    let z = regroup (costs_of job (stmts_at job k)) (length (pipes_of job.decls)) (length (hints_of job.decls)) (guess_room job (length (guesses_of job))) (length (targets_of job.decls)) in
    let bound : ℕ → ℕ → ℕ = λ sizes reads. 8 * sizes + 20 * (n * reads) + 4 * (suc m * results) + suc m * beside job in
    let sums : bound (size_of_block job.decls b + sum_by (size_of_block job.decls) bs) (reads_by b + sum_by reads_by bs) ≡ bound (sum_by (size_of_block job.decls) (b ∷ bs)) (sum_by reads_by (b ∷ bs)) =
    λ i. bound (sym (sum_by-cons (size_of_block job.decls) b bs) i) (sym (sum_by-cons reads_by b bs) i) in
    subst (λ v. stages_room job k (suc m) ≤ v) sums
    (subst (λ v. v + rest ≤ bound (size_of_block job.decls b + sum_by (size_of_block job.decls) bs) (reads_by b + sum_by reads_by bs)) (sym z) all)

-- WHAT IS LEFT for them
weighed : (n a r s q : ℕ) → a + 20 * r + 4 * s ≤ 25 * q + 44 → n * a + 20 * (n * r) + 4 * (n * s) ≤ 25 * (n * q) + 44 * n
weighed zero a r s q l = omega arith
weighed (suc n) a r s q l =
    let more = weighed n a r s q l in
    omega (arith, more, l, suc-mul n a, suc-mul n r, suc-mul n s, suc-mul n q)

guess_square : (n g a : ℕ) → n * (a + g * (20 * n)) ≡ n * a + 20 * (n * (n * g))
guess_square n g a =
    let x : g * (20 * n) ≡ 20 * (n * g) = mul_left_comm g 20 n ∙ ap (λ m. 20 * m) (mul_comm g n) in
    mul-add n a (g * (20 * n)) ∙ ap (λ m. n * a + n * m) x ∙ ap (λ m. n * a + m) (mul_left_comm n 20 (n * g))

few_nodes : (n size reads results pipes hints regs files guesses targets room : ℕ) → n ≤ 12 → targets ≡ regs + files
    → room ≤ 8 * size + 20 * (n * reads) + 4 * (n * results) + n * (pipes + hints + guesses * (20 * n) + 20 * targets + 69)
    → room + 1 ≤ 8 * size + (25 * (n * (reads + results + pipes + hints + files + regs + 1)) + 20 * (n * (n * guesses)) + 529)
few_nodes n size reads results pipes hints regs files guesses targets room l t h =
    let a : ℕ = pipes + hints + 20 * targets + 69 in
    let b : ℕ = guesses * (20 * n) in
    let around : pipes + hints + b + 20 * targets + 69 ≡ a + b = omega arith in
    let x : n * (pipes + hints + b + 20 * targets + 69) ≡ n * a + 20 * (n * (n * guesses)) = ap (λ m. n * m) around ∙ guess_square n guesses a in
    let w = weighed n a reads results (reads + results + pipes + hints + files + regs + 1) (omega (arith, t)) in
    omega (arith, x, w, l, h)

-- of a job: 8 a unit of size, 25 a stage and read (or result, pipe, hint, file, register), 20 a stage, stage and guess, and 529 once
pub stages_few : (job : Job) → Unbroken (widths_of job) → broken_of job ≡ None
    → stages_room job 0 job.stages.value + 1
    ≤ 8 * (summary_of job).size
    + (25 * (job.stages.value * ((summary_of job).reads + (summary_of job).results + (summary_of job).pipes + (summary_of job).hints + (summary_of job).files + (summary_of job).regs + 1)) + 20 * (job.stages.value * (job.stages.value * (summary_of job).guesses)) + 529)
unfolding summary_of
stages_few job right kept =
    let n = job.stages.value in
    let s = summary_of job in
    let e : length job.blocks ≡ n = stages_inside job kept in
    let all = stages_by job right kept 0 job.blocks (λ i. let z : i ≡ 0 + i = omega arith in ap (stmts_at job) z) in
    let p = pipes_counted job.decls in
    let h = hints_counted job.decls in
    let g = guesses_counted job in
    let room : stages_room job 0 n ≤ 8 * s.size + 20 * (n * s.reads) + 4 * (n * s.results) + n * (s.pipes + s.hints + s.guesses * (20 * n) + 20 * length (targets_of job.decls) + 69) =
    subst (λ x. stages_room job 0 n ≤ 8 * s.size + 20 * (n * s.reads) + 4 * (n * s.results) + n * x) (beside_is job s.pipes s.hints s.guesses p h g)
    (subst (λ m. stages_room job 0 m ≤ 8 * s.size + 20 * (n * s.reads) + 4 * (m * s.results) + m * beside job) e all) in
    few_nodes n s.size s.reads s.results s.pipes s.hints s.regs s.files s.guesses (length (targets_of job.decls)) (stages_room job 0 n) (fits job right kept).at_most (targets_counted job.decls) room
  where
    beside_is : (job : Job) (pipes hints guesses : ℕ) → length (pipes_of job.decls) ≡ pipes → length (hints_of job.decls) ≡ hints → length (guesses_of job) ≡ guesses
        → beside job ≡ pipes + hints + guesses * (20 * job.stages.value) + 20 * length (targets_of job.decls) + 69
    beside_is job pipes hints guesses p h g = λ i. p i + h i + g i * (20 * job.stages.value) + 20 * length (targets_of job.decls) + 69

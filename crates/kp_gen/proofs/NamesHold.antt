-- A generated job violates no rule of names and widths.
use Rattle.std.proofs.Common.{◌≡◌, ◌∙◌, ℕ, zero, suc, ◌<◌, ◌≤◌, ◌^◌, ◌/◌, List, length, None, refl, ap, sym, subst, arith}
use Rattle.std.{proofs.Math.Nat.mod-lt, specs.List.AllByRecursion}
use Rattle.kp_base.specs.{First.first, Check.ok, Check.◌>>=◌}
use Rattle.kp_ast.specs.declared.tree.Decl.{Decl}
use Rattle.kp_width.specs.{Names.Scoped, Names.nothing, Declarations.declarations_of, Statements.blocks_of, Widths.widths_of}
use Rattle.kp_gen.specs.{declared.draws.Route.Route, Draws.next, Draws.drawn, Draws.routes_from, Draws.routes_drawn, Draws.stages_drawn, Draws.registers_drawn}
use Rattle.kp_gen.specs.Generated.{all_decls, all_blocks, job_of, gen_job}
use Rattle.kp_gen.proofs.{Steps.then, Steps.unbroken, Texts.all_names, Declarations.between, Declarations.all_pass, Statements.blocks_end}

pub routes_length : (n m count x : ℕ) → length (routes_from n m count x) ≡ count
routes_length n m zero x = refl
routes_length n m (suc count) x = ap suc (routes_length n m count (next (next (next x))))

pub routes_other : (n m count x : ℕ) → 0 < m → AllByRecursion (λ r. r.other < m) (routes_from n m count x)
routes_other n m zero x h = tt
routes_other n m (suc count) x h = (mod-lt (next (next (next x)) / 2 ^ 33) h, routes_other n m count (next (next (next x))) h)

-- the numbers of a job are within their bounds
pub few_registers : (G : ℕ) → length (routes_drawn G) ≤ 35
few_registers G =
    let within : drawn (next G) 32 < 32 = mod-lt (next (next G) / 2 ^ 33) (omega arith) in
    rw (routes_length (stages_drawn G) (registers_drawn G) (registers_drawn G) (next (next G))) (omega (arith, within))

pub some_registers : (G : ℕ) → 4 ≤ length (routes_drawn G)
some_registers G = rw (routes_length (stages_drawn G) (registers_drawn G) (registers_drawn G) (next (next G))) (omega arith)

pub names_hold : (n : ℕ) (rs : List Route) → 4 ≤ length rs → length rs ≤ 35 → AllByRecursion (λ r. r.other < length rs) rs → first (widths_of (job_of n rs)).asked ≡ None
unfolding job_of
names_hold n rs some few all =
    let ds : List Decl = all_decls n rs in
    let d = all_pass ds n rs few in
    let s : Scoped = between (all_names (length rs) few) d.entries in
    let b = blocks_end ds (length rs) few some s n rs refl refl refl all in
    unbroken (widths_of (job_of n rs)) b.0.entries
    (then (declarations_of ds 0 0 nothing ds) (λ s. blocks_of ds 0 s (all_blocks n rs) >>= (λ t. ok t.entries)) s d.found
    ∙ then (blocks_of ds 0 s (all_blocks n rs)) (λ t. ok t.entries) b.0 b.1)

pub generated_names_hold : (G : ℕ) → first (widths_of (gen_job G)).asked ≡ None
generated_names_hold G =
    let m : ℕ = registers_drawn G in
    let all : AllByRecursion (λ r. r.other < m) (routes_drawn G) = routes_other (stages_drawn G) m m (next (next G)) (omega arith) in
    names_hold (stages_drawn G) (routes_drawn G) (some_registers G) (few_registers G)
    (subst (λ k. AllByRecursion (λ r. r.other < k) (routes_drawn G)) (sym (routes_length (stages_drawn G) m m (next (next G)))) all)

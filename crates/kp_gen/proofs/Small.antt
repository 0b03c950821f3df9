-- A generated job has no function and few stages.
use Rattle.std.proofs.Common.{◌≡◌, ℕ, suc, ◌+◌, ◌-◌, ◌*◌, ◌<◌, ◌≤◌, ◌/◌, ◌^◌, List, length, refl, ap, arith}
use Rattle.std.{proofs.Math.Nat.mod-lt, proofs.lemmas.List.FromFn.length-map-range_with_len, specs.Prelude.sum_by}
use Rattle.kp_width.specs.Declarations.{functions_in}
use Rattle.kp_gen.specs.{declared.draws.Route.Route, Draws.drawn, Draws.next, Draws.stages_drawn, Draws.routes_drawn}
use Rattle.kp_gen.specs.Generated.{all_decls, all_blocks, later_block, job_of, gen_job}
use Rattle.kp_gen.proofs.{NamesHold.few_registers, Totals.sum_decls, Totals.length_decls}

no_functions : (n : ℕ) (rs : List Route) → sum_by functions_in (all_decls n rs) ≡ 0
no_functions n rs =
    let e : sum_by functions_in (all_decls n rs) ≡ ((length rs * 0 + (0 + length rs * 0)) + (0 + (0 + length rs * 0))) + 0 = sum_decls functions_in n rs 0 0 0 (λ i r. refl) (λ i r. refl) (λ i r. refl) in
    omega (arith, e)

pub generated_no_functions : (G : ℕ) → sum_by functions_in (gen_job G).decls ≡ 0
unfolding job_of
generated_no_functions G = no_functions (stages_drawn G) (routes_drawn G)

pub generated_few_blocks : (G : ℕ) → length (gen_job G).blocks ≤ 10
unfolding job_of
generated_few_blocks G =
    let within : drawn G 8 < 8 = mod-lt (next G / 2 ^ 33) (omega arith) in
    let n : ℕ = stages_drawn G in
    let e : length (all_blocks n (routes_drawn G)) ≡ suc (n - 1) = ap suc (length-map-range_with_len (later_block (routes_drawn G)) 1 (n - 1)) in
    rw e (omega (arith, within))

pub generated_few_decls : (G : ℕ) → length (gen_job G).decls ≤ 109
unfolding job_of
generated_few_decls G = omega (arith, length_decls (stages_drawn G) (routes_drawn G), few_registers G)

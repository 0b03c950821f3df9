use Rattle.std.{proofs.Common.◌≡◌, proofs.Common.◌+◌, proofs.Common.◌≤◌, proofs.Common.◌++◌, proofs.Common.map, proofs.Common.drop, specs.Prelude.codes}
use Rattle.kp_implements.specs.Naming.{place_among}
use Rattle.kp_implements.proofs.job_names.register_named.Given as goal

abbrev pub invariant-loop-reg : goal.invariant-loop-reg
invariant-loop-reg l =
    (l.i + place_among (map (λ x. x.name) (drop l.reg-index l.regs)) (codes "r_" ++ l.name) ≡ place_among (map (λ x. x.name) l.regs) (codes "r_" ++ l.name))
    × (l.i ≤ l.reg-index)

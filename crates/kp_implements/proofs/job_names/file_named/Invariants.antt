use Rattle.std.{proofs.Common.◌≡◌, proofs.Common.◌+◌, proofs.Common.◌≤◌, proofs.Common.◌++◌, proofs.Common.map, proofs.Common.drop, specs.Prelude.codes}
use Rattle.kp_implements.specs.Naming.{place_among}
use Rattle.kp_implements.proofs.job_names.file_named.Given as goal

abbrev pub invariant-loop-file : goal.invariant-loop-file
invariant-loop-file l =
    (l.i + place_among (map (λ x. x.name) (drop l.file-index l.files)) (codes "f_" ++ l.name) ≡ place_among (map (λ x. x.name) l.files) (codes "f_" ++ l.name))
    × (l.i ≤ l.file-index)

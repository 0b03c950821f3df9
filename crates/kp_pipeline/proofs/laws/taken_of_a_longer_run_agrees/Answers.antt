use Rattle.std.proofs.Common.{arith, length}
use Rattle.kp_pipeline.{specs.Rows.passed, proofs.Taken.taken-here, proofs.Taken.taken-never, proofs.Taken.taken-longer}
use Rattle.kp_pipeline.proofs.laws.taken_of_a_longer_run_agrees.Goals as goal

pub returns-clause-here : goal.returns-clause-here
returns-clause-here c m ins more rows rest j r x e u = taken-here m (λ k. 0) ins more rows rest j r (passed rows (m.sample_stage x) (length rows)) x e u (omega arith)

pub returns-clause-never : goal.returns-clause-never
returns-clause-never c m ins rows i x e b = taken-never m (λ k. 0) ins rows i x e (omega arith)

pub returns-clause-longer : goal.returns-clause-longer
returns-clause-longer c m ins more rows rest i x e b = taken-longer m (λ k. 0) ins more rows rest e i x (omega arith)

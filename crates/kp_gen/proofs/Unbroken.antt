-- A generated job violates no rule of a job.
use Rattle.std.{proofs.Common.◌≡◌, proofs.Common.ℕ, proofs.Common.None, proofs.Common.ap, specs.Option.option_map}
use Rattle.kp_base.specs.First.{first}
use Rattle.kp_width.specs.{Faults.refusal_of, Widths.width_broken}
use Rattle.kp_stage.specs.Stages.{broken_of}
use Rattle.kp_image.specs.Sections.{sections_of}
use Rattle.kp_frontend.specs.Judging.{broken_in}
use Rattle.kp_gen.{specs.Generated.gen_job, proofs.Holds.generated_stages_hold, proofs.Holds.generated_sections_hold, proofs.Holds.three}
use Rattle.kp_gen.proofs.NamesHold.{generated_names_hold}

pub generated_unbroken : (G : ℕ) → broken_in (gen_job G) ≡ None
unfolding broken_in
generated_unbroken G =
    three (width_broken (gen_job G)) (broken_of (gen_job G)) (first (sections_of (gen_job G)).asked)
    (ap (option_map refusal_of) (generated_names_hold G)) (generated_stages_hold G) (generated_sections_hold G)

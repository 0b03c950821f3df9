-- The start values of a job have their widths.
use Rattle.std.proofs.Common.{ℕ, ◌<◌, ◌^◌, refl, subst}
use Rattle.kp_ast.specs.declared.tree.Job.{Job}
use Rattle.kp_width.{specs.Widths.widths_of, proofs.Unbroken.Unbroken}
use Rattle.kp_stage.specs.{Start.IsStartOf, declared.start.Start.Start}
use Rattle.kp_machine.specs.{Machine.state_of, Slots.targets_of}
use Rattle.kp_seq.{specs.inner.Ready.words_of_start, proofs.Start.start_fits, proofs.Start.start_state, proofs.Start.word_fits}
use Rattle.kp_design.specs.Numbers.{target_at}
use Rattle.kp_same.specs.Same.{FitsState}

pub starts_fit : (job : Job) (start : Start) → Unbroken (widths_of job) → IsStartOf job start → FitsState job (state_of job start)
starts_fit job start names suits t a l =
    subst (λ (s : ℕ → ℕ → ℕ). s t a < 2 ^ (target_at job t).width) (start_state job start job.decls names suits refl)
    (word_fits (targets_of job.decls) (words_of_start job.decls start.regs start.files) t a (start_fits job.decls start.regs start.files suits.regs suits.files) l)

-- What is said of an expectation names a target of the job.
use Rattle.std.specs.Prelude.{◌<◌, length, ⊤}
use Rattle.kp_ast.specs.declared.tree.Job.{Job}
use Rattle.kp_machine.specs.Slots.{targets_of}
use Rattle.kp_until_run.specs.declared.missed.Missed.{Missed, TheVariants.Word}

abbrev pub IsOfJob : Job → Missed → Type 0
IsOfJob job (Word t a found expected) = t < length (targets_of job.decls)
IsOfJob job _ = ⊤

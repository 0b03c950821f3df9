use Rattle.kp_core.proofs.{Loading.cycle_memory, Memory.start_memory}
use Rattle.kp_core.proofs.laws.files_stay_complete.Goals as goal

pub returns-clause-start : goal.returns-clause-start
returns-clause-start c = start_memory

pub returns-clause-kept : goal.returns-clause-kept
returns-clause-kept c net job st cycle ok shows memory fit = cycle_memory net job shows ok st cycle fit memory

use Rattle.kp_view_expected.proofs.Named.{named_exactly}
use Rattle.kp_view_expected.proofs.laws.a_list_names_its_set.Goals as goal

pub returns : goal.returns
returns c = λ e size. named_exactly e size

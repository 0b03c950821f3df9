use Rattle.kp_equiv.proofs.Listed.{files_listed}
use Rattle.kp_equiv.proofs.comparison.search_files.Goals as goal

pub first_file-requires-clause-names : goal.first_file-requires-clause-names
first_file-requires-clause-names c = files_listed c.args.b.now c.parts.result.now _ _ c.parts.ensures.parts c.as_slice.ensures c.in_ok-names.ensures

-- The next token determines the alternative.
use Rattle.std.proofs.Common.{refl}
use Rattle.kp_grammar.specs.Tables.{IsPredictive}
use Rattle.kp_parse_grammar.specs.{Language.language, Language.JOB, Follow.tables}

pub is_predictive : IsPredictive language tables JOB
is_predictive = record { fits = refl; ends = refl }

-- The next token determines the alternative.
use Rattle.std.proofs.Common.{refl}
use Rattle.kp_grammar.specs.Tables.{IsPredictive}
use Rattle.kp_vlog.specs.{Language.verilog, Language.MODULE, inner.Follow.tables}

pub is_predictive : IsPredictive verilog tables MODULE
is_predictive = record { fits = refl; ends = refl }

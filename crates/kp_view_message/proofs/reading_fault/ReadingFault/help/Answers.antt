use Rattle.kp_view_message.proofs.Said.{unexpected}
use Rattle.kp_view_message.proofs.reading_fault.ReadingFault.help.Goals as goal

pub returns-in-Unexpected : goal.returns-in-Unexpected
returns-in-Unexpected c = unexpected _ _ _ _ _ c.in-Unexpected.is c.at_token.ensures

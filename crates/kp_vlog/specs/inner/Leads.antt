-- What the front of a text means for the end of its first module, as the code computes it.
use Rattle.std.specs.Prelude.{Bool, true, false, if◌then◌else◌}
use Rattle.kp_vlog.specs.declared.token.{Keyword.Keyword, VKind.VKind}
use Rattle.kp_vlog.specs.{Tokens.Word, Tokens.keyword, Tokens.Front, Tokens.finish, Tokens.skips, Tokens.takes, Tokens.broken, declared.lead.Lead.Lead}
use Rattle.kp_vlog.specs.declared.token.VKind.TheVariants as kinds
use Rattle.kp_vlog.specs.declared.lead.Lead.TheVariants as leads

abbrev pub closes_module : Keyword → Bool
closes_module Keyword.Endmodule = true
closes_module _ = false

abbrev pub is_endmodule : Word → Bool
is_endmodule (keyword k) = closes_module k
is_endmodule _ = false

-- the same for the kind of a token
abbrev pub is_closing : VKind → Bool
is_closing (kinds.Keyword k) = closes_module k
is_closing _ = false

abbrev pub lead_of : Front → Lead
lead_of finish = leads.Stops
lead_of broken = leads.Stops
lead_of (skips n) = leads.Past n
lead_of (takes w n) = if is_endmodule w then leads.Closes n else leads.Past n

-- What may be at a place decides what helps there.
use Rattle.std.specs.Prelude.{◌≡◌, Option}
use Rattle.kp_view_expected.specs.declared.set.Expected.{Expected}
use Rattle.kp_view_help.specs.declared.{found.FoundToken.FoundToken, help.Help.Help, allowed.Allowed.Allowed, allowed.Before.Before}
use Rattle.kp_view_help.specs.Helps.{Describes, HelpsAt, token_help}

pub at_token : (found : FoundToken) (e : Expected) (before : Before) (result : Option Help) (a : Allowed) → Describes e a
    → result ≡ token_help a before found → HelpsAt found e before result
at_token found e before result a described is = (a, described, is)

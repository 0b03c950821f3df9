-- A text that is written in parts.
use Rattle.std.specs.Prelude.{◌≡◌, ℕ, List, ◌++◌, Option, MatchResult}
use Rattle.std.specs.declared.result.Result.{Result}
use Rattle.kp_base.specs.{Bytes.AppendsPart, Writer.Passes, Writer.Wrote, declared.writer.Writer.Writer}

-- a piece passed the buffer completely, or the sink failed on the way
abbrev pub Sends : {T E : Type 0} → Option (List ℕ) → List ℕ → Option (List ℕ) → List ℕ → List ℕ → Result T E → Type 0
Sends old page new kept text result = MatchResult result (λ _. Passes old page new kept text) (λ _. AppendsPart old new (page ++ text))

-- a writer wrote the complete text except for this rest
pub record WroteUpTo {K : Type 0} (held : K → Option (List ℕ)) (faults : K → ℕ) (whole rest : List ℕ) (old new : Writer K) : Type 0 where
  pub done : List ℕ
  pub split : whole ≡ done ++ rest
  pub wrote : Wrote held faults old new done

-- The result of reading the module of a text.
use Rattle.std.specs.Prelude.{ℕ, List, drop, Result, Ok, Err, ⊤}
use Rattle.kp_base.specs.declared.refusal.Refused.{Refused}
use Rattle.kp_base.specs.declared.refusal.Refused.TheVariants as refused
use Rattle.kp_vlog.specs.{declared.tree.VModule.VModule, Denote.IsModule, Verdict.IsRefused}

-- the module of a text from an offset on, V1, V2, or out of memory
abbrev pub AnswersWhole : List ℕ → ℕ → Result VModule Refused → Type 0
AnswersWhole text from (Ok m) = IsModule from (drop from text) m
AnswersWhole text from (Err (refused.Rule r)) = IsRefused text from r
AnswersWhole text from (Err refused.NoMemory) = ⊤

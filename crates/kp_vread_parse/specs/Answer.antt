-- The result of parsing: the module of the sentence, or the first wrong token.
use Rattle.std.specs.Prelude.{ℕ, ◌≡◌, List, [], ◌∷◌, length, take, map, Result, Ok, Err, ⊤}
use Rattle.kp_base.specs.{Place.place_after, Refusal.v_rule, declared.refusal.Refused.Refused}
use Rattle.kp_grammar.specs.Grammar.{IsSentence}
use Rattle.kp_base.specs.declared.refusal.Refused.TheVariants as refused
use Rattle.kp_vlog.specs.{declared.token.VToken.VToken, declared.tree.VModule.VModule, Outcome.token_of, Language.MODULE, Language.whole, Language.verilog}
use Rattle.kp_vlog.specs.Verdict.{IsWrong}

-- a call that parses returns the module, V2 at the token after the longest prefix that some module has, or out of memory
abbrev pub AnswersModule : List ℕ → List VToken → Result VModule Refused → Type 0
AnswersModule text tokens (Ok m) = IsSentence verilog MODULE [] (map (token_of text) tokens) (whole m ∷ [])
AnswersModule text tokens (Err (refused.Rule r)) = (at : ℕ) × IsWrong (length text) (map (token_of text) tokens) at × (r ≡ v_rule 2 (place_after (take at text)))
AnswersModule text tokens (Err refused.NoMemory) = ⊤

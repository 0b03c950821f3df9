-- The result of parsing: the tree of a sentence, or the first wrong token.
use Rattle.std.specs.Prelude.{ℕ, ◌≡◌, List, [], ◌∷◌, length, drop, Result, Ok, Err, ⊤}
use Rattle.kp_base.specs.{Place.place_after, Refusal.e_rule, declared.place.Place.Place, declared.refusal.Refusal.Refusal, declared.refusal.Refused.Refused}
use Rattle.kp_grammar.specs.Grammar.{IsSentence, IsWrongAt, IsWithin, IsOverAt}
use Rattle.kp_base.specs.declared.refusal.Refused.TheVariants as refused
use Rattle.kp_ast.specs.declared.tree.Job.{Job}
use Rattle.kp_lex.specs.declared.token.Token.{Token}
use Rattle.kp_parse_grammar.specs.{Tokens.lexemes, Language.JOB, Language.language, Language.job, Language.at, Language.is_over}
use Rattle.kp_parse.specs.declared.job.Parsed.{Parsed}

-- The tokens are a sentence of the language, and this job is its tree; no nesting count exceeds the limit.
abbrev pub IsTree : List ℕ → List Token → Job → Type 0
IsTree text tokens j = IsSentence language JOB (at [] []) (lexemes text tokens) (at [] (job j ∷ []))

-- the position of the first of the remaining tokens, or of the end of the text
abbrev pub place_from : List ℕ → List Token → Place
place_from text [] = place_after text
place_from text (t ∷ ts) = t.place

-- The first n tokens are the longest prefix with which some job starts, and the position is after them. No count
-- exceeds the limit there.
pub record IsWrong (text : List ℕ) (tokens : List Token) (p : Place) : Type 0 where
  pub prefix : ℕ
  pub wrong : IsWrongAt language JOB (at [] []) (lexemes text tokens) (length (drop prefix (lexemes text tokens)))
  pub within : IsWithin language is_over JOB (at [] []) (lexemes text tokens) (length (drop prefix (lexemes text tokens)))
  pub place : p ≡ place_from text (drop prefix tokens)

-- Some job starts with these tokens and one more, which is the first to exceed the limit, and is at this position.
pub record IsTooDeep (text : List ℕ) (tokens : List Token) (p : Place) : Type 0 where
  pub prefix : ℕ
  pub over : IsOverAt language is_over JOB (at [] []) (lexemes text tokens) (length (drop prefix (lexemes text tokens)))
  pub place : p ≡ place_from text (drop prefix tokens)

-- the rule that the tokens violate: E4 or E27, whichever comes first
pub data Breaks (text : List ℕ) (tokens : List Token) : Refusal → Type 0 where
  wrong_token : {p : Place} → IsWrong text tokens p → Breaks text tokens (e_rule 4 p)
  too_deep : {p : Place} → IsTooDeep text tokens p → Breaks text tokens (e_rule 27 p)

-- a call of the parser returns the tree or the violated rule, or runs out of memory
abbrev pub AnswersTree : List ℕ → List Token → ℕ → Result Parsed Refused → Type 0
AnswersTree text tokens rest (Ok parsed) = IsTree text tokens parsed.job × (parsed.rest ≡ rest)
AnswersTree text tokens rest (Err (refused.Rule refusal)) = Breaks text tokens refusal
AnswersTree text tokens rest (Err refused.NoMemory) = ⊤

-- The result of the call that reads the tree of a text.
use Rattle.std.specs.Prelude.{◌≡◌, ◌<◌, ◌≤◌, ◌^◌, ℕ, List, length, sum_by, Result, Ok, Err, ⊤}
use Rattle.kp_base.specs.declared.refusal.{Refusal.Refusal, Refused.Refused, Refused.TheVariants.Rule, Refused.TheVariants.NoMemory}
use Rattle.kp_ast.specs.declared.tree.Job.{Job}
use Rattle.kp_width.specs.Declarations.{functions_in}
use Rattle.kp_lex.specs.{Text.HasOutcome, declared.token.Lexed.Lexed}
use Rattle.kp_parse.specs.{Sentence.Breaks, declared.job.Parsed.Parsed}
use Rattle.kp_frontend.specs.Judging.{IsSentenceOf, Describes, JudgesText}

-- The numbers of declarations, functions and blocks fit in 32 bits.
pub record IsCountable (job : Job) : Type 0 where
  pub decls : length job.decls < 2 ^ 32
  pub functions : sum_by functions_in job.decls < 2 ^ 32
  pub blocks : length job.blocks < 2 ^ 32

-- a call that reads the tree of a text
abbrev pub AnswersTree : List ℕ → Result Job Refused → Type 0
AnswersTree text (Ok job) = Describes text job × IsCountable job
AnswersTree text (Err (Rule refusal)) = JudgesText text (Err refusal)
AnswersTree text (Err NoMemory) = ⊤

-- The first tokens of the text, up to its first `end`, are a sentence with this tree, and their end is known.
pub record IsRead (text : List ℕ) (parsed : Parsed) : Type 0 where
  pub lexed : Lexed
  pub sentence : IsSentenceOf text lexed parsed.job
  pub rest : parsed.rest ≡ lexed.rest
  pub within : parsed.rest ≤ length text
  pub few : IsCountable parsed.job

-- The text has no such tokens, or they are not a sentence.
pub data IsUnread (text : List ℕ) : Refusal → Type 0 where
  wrong_tokens : {refusal : Refusal} → HasOutcome text (Err refusal) → IsUnread text refusal
  wrong_sentence : {lexed : Lexed} {refusal : Refusal} → HasOutcome text (Ok lexed) → Breaks text lexed.tokens refusal → IsUnread text refusal

-- a call that reads the tree at the head of a text
abbrev pub AnswersRead : List ℕ → Result Parsed Refused → Type 0
AnswersRead text (Ok parsed) = IsRead text parsed
AnswersRead text (Err (Rule refusal)) = IsUnread text refusal
AnswersRead text (Err NoMemory) = ⊤

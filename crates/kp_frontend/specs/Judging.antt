-- The verdict of the rules on an input: the job that it describes, or the first rule that it violates.
--
-- Rules are checked in this order: E3; E1 and E2 on the tokens up to the first `end`; E4 and E27 on the tree; then
-- the rules of names and widths, of stages, and of the sections. The first violated rule is reported, at the first
-- position in the text.
use Rattle.std.specs.Prelude.{◌≡◌, ◌<◌, ◌≤◌, ℕ, List, [], ◌∷◌, length, Some, None, Result, Ok, Err}
use Rattle.kp_base.specs.{First.first, Check.Answer, Refusal.e_rule, declared.place.Place.Place, declared.refusal.Refusal.Refusal}
use Rattle.kp_ast.specs.declared.tree.Job.{Job}
use Rattle.kp_lex.specs.{Text.HasOutcome, Text.tail_of, declared.token.Lexed.Lexed}
use Rattle.kp_parse.specs.Sentence.{IsTree, Breaks}
use Rattle.kp_width.specs.Widths.{width_broken}
use Rattle.kp_stage.specs.Stages.{broken_of}
use Rattle.kp_image.specs.Sections.{sections_of}

-- the most bytes that an input may have
abbrev pub most_bytes : ℕ
most_bytes = 16777216

-- the rule that an input with more bytes violates
abbrev pub too_long : Refusal
too_long = e_rule 3 (record { line = 1; col = 1 })

-- The text has these tokens up to its first `end`, and they are a sentence whose tree is the job.
pub record IsSentenceOf (text : List ℕ) (lexed : Lexed) (job : Job) : Type 0 where
  pub tokens : HasOutcome text (Ok lexed)
  pub tree : IsTree text lexed.tokens job

-- The text describes a job: only layout and comments follow its `end`.
pub record Describes (text : List ℕ) (job : Job) : Type 0 where
  pub lexed : Lexed
  pub sentence : IsSentenceOf text lexed job
  pub ends : tail_of text lexed.rest ≡ None

-- the first rule that a tree violates: of names and widths, then of stages, then of its sections
unfoldable pub broken_in : Job → Answer
broken_in job = first (width_broken job ∷ broken_of job ∷ first (sections_of job).asked ∷ [])

-- The verdict on a text that is not too long.
pub data JudgesText (text : List ℕ) : Result Job Refusal → Type 0 where
  -- E1 or E2: some token is invalid in itself
  no_tokens : {refusal : Refusal} → HasOutcome text (Err refusal) → JudgesText text (Err refusal)
  -- E4 or E27: the tokens are not a sentence, or one that is nested too deeply
  no_sentence : {lexed : Lexed} {refusal : Refusal} → HasOutcome text (Ok lexed) → Breaks text lexed.tokens refusal → JudgesText text (Err refusal)
  -- E4: further text follows the end
  no_end : {lexed : Lexed} {job : Job} {p : Place} → IsSentenceOf text lexed job → tail_of text lexed.rest ≡ Some p → JudgesText text (Err (e_rule 4 p))
  -- E5 to E26, E28 to E32, and E34 to E37: the tree violates a rule
  no_job : {job : Job} {refusal : Refusal} → Describes text job → broken_in job ≡ Some refusal → JudgesText text (Err refusal)
  -- no rule is violated
  accepted : {job : Job} → Describes text job → broken_in job ≡ None → JudgesText text (Ok job)

-- The verdict on an input.
pub data Judges (input : List ℕ) : Result Job Refusal → Type 0 where
  -- E3
  over : most_bytes < length input → Judges input (Err too_long)
  within : {verdict : Result Job Refusal} → length input ≤ most_bytes → JudgesText input verdict → Judges input verdict

-- The verdict on the head of a text that is not too long: its job, and the offset after its `end`. The text from there on doesn't matter.
pub data JudgesHeadText (text : List ℕ) : Result (Job × ℕ) Refusal → Type 0 where
  -- E1 or E2: some token up to the first `end` is invalid in itself
  no_head_tokens : {refusal : Refusal} → HasOutcome text (Err refusal) → JudgesHeadText text (Err refusal)
  -- E4 or E27: these tokens are not a sentence, or one that is nested too deeply
  no_head_sentence : {lexed : Lexed} {refusal : Refusal} → HasOutcome text (Ok lexed) → Breaks text lexed.tokens refusal → JudgesHeadText text (Err refusal)
  -- E5 to E26, E28 to E32, and E34 to E37: the tree violates a rule
  no_head_job : {lexed : Lexed} {job : Job} {refusal : Refusal} → IsSentenceOf text lexed job → broken_in job ≡ Some refusal → JudgesHeadText text (Err refusal)
  -- no rule is violated
  head_accepted : {lexed : Lexed} {job : Job} → IsSentenceOf text lexed job → broken_in job ≡ None → JudgesHeadText text (Ok (job, lexed.rest))

-- The verdict on the head of an input.
pub data JudgesHead (input : List ℕ) : Result (Job × ℕ) Refusal → Type 0 where
  -- E3
  head_over : most_bytes < length input → JudgesHead input (Err too_long)
  head_within : {verdict : Result (Job × ℕ) Refusal} → length input ≤ most_bytes → JudgesHeadText input verdict → JudgesHead input verdict

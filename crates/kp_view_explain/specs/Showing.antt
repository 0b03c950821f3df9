-- What is shown of an input that violates a rule: the excerpt at its place, and how many bytes are marked in it.
use Rattle.std.specs.Prelude.{◌≡◌, ◌⊎◌, ℕ, ◌-◌, List, ◌∷◌, ◌++◌, Result, Ok, Err}
use Rattle.kp_base.specs.declared.refusal.Refusal.{Refusal}
use Rattle.kp_ast.specs.declared.tree.Job.{Job}
use Rattle.kp_frontend.specs.Judging.{JudgesHeadText}
use Rattle.kp_view_excerpt.specs.{Excerpts.IsExcerpt, Excerpts.excerpt_text, Lines.from_place, Lines.line_at, Tokens.token_length}
use Rattle.kp_view_excerpt.specs.declared.excerpt.Excerpt.{Excerpt}
use Rattle.kp_view_texts.specs.{Heads.rule_head, Marks.program_mark, Marks.script_mark}
use Rattle.kp_view_verilog.specs.Marks.{Marks}
use Rattle.kp_view_explain.specs.declared.words.Subject.{Subject}
use Rattle.kp_view_explain.specs.declared.words.Subject.TheVariants as subjects

-- The text is the head of a violated rule, a message and a line feed, the excerpt of the input at the place of the violation with a mark under this many
-- bytes, and what follows it: lines of help, and for a job further violations. Nothing is said here of the message and of what follows.
pub record ShowsPlace (file input : List ℕ) (refusal : Refusal) (count : ℕ) (text : List ℕ) : Type 0 where
  pub excerpt : Excerpt
  pub is : IsExcerpt excerpt refusal.place.line (line_at input refusal.place.line) (refusal.place.col - 1) count
  pub message : List ℕ
  pub rest : List ℕ
  pub shown : text ≡ rule_head file refusal ++ (message ++ 10 ∷ (excerpt_text excerpt ++ rest))

-- How many bytes are marked: in a job those of the token at the place.
abbrev pub job_mark : List ℕ → Refusal → ℕ
job_mark input refusal = token_length (from_place input refusal.place)

-- In a Verilog text after a job those of that text. Its violation of V6 has no place in it: the token at the head of the job is marked.
abbrev pub MarksModule : List ℕ → ℕ → Refusal → ℕ → Type 0
MarksModule input from refusal count = Marks input from refusal.place count ⊎ ((refusal.number ≡ 6) × (count ≡ job_mark input refusal))

-- Where the job at the head of the input violates the rule those of the job, and else those of the Verilog text after it,
abbrev pub MarksWatched : List ℕ → Refusal → ℕ → Result (Job × ℕ) Refusal → Type 0
MarksWatched input refusal count (Ok (job, from)) = MarksModule input from refusal count
MarksWatched input refusal count (Err first) = count ≡ job_mark input refusal

-- or those of the word in the script after it.
abbrev pub debugged_mark : List ℕ → Refusal → Result (Job × ℕ) Refusal → ℕ
debugged_mark input refusal (Ok (job, from)) = script_mark input refusal.place
debugged_mark input refusal (Err first) = job_mark input refusal

-- HOW MANY BYTES are marked in an input that violates a rule.
abbrev pub MarksIn : Subject → List ℕ → Refusal → ℕ → Type 0
MarksIn subjects.Job input refusal count = count ≡ job_mark input refusal
MarksIn subjects.Verilog input refusal count = Marks input 0 refusal.place count
MarksIn subjects.Watched input refusal count = (verdict : Result (Job × ℕ) Refusal) × JudgesHeadText input verdict × MarksWatched input refusal count verdict
MarksIn subjects.Program input refusal count = count ≡ program_mark input refusal.place
MarksIn subjects.Debugged input refusal count =
    (verdict : Result (Job × ℕ) Refusal) × JudgesHeadText input verdict × (count ≡ debugged_mark input refusal verdict)

-- The text shows the place of a violated rule, with the mark that is due in such an input.
abbrev pub Shows : Subject → List ℕ → List ℕ → Refusal → List ℕ → Type 0
Shows subject file input refusal text = (count : ℕ) × MarksIn subject input refusal count × ShowsPlace file input refusal count text

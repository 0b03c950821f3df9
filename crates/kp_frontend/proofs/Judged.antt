-- A text and the results of the calls that read it and judge its tree.
use Rattle.std.proofs.Common.{◌≡◌, ◌≤◌, ◌<◌, ◌^◌, ℕ, List, length, Result, Ok, Err, Some, None, lit<, ap, ◌∙◌, sym, subst, arith}
use Rattle.std.specs.Prelude.{IfOk}
use Rattle.kp_base.specs.{First.Answers, Refusal.e_rule, declared.place.Place.Place, declared.refusal.Refusal.Refusal, declared.refusal.Refused.Refused}
use Rattle.kp_base.specs.declared.refusal.Refused.TheVariants.{Rule, NoMemory}
use Rattle.kp_ast.specs.declared.tree.Job.{Job}
use Rattle.kp_lex.specs.{Text.HasOutcome, Text.AnswersOutcome, Text.tail_of, declared.token.Lexed.Lexed}
use Rattle.kp_lex.proofs.Stands.{tokens_stand}
use Rattle.kp_parse.specs.Sentence as parsing
use Rattle.kp_parse.specs.declared.job.Parsed.{Parsed}
use Rattle.kp_width.proofs.Functions.{functions_within}
use Rattle.kp_frontend.specs.Judging.{Describes, JudgesText, JudgesHeadText, broken_in, most_bytes}
use Rattle.kp_frontend.specs.Judging.JudgesText.{no_tokens, no_sentence, no_end, no_job, accepted}
use Rattle.kp_frontend.specs.Judging.JudgesHeadText.{no_head_tokens, no_head_sentence, no_head_job, head_accepted}
use Rattle.kp_frontend.specs.Accepting.{AnswersText, AnswersHead}
use Rattle.kp_frontend.specs.inner.Reading.{IsCountable, IsRead, IsUnread, AnswersRead, AnswersTree, IsUnread.wrong_tokens, IsUnread.wrong_sentence}
use Rattle.kp_frontend.specs.declared.accepted.Accepted.{Accepted}

-- a tree has no more functions and blocks than its text has bytes
pub countable : (text : List ℕ) (job : Job) → length text ≤ most_bytes → length job.decls ≤ length text → length job.blocks ≤ length text → IsCountable job
countable text job short decls blocks =
    let functions = functions_within job.decls in
    let limit : most_bytes < 2 ^ 32 = lit< tt in
    record { decls = omega arith; functions = omega arith; blocks = omega arith }

-- tokens that are wrong, and a sentence that is wrong
pub tokens_refused : (text : List ℕ) (e : Refused) → AnswersOutcome text (Err e) → AnswersRead text (Err e)
tokens_refused text (Rule refusal) outcome = wrong_tokens outcome
tokens_refused text NoMemory outcome = tt

sentence_refused : (text : List ℕ) (lexed : Lexed) (e : Refused) → HasOutcome text (Ok lexed) → parsing.AnswersTree text lexed.tokens lexed.rest (Err e) → AnswersRead text (Err e)
sentence_refused text lexed (Rule refusal) tokens breaks = wrong_sentence tokens breaks
sentence_refused text lexed NoMemory tokens breaks = tt

-- the result of the parser
abbrev IsFew : List ℕ → Result Parsed Refused → Type 0
IsFew text result = IfOk result (λ p. (length p.job.decls ≤ length text) × (length p.job.blocks ≤ length text))

pub parsed : (text : List ℕ) (lexed : Lexed) (result : Result Parsed Refused) → length text ≤ most_bytes → HasOutcome text (Ok lexed)
    → parsing.AnswersTree text lexed.tokens lexed.rest result → IsFew text result → AnswersRead text result
parsed text lexed (Ok p) short tokens answer few = record {
  lexed = lexed;
  sentence = record { tokens = tokens; tree = answer.0 };
  rest = answer.1;
  within = (let inside = (tokens_stand text lexed tokens).1 in omega (arith, inside, answer.1));
  few = countable text p.job short few.0 few.1;
}
parsed text lexed (Err e) short tokens answer few = sentence_refused text lexed e tokens answer

-- a head that can't be read is rejected, as a complete text and as a head
unread : (text : List ℕ) (refusal : Refusal) → IsUnread text refusal → JudgesText text (Err refusal)
unread text refusal (wrong_tokens outcome) = no_tokens outcome
unread text refusal (wrong_sentence tokens breaks) = no_sentence tokens breaks

unread_head : (text : List ℕ) (refusal : Refusal) → IsUnread text refusal → JudgesHeadText text (Err refusal)
unread_head text refusal (wrong_tokens outcome) = no_head_tokens outcome
unread_head text refusal (wrong_sentence tokens breaks) = no_head_sentence tokens breaks

pub text_refused : (text : List ℕ) (e : Refused) → AnswersRead text (Err e) → AnswersTree text (Err e)
text_refused text (Rule refusal) wrong = unread text refusal wrong
text_refused text NoMemory wrong = tt

pub head_refused : (text : List ℕ) (e : Refused) → AnswersRead text (Err e) → AnswersHead text (Err e)
head_refused text (Rule refusal) wrong = unread_head text refusal wrong
head_refused text NoMemory wrong = tt

-- a sentence followed by further text, and one that isn't
pub end_refused : (text : List ℕ) (read : Parsed) (p : Place) → IsRead text read → Some p ≡ tail_of text read.rest → JudgesText text (Err (e_rule 4 p))
end_refused text read p is tail = no_end is.sentence (ap (tail_of text) (sym is.rest) ∙ sym tail)

pub described : (text : List ℕ) (read : Parsed) → IsRead text read → None ≡ tail_of text read.rest → Describes text read.job
described text read is tail = record { lexed = is.lexed; sentence = is.sentence; ends = ap (tail_of text) (sym is.rest) ∙ sym tail }

-- what is said of a tree is said of its text
pub judged : (text : List ℕ) (job : Job) (result : Result Accepted Refused) → Describes text job → Answers result (broken_in job) (λ a. a.design.job ≡ job) → AnswersText text result
judged text job (Ok a) describes (none, same) = subst (λ (j : Job). JudgesText text (Ok j)) (sym same) (accepted describes none)
judged text job (Err (Rule refusal)) describes broken = no_job describes broken
judged text job (Err NoMemory) describes broken = tt

-- what is said of the tree of a head is said of the head
pub head_broken : (text : List ℕ) (read : Parsed) (e : Refused) (P : Accepted → Type 0) → IsRead text read → Answers (Err e) (broken_in read.job) P → AnswersHead text (Err e)
head_broken text read (Rule refusal) P is broken = no_head_job is.sentence broken
head_broken text read NoMemory P is broken = tt

pub head_judged : (text : List ℕ) (read : Parsed) (job : Job) → IsRead text read → broken_in read.job ≡ None → job ≡ read.job → JudgesHeadText text (Ok (job, read.rest))
head_judged text read job is none same =
    subst (λ (n : ℕ). JudgesHeadText text (Ok (job, n))) (sym is.rest)
    (subst (λ (j : Job). JudgesHeadText text (Ok (j, is.lexed.rest))) (sym same) (head_accepted is.sentence none))

-- What is said of a text that isn't read, or of its tree.
use Rattle.std.proofs.Common.{◌≡◌, ◌≢◌, ◌≤◌, ℕ, Bool, List, length, Ok, Err, Option, Some, None, refl, subst, arith}
use Rattle.kp_base.specs.{Refusal.e_rule, declared.place.Place.Place, declared.refusal.Refusal.Refusal}
use Rattle.kp_ast.specs.declared.tree.Job.{Job}
use Rattle.kp_lex.specs.Text.{tail_of}
use Rattle.kp_parse.specs.declared.job.Parsed.{Parsed}
use Rattle.kp_frontend.specs.Judging.{IsSentenceOf, JudgesText, JudgesHeadText, broken_in, most_bytes}
use Rattle.kp_frontend.specs.Judging.JudgesText.{no_tokens, no_sentence, no_job, accepted}
use Rattle.kp_frontend.specs.Judging.JudgesHeadText.{no_head_tokens, no_head_sentence, no_head_job, head_accepted}
use Rattle.kp_frontend.{specs.Judging.JudgesHead.head_within, proofs.Judged.described, proofs.Judged.end_refused, proofs.Verdicts.one_head}
use Rattle.kp_frontend.specs.inner.Reading.{IsRead, IsUnread, IsUnread.wrong_tokens, IsUnread.wrong_sentence}
use Rattle.kp_view_explain.specs.{Explaining.warned, Printed.IsPrinted, Listing.ListsNext, declared.explanation.Explanation.Explanation}
use Rattle.kp_view_explain.specs.inner.{Found.IsOfRule, Found.IsOfTree, Naming.ListsAfter, Reading.IsOfHead, Reading.IsReadAs, Shown.ExplainsShown}
use Rattle.kp_view_explain.specs.declared.words.Subject.TheVariants as subjects
use Rattle.kp_view_explain.specs.declared.reading.Reading.TheVariants as readings
use Rattle.kp_view_explain.proofs.{Inputs.accepted_job, Inputs.refused, Next.accepted_next, Next.head_next, Next.lists_tree, Next.text_next}

-- the statuses of an explanation
pub low : (status : ℕ) → status ≡ 2 → (status ≤ 2) × (status ≢ 1)
low status two = rw two (omega arith, λ e. omega (arith, e))

module _ (file text : List ℕ) (e : Explanation) where
  -- a job that violates this rule
  of_rule : (strict : Bool) (refusal : Refusal) → JudgesText text (Err refusal) → IsOfRule file text refusal e → ExplainsShown subjects.Job strict file text e.status e.text.items
  of_rule strict refusal judged (two, shown) = refused subjects.Job strict file text e.text.items refusal e.status _ (Err refusal, judged, refl) two refl shown

  -- a text that isn't read
  unread : (refusal : Refusal) → IsUnread text refusal → JudgesText text (Err refusal)
  unread refusal (wrong_tokens outcome) = no_tokens outcome
  unread refusal (wrong_sentence tokens breaks) = no_sentence tokens breaks

  unread_front : (refusal : Refusal) → IsUnread text refusal → JudgesHeadText text (Err refusal)
  unread_front refusal (wrong_tokens outcome) = no_head_tokens outcome
  unread_front refusal (wrong_sentence tokens breaks) = no_head_sentence tokens breaks

  pub unread_said : (strict : Bool) → IsReadAs file text (readings.Refused e) → ExplainsShown subjects.Job strict file text e.status e.text.items
  unread_said strict (refusal, wrong, shown, lists) = of_rule strict refusal (unread refusal wrong) shown

  pub unread_low : IsReadAs file text (readings.Refused e) → (e.status ≤ 2) × (e.status ≢ 1)
  unread_low (refusal, wrong, (two, shown), lists) = low e.status two

  pub unread_next : length text ≤ most_bytes → IsReadAs file text (readings.Refused e) → ListsNext file text e.text.items
  unread_next few (refusal, wrong, shown, lists) = text_next file text e.text.items refusal few (unread refusal wrong) lists

  -- a sentence has no such line
  no_line : (read : Parsed) (refusal : Refusal) → IsRead text read → ListsAfter file text refusal e.text.items
  no_line read refusal is = lists_tree file text e.text.items is.lexed read.job refusal is.sentence.tokens is.sentence.tree

  -- further text follows its end
  pub tail_said : (strict : Bool) (read : Parsed) (p : Place) → IsRead text read → Some p ≡ tail_of text read.rest → IsOfRule file text (e_rule 4 p) e
      → ExplainsShown subjects.Job strict file text e.status e.text.items
  tail_said strict read p is tail shown = of_rule strict (e_rule 4 p) (end_refused text read p is tail) shown

  pub tail_next : (read : Parsed) (p : Place) → length text ≤ most_bytes → IsRead text read → Some p ≡ tail_of text read.rest → ListsNext file text e.text.items
  tail_next read p few is tail = text_next file text e.text.items (e_rule 4 p) few (end_refused text read p is tail) (no_line read (e_rule 4 p) is)

  -- its tree violates a rule
  broken : (read : Parsed) (refusal : Refusal) → IsRead text read → None ≡ tail_of text read.rest → broken_in read.job ≡ Some refusal → JudgesText text (Err refusal)
  broken read refusal is tail wrong = no_job (described text read is tail) wrong

  pub broken_said : (strict : Bool) (read : Parsed) → IsRead text read → None ≡ tail_of text read.rest → IsOfTree file text (broken_in read.job) (Some e)
      → ExplainsShown subjects.Job strict file text e.status e.text.items
  broken_said strict read is tail (refusal, wrong, shown) = of_rule strict refusal (broken read refusal is tail wrong) shown

  pub broken_low : (first : Option Refusal) → IsOfTree file text first (Some e) → (e.status ≤ 2) × (e.status ≢ 1)
  broken_low first (refusal, wrong, (two, shown)) = low e.status two

  pub broken_next : (read : Parsed) → length text ≤ most_bytes → IsRead text read → None ≡ tail_of text read.rest → IsOfTree file text (broken_in read.job) (Some e)
      → ListsNext file text e.text.items
  broken_next read few is tail (refusal, wrong, shown) =
      text_next file text e.text.items refusal few (broken read refusal is tail wrong) (no_line read refusal is)

  -- the same at the head of a text
  module _ (refusal : Refusal) (few : length text ≤ most_bytes) (judged : JudgesHeadText text (Err refusal)) where
    of_first : (first : Refusal) → JudgesHeadText text (Err first) → IsOfRule file text first e → ListsAfter file text first e.text.items → IsOfHead file text refusal e
    of_first first mine shown lists =
        let same : first ≡ refusal = cc (one_head text _ _ (head_within few mine) (head_within few judged)) in
        subst (λ (r : Refusal). IsOfHead file text r e) same (shown, head_next file text e.text.items first few mine lists)

    pub unread_head : IsReadAs file text (readings.Refused e) → IsOfHead file text refusal e
    unread_head (first, wrong, shown, lists) = of_first first (unread_front first wrong) shown lists

    pub broken_head : (read : Parsed) → IsRead text read → IsOfTree file text (broken_in read.job) (Some e) → IsOfHead file text refusal e
    broken_head read is (first, wrong, shown) = of_first first (no_head_job is.sentence wrong) shown (no_line read first is)

-- a tree that violates none
pub right_said : (strict : Bool) (file text : List ℕ) (read : Parsed) (status : ℕ) (said : List ℕ) → IsRead text read → None ≡ tail_of text read.rest
    → broken_in read.job ≡ None → IsPrinted file text read.job said → status ≡ warned strict said → ExplainsShown subjects.Job strict file text status said
right_said strict file text read status said is tail none printed warns =
    accepted_job strict file text read.job status said (accepted (described text read is tail) none) printed warns

pub right_next : (file text said : List ℕ) (read : Parsed) → length text ≤ most_bytes → IsRead text read → None ≡ tail_of text read.rest → broken_in read.job ≡ None
    → ListsNext file text said
right_next file text said read few is tail none = accepted_next file text said read.job few (accepted (described text read is tail) none)

pub no_head : (text : List ℕ) (refusal : Refusal) (read : Parsed) → length text ≤ most_bytes → JudgesHeadText text (Err refusal) → IsRead text read → broken_in read.job ≡ None → ⊥
no_head text refusal read few judged is none = cc (one_head text _ _ (head_within few judged) (head_within few (head_accepted is.sentence none)))

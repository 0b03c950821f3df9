-- The place of a violated rule in the text of an explanation.
use Rattle.std.proofs.Common.{◌≡◌, ℕ, List, [], ◌∷◌, ◌++◌, Option, Some, None, ap, append_assoc, append-nil, sym, ◌∙◌}
use Rattle.kp_base.specs.declared.{place.Place.Place, refusal.Refusal.Refusal}
use Rattle.kp_view_excerpt.specs.{Excerpts.excerpt_text, Notes.AppendsNoteAt}
use Rattle.kp_view_explain.specs.Messages.{AppendsMessage, AppendsShown, Grows}
use Rattle.kp_view_texts.specs.Heads.{rule_head}
use Rattle.kp_view_verilog.specs.Marks.{Marks}
use Rattle.kp_view_explain.specs.{Explaining.BeginsWith, Showing.ShowsPlace, Showing.job_mark, inner.Shown.ShowsMarked}

pub begins : {file input said : List ℕ} {refusal : Refusal} {count : ℕ} → ShowsPlace file input refusal count said → BeginsWith (rule_head file refusal) said
begins s = (s.message ++ 10 ∷ (excerpt_text s.excerpt ++ s.rest), s.shown)

-- the head of a rule, and the note on its place
pub noted : (file input facts said : List ℕ) (refusal : Refusal) (count : ℕ) → AppendsNoteAt input refusal.place count [] facts
    → said ≡ rule_head file refusal ++ facts → ShowsPlace file input refusal count said
noted file input facts said refusal count (e, is, note) whole = record {
  excerpt = e;
  is = is;
  message = note.message;
  rest = note.advice;
  shown = whole ∙ ap (λ (l : List ℕ). rule_head file refusal ++ l) note.appended;
}

pub noted_job : (file input facts said : List ℕ) (refusal : Refusal) → AppendsShown input refusal.place [] facts
    → said ≡ rule_head file refusal ++ facts → ShowsPlace file input refusal (job_mark input refusal) said
noted_job file input facts said refusal (line, (e, is, (more, all))) whole = record {
  excerpt = e;
  is = is;
  message = line;
  rest = more;
  shown = whole ∙ ap (λ (l : List ℕ). rule_head file refusal ++ l) (all ∙ simp append_assoc);
}

pub noted_marked : (file input facts said : List ℕ) (from : ℕ) (refusal : Refusal)
    → ((count : ℕ) × Marks input from refusal.place count × AppendsNoteAt input refusal.place count [] facts)
    → said ≡ rule_head file refusal ++ facts → ShowsMarked file input from refusal said
noted_marked file input facts said from refusal (count, marks, note) whole = (count, marks, noted file input facts said refusal count note whole)

-- Further findings follow.
pub stays : (text : List ℕ) → Grows text text
stays text = ([], sym (append-nil text))

pub further : (first old new head line shown more : List ℕ) → Grows first old
    → new ≡ (((((old ++ 10 ∷ []) ++ head) ++ line) ++ 10 ∷ []) ++ shown) ++ more → Grows first new
further first old new head line shown more (before, grown) all = (
  before ++ 10 ∷ (head ++ (line ++ 10 ∷ (shown ++ more))),
  all ∙ ap (λ (l : List ℕ). (((((l ++ 10 ∷ []) ++ head) ++ line) ++ 10 ∷ []) ++ shown) ++ more) grown ∙ simp append_assoc,
)

pub shown_further : (input old new : List ℕ) (p : Place) → AppendsShown input p [] old → Grows old new → AppendsShown input p [] new
shown_further input old new p (line, (e, is, (more, all))) (after, grown) =
    (line, (e, is, (more ++ after, grown ∙ ap (λ (l : List ℕ). l ++ after) all ∙ simp append_assoc)))

-- and so does what follows a message
pub message_further : (message : Option (List ℕ)) (old new : List ℕ) → AppendsMessage [] old message → Grows old new → AppendsMessage [] new message
message_further None old new said more = tt
message_further (Some line) old new (rest, is) (more, grown) = (rest ++ more, grown ∙ ap (λ (l : List ℕ). l ++ more) is ∙ simp append_assoc)

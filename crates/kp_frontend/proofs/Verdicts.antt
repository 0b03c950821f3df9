-- An input has one verdict: one job, or one first violated rule at one position.
use Rattle.std.proofs.Common.{◌≡◌, ℕ, List, length, Result, Ok, Err, Some, None, inl, inr, ap, subst, refl, sym, ◌∙◌, arith}
use Rattle.std.{proofs.lemmas.Bool.cases_lt, specs.declared.option.Option.Option}
use Rattle.kp_base.specs.{Refusal.e_rule, declared.place.Place.Place, declared.refusal.Refusal.Refusal}
use Rattle.kp_ast.specs.declared.tree.Job.{Job}
use Rattle.kp_lex.specs.{Text.HasOutcome, Text.tail_of, declared.token.Lexed.Lexed}
use Rattle.kp_lex.proofs.Outcome.{one_outcome, some_outcome}
use Rattle.kp_parse.{specs.Sentence.IsTree, specs.Sentence.Breaks, proofs.Unique.one_tree, proofs.Unique.one_rule, proofs.Unique.no_rule}
use Rattle.kp_parse.proofs.Verdict.{has_verdict}
use Rattle.kp_frontend.specs.Judging.{IsSentenceOf, JudgesText, Judges, JudgesHeadText, JudgesHead, broken_in, most_bytes}
use Rattle.kp_frontend.specs.Judging.JudgesText.{no_tokens, no_sentence, no_end, no_job, accepted}
use Rattle.kp_frontend.specs.Judging.Judges.{over, within}
use Rattle.kp_frontend.specs.Judging.JudgesHeadText.{no_head_tokens, no_head_sentence, no_head_job, head_accepted}
use Rattle.kp_frontend.specs.Judging.JudgesHead.{head_over, head_within}

-- A verdict on a text: by the rules on its tokens, or else by a function of the tokens and the tree.
data Judged {T : Type 0} (text : List ℕ) (f : Lexed → Job → Result T Refusal) : Result T Refusal → Type 0 where
  bad_tokens : {r : Refusal} → HasOutcome text (Err r) → Judged text f (Err r)
  bad_sentence : {l : Lexed} {r : Refusal} → HasOutcome text (Ok l) → Breaks text l.tokens r → Judged text f (Err r)
  sentence : {l : Lexed} {j : Job} → IsSentenceOf text l j → Judged text f (f l j)

module _ (text : List ℕ) where
  same_tokens : (l m : Lexed) → HasOutcome text (Ok l) → HasOutcome text (Ok m) → m ≡ l
  same_tokens l m h i = cc (one_outcome h i)

  no_both : (l : Lexed) (r : Refusal) → HasOutcome text (Ok l) → HasOutcome text (Err r) → ⊥
  no_both l r h i = cc (one_outcome h i)

  same_job : (l m : Lexed) (i j : Job) → IsSentenceOf text l i → IsSentenceOf text m j → i ≡ j
  same_job l m i j a b =
      one_tree text l.tokens i j a.tree (subst (λ (x : Lexed). IsTree text x.tokens j) (same_tokens l m a.tokens b.tokens) b.tree)

  same_break : (l m : Lexed) (r s : Refusal) → HasOutcome text (Ok l) → HasOutcome text (Ok m) → Breaks text l.tokens r → Breaks text m.tokens s → r ≡ s
  same_break l m r s h i a b = one_rule text l.tokens r s a (subst (λ (x : Lexed). Breaks text x.tokens s) (same_tokens l m h i) b)

  no_break : (l m : Lexed) (j : Job) (r : Refusal) → IsSentenceOf text l j → HasOutcome text (Ok m) → Breaks text m.tokens r → ⊥
  no_break l m j r a i b = no_rule text l.tokens j r a.tree (subst (λ (x : Lexed). Breaks text x.tokens r) (same_tokens l m a.tokens i) b)

  module _ {T : Type 0} (f : Lexed → Job → Result T Refusal) where
    one_judged : {a b : Result T Refusal} → Judged text f a → Judged text f b → a ≡ b
    one_judged (bad_tokens h) (bad_tokens i) = cc (one_outcome h i)
    one_judged (bad_tokens {r = r} h) (bad_sentence {l = m} i b) = absurd (no_both m r i h)
    one_judged (bad_tokens {r = r} h) (sentence {l = m} s) = absurd (no_both m r s.tokens h)
    one_judged (bad_sentence {l = l} h b) (bad_tokens {r = r} i) = absurd (no_both l r h i)
    one_judged (bad_sentence {l = l} {r = r} h b) (bad_sentence {l = m} {r = s} i c) = ap Err (same_break l m r s h i b c)
    one_judged (bad_sentence {l = l} {r = r} h b) (sentence {l = m} {j = j} s) = absurd (no_break m l j r s h b)
    one_judged (sentence {l = l} s) (bad_tokens {r = r} i) = absurd (no_both l r s.tokens i)
    one_judged (sentence {l = l} {j = j} s) (bad_sentence {l = m} {r = r} i c) = absurd (no_break l m j r s i c)
    one_judged (sentence {l = l} {j = i} s) (sentence {l = m} {j = j} t) =
        ap (λ (k : Job). f l k) (same_job l m i j s t) ∙ ap (λ (x : Lexed). f x j) (sym (same_tokens l m s.tokens t.tokens))

    judged_tokens : (l : Lexed) → HasOutcome text (Ok l) → (v : Result T Refusal) × Judged text f v
    judged_tokens l h = elim (has_verdict text l.tokens) [
      | inl j ↦ (f l j.0, sentence (record { tokens = h; tree = j.1 }))
      | inr r ↦ (Err r.0, bad_sentence h r.1)
    ]

    judged : (o : Result Lexed Refusal) → HasOutcome text o → (v : Result T Refusal) × Judged text f v
    judged (Ok l) h = judged_tokens l h
    judged (Err r) h = (Err r, bad_tokens h)

  -- of a complete text: by what follows the tokens, and the rule that the tree violates
  abbrev of_job : Option Place → Option Refusal → Job → Result Job Refusal
  of_job (Some p) b j = Err (e_rule 4 p)
  of_job None (Some r) j = Err r
  of_job None None j = Ok j

  abbrev on_job : Lexed → Job → Result Job Refusal
  on_job l j = of_job (tail_of text l.rest) (broken_in j) j

  on_sentence : {l : Lexed} {j : Job} (t : Option Place) (b : Option Refusal) → IsSentenceOf text l j → tail_of text l.rest ≡ t → broken_in j ≡ b → Judged text on_job (of_job t b j)
  on_sentence {j = j} t b s e d =
      subst (Judged text on_job) (ap (λ (x : Option Place). of_job x (broken_in j) j) e ∙ ap (λ (x : Option Refusal). of_job t x j) d) (sentence s)

  to_judged : {a : Result Job Refusal} → JudgesText text a → Judged text on_job a
  to_judged (no_tokens h) = bad_tokens h
  to_judged (no_sentence h b) = bad_sentence h b
  to_judged (no_end {job = j} {p = p} s e) = on_sentence (Some p) (broken_in j) s e refl
  to_judged (no_job {refusal = r} d e) = on_sentence None (Some r) d.sentence d.ends e
  to_judged (accepted d e) = on_sentence None None d.sentence d.ends e

  from_judged : {a : Result Job Refusal} → Judged text on_job a → JudgesText text a
  from_judged (bad_tokens h) = no_tokens h
  from_judged (bad_sentence h b) = no_sentence h b
  from_judged (sentence {l = l} {j = j} s) = by (tail_of text l.rest) (broken_in j) refl refl
    where
      by : (t : Option Place) (b : Option Refusal) → tail_of text l.rest ≡ t → broken_in j ≡ b → JudgesText text (of_job t b j)
      by (Some p) b e d = no_end s e
      by None (Some r) e d = no_job (record { lexed = l; sentence = s; ends = e }) d
      by None None e d = accepted (record { lexed = l; sentence = s; ends = e }) d

  -- .. and of the head of a text
  abbrev of_head : Option Refusal → Lexed → Job → Result (Job × ℕ) Refusal
  of_head (Some r) l j = Err r
  of_head None l j = Ok (j, l.rest)

  abbrev on_head : Lexed → Job → Result (Job × ℕ) Refusal
  on_head l j = of_head (broken_in j) l j

  head_to_judged : {a : Result (Job × ℕ) Refusal} → JudgesHeadText text a → Judged text on_head a
  head_to_judged (no_head_tokens h) = bad_tokens h
  head_to_judged (no_head_sentence h b) = bad_sentence h b
  head_to_judged (no_head_job {lexed = l} {job = j} s e) = subst (Judged text on_head) (ap (λ (b : Option Refusal). of_head b l j) e) (sentence s)
  head_to_judged (head_accepted {lexed = l} {job = j} s e) = subst (Judged text on_head) (ap (λ (b : Option Refusal). of_head b l j) e) (sentence s)

  head_from_judged : {a : Result (Job × ℕ) Refusal} → Judged text on_head a → JudgesHeadText text a
  head_from_judged (bad_tokens h) = no_head_tokens h
  head_from_judged (bad_sentence h b) = no_head_sentence h b
  head_from_judged (sentence {l = l} {j = j} s) = by (broken_in j) refl
    where
      by : (b : Option Refusal) → broken_in j ≡ b → JudgesHeadText text (of_head b l j)
      by (Some r) e = no_head_job s e
      by None e = head_accepted s e

pub one_verdict : (input : List ℕ) (a b : Result Job Refusal) → Judges input a → Judges input b → a ≡ b
one_verdict input _ _ (over h) (over i) = refl
one_verdict input _ _ (over h) (within i j) = absurd (omega arith)
one_verdict input _ _ (within h j) (over i) = absurd (omega arith)
one_verdict input _ _ (within h j) (within i k) = one_judged input (on_job input) (to_judged input j) (to_judged input k)

pub some_verdict : (input : List ℕ) → (v : Result Job Refusal) × Judges input v
some_verdict input = elim (cases_lt most_bytes (length input)) [
  | inl long ↦ (_, over long)
  | inr short ↦ let o = some_outcome input in let v = judged input (on_job input) o.0 o.1 in (v.0, within short (from_judged input v.1))
]

-- The head of an input has one verdict.
pub one_head : (input : List ℕ) (a b : Result (Job × ℕ) Refusal) → JudgesHead input a → JudgesHead input b → a ≡ b
one_head input _ _ (head_over h) (head_over i) = refl
one_head input _ _ (head_over h) (head_within i j) = absurd (omega arith)
one_head input _ _ (head_within h j) (head_over i) = absurd (omega arith)
one_head input _ _ (head_within h j) (head_within i k) = one_judged input (on_head input) (head_to_judged input j) (head_to_judged input k)

pub some_head : (input : List ℕ) → (v : Result (Job × ℕ) Refusal) × JudgesHead input v
some_head input = elim (cases_lt most_bytes (length input)) [
  | inl long ↦ (_, head_over long)
  | inr short ↦ let o = some_outcome input in let v = judged input (on_head input) o.0 o.1 in (v.0, head_within short (head_from_judged input v.1))
]

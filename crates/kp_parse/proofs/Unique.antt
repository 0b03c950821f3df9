-- A text has one tree, or violates one rule.
use Rattle.std.proofs.Common.{ℕ, ◌≡◌, ◌≤◌, ◌-◌, List, [], ◌∷◌, length, drop, inl, inr, sym, ap, ◌∙◌, arith}
use Rattle.std.proofs.lemmas.{Bool.cases_lt, List.length-drop, List.length-map, List.drop_all}
use Rattle.kp_base.specs.{Refusal.e_rule, declared.place.Place.Place, declared.refusal.Refusal.Refusal}
use Rattle.kp_grammar.proofs.Derivations.{one_state, one_wrong, one_over, not_over, over_ends}
use Rattle.kp_ast.specs.declared.tree.Job.{Job}
use Rattle.kp_lex.specs.declared.token.Token.{Token}
use Rattle.kp_parse_grammar.specs.{Tokens.lexeme_of, Tokens.lexemes, Language.JOB, Language.job, Language.language, Language.at, Language.is_over}
use Rattle.kp_parse_grammar.specs.Follow.{tables}
use Rattle.kp_parse_grammar.proofs.Predictive.{is_predictive}
use Rattle.kp_parse.specs.Sentence.{IsTree, IsWrong, IsTooDeep, Breaks, place_from}
use Rattle.kp_parse.proofs.Text.{limit, same_job}

-- two ends of a list that are equally long
same_drop : {A : Type 0} (xs : List A) (i j : ℕ) → length xs - i ≡ length xs - j → drop i xs ≡ drop j xs
same_drop xs i j e = elim (cases_lt i (length xs)) [
  | inl h ↦ let same : i ≡ j = omega arith in ap (λ (k : ℕ). drop k xs) same
  | inr h ↦ let far : length xs ≤ j = omega arith in drop_all i xs h ∙ sym (drop_all j xs far)
]

module _ (text : List ℕ) (tokens : List Token) where
  left : (i : ℕ) → length (drop i (lexemes text tokens)) ≡ length tokens - i
  left i = length-drop i (lexemes text tokens) ∙ ap (λ (n : ℕ). n - i) (length-map tokens (lexeme_of text))

  same_place : (i j : ℕ) → length (drop i (lexemes text tokens)) ≡ length (drop j (lexemes text tokens)) → place_from text (drop i tokens) ≡ place_from text (drop j tokens)
  same_place i j e = ap (place_from text) (same_drop tokens i j (sym (left i) ∙ e ∙ left j))

  pub one_tree : (i j : Job) → IsTree text tokens i → IsTree text tokens j → i ≡ j
  one_tree i j a b = same_job i j (one_state language tables JOB is_predictive a b)

  wrong_once : (p q : Place) → IsWrong text tokens p → IsWrong text tokens q → p ≡ q
  wrong_once p q a b = a.place ∙ same_place a.prefix b.prefix (one_wrong language JOB a.wrong b.wrong) ∙ sym b.place

  deep_once : (p q : Place) → IsTooDeep text tokens p → IsTooDeep text tokens q → p ≡ q
  deep_once p q a b = a.place ∙ same_place a.prefix b.prefix (one_over language is_over JOB a.over b.over) ∙ sym b.place

  apart : (p q : Place) → IsWrong text tokens p → IsTooDeep text tokens q → ⊥
  apart p q a b = not_over language is_over JOB b.over a.wrong a.within

  pub one_rule : (r s : Refusal) → Breaks text tokens r → Breaks text tokens s → r ≡ s
  one_rule _ _ (Breaks.wrong_token {p = p} a) (Breaks.wrong_token {p = q} b) = ap (e_rule 4) (wrong_once p q a b)
  one_rule _ _ (Breaks.wrong_token {p = p} a) (Breaks.too_deep {p = q} b) = absurd (apart p q a b)
  one_rule _ _ (Breaks.too_deep {p = p} a) (Breaks.wrong_token {p = q} b) = absurd (apart q p b a)
  one_rule _ _ (Breaks.too_deep {p = p} a) (Breaks.too_deep {p = q} b) = ap (e_rule 27) (deep_once p q a b)

  pub no_rule : (j : Job) (r : Refusal) → IsTree text tokens j → Breaks text tokens r → ⊥
  no_rule j _ d (Breaks.wrong_token {p = p} a) = a.wrong.unfinished (at [] (job j ∷ [])) d
  no_rule j _ d (Breaks.too_deep {p = p} a) = cc (over_ends language tables JOB is_predictive is_over limit a.over d)

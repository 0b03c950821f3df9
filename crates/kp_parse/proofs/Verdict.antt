-- A text has a verdict: a tree, or a violated rule.
use Rattle.std.proofs.Common.{ℕ, ◌≡◌, ◌≤◌, ◌-◌, ◌⊎◌, inl, inr, List, [], length, drop, refl, sym, subst, arith}
use Rattle.std.proofs.lemmas.List.{length-drop}
use Rattle.kp_base.specs.declared.refusal.Refusal.{Refusal}
use Rattle.kp_grammar.specs.Machine.{Outcome, Accepts, Stops, Exceeds, Leads, accept, more, goes, take, make, wrong, lost, exceed}
use Rattle.kp_grammar.proofs.{TableTests.decides, Ends.ends}
use Rattle.kp_ast.specs.declared.tree.Job.{Job}
use Rattle.kp_lex.specs.declared.token.Token.{Token}
use Rattle.kp_parse_grammar.specs.Tokens.{Lexeme, lexemes}
use Rattle.kp_parse_grammar.specs.Language.{JOB, Sym, State, language, rules, at, is_over}
use Rattle.kp_parse_grammar.specs.{Follow.tables, Reading.JobGoes}
use Rattle.kp_parse_grammar.proofs.{Predictive.is_predictive, Ranked.rank, Ranked.is_ranked, Shapes.reads_job}
use Rattle.kp_parse.{specs.Sentence.IsTree, specs.Sentence.Breaks, proofs.Text.is_tree, proofs.Text.is_wrong, proofs.Text.is_too_deep}

-- the number of tokens that are left where reading ends
abbrev left_at : Outcome State → ℕ
left_at (Accepts w) = 0
left_at (Stops k) = k
left_at (Exceeds k) = k

within : {s : List Sym} {v : State} {xs : List Lexeme} {o : Outcome State} → Leads language is_over tables s v xs o → left_at o ≤ length xs
within accept = omega arith
within more = omega arith
within {xs = xs} (goes body p rest) = within rest
within (take same e rest) = let few = within rest in omega arith
within (make rest) = within rest
within (wrong p) = omega arith
within (lost p) = omega arith
within (exceed p e) = omega arith

module _ (text : List ℕ) (tokens : List Token) where
  abbrev all : List Lexeme
  all = lexemes text tokens

  -- the number of a token, by how many are left there
  from_end : (k : ℕ) → k ≤ length all → length (drop (length all - k) all) ≡ k
  from_end k h = let e = length-drop (length all - k) all in omega arith

  verdict : (o : Outcome State) → JobGoes all o → ((j : Job) × IsTree text tokens j) ⊎ ((r : Refusal) × Breaks text tokens r)
  verdict (Accepts w) leads =
      let j = reads_job leads in inl (j.0, is_tree text tokens j.0 (subst (λ (u : State). JobGoes all (Accepts u)) j.1 leads))
  verdict (Stops k) leads =
      let e = from_end k (within leads) in
      inr (_, Breaks.wrong_token (is_wrong text tokens (length all - k) _ refl (subst (λ (n : ℕ). JobGoes all (Stops n)) (sym e) leads)))
  verdict (Exceeds k) leads =
      let e = from_end k (within leads) in
      inr (_, Breaks.too_deep (is_too_deep text tokens (length all - k) _ refl (subst (λ (n : ℕ). JobGoes all (Exceeds n)) (sym e) leads)))

  pub has_verdict : ((j : Job) × IsTree text tokens j) ⊎ ((r : Refusal) × Breaks text tokens r)
  has_verdict =
      let o = ends language tables rank (decides rules tables is_predictive.fits) is_ranked is_over JOB (at [] []) all in verdict o.0 o.1

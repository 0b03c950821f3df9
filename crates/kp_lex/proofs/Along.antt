-- Going along a text.
use Rattle.std.proofs.Common.{ℕ, suc, ◌+◌, ◌-◌, ◌^◌, ◌≤◌, ◌≡◌, ◌==◌, List, [], ◌∷◌, ◌++◌, length, take, drop, length-take-le, Bool, true, false, not, cond, Result, Ok, Err, refl, sym, ap, ◌∙◌, subst, arith}
use Rattle.std.proofs.{Math.Seq.take-add, lemmas.List.drop-drop, lemmas.List.length-reverse}
use Rattle.std.{proofs.lemmas.List.Sums.count_by-le-length, proofs.lemmas.List.Sums.take_while-cons, specs.Prelude.reverse, specs.List.take_while}
use Rattle.kp_base.specs.{Place.line_after, Place.column_after, Place.place_after, Refusal.e_rule, declared.place.Place.Place, declared.refusal.Refusal.Refusal}
use Rattle.kp_lex.specs.declared.front.Front.TheVariants as fronts
use Rattle.kp_lex.specs.declared.front.TokenFault.{TokenFault}
use Rattle.kp_lex.specs.declared.token.{TokenKind.TokenKind, Token.Token, Lexed.Lexed}
use Rattle.kp_lex.specs.Text.{front_of, is_end, token_at, Lexes, finish, skip, token, last, broken, rule_of, HasOutcome}

-- The outcome from here is the outcome from the start of the text.
pub record Along (text : List ℕ) (tokens : List Token) (start : ℕ) (place : Place) (rest : List ℕ) : Type 0 where
  pub leads : (outcome : Result Lexed Refusal) → Lexes tokens (take start text) rest outcome → HasOutcome text outcome
  pub remains : rest ≡ drop start text
  pub placed : place ≡ place_after (take start text)
  pub within : start + length rest ≡ length text

pub begin : (text : List ℕ) → Along text [] 0 (record { line = 1; col = 1 }) text
begin text = record { leads = λ outcome h. h; remains = refl; placed = refl; within = omega arith }

abbrev made : ℕ → Place → TokenKind → ℕ → Token
made start place kind len = record { start = start; len = len; kind = kind; place = place }

module _ (text : List ℕ) (tokens : List Token) (start : ℕ) (place : Place) (rest : List ℕ) (along : Along text tokens start place rest) where
  start_is : length (take start text) ≡ start
  start_is = let w = along.within in length-take-le start text (omega arith)

  token_is : (kind : TokenKind) (len : ℕ) → made start place kind len ≡ token_at (take start text) kind len
  token_is kind len = ap (λ (n : ℕ). made n place kind len) (sym start_is) ∙ ap (λ (p : Place). made (length (take start text)) p kind len) along.placed

  front_is : (len : ℕ) → take (start + len) text ≡ take start text ++ take len rest
  front_is len = take-add start len text ∙ ap (λ (z : List ℕ). take start text ++ take len z) (sym along.remains)

  rest_is : (len : ℕ) → drop len rest ≡ drop (start + len) text
  rest_is len = ap (drop len) along.remains ∙ drop-drop len start text

  module _ (len : ℕ) (next : Place) (moved : next ≡ place_after (take start text ++ take len rest)) (after : List ℕ) (is_after : after ≡ drop len rest) (short : length after + len ≡ length rest) where
    step : (more : List Token) → ((outcome : Result Lexed Refusal) → Lexes more (take start text ++ take len rest) (drop len rest) outcome → Lexes tokens (take start text) rest outcome)
        → Along text more (start + len) next after
    step more go = record {
      leads = λ outcome h. along.leads outcome (go outcome (subst (λ (z : List ℕ). Lexes more z (drop len rest) outcome) (front_is len) (subst (λ (z : List ℕ). Lexes more (take (start + len) text) z outcome) is_after h)));
      remains = is_after ∙ rest_is len;
      placed = moved ∙ ap place_after (sym (front_is len));
      within = (let w = along.within in omega arith);
    }

    -- Layout and comments are skipped,
    pub skipped : front_of rest ≡ fronts.Gap len → Along text tokens (start + len) next after
    skipped e = step tokens (λ outcome h. skip len e h)

    -- or a token.
    pub read : (kind : TokenKind) → front_of rest ≡ fronts.Token kind len → is_end kind ≡ false
        → Along text (tokens ++ made start place kind len ∷ []) (start + len) next after
    read kind e goes_on =
        step _ (λ outcome h. token kind len e goes_on (subst (λ (z : Token). Lexes (tokens ++ z ∷ []) (take start text ++ take len rest) (drop len rest) outcome) (token_is kind len) h))

  -- The end of the text, the first `end`, and a violated rule are the outcome.
  pub finished : front_of rest ≡ fronts.End → HasOutcome text (Ok (record { tokens = tokens; rest = start }))
  finished e = along.leads _ (subst (λ (n : ℕ). Lexes tokens (take start text) rest (Ok (record { tokens = tokens; rest = n }))) start_is (finish e))

  pub ended : (kind : TokenKind) (len : ℕ) → front_of rest ≡ fronts.Token kind len → is_end kind ≡ true
      → HasOutcome text (Ok (record { tokens = tokens ++ made start place kind len ∷ []; rest = start + len }))
  ended kind len e ends = along.leads _
      (subst (λ (n : ℕ). Lexes tokens (take start text) rest (Ok (record { tokens = tokens ++ made start place kind len ∷ []; rest = n + len }))) start_is
      (subst (λ (z : Token). Lexes tokens (take start text) rest (Ok (record { tokens = tokens ++ z ∷ []; rest = length (take start text) + len }))) (sym (token_is kind len))
      (last kind len e ends)))

  pub refused : (fault : TokenFault) → front_of rest ≡ fronts.Broken fault → HasOutcome text (Err (e_rule (rule_of fault) place))
  refused fault e = along.leads _ (subst (λ (p : Place). Lexes tokens (take start text) rest (Err (e_rule (rule_of fault) p))) (sym along.placed) (broken fault e))

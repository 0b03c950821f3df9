-- What is computed of a derivation is how it begins.
use Rattle.std.proofs.Common.{◌≡◌, ◌∙◌, ℕ, zero, suc, List, [], ◌∷◌, ◌++◌, map, Bool, true, false, eqb, cond, Option, Some, None, Ok, refl, ap, sym, subst}
use Rattle.std.proofs.lemmas.List.{map-append}
use Rattle.kp_grammar.specs.{Grammar.Terminal, Grammar.Nonterminal, Grammar.Action, Grammar.IsSentence, Tables.pick}
use Rattle.kp_grammar.specs.Machine.{Outcome, Accepts, Leads, goes, take, make}
use Rattle.kp_grammar.proofs.Derivations.{is_accepted, no_limit}
use Rattle.kp_ast.specs.declared.tree.Job.{Job}
use Rattle.kp_lex.specs.{Text.HasOutcome, declared.token.Token.Token, declared.token.Lexed.Lexed}
use Rattle.kp_parse_grammar.specs.Tokens.{Lexeme, lexemes, kind_class, lexeme_of}
use Rattle.kp_parse_grammar.specs.Language.{Sym, State, Step, Way, JOB, at, job, rules, language, read_token, build_step}
use Rattle.kp_parse_grammar.specs.Follow.{tables}
use Rattle.kp_parse_grammar.proofs.Predictive.{is_predictive}
use Rattle.kp_described.specs.Computed.{Found, lexeme, tokens_from, Reading, expanded, reads, reads_all, start_place, front_reading}
use Rattle.kp_described.proofs.Tokens.{finds}

-- no limit on the nesting
abbrev pub never : State → Bool
never v = false

abbrev pub Led : List Sym → State → List Lexeme → Outcome State → Type 0
Led s v ts o = Leads language never tables s v ts o

same_some : {A : Type 0} (x y : A) → Some x ≡ Some y → x ≡ y
same_some x y h = cc

stays : (s : List Sym) (v : State) (more : List Lexeme) (o : Outcome State) (r : Reading) → Led s v more o → record { symbols = s; state = v } ≡ r → Led r.symbols r.state more o
stays s v more o r l h = subst (λ (r : Reading). Led r.symbols r.state more o) h l

if_some : (b : Bool) (x : Option Reading) (r : Reading) → cond b x None ≡ Some r → x ≡ Some r
if_some true x r h = h
if_some false x r h = absurd (cc)

pub along : (k : ℕ) (s : List Sym) (v : State) (ts more : List Lexeme) (o : Outcome State) (w : State) (r : Reading) → Led s v (ts ++ more) o → o ≡ Accepts w → reads k s v ts ≡ Some r
    → Led r.symbols r.state more o
along zero s v ts more o w r l is h = absurd (cc)
along (suc k) s v [] more o w r l is h = stays s v more o r l (same_some _ r h)
along (suc k) [] v (t ∷ ts) more o w r l is h = absurd (cc)
along (suc k) (Terminal c way ∷ s) v (t ∷ ts) more o w r (take e f l) is h =
    along k s (read_token way t v) ts more o w r l is (if_some (eqb (kind_class t.kind) c) (reads k s (read_token way t v) ts) r h)
along (suc k) (Terminal c way ∷ s) v (t ∷ ts) more o w r l is h = absurd (cc is)
along (suc k) (Nonterminal n ∷ s) v (t ∷ ts) more o w r (goes body p l) is h =
    along k (body ++ s) v (t ∷ ts) more o w r l is (ap (expanded (λ body. reads k (body ++ s) v (t ∷ ts))) (sym p) ∙ h)
along (suc k) (Nonterminal n ∷ s) v (t ∷ ts) more o w r l is h = absurd (cc is)
along (suc k) (Action a ∷ s) v (t ∷ ts) more o w r (make l) is h = along k s (build_step a v) (t ∷ ts) more o w r l is h

-- a text of which the front is read
module _ (text : List ℕ) (lexed : Lexed) (j : Job) (outcome : HasOutcome text (Ok lexed)) (tree : IsSentence language JOB (at [] []) (lexemes text lexed.tokens) (at [] (job j ∷ []))) where
  -- how the derivation goes on
  pub record GoesOn (r : Reading) : Type 0 where
    pub more : List Lexeme
    pub leads : Led r.symbols r.state more (Accepts (at [] (job j ∷ [])))

  by_tokens : (r : Reading) (o : Option (List Found)) → tokens_from 1000000 0 start_place text ≡ o → reads_all o ≡ Some r → GoesOn r
  by_tokens r None e h = absurd (cc)
  by_tokens r (Some ts) e h =
      let f = finds 1000000 [] [] text lexed ts outcome e in
      let all : lexemes text lexed.tokens ≡ map lexeme ts ++ map (lexeme_of text) f.more =
      ap (lexemes text) f.tokens ∙ map-append (lexeme_of text) (map (λ (t : Found). t.0) ts) f.more ∙ ap (λ (x : List Lexeme). x ++ map (lexeme_of text) f.more) f.bytes in
      let l : Led (Nonterminal JOB ∷ []) (at [] []) (lexemes text lexed.tokens) (Accepts (at [] (job j ∷ []))) =
      is_accepted language tables JOB is_predictive never (no_limit language) tree refl in
      record {
        more = map (lexeme_of text) f.more;
        leads = along 1000000 (Nonterminal JOB ∷ []) (at [] []) (map lexeme ts) (map (lexeme_of text) f.more) _ _ r
            (subst (λ (ts : List Lexeme). Led (Nonterminal JOB ∷ []) (at [] []) ts (Accepts (at [] (job j ∷ [])))) all l) refl h;
      }

  pub goes_on : (r : Reading) → front_reading text ≡ Some r → GoesOn r
  goes_on r h = by_tokens r (tokens_from 1000000 0 start_place text) refl h

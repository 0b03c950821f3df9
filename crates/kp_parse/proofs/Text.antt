-- What the outcome of the machine says of a text.
use Rattle.std.proofs.Common.{ℕ, ◌≡◌, List, [], ◌∷◌, length, drop, true, Ok, All, refl, ap}
use Rattle.std.proofs.lemmas.List.Elements.{All-weaker}
use Rattle.kp_base.specs.declared.place.Place.{Place}
use Rattle.kp_grammar.specs.{Grammar.IsLimit, Machine.Accepts, Machine.Stops, Machine.Exceeds}
use Rattle.kp_grammar.proofs.Derivations.{sentence, one_state, wrong_at, within_stop, over_at, over_ends}
use Rattle.kp_ast.specs.{Name.IsName, declared.tree.Job.Job}
use Rattle.kp_lex.specs.{declared.token.Token.Token, declared.token.Lexed.Lexed, Text.HasOutcome, Text.StandsIn, Text.IsIdentifier}
use Rattle.kp_lex.proofs.{Stands.tokens_stand, Names.name_is_identifier}
use Rattle.kp_parse_grammar.specs.Tokens.{Lexeme, IsSpelled, lexemes}
use Rattle.kp_parse_grammar.specs.Language.{State, Way, JOB, job, language, at, is_over}
use Rattle.kp_parse_grammar.specs.{Follow.tables, Reading.JobGoes}
use Rattle.kp_parse_grammar.proofs.Predictive.{is_predictive}
use Rattle.kp_parse.specs.Sentence.{IsTree, IsWrong, IsTooDeep, place_from}

stays : (way : Way) (t : Lexeme) (v : State) → is_over v ≡ true → is_over (language.reads way t v) ≡ true
stays way t v h = rw h refl

pub limit : IsLimit language is_over
limit = record { keeps = λ a v. refl; stays = stays }

pub same_job : (i j : Job) → at [] (job i ∷ []) ≡ at [] (job j ∷ []) → i ≡ j
same_job i j h = cc (ap (λ (v : State). v.values) h)

module _ (text : List ℕ) (tokens : List Token) where
  pub is_tree : (j : Job) → JobGoes (lexemes text tokens) (Accepts (at [] (job j ∷ []))) → IsTree text tokens j
  is_tree j l = sentence language tables JOB is_predictive l

  pub is_only : (i j : Job) → JobGoes (lexemes text tokens) (Accepts (at [] (job i ∷ []))) → IsTree text tokens j → i ≡ j
  is_only i j l d = same_job i j (one_state language tables JOB is_predictive (is_tree i l) d)

  pub is_wrong : (i : ℕ) (p : Place) → p ≡ place_from text (drop i tokens) → JobGoes (lexemes text tokens) (Stops (length (drop i (lexemes text tokens)))) → IsWrong text tokens p
  is_wrong i p e l = record {
    prefix = i;
    wrong = wrong_at language tables JOB is_predictive l;
    within = within_stop language tables JOB is_predictive is_over limit refl l;
    place = e;
  }

  pub is_too_deep : (i : ℕ) (p : Place) → p ≡ place_from text (drop i tokens) → JobGoes (lexemes text tokens) (Exceeds (length (drop i (lexemes text tokens)))) → IsTooDeep text tokens p
  is_too_deep i p e l = record { prefix = i; over = over_at language tables JOB is_predictive is_over limit refl l; place = e }

  pub no_tree_wrong : (i : ℕ) (j : Job) → JobGoes (lexemes text tokens) (Stops (length (drop i (lexemes text tokens)))) → IsTree text tokens j → ⊥
  no_tree_wrong i j l d = (is_wrong i _ refl l).wrong.unfinished (at [] (job j ∷ [])) d

  pub no_tree_deep : (i : ℕ) (j : Job) → JobGoes (lexemes text tokens) (Exceeds (length (drop i (lexemes text tokens)))) → IsTree text tokens j → ⊥
  no_tree_deep i j l d = cc (over_ends language tables JOB is_predictive is_over limit (is_too_deep i _ refl l).over d)

-- A name from the lexer is a name of a tree.
names : (bytes : List ℕ) → IsIdentifier bytes → IsName bytes
names bytes h = record { not_empty = h.not_empty; within = h.within; spelled = h.spelled }

spelled_one : (text : List ℕ) (t : Token) → StandsIn text t → IsSpelled text t
spelled_one text t h = record { within = h.within; name = λ e. names _ (name_is_identifier text t h e) }

pub spelled_all : (text : List ℕ) (lexed : Lexed) → HasOutcome text (Ok lexed) → All (IsSpelled text) lexed.tokens
spelled_all text lexed h = All-weaker (StandsIn text) (IsSpelled text) (spelled_one text) lexed.tokens (tokens_stand text lexed h).0

-- The line of a text whose tokens violate E4, from the readers up.
use Rattle.std.proofs.Common.{◌≡◌, ◌≤◌, ℕ, Bool, not, List, [], ◌++◌, length, take, Ok, Err, Some, None, refl, ap, subst, ◌∙◌, arith}
use Rattle.std.{proofs.lemmas.Grind.common_steps, proofs.lemmas.List.Sums.prefix_len-le-length, specs.Prelude.◌↔◌, specs.Prelude.slice_get}
use Rattle.std.specs.{List.position, List.position_or_len, declared.option.Option.Option}
use Rattle.kp_base.specs.{Refusal.e_rule, declared.place.Place.Place, declared.refusal.Refusal.Refusal}
use Rattle.kp_ast.specs.declared.tree.Job.{Job}
use Rattle.kp_lex.specs.{Text.HasOutcome, declared.token.Token.Token, declared.token.Lexed.Lexed}
use Rattle.kp_lex.proofs.Outcome.{one_outcome}
use Rattle.kp_parse_grammar.specs.Tokens.{Lexeme, lexemes}
use Rattle.kp_parse.{specs.Sentence.Breaks, specs.Sentence.IsTree, specs.Sentence.Breaks.wrong_token, proofs.Unique.no_rule}
use Rattle.kp_frontend.specs.Judging.{JudgesText, JudgesHeadText, most_bytes, JudgesText.no_sentence, Judges.within, JudgesHeadText.no_head_sentence}
use Rattle.kp_frontend.{specs.Judging.JudgesHead.head_within, proofs.Verdicts.one_verdict, proofs.Verdicts.one_head}
use Rattle.kp_view_expected.specs.{GoesOn.class_of, GoesOn.GoesOn, GoesOn.Lists, declared.set.Expected.Expected}
use Rattle.kp_view_help.specs.{Texts.found_text, declared.allowed.Before.Before, declared.found.FoundToken.FoundToken}
use Rattle.kp_view_message.specs.{Texts.message_text, declared.message.Message.Message}
use Rattle.kp_view_message.specs.declared.message.Message.TheVariants as messages
use Rattle.kp_view_message.specs.declared.reading_fault.ReadingFault.TheVariants as faults
use Rattle.kp_view_explain.specs.Messages.{AppendsMessage}
use Rattle.kp_view_texts.specs.Heads.{rule_head}
use Rattle.kp_view_explain.specs.Listing.{IsNext, ListsNext, index_at, token_text, tokens_before}
use Rattle.kp_view_explain.specs.inner.Naming.{ListsAfter, NamesAt, NamesNext, SaysMessage}

-- where no item passes, the first that does is past all
pub none_passes : {X : Type 0} (test : X → Bool) (xs : List X) → None ≡ position test xs → length xs ≡ position_or_len test xs
none_passes test xs none =
    let past : length xs ≤ position_or_len test xs = grind (arith, common_steps) in
    let within : position_or_len test xs ≤ length xs = prefix_len-le-length (λ x. not (test x)) xs in
    omega (arith, past, within)

-- the set after the tokens before a place
pub names_next : (text : List ℕ) (tokens before : List Token) (p : Place) (n : ℕ) (found : FoundToken) (set : Expected) (after : Before) → n ≡ index_at p tokens
    → found_text found ≡ token_text text (slice_get tokens n) → before ≡ take n tokens
    → ((t : List ℕ) (x : Lexeme) → Lists set (class_of x.kind) ↔ GoesOn (lexemes t before) x)
    → NamesNext text tokens p (messages.Reading (faults.Unexpected found set after))
names_next text tokens before p n found set after at here front exact =
    let same : before ≡ tokens_before p tokens = front ∙ ap (λ (k : ℕ). take k tokens) at in
    record {
      set = set;
      found = found;
      before = after;
      is = refl;
      here = here ∙ ap (λ (k : ℕ). token_text text (slice_get tokens k)) at;
      exact = subst (λ (ts : List Token). IsNext text ts set) same (exact text);
    }

-- of another rule nothing is said here
pub another_rule : (text : List ℕ) (tokens : List Token) (refusal : Refusal) (m : Message) → (refusal.number ≡ 4 → ⊥) → NamesAt text tokens refusal m
another_rule text tokens refusal m other four = absurd (other four)

-- a text with an invalid token has no other tokens
pub lists_no_tokens : (file text said : List ℕ) (refusal : Refusal) → HasOutcome text (Err refusal) → ListsAfter file text refusal said
lists_no_tokens file text said refusal none lexed four h broken = cc (one_outcome h none)

-- the line of the message for a token
pub lists_token : (file text said : List ℕ) (l : Lexed) (refusal : Refusal) (m : Message) → HasOutcome text (Ok l) → NamesAt text l.tokens refusal m
    → SaysMessage file refusal (message_text m) said → ListsAfter file text refusal said
lists_token file text said l refusal m h names (facts, appends, whole) lexed four i broken =
    let same : l ≡ lexed = cc (one_outcome h i) in
    let named = subst (λ (x : Lexed). NamesNext text x.tokens refusal.place m) same (names four) in
    let written = subst (λ (x : Message). AppendsMessage [] facts (message_text x)) named.is appends in
    (facts, record { set = named.set; exact = named.exact; rest = written.0; line = rw (← named.here) written.1 }, whole)

-- and tokens with a tree violate no rule of the grammar
pub lists_tree : (file text said : List ℕ) (l : Lexed) (job : Job) (refusal : Refusal) → HasOutcome text (Ok l) → IsTree text l.tokens job → ListsAfter file text refusal said
lists_tree file text said l job refusal h tree lexed four i broken =
    let same : lexed ≡ l = cc (one_outcome h i) in
    absurd (no_rule text l.tokens job refusal tree (subst (λ (x : Lexed). Breaks text x.tokens refusal) same broken))

-- the text of a job that violates a rule
pub text_next : (file text said : List ℕ) (refusal : Refusal) → length text ≤ most_bytes → JudgesText text (Err refusal) → ListsAfter file text refusal said
    → ListsNext file text said
text_next file text said refusal few judged lists lexed p h w =
    let broken : Breaks text lexed.tokens (e_rule 4 p) = wrong_token w in
    let same : refusal ≡ e_rule 4 p = cc (one_verdict text _ _ (within few judged) (within few (no_sentence h broken))) in
    subst (λ (r : Refusal). ListsAfter file text r said) same lists lexed refl h broken

-- and of one that violates none
pub accepted_next : (file text said : List ℕ) (job : Job) → length text ≤ most_bytes → JudgesText text (Ok job) → ListsNext file text said
accepted_next file text said job few judged lexed p h w =
    absurd (cc (one_verdict text _ _ (within few judged) (within few (no_sentence h (wrong_token w)))))

-- the same at the head of a text
pub head_next : (file text said : List ℕ) (refusal : Refusal) → length text ≤ most_bytes → JudgesHeadText text (Err refusal) → ListsAfter file text refusal said
    → ListsNext file text said
head_next file text said refusal few judged lists lexed p h w =
    let broken : Breaks text lexed.tokens (e_rule 4 p) = wrong_token w in
    let same : refusal ≡ e_rule 4 p = cc (one_head text _ _ (head_within few judged) (head_within few (no_head_sentence h broken))) in
    subst (λ (r : Refusal). ListsAfter file text r said) same lists lexed refl h broken

pub accepted_head_next : (file text said : List ℕ) (job : Job) (from : ℕ) → length text ≤ most_bytes → JudgesHeadText text (Ok (job, from)) → ListsNext file text said
accepted_head_next file text said job from few judged lexed p h w =
    absurd (cc (one_head text _ _ (head_within few judged) (head_within few (no_head_sentence h (wrong_token w)))))

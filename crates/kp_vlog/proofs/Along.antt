-- Lexing a text step by step.
use Rattle.std.proofs.Common.{ℕ, ◌+◌, ◌≤◌, ◌≡◌, ◌∙◌, List, [], ◌∷◌, ◌++◌, length, length-drop, take, drop, map, append_assoc, append-nil, refl, sym, ap, subst, arith}
use Rattle.std.proofs.lemmas.List.{drop-drop, map-append, Elements.All-nil, Elements.All-push}
use Rattle.std.specs.Prelude.{All}
use Rattle.kp_vlog.specs.Tokens.{Token, front, finish, skips, takes, broken, Lexes, at_end, past, token, LexesTo, here, past_gap, past_token}
use Rattle.kp_vlog.specs.{declared.token.VKind.VKind, declared.token.VToken.VToken, Outcome.word_of, Outcome.token_of, Outcome.StandsIn, Outcome.HasTokens}

-- What is found from here is what is found from the offset where the call started.
pub record Along (text : List ℕ) (from : ℕ) (found : List VToken) (start : ℕ) (rest : List ℕ) : Type 0 where
  pub leads : (ts : List Token) → Lexes start rest ts → Lexes from (drop from text) (map (token_of text) found ++ ts)
  pub refuses : (to : ℕ) → LexesTo start rest to → LexesTo from (drop from text) to
  pub remains : rest ≡ drop start text
  pub within : start + length rest ≡ length text
  pub stand : All (StandsIn text) found

pub begin : (text : List ℕ) (from : ℕ) → from ≤ length text → Along text from [] from (drop from text)
begin text from h = record {
  leads = λ ts l. l;
  refuses = λ to l. l;
  remains = refl;
  within = (let e = length-drop from text in omega arith);
  stand = All-nil (StandsIn text);
}

abbrev made : ℕ → VKind → ℕ → VToken
made start kind len = record { start = start; len = len; kind = kind }

module _ (text : List ℕ) (from : ℕ) (found : List VToken) (start : ℕ) (rest : List ℕ) (along : Along text from found start rest) where
  rest_is : (len : ℕ) → drop len rest ≡ drop (start + len) text
  rest_is len = ap (drop len) along.remains ∙ drop-drop len start text

  left : (len : ℕ) → len ≤ length rest → (start + len) + length (drop len rest) ≡ length text
  left len h = let e = length-drop len rest in let w = along.within in omega arith

  -- Layout and comments were skipped,
  pub skipped : (len : ℕ) → front rest ≡ skips len → len ≤ length rest → Along text from found (start + len) (drop len rest)
  skipped len f fits = record {
    leads = λ ts l. along.leads ts (past len f l);
    refuses = λ to l. along.refuses to (past_gap len f l);
    remains = rest_is len;
    within = left len fits;
    stand = along.stand;
  }

  -- or a token was read.
  pub read : (kind : VKind) (len : ℕ) → front rest ≡ takes (word_of (take len rest) kind) len → len ≤ length rest
      → Along text from (found ++ made start kind len ∷ []) (start + len) (drop len rest)
  read kind len f fits =
      let bytes : take len rest ≡ take len (drop start text) = ap (take len) along.remains in
      let same : front rest ≡ takes (word_of (take len (drop start text)) kind) len = f ∙ ap (λ (b : List ℕ). takes (word_of b kind) len) bytes in
      record {
        leads = λ ts l. subst (Lexes from (drop from text)) (sym (ap (λ (xs : List Token). xs ++ ts) (map-append (token_of text) found (made start kind len ∷ [])) ∙ append_assoc (map (token_of text) found) (token_of text (made start kind len) ∷ []) ts))
            (along.leads (token_of text (made start kind len) ∷ ts) (token (word_of (take len (drop start text)) kind) len same l));
        refuses = λ to l. along.refuses to (past_token (word_of (take len rest) kind) len f l);
        remains = rest_is len;
        within = left len fits;
        stand = All-push (StandsIn text) found (made start kind len) along.stand
            (record { front = ap front (sym along.remains) ∙ same; within = (let w = along.within in let h = fits in omega arith) });
      }

  -- The end of the text,
  pub finished : front rest ≡ finish → HasTokens text from found
  finished e = record {
    lexes = subst (Lexes from (drop from text)) (append-nil (map (token_of text) found)) (along.leads [] (at_end e));
    stand = along.stand;
  }

  -- and a position where no token starts.
  pub stopped : front rest ≡ broken → LexesTo from (drop from text) start
  stopped e = along.refuses start (here e)

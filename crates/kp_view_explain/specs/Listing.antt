-- What is said of a text that is no sentence of the language (E4 at a token): the classes of tokens with which some description goes on there.
use Rattle.std.specs.Prelude.{◌≡◌, ◌==◌, ◌&&◌, ◌↔◌, ℕ, Bool, List, ◌∷◌, ◌++◌, take, drop, slice_get, codes, Option, Some, None, Ok}
use Rattle.std.specs.List.{position_or_len}
use Rattle.kp_base.specs.{Refusal.e_rule, declared.place.Place.Place}
use Rattle.kp_lex.specs.{Text.HasOutcome, declared.token.TokenKind.TokenKind, declared.token.Token.Token, declared.token.Lexed.Lexed}
use Rattle.kp_parse_grammar.specs.Tokens.{Lexeme, lexemes}
use Rattle.kp_lex.specs.declared.token.TokenKind.TheVariants as kinds
use Rattle.kp_parse.specs.Sentence.{IsWrong}
use Rattle.kp_view_expected.specs.{GoesOn.class_of, GoesOn.GoesOn, GoesOn.Lists, Texts.expected_text, declared.set.Expected.Expected}
use Rattle.kp_view_help.specs.Texts.{shown}
use Rattle.kp_view_texts.specs.Heads.{rule_head}

abbrev pub is_at : Place → Token → Bool
is_at p t = t.place.line == p.line && t.place.col == p.col

-- the number of the first token at a place, or the number of tokens where none is there
abbrev pub index_at : Place → List Token → ℕ
index_at p tokens = position_or_len (is_at p) tokens

abbrev pub tokens_before : Place → List Token → List Token
tokens_before p tokens = take (index_at p tokens) tokens

-- how a token of this class is written, by its bytes
abbrev pub kind_text : TokenKind → List ℕ → List ℕ
kind_text kinds.Ident word = codes "the name `" ++ word ++ codes "`"
kind_text (kinds.Number n) word = codes "the number `" ++ word ++ codes "`"
kind_text (kinds.Literal l) word = codes "the literal `" ++ word ++ codes "`"
kind_text (kinds.Keyword k) word = codes "the word `" ++ word ++ codes "`"
kind_text (kinds.Mark m) word = codes "`" ++ word ++ codes "`"

-- how a token is written, or the end of the text
abbrev pub token_text : List ℕ → Option Token → List ℕ
token_text text None = codes "the end of the text"
token_text text (Some t) = kind_text t.kind (shown (take t.len (drop t.start text)))

-- what is at a place
abbrev pub found_at : List ℕ → List Token → Place → List ℕ
found_at text tokens p = token_text text (slice_get tokens (index_at p tokens))

-- The set is exactly that of the classes with which some description goes on after these tokens.
abbrev pub IsNext : List ℕ → List Token → Expected → Type 0
IsNext text tokens set = (t : Lexeme) → Lists set (class_of t.kind) ↔ GoesOn (lexemes text tokens) t

-- `expected CLASSES, found TOKEN`: the classes with which some description goes on after the tokens before a place, and the token there
pub record SaysNext (text : List ℕ) (tokens : List Token) (p : Place) (said : List ℕ) : Type 0 where
  pub set : Expected
  pub exact : IsNext text (tokens_before p tokens) set
  pub rest : List ℕ
  pub line : said ≡ codes "expected " ++ expected_text set ++ codes ", found " ++ found_at text tokens p ++ 10 ∷ rest

-- Where the tokens of a text violate E4, the line after the head of the rule lists exactly the classes of tokens with which some description goes on
-- after the tokens before that place.
abbrev pub ListsNext : List ℕ → List ℕ → List ℕ → Type 0
ListsNext file text said = (lexed : Lexed) (p : Place) → HasOutcome text (Ok lexed) → IsWrong text lexed.tokens p
    → (line : List ℕ) × SaysNext text lexed.tokens p line × (said ≡ rule_head file (e_rule 4 p) ++ line)

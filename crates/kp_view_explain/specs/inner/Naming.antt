-- The message for a text that is no sentence of the language, before it is written.
use Rattle.std.specs.Prelude.{◌≡◌, ◌++◌, ℕ, List, [], Option, Ok}
use Rattle.kp_base.specs.declared.{place.Place.Place, refusal.Refusal.Refusal}
use Rattle.kp_lex.specs.{Text.HasOutcome, declared.token.Token.Token, declared.token.Lexed.Lexed}
use Rattle.kp_parse.specs.Sentence.{Breaks}
use Rattle.kp_view_expected.specs.declared.set.Expected.{Expected}
use Rattle.kp_view_help.specs.{Texts.found_text, declared.allowed.Before.Before, declared.found.FoundToken.FoundToken}
use Rattle.kp_view_message.specs.declared.message.Message.{Message}
use Rattle.kp_view_message.specs.declared.message.Message.TheVariants as messages
use Rattle.kp_view_message.specs.declared.reading_fault.ReadingFault.TheVariants as faults
use Rattle.kp_view_explain.specs.Messages.{AppendsMessage}
use Rattle.kp_view_texts.specs.Heads.{rule_head}
use Rattle.kp_view_explain.specs.Listing.{IsNext, SaysNext, found_at, tokens_before}

-- the message for the token at a place, or for the end of the text there, with the set of the classes that can be there
pub record NamesNext (text : List ℕ) (tokens : List Token) (p : Place) (m : Message) : Type 0 where
  pub set : Expected
  pub found : FoundToken
  pub before : Before
  pub is : m ≡ messages.Reading (faults.Unexpected found set before)
  pub here : found_text found ≡ found_at text tokens p
  pub exact : IsNext text (tokens_before p tokens) set

-- the message for a violated rule of the grammar
abbrev pub NamesAt : List ℕ → List Token → Refusal → Message → Type 0
NamesAt text tokens refusal m = refusal.number ≡ 4 → NamesNext text tokens refusal.place m

-- The text is the head of a violated rule, a line with the text of a message, where that is known, and what follows it.
abbrev pub SaysMessage : List ℕ → Refusal → Option (List ℕ) → List ℕ → Type 0
SaysMessage file refusal message said = (facts : List ℕ) × AppendsMessage [] facts message × (said ≡ rule_head file refusal ++ facts)

-- The text on a rule that the tokens of a text violate: for E4 with the line that lists the classes.
abbrev pub ListsAfter : List ℕ → List ℕ → Refusal → List ℕ → Type 0
ListsAfter file text refusal said = (lexed : Lexed) → refusal.number ≡ 4 → HasOutcome text (Ok lexed) → Breaks text lexed.tokens refusal
    → (facts : List ℕ) × SaysNext text lexed.tokens refusal.place facts × (said ≡ rule_head file refusal ++ facts)

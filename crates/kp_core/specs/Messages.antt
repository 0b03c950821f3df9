-- How a message on a line that asks for ports begins, and under which name an input is reported.
use Rattle.std.specs.Prelude.{◌≡◌, ℕ, ◌-◌, List, [], ◌++◌, codes, decimal, Option, Some, None}
use Rattle.kp_core_ports.specs.{Ports.rule_number, declared.port.PortRefusal.PortRefusal, declared.port.PortRule.PortRule}
use Rattle.kp_core_ports.specs.declared.port.PortRule.TheVariants as rules
use Rattle.kp_view_excerpt.specs.{Excerpts.IsExcerpt, Excerpts.excerpt_text, Excerpts.help_text, Lines.line_at, Lines.from_place, Tokens.token_length}
use Rattle.kp_view_excerpt.specs.declared.excerpt.Excerpt.{Excerpt}

abbrev pub file_name : Option (List ℕ) → List ℕ
file_name None = codes "<stdin>"
file_name (Some name) = name

-- the file, the place and the rule: `core.kp:11:13: error P2: `
unfoldable pub port_head : List ℕ → PortRefusal → List ℕ
port_head file refusal =
    file ++ codes ":" ++ decimal refusal.place.line ++ codes ":" ++ decimal refusal.place.col ++ codes ": error P" ++ decimal (rule_number refusal.rule) ++ codes ": "

-- the text begins with these bytes
abbrev pub BeginsWith : List ℕ → List ℕ → Type 0
BeginsWith front text = (rest : List ℕ) × (text ≡ front ++ rest)

-- the sentence on a violated rule
abbrev pub sentence : PortRule → List ℕ
sentence rules.Form = codes "no line that asks for ports has this form"
sentence rules.Taken = codes "an earlier line asks for a port of the same name"
sentence rules.NoRegister = codes "no register has this name"
sentence rules.NoFile = codes "no file has this name"
sentence rules.NoPipe = codes "no pipe has this name"
sentence rules.NoStage = codes "no stage of this number holds the pipe"

-- what helps, for two of the rules
abbrev pub help : PortRule → Option (List ℕ)
help rules.Form = Some (codes "a line is `show R`, `peek F`, `load F`, `probe P at k`, `next P at k` or `commit`")
help rules.NoStage = Some (codes "a pipe is held from the stage after its put to the last stage that uses it")
help _ = None

abbrev pub help_line : ℕ → Option (List ℕ) → List ℕ
help_line number None = []
help_line number (Some text) = help_text number text

-- THE FACTS after the head: the sentence, the line of the place with a mark under the token there, and what helps.
pub record AreFacts (text : List ℕ) (refusal : PortRefusal) (facts : List ℕ) : Type 0 where
  pub excerpt : Excerpt
  pub shows : IsExcerpt excerpt refusal.place.line (line_at text refusal.place.line) (refusal.place.col - 1) (token_length (from_place text refusal.place))
  pub is : facts ≡ sentence refusal.rule ++ (codes "\n" ++ (excerpt_text excerpt ++ help_line refusal.place.line (help refusal.rule)))

-- THE MESSAGE on a line that violates a rule.
pub record IsMessage (file text : List ℕ) (refusal : PortRefusal) (said : List ℕ) : Type 0 where
  pub facts : List ℕ
  pub are : AreFacts text refusal facts
  pub is : said ≡ port_head file refusal ++ facts

-- What is said where a rule of names or widths is violated (E5 to E14 and E26): the number of the rule, and what helps.
use Rattle.std.specs.Prelude.{ℕ, ◌≡◌, List, [], ◌∷◌, ◌++◌, max, nat_lt, if◌then◌else◌, Option, Some, None, Result, Ok, Err, unwrap_or}
use Rattle.std.specs.List.{list_any}
use Rattle.kp_base.specs.declared.{place.Place.Place, finding.Finding.Finding}
use Rattle.kp_bits.specs.{Literals.fit_of, Word.Word, declared.literal.Literal.Literal, declared.literal.LiteralFault.LiteralFault}
use Rattle.kp_ast.specs.declared.tree.Job.{Job}
use Rattle.kp_width.specs.{Faults.rule_of, declared.fault.WidthFault.WidthFault}
use Rattle.kp_width.specs.declared.fault.WidthFault.TheVariants as faults
use Rattle.kp_view_excerpt.specs.Tokens.{token_at}
use Rattle.kp_view_help.specs.{Helps.IsHelpForWords, declared.help.Help.Help, declared.phrase.Term.Term, declared.phrase.Terms.Terms, declared.word.Word.Word as Spelled}
use Rattle.kp_view_help.specs.declared.help.Help.TheVariants as help
use Rattle.kp_view_help.specs.declared.phrase.Term.TheVariants as term
use Rattle.kp_view_help.specs.declared.phrase.Terms.TheVariants as terms
use Rattle.kp_view_message.specs.{Sites.addresses_at, Sites.literal_at, Names.again_help, Names.kind_help, Names.AreScopeHelps}
use Rattle.kp_view_message.specs.declared.{message.Message.Message, sentence.Sentence.Sentence}
use Rattle.kp_view_message.specs.declared.message.Message.TheVariants as messages

abbrev pub if_fits : Literal → Result Word LiteralFault → Option Help
if_fits l (Ok word) = Some (help.Literal l.width l.value)
if_fits l (Err fault) = None

-- a literal with another width, where its value fits
abbrev pub with_width : Option Literal → ℕ → Option Help
with_width None width = None
with_width (Some l) width = let wide : Literal = record { width = width; value = l.value } in if_fits wide (fit_of wide)

abbrev pub or : Option Help → Option Help → Option Help
or None other = other
or (Some h) other = Some h

-- two values that are to have one width: a literal among them, with the width of the other, and else the wider width
abbrev pub widen : Option Literal × ℕ → Option Literal × ℕ → Help
widen (a, left) (b, right) = unwrap_or (or (with_width b left) (with_width a right)) (help.Extend (max left right))

-- a value that is to have another width: a literal, and else any value
abbrev pub fit : Option Literal → ℕ → ℕ → Help
fit literal found wanted = unwrap_or (with_width literal wanted) (if nat_lt found wanted then help.Extend wanted else help.Cut wanted)

-- two operands at these places, with these widths
abbrev pub widened : List ℕ → Place → ℕ → Place → ℕ → Option Help × Option Help
widened text left_at left right_at right = (Some (widen (literal_at text left_at, left) (literal_at text right_at, right)), None)

-- a value at this place
abbrev pub fitted : List ℕ → Place → ℕ → ℕ → Option Help × Option Help
fitted text at found wanted = (Some (fit (literal_at text at) found wanted), None)

abbrev pub AreNumberHelps : WidthFault → Option Help × Option Help → Type 0
AreNumberHelps (faults.LiteralValue value width) helps = helps ≡ (Some (help.LiteralBits value), None)
AreNumberHelps (faults.DeclaredAddress width) helps = (words : Option Help) × IsHelpForWords width words × (helps ≡ (words, None))
AreNumberHelps _ helps = helps ≡ (None, None)

abbrev pub AreWidthHelps : List ℕ → Place → WidthFault → Option Help × Option Help → Type 0
AreWidthHelps text at (faults.Operands op left right left_at right_at) helps = helps ≡ widened text left_at left right_at right
AreWidthHelps text at (faults.Branches left right left_at right_at) helps = helps ≡ widened text left_at left right_at right
AreWidthHelps text at (faults.Value found wanted to) helps = helps ≡ fitted text at found wanted
AreWidthHelps text at (faults.Start found wanted) helps = helps ≡ (with_width (literal_at text at) wanted, None)
AreWidthHelps text at (faults.Condition found) helps = helps ≡ (Some help.Compare, None)
AreWidthHelps text at fault helps = AreNumberHelps fault helps

-- an address at this place: at that of a result, which is a pipe, another declaration
abbrev pub address_help : List ℕ → Job → Place → Spelled → ℕ → ℕ → Help
address_help text job at name found wanted = if list_any (addresses_at at) job.decls then help.AddressPipe name wanted else fit (literal_at text at) found wanted

-- with the name at the place
abbrev pub AreNameHelps : List ℕ → Job → Place → Spelled → WidthFault → Option Help × Option Help → Type 0
AreNameHelps text job at name (faults.DeclaredAgain found from here) helps = helps ≡ (again_help found here, None)
AreNameHelps text job at name (faults.NotInScope here bound) helps = AreScopeHelps text name job at here bound helps
AreNameHelps text job at name (faults.WrongKind found from wanted here) helps = helps ≡ (kind_help name found wanted here, None)
AreNameHelps text job at name (faults.Address found wanted file) helps = helps ≡ (Some (address_help text job at name found wanted), None)
AreNameHelps text job at name fault helps = AreWidthHelps text at fault helps

abbrev pub term_bits : Term → List ℕ
term_bits (term.Bits count) = count ∷ []
term_bits _ = []

-- the numbers of bits among the terms of a sentence, in their order
abbrev pub bits_in : Terms → List ℕ
bits_in terms.None = []
bits_in (terms.One a) = term_bits a
bits_in (terms.Two a b) = term_bits a ++ term_bits b
bits_in (terms.Three a b c) = term_bits a ++ (term_bits b ++ term_bits c)
bits_in (terms.Four a b c d) = term_bits a ++ (term_bits b ++ (term_bits c ++ term_bits d))
bits_in (terms.Five a b c d e) = term_bits a ++ (term_bits b ++ (term_bits c ++ (term_bits d ++ term_bits e)))

-- the widths among the facts of a finding, in this order: of numbers in the text,
abbrev pub number_widths : WidthFault → List ℕ
number_widths (faults.Slice hi lo width) = if nat_lt hi lo then [] else width ∷ []
number_widths (faults.Extension from to) = from ∷ to ∷ []
number_widths (faults.LiteralValue value width) = width ∷ []
number_widths _ = []

-- of values,
abbrev pub value_widths : WidthFault → List ℕ
value_widths (faults.Operands op left right left_at right_at) = left ∷ right ∷ []
value_widths (faults.Branches left right left_at right_at) = left ∷ right ∷ []
value_widths (faults.Value found wanted to) = found ∷ wanted ∷ []
value_widths (faults.Start found wanted) = found ∷ wanted ∷ []
value_widths (faults.Condition found) = found ∷ []
value_widths fault = number_widths fault

-- and of names
abbrev pub widths_in : WidthFault → List ℕ
widths_in (faults.Target result target kind from) = result ∷ target ∷ []
widths_in (faults.Enable found from) = found ∷ []
widths_in (faults.Address found wanted file) = found ∷ wanted ∷ []
widths_in fault = value_widths fault

-- The message for a finding in a text with this tree: the number of its rule; the numbers of bits that it prints are the widths of the finding; and what helps.
abbrev pub IsWidthMessage : List ℕ → Job → Finding WidthFault → Message → Type 0
IsWidthMessage text job f m =
    (said : Sentence) × (m ≡ messages.Rule (rule_of f.fault) said) × (bits_in said.terms ≡ widths_in f.fault)
    × ((name : Spelled) × (name.0.now ≡ token_at text f.place) × AreNameHelps text job f.place name f.fault said.helps)

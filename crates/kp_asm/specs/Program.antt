-- The contents of a program, line by line, and the words that it denotes.
use Rattle.std.specs.Prelude.{ℕ, ◌+◌, ◌*◌, ◌==◌, nat_lt, nat_eq, List, [], ◌∷◌, ◌++◌, Bool, true, false, if◌then◌else◌, Option, Some, None, is_some, option_map, unwrap_or, slice_get, Result, Ok, Err}
use Rattle.std.specs.{Map.lookup, Cmp.Lexicographic.pointwise}
use Rattle.kp_base.specs.{Check.after, Check.bind, Check.unless, declared.refusal.Refusal.Refusal}
use Rattle.kp_asm.specs.{Faults.ProgramFinding, Faults.broken, Faults.place_in, Faults.refusal_of, Tokens.bytes_of, Tokens.tokens_of, Mnemonics.mnemonic_of, Mnemonics.misnamed, Mnemonics.broken_operand, Words.word_of}
use Rattle.kp_asm.specs.declared.{fault.ProgramFault.ProgramFault, token.Token.Token, token.TokenKind.TokenKind, mnemonic.Mnemonic.Mnemonic, item.Label.Label, item.Instruction.Instruction}
use Rattle.kp_asm.specs.declared.item.Item.{Item}
use Rattle.kp_asm.specs.declared.token.TokenKind.TheVariants as kinds
use Rattle.kp_asm.specs.declared.mnemonic.Mnemonic.TheVariants as mnemonics
use Rattle.kp_asm.specs.declared.item.Item.TheVariants as items
use Rattle.kp_asm.specs.declared.fault.ProgramFault.TheVariants as faults

-- the token ends a line
abbrev pub is_line_end : TokenKind → Bool
is_line_end kinds.LineEnd = true
is_line_end _ = false

-- one more token before the first line
abbrev pub prepend : Token → List (List Token) → List (List Token)
prepend t [] = (t ∷ []) ∷ []
prepend t (line ∷ lines) = (t ∷ line) ∷ lines

-- the lines, each with its end
abbrev pub lines_of : List Token → List (List Token)
lines_of [] = []
lines_of (t ∷ ts) = if is_line_end t.kind then (t ∷ []) ∷ lines_of ts else prepend t (lines_of ts)

-- The lines so far: labels and instructions in text order, and the number of instructions
pub record Listing : Type 0 where
  pub items : List Item
  pub count : ℕ

-- the label denotes the address of the next word
abbrev pub with_label : Listing → Token → Listing
with_label p name = record { items = p.items ++ items.Label (record { name = name; address = 4 * p.count }) ∷ []; count = p.count }

-- Word i is at address 4i.
abbrev pub with_instruction : Listing → Mnemonic → Token → List Token → Listing
with_instruction p m t operands = record {
  items = p.items ++ items.Instruction (record {
    mnemonic = m;
    first = unwrap_or (slice_get operands 0) t;
    second = unwrap_or (slice_get operands 2) t;
    third = unwrap_or (slice_get operands 4) t;
    address = 4 * p.count;
  }) ∷ [];
  count = p.count + 1;
}

-- A7: there are at most 1,024 words
abbrev pub with_room : List ℕ → Listing → Token → Listing → Result Listing ProgramFinding
with_room text p t next = unless (nat_lt p.count 1024) (broken text faults.TooMany t.start) (Ok next)

-- A2, then the rules of the operands, then A7
abbrev pub mnemonic_read : List ℕ → Listing → Token → List Token → Option Mnemonic → Result Listing ProgramFinding
mnemonic_read text p t operands None = Err (broken text (misnamed t.kind (bytes_of text t) operands) t.start)
mnemonic_read text p t operands (Some m) =
    after (broken_operand text m operands) (with_room text p t (with_instruction p m t operands))

-- at most one instruction
abbrev pub instruction_read : List ℕ → Listing → List Token → Result Listing ProgramFinding
instruction_read text p [] = Ok p
instruction_read text p (t ∷ operands) =
    if is_line_end t.kind then Ok p else mnemonic_read text p t operands (mnemonic_of (bytes_of text t))

-- a name and a `:`
abbrev pub declares : TokenKind → TokenKind → Bool
declares kinds.Name kinds.Colon = true
declares a b = false

-- at most one label, and then at most one instruction
abbrev pub line_read : List ℕ → Listing → List Token → Result Listing ProgramFinding
line_read text p (a ∷ b ∷ rest) =
    if declares a.kind b.kind then instruction_read text (with_label p a) rest else instruction_read text p (a ∷ b ∷ rest)
line_read text p line = instruction_read text p line

-- the lines in order
abbrev pub lines_read : List ℕ → Listing → List (List Token) → Result Listing ProgramFinding
lines_read text p [] = Ok p
lines_read text p (line ∷ lines) = bind (line_read text p line) (λ next. lines_read text next lines)

-- the first declarations of labels, by their names
abbrev pub Labels : Type 0
Labels = List (List ℕ × Label)

abbrev pub declared : Labels → List ℕ → Option Label
declared labels name = lookup (pointwise nat_eq name) labels

-- one more declaration, unless its name is declared already
abbrev pub with_declared : Labels → List ℕ → Label → Labels
with_declared labels name label = if is_some (declared labels name) then labels else labels ++ (name, label) ∷ []

-- only a label declares something
abbrev pub with_item : List ℕ → Labels → Item → Labels
with_item text labels (items.Label label) = with_declared labels (bytes_of text label.name) label
with_item text labels (items.Instruction instruction) = labels

-- the items in order
abbrev pub labels_from : List ℕ → Labels → List Item → Labels
labels_from text labels [] = labels
labels_from text labels (item ∷ more) = labels_from text (with_item text labels item) more

-- the operand that is the name of a label
abbrev pub label_among : Mnemonic → Token → Token → Option Token
label_among mnemonics.Beqz first second = Some second
label_among mnemonics.Bnez first second = Some second
label_among mnemonics.J first second = Some first
label_among mnemonics.Jal first second = Some first
label_among _ first second = None

abbrev pub used_label : Instruction → Option Token
used_label i = label_among i.mnemonic i.first i.second

-- A6: a used label is declared
abbrev pub address_of : List ℕ → Token → Option Label → Result ℕ ProgramFinding
address_of text t (Some label) = Ok label.address
address_of text t None = Err (broken text faults.LabelNowhere t.start)

-- the address of the label that is used, or 0 if none is
abbrev pub target_of : List ℕ → Labels → Option Token → Result ℕ ProgramFinding
target_of text labels None = Ok 0
target_of text labels (Some t) = address_of text t (declared labels (bytes_of text t))

-- the word of an instruction whose label is at this address
abbrev pub word_at : List ℕ → Instruction → ℕ → ℕ
word_at text i target =
    word_of i.mnemonic (bytes_of text i.first) (bytes_of text i.second) (bytes_of text i.third) target i.address

-- A6: a declaration at this offset is the first one of its name
abbrev pub repeated : List ℕ → ℕ → Option Label → Option ProgramFault
repeated text start (Some first) = if first.name.start == start then None else Some (faults.LabelAgain (place_in text first.name.start))
repeated text start None = Some faults.LabelNowhere

-- the words so far, and that of one more item
abbrev pub item_read : List ℕ → Labels → List ℕ → Item → Result (List ℕ) ProgramFinding
item_read text labels words (items.Label label) =
    after (option_map (λ fault. broken text fault label.name.start) (repeated text label.name.start (declared labels (bytes_of text label.name)))) (Ok words)
item_read text labels words (items.Instruction i) =
    bind (target_of text labels (used_label i)) (λ target. Ok (words ++ word_at text i target ∷ []))

-- the items in order
abbrev pub words_from : List ℕ → Labels → List ℕ → List Item → Result (List ℕ) ProgramFinding
words_from text labels words [] = Ok words
words_from text labels words (item ∷ more) = bind (item_read text labels words item) (λ next. words_from text labels next more)

-- before the first line
abbrev pub nothing_read : Listing
nothing_read = record { items = []; count = 0 }

-- THE WORDS of a text, or the first violation in it: all tokens are checked first (A1), then the lines in text order (A2 to A5 and A7), and
-- then the labels in text order (A6).
unfoldable pub program_of : List ℕ → Result (List ℕ) ProgramFinding
program_of text =
    bind (tokens_of text) (λ tokens.
    bind (lines_read text nothing_read (lines_of tokens)) (λ listing. words_from text (labels_from text [] listing.items) [] listing.items))

abbrev pub verdict_of : {X : Type 0} → Result X ProgramFinding → Result X Refusal
verdict_of (Ok x) = Ok x
verdict_of (Err finding) = Err (refusal_of finding)

-- the words of a text, or the first rule that it violates
unfoldable pub assembled : List ℕ → Result (List ℕ) Refusal
assembled text = verdict_of (program_of text)

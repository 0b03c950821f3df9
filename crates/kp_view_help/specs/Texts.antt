-- The texts of terms: a word, the token at a place, a kind of names, a number of bits.
use Rattle.std.specs.Prelude.{ℕ, List, ◌++◌, Bool, true, false, ◌&&◌, take, length, nat_lt, ◌==◌, if◌then◌else◌, flat_map, codes, decimal}
use Rattle.std.specs.Char.{encode_utf8}
use Rattle.kp_ast.specs.declared.widths.NameKind.{NameKind}
use Rattle.kp_ast.specs.declared.widths.NameKind.TheVariants as names
use Rattle.kp_view_help.specs.declared.{word.Word.Word, found.FoundToken.FoundToken, kind.Kind.Kind, kind.Wanted.Wanted, phrase.Term.Term}
use Rattle.kp_view_help.specs.declared.found.FoundToken.TheVariants as tokens
use Rattle.kp_view_help.specs.declared.kind.Kind.TheVariants as kinds
use Rattle.kp_view_help.specs.declared.kind.Wanted.TheVariants as wanted
use Rattle.kp_view_help.specs.declared.phrase.Term.TheVariants as term

-- bytes, each as a character; of more than 80 the first 80
abbrev pub shown : List ℕ → List ℕ
shown bytes = if nat_lt 80 (length bytes) then flat_map encode_utf8 (take 80 bytes) ++ codes "..." else flat_map encode_utf8 bytes

abbrev pub word_text : Word → List ℕ
word_text w = shown w.0.now

abbrev pub found_text : FoundToken → List ℕ
found_text (tokens.Keyword w) = codes "the word `" ++ word_text w ++ codes "`"
found_text (tokens.Mark w) = codes "`" ++ word_text w ++ codes "`"
found_text (tokens.Name w) = codes "the name `" ++ word_text w ++ codes "`"
found_text (tokens.Number w) = codes "the number `" ++ word_text w ++ codes "`"
found_text (tokens.Literal w) = codes "the literal `" ++ word_text w ++ codes "`"
found_text tokens.End = codes "the end of the text"

abbrev pub bits_text : ℕ → List ℕ
bits_text count = if count == 1 then codes "1 bit" else decimal count ++ codes " bits"

-- what a name of this kind names
abbrev pub kind_of : NameKind → Kind
kind_of names.Reg = kinds.Register
kind_of (names.File bits) = kinds.File
kind_of names.Pipe = kinds.Pipe
kind_of names.Target = kinds.Output
kind_of names.Hint = kinds.Hint
kind_of names.Sample = kinds.Sample
kind_of names.Func = kinds.Function
kind_of names.Param = kinds.Parameter
kind_of names.Read = kinds.Read
kind_of names.Let = kinds.Local

abbrev pub kind_text : Kind → List ℕ
kind_text kinds.Register = codes "register"
kind_text kinds.File = codes "file"
kind_text kinds.Pipe = codes "pipe"
kind_text kinds.Output = codes "result"
kind_text kinds.Hint = codes "hint"
kind_text kinds.Sample = codes "sample"
kind_text kinds.Function = codes "function"
kind_text kinds.Parameter = codes "parameter"
kind_text kinds.Read = codes "name given by `read`"
kind_text kinds.Local = codes "name given by `let`"

abbrev pub wanted_text : Wanted → List ℕ
wanted_text wanted.Value = codes "a pipe, a sample, or a name of this stage"
wanted_text wanted.Parameter = codes "a parameter of the function"
wanted_text wanted.Register = codes "a register"
wanted_text wanted.File = codes "a file"
wanted_text wanted.Pipe = codes "a pipe"
wanted_text wanted.Output = codes "a result"
wanted_text wanted.Hint = codes "a hint"
wanted_text wanted.Function = codes "a function"

-- a byte that no token begins with: the character, where ASCII prints one, and else its number
abbrev pub byte_text : ℕ → List ℕ
byte_text byte = if nat_lt 32 byte && nat_lt byte 127 then codes "`" ++ encode_utf8 byte ++ codes "`" else codes "the byte " ++ decimal byte

abbrev pub term_text : Term → List ℕ
term_text (term.Number n) = decimal n
term_text (term.Bits count) = bits_text count
term_text (term.Word w) = word_text w
term_text (term.Kind k) = kind_text k
term_text (term.Wanted w) = wanted_text w
term_text (term.Text text) = text.now

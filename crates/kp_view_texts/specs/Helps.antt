-- What helps where a rule of programs or of scripts is violated: for which violations there is a line of help, and what of the violation it prints.
use Rattle.std.specs.Prelude.{◌==◌, ◌||◌, ◌/◌, ◌^◌, ℕ, Bool, nat_le, if◌then◌else◌, List, [], ◌∷◌, Option, Some, None, codes, decimal}
use Rattle.kp_asm.specs.{Mnemonics.form, Mnemonics.spelling, declared.mnemonic.Piece.Piece, declared.fault.ProgramFault.ProgramFault}
use Rattle.kp_debug_script.specs.declared.{command.Verb.Verb, fault.ScriptFault.ScriptFault}
use Rattle.kp_view_help.specs.Texts.{shown}
use Rattle.kp_view_texts.specs.Forms.{form_text}
use Rattle.kp_asm.specs.declared.mnemonic.Piece.TheVariants as pieces
use Rattle.kp_asm.specs.declared.fault.ProgramFault.TheVariants as programs
use Rattle.kp_debug_script.specs.declared.command.Verb.TheVariants as verbs
use Rattle.kp_debug_script.specs.declared.fault.ScriptFault.TheVariants as scripts

-- a number in two halves is advised for one of 16 bits with a sign
abbrev pub range_help : Piece → Option (List (List ℕ))
range_help pieces.Signed = Some []
range_help _ = None

-- THE HELP for a violated rule of programs, by the words that it prints; none where nothing is known to help.
abbrev pub program_help : ProgramFault → List ℕ → Option (List (List ℕ))
program_help (programs.NoToken byte) token = if byte == 35 || byte == 47 then Some [] else None
program_help programs.SecondLabel token = Some []
program_help (programs.WrongOperand mnemonic wanted) token = Some (shown (spelling mnemonic) ∷ form_text (form mnemonic) ∷ [])
program_help (programs.OutOfRange mnemonic wanted) token = range_help wanted
program_help programs.LabelNowhere token = Some (shown token ∷ [])
program_help _ token = None

-- an example of a command
abbrev pub example : Verb → List ℕ
example verbs.Step = codes "step 10"
example verbs.Back = codes "back 10"
example verbs.Until = codes "until X 8'h02 100"
example verbs.Show = codes "show"
example verbs.Row = codes "row"

-- a value has at most this many bits
abbrev pub fits : ℕ → ℕ → Bool
fits value width = nat_le 64 width || value / 2 ^ width == 0

-- THE HELP for a violated rule of scripts: an example of the command, a literal with the width of the register and the same value, or a sentence; none
-- where nothing is known to help.
abbrev pub script_help : ScriptFault → Option (List (List ℕ))
script_help scripts.NoCommand = Some []
script_help (scripts.Words verb) = Some (example verb ∷ [])
script_help (scripts.NoCount verb word) = Some (example verb ∷ [])
script_help (scripts.NoLiteral word) = Some (example verbs.Until ∷ [])
script_help scripts.ManyCycles = Some []
script_help (scripts.Width found wanted value declared) = if fits value wanted then Some (decimal wanted ∷ decimal wanted ∷ decimal value ∷ []) else None
script_help _ = None

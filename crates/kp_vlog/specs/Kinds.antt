-- The front of a text, as the code computes it: `Tokens` with the kind of a token in place of its value, and with the fault where none begins.
use Rattle.std.specs.Prelude.{ℕ, ◌+◌, ◌==◌, nat_lt, List, [], ◌∷◌, length, drop, take, ◌&&◌, if◌then◌else◌, Option, Some, None, Result, Ok, Err}
use Rattle.kp_bits.specs.{Literals.number_of, Literals.literal_of, declared.literal.Literal.Literal, declared.literal.LiteralFault.LiteralFault}
use Rattle.kp_net.specs.Names.{is_in_identifier}
use Rattle.kp_base.specs.Characters.{is_letter, is_digit, run_length}
use Rattle.kp_vlog.specs.declared.{front.Front.Front, token.Keyword.Keyword, token.Mark.Mark, token.VKind.VKind}
use Rattle.kp_vlog.specs.Words.{keyword_of, single_mark, double_mark}
use Rattle.kp_vlog.specs.Tokens.{is_layout, is_in_line, is_in_run, begins_with, to_close}
use Rattle.kp_vlog.specs.declared.front.Front.TheVariants as fronts
use Rattle.kp_vlog.specs.declared.front.TokenFault.TheVariants as faults
use Rattle.kp_vlog.specs.declared.token.VKind.TheVariants as kinds

abbrev pub kind_or_name : Option Keyword → VKind
kind_or_name (Some k) = kinds.Keyword k
kind_or_name None = kinds.Ident

abbrev pub identifier : List ℕ → Front
identifier run = if nat_lt 70 (length run) then fronts.Broken (faults.LongName (length run)) else fronts.Token (kind_or_name (keyword_of run)) (length run)

abbrev pub literal_kind : ℕ → Result Literal LiteralFault → Front
literal_kind len (Ok l) = fronts.Token (kinds.Literal l) len
literal_kind len (Err fault) = fronts.Broken faults.NoNumber

abbrev pub number_kind : List ℕ → Option ℕ → Front
number_kind run (Some n) = fronts.Token (kinds.Number n) (length run)
number_kind run None = literal_kind (length run) (literal_of run)

abbrev pub number_run : List ℕ → Front
number_run run = number_kind run (number_of run)

abbrev pub comment : Option ℕ → Front
comment (Some n) = fronts.Skip (n + 2)
comment None = fronts.Broken faults.OpenComment

abbrev pub mark_kind : ℕ → Option Mark → Front
mark_kind first (Some m) = fronts.Token (kinds.Mark m) 1
mark_kind first None = fronts.Broken (faults.NoToken first)

abbrev pub mark_or_shorter : ℕ → Option Mark → Front
mark_or_shorter first (Some m) = fronts.Token (kinds.Mark m) 2
mark_or_shorter first None = mark_kind first (single_mark first)

abbrev pub mark : ℕ → List ℕ → Front
mark first [] = mark_kind first (single_mark first)
mark first (second ∷ rest) = mark_or_shorter first (double_mark first second)

abbrev pub token : ℕ → List ℕ → Front
token b bs =
    if is_letter b then identifier (take (run_length is_in_identifier (b ∷ bs)) (b ∷ bs))
    else if is_digit b then number_run (take (run_length is_in_run (b ∷ bs)) (b ∷ bs))
    else mark b bs

abbrev pub front_of : List ℕ → Front
front_of [] = fronts.End
front_of (b ∷ bs) =
    if is_layout b then fronts.Skip 1
    else if b == 47 && begins_with 47 bs then fronts.Skip (run_length is_in_line (b ∷ bs))
    else if b == 47 && begins_with 42 bs then comment (to_close (drop 1 bs))
    else token b bs

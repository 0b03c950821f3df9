-- A TEXT WITHOUT ITS COMMENTS, each of which is from two blanks and `//` to the end of its line.
use Rattle.std.specs.Prelude.{ℕ, ◌==◌, ◌&&◌, Bool, true, false, if◌then◌else◌, List, [], ◌∷◌}
use Rattle.kp_core_ports.specs.Core.{is_in_line}

-- `  //`, followed by anything
abbrev pub begins_comment : List ℕ → Bool
begins_comment (a ∷ b ∷ c ∷ d ∷ rest) = a == 32 && b == 32 && c == 47 && d == 47
begins_comment _ = false

-- what is left of a text from a byte in a comment on, or from one outside of comments
abbrev pub left_of : Bool → List ℕ → List ℕ
left_of inside [] = []
left_of true (b ∷ bs) = if is_in_line b then left_of true bs else b ∷ left_of false bs
left_of false (b ∷ bs) = if begins_comment (b ∷ bs) then left_of true bs else b ∷ left_of false bs

abbrev pub without_comments : List ℕ → List ℕ
without_comments text = left_of false text

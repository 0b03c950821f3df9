-- A measure for the termination of the functions of an expression: it decreases from each call that consumes no token to the next.
use Rattle.std.specs.Prelude.{ℕ}
use Rattle.kp_parse_grammar.specs.declared.level.Level.{Level}
use Rattle.kp_parse_grammar.specs.declared.level.Level.TheVariants as levels

-- twice the number of levels with higher precedence, plus three
abbrev pub rank : Level → ℕ
rank levels.Or = 15
rank levels.Xor = 13
rank levels.And = 11
rank levels.Compare = 9
rank levels.Shift = 7
rank levels.Sum = 5
rank levels.Product = 3

-- The classes of tokens with which a list of symbols begins, by the first sets of the names.
use Rattle.std.specs.Prelude.{ℕ, List, [], ◌∷◌, Bool, false, ◌==◌, ◌||◌, ◌&&◌}
use Rattle.kp_grammar.specs.{Grammar.Symbol, Grammar.Terminal, Grammar.Nonterminal, Grammar.Action, Tables.Tables, Tables.among, Tables.first_of, Tables.empty_of}

-- whether the class is a first one of a list with this first symbol, where `others` says whether it is one of the others
abbrev pub begins_with : {W B : Type 0} → Tables → Symbol W B → ℕ → Bool → Bool
begins_with t (Terminal d way) c others = c == d
begins_with t (Nonterminal n) c others = among c (first_of t n) || (empty_of t n && others)
begins_with t (Action a) c others = others

abbrev pub starts : {W B : Type 0} → Tables → List (Symbol W B) → ℕ → Bool
starts t [] c = false
starts t (x ∷ s) c = begins_with t x c (starts t s c)

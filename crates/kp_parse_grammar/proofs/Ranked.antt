-- Before a token is read, each name of the language leads to names of lower rank alone.
use Rattle.std.proofs.Common.{ℕ, ◌≡◌, ◌==◌, List, [], ◌∷◌, true, cond, refl}
use Rattle.kp_grammar.specs.Ranks.{ranks_fit}
use Rattle.kp_parse_grammar.specs.declared.level.Level.TheVariants as levels
use Rattle.kp_parse_grammar.specs.Language.{rules, DECLS, STAGES, STMTS, WHOLE, WORDS, SPANS, ENTRIES, EXPR, EXPRS, UNARY, POST, CHAIN}
use Rattle.kp_parse_grammar.specs.Follow.{tables}

abbrev among_ranks : List (ℕ × ℕ) → ℕ → ℕ
among_ranks [] n = 0
among_ranks (r ∷ rs) n = cond (r.0 == n) r.1 (among_ranks rs n)

-- a list is above what it is a list of, and an expression above the operands of its loosest level, and so on
abbrev pub rank : ℕ → ℕ
rank = among_ranks (
    (POST, 1) ∷ (UNARY, 2) ∷ (CHAIN levels.Product, 3) ∷ (CHAIN levels.Sum, 4) ∷ (CHAIN levels.Shift, 5) ∷ (CHAIN levels.Compare, 6) ∷ (CHAIN levels.And, 7)
    ∷ (CHAIN levels.Xor, 8) ∷ (CHAIN levels.Or, 9) ∷ (EXPR, 10) ∷ (EXPRS, 11) ∷ (WHOLE, 11) ∷ (DECLS, 1) ∷ (STAGES, 1) ∷ (STMTS, 1) ∷ (WORDS, 1) ∷ (SPANS, 1) ∷ (ENTRIES, 1) ∷ []
    )

pub is_ranked : ranks_fit tables rank rules ≡ true
is_ranked = refl

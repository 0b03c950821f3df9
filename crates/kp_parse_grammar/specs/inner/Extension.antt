-- `zext` and `sext`.
use Rattle.std.specs.Prelude.{ℕ, ◌≡◌, ◌==◌, true, false}
use Rattle.kp_ast.specs.declared.tree.{Expr.Expr, ExprKind.ExprKind, Num.Num}
use Rattle.kp_ast.specs.declared.tree.ExprKind.TheViews as expressions
use Rattle.kp_lex.specs.declared.token.Keyword.{Keyword}
use Rattle.kp_parse_grammar.specs.Tokens.{IDENTIFIER, LITERAL, keyword_class, mark_class}
use Rattle.kp_parse_grammar.specs.Language.{Step, make_zext, make_sext}
use Rattle.kp_lex.specs.declared.token.Keyword.TheVariants as keywords
use Rattle.kp_lex.specs.declared.token.Mark.TheVariants as marks

-- what the keyword builds
abbrev pub extension_of : Keyword → Expr → Num → ExprKind
extension_of keywords.Zext e w = expressions.Zext e w
extension_of _ e w = expressions.Sext e w

abbrev pub extending : Keyword → Step
extending keywords.Zext = make_zext
extending _ = make_sext

-- The class of the next token selects the alternative with `zext`; or it is that of no alternative but the one with `sext`.
abbrev pub ExtendsAt : ℕ → Keyword → Type 0
ExtendsAt c keywords.Zext = true ≡ (c == keyword_class keywords.Zext)
ExtendsAt c keywords.Sext =
    (false ≡ (c == LITERAL)) × (false ≡ (c == IDENTIFIER)) × (false ≡ (c == mark_class marks.OpenParenthesis)) × (false ≡ (c == mark_class marks.OpenBrace))
    × (false ≡ (c == keyword_class keywords.Zext))
ExtendsAt c _ = ⊥

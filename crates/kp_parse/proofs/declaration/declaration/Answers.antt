use Rattle.std.proofs.Common.{ℕ, ◌≡◌, ◌==◌, true, Option, Some, sym, ap, ◌∙◌}
use Rattle.kp_lex.specs.declared.token.{Keyword.Keyword, TokenKind.TokenKind}
use Rattle.kp_parse_grammar.specs.{Tokens.keyword_class, Reading.class_of}
use Rattle.kp_lex.specs.declared.token.Keyword.TheVariants as keywords
use Rattle.kp_lex.specs.declared.token.TokenKind.TheVariants as kinds
use Rattle.kp_parse.proofs.declaration.declaration.Goals as goal

-- the class of the keyword that was found
is_result : (n : ℕ) (o : Option TokenKind) (kind : TokenKind) (word : Keyword) → class_of o ≡ n → o ≡ Some kind → kind ≡ kinds.Keyword word → word ≡ keywords.Result
    → true ≡ (n == keyword_class keywords.Result)
is_result n o kind word e p q r =
    let class : class_of o ≡ 16 = ap class_of (p ∙ ap (λ (k : TokenKind). Some k) (q ∙ ap (λ (w : Keyword). kinds.Keyword w) r)) in
    ap (λ (m : ℕ). m == 16) (sym (sym e ∙ class))

pub target-requires : goal.target-requires
target-requires c =
    let k = c.in-Some-Keyword-Result in is_result _ _ _ _ c.kind.ensures k.is k.field-0-is k.field-0-0-is

use Rattle.std.proofs.Common.{ℕ, ◌≡◌, Bool, true, false, ◌||◌, ◌==◌, refl, sym, ◌∙◌}
use Rattle.kp_grammar.specs.Tables.{among}
use Rattle.kp_lex.specs.declared.token.Keyword.TheVariants as keywords
use Rattle.kp_parse_grammar.specs.{Tokens.keyword_class, Follow.decl_words, Reading.class_at}
use Rattle.kp_parse.proofs.declaration.begins_declaration.Goals as goal

-- the fourth of seven tests
fourth : (a b d e f g h : Bool) → a ≡ false → b ≡ false → d ≡ false → e ≡ true → true ≡ (a || (b || (d || (e || (f || (g || (h || false)))))))
fourth a b d e f g h ha hb hd he = rw (ha, hb, hd, he) refl

is_result : (c : ℕ) → (c == keyword_class keywords.Reg) ≡ false → (c == keyword_class keywords.File) ≡ false → (c == keyword_class keywords.Pipe) ≡ false
    → (c == keyword_class keywords.Result) ≡ true → true ≡ among c decl_words
is_result c =
    fourth (c == keyword_class keywords.Reg) (c == keyword_class keywords.File) (c == keyword_class keywords.Pipe) (c == keyword_class keywords.Result)
    (c == keyword_class keywords.Hint) (c == keyword_class keywords.Sample) (c == keyword_class keywords.Fn)

pub returns-then-is_keyword-4 : goal.returns-then-is_keyword-4
returns-then-is_keyword-4 c =
    is_result (class_at c.args.tokens.now c.args.at) (sym c.is_keyword.ensures ∙ c.if-is_keyword.false) (sym c.is_keyword-2.ensures ∙ c.if-is_keyword-2.false)
    (sym c.is_keyword-3.ensures ∙ c.if-is_keyword-3.false) (sym c.is_keyword-4.ensures ∙ c.if-is_keyword-4.true)

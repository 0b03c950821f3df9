-- The parts of alternatives that are read by functions of their own.
use Rattle.std.specs.Prelude.{List, [], ◌∷◌}
use Rattle.kp_grammar.specs.Grammar.{Nonterminal, Action}
use Rattle.kp_lex.specs.declared.token.{Keyword.Keyword, Mark.Mark}
use Rattle.kp_parse_grammar.specs.Language.{Sym, word, mark, no_decls, no_blocks, one_block, no_params, one_param, no_literals, one_literal, NAME, NUM, LIT, DECLS, STAGE, STAGES, IMAGE, STALLS, INPUTS, PAR, PARS, WHOLE, BINDING, ADDRESS, HEDGE, LITS, STEP}
use Rattle.kp_lex.specs.declared.token.Keyword.TheVariants as keywords
use Rattle.kp_lex.specs.declared.token.Mark.TheVariants as marks

-- a name, a number or an expression, and a punctuator
abbrev pub named_symbols : Mark → List Sym
named_symbols m = NAME ∷ mark m ∷ []

abbrev pub numbered_symbols : Mark → List Sym
numbered_symbols m = NUM ∷ mark m ∷ []

abbrev pub whole_symbols : Mark → List Sym
whole_symbols m = Nonterminal WHOLE ∷ mark m ∷ []

-- `keyword number;`
abbrev pub setting_symbols : Keyword → List Sym
setting_symbols k = word k ∷ NUM ∷ mark marks.Semicolon ∷ []

-- `machine name;`
abbrev pub title_symbols : List Sym
title_symbols = word keywords.Machine ∷ NAME ∷ mark marks.Semicolon ∷ []

-- the declarations and the stages
abbrev pub part_symbols : List Sym
part_symbols = Action no_decls ∷ Nonterminal DECLS ∷ Action no_blocks ∷ Nonterminal STAGE ∷ Action one_block ∷ Nonterminal STAGES ∷ []

-- the sections, and `end`
abbrev pub section_symbols : List Sym
section_symbols = Nonterminal IMAGE ∷ Nonterminal STALLS ∷ Nonterminal INPUTS ∷ word keywords.End ∷ []

-- `(name : width, ..)`
abbrev pub signature_symbols : List Sym
signature_symbols = mark marks.OpenParenthesis ∷ Action no_params ∷ Nonterminal PAR ∷ Action one_param ∷ Nonterminal PARS ∷ mark marks.CloseParenthesis ∷ []

-- `: width = body;`
abbrev pub definition_symbols : List Sym
definition_symbols = mark marks.Colon ∷ NUM ∷ mark marks.Equals ∷ Nonterminal WHOLE ∷ mark marks.Semicolon ∷ []

-- `= start;`
abbrev pub start_symbols : List Sym
start_symbols = mark marks.Equals ∷ LIT ∷ mark marks.Semicolon ∷ []

-- `target[address] when condition;`
abbrev pub source_symbols : List Sym
source_symbols = NAME ∷ Nonterminal ADDRESS ∷ Nonterminal HEDGE ∷ mark marks.Semicolon ∷ []

-- `name = value;`
abbrev pub bound_symbols : List Sym
bound_symbols = Nonterminal BINDING ∷ mark marks.Semicolon ∷ []

-- `= value, value;`
abbrev pub value_symbols : List Sym
value_symbols = mark marks.Equals ∷ Action no_literals ∷ LIT ∷ Action one_literal ∷ Nonterminal LITS ∷ mark marks.Semicolon ∷ []

-- `from a to b step p;`
abbrev pub cycle_symbols : List Sym
cycle_symbols = word keywords.From ∷ NUM ∷ word keywords.To ∷ NUM ∷ Nonterminal STEP ∷ mark marks.Semicolon ∷ []

-- Operators of a level.
use Rattle.std.proofs.Common.{ℕ, ◌≡◌, ◌==◌, ◌<◌, ◌+◌, List, [], ◌∷◌, ◌++◌, drop, Bool, true, false, ◌||◌, cond, Option, Some, None, refl, sym, ap, ◌∙◌, subst, arith, Result, Ok, Err, MatchResult}
use Rattle.kp_base.specs.declared.place.Place.{Place}
use Rattle.kp_grammar.specs.{Grammar.Nonterminal, Grammar.Action, Tables.pick, Machine.Outcome, Machine.goes, Machine.make}
use Rattle.kp_bits.specs.declared.operator.BinOp.{BinOp}
use Rattle.kp_lex.specs.declared.token.Mark.{Mark}
use Rattle.kp_parse_grammar.specs.Language.{Sym, State, Value, at, rules, counted, make_binary, expr, CHAIN, OPERAND, MORE, UNARY, POST}
use Rattle.kp_parse_grammar.specs.{declared.level.Level.Level, declared.fault.Fault.Fault, Tokens.Lexeme, Tokens.mark_class}
use Rattle.kp_parse_grammar.specs.{inner.Operators.operators_of, inner.Operators.operator_at, inner.Operators.HasOperator, Follow.tables}
use Rattle.kp_parse_grammar.specs.Reading.{Goes, class_at, Reads, Fails, ReadsYet}
use Rattle.kp_parse_grammar.proofs.{Steps.passed, Steps.by_counted, Steps.one, Picks.other}
use Rattle.kp_parse_grammar.specs.declared.level.Level.TheVariants as levels
use Rattle.kp_ast.specs.declared.tree.Expr.{Expr}
use Rattle.kp_ast.specs.declared.tree.ExprKind.TheViews as expressions
use Rattle.kp_lex.specs.declared.token.Mark.TheVariants as marks

-- the symbols after the right operand
abbrev pub behind : Level → List Sym
behind levels.Compare = []
behind l = Nonterminal (MORE l) ∷ []

abbrev operation_of : Level → Mark × BinOp → List Sym
operation_of l p = counted p.0 ∷ Nonterminal (OPERAND l) ∷ Action (make_binary p.1) ∷ behind l

-- the alternative that an operator selects, and the empty one without an operator
abbrev body_of : (Mark × BinOp → List Sym) → Option (Mark × BinOp) → List Sym
body_of f None = []
body_of f (Some p) = f p

abbrev bodies : (Mark × BinOp → List Sym) → List (Mark × BinOp) → ℕ → Option (List Sym)
bodies f [] k = Some []
bodies f (p ∷ ps) k = cond ((k == mark_class p.0) || false) (Some (f p)) (bodies f ps k)

selected : (f : Mark × BinOp → List Sym) (ps : List (Mark × BinOp)) (k : ℕ) → bodies f ps k ≡ Some (body_of f (operator_at k ps))
selected f [] k = refl
selected f (p ∷ ps) k = by (k == mark_class p.0) (selected f ps k)
  where
    by : (b : Bool) → bodies f ps k ≡ Some (body_of f (operator_at k ps)) → cond (b || false) (Some (f p)) (bodies f ps k) ≡ Some (body_of f (cond b (Some p) (operator_at k ps)))
    by true e = refl
    by false e = e

more_body : (l : Level) (k : ℕ) → pick rules tables (MORE l) k ≡ Some (body_of (operation_of l) (operator_at k (operators_of l)))
more_body levels.Or k = selected (operation_of levels.Or) (operators_of levels.Or) k
more_body l k = selected (operation_of l) (operators_of l) k

chain_body : (l : Level) (k : ℕ) → pick rules tables (CHAIN l) k ≡ Some (Nonterminal (OPERAND l) ∷ Nonterminal (MORE l) ∷ [])
chain_body levels.Or k = refl
chain_body _ k = refl

pub loops : (l : Level) → (l ≡ levels.Compare → ⊥) → behind l ≡ Nonterminal (MORE l) ∷ []
loops levels.Compare h = absurd (h refl)
loops _ h = refl

module _ {s : List Sym} {v : State} {o : Outcome State} (ts : List Lexeme) (i : ℕ) (l : Level) where
  pub chain_start : Goes (Nonterminal (OPERAND l) ∷ Nonterminal (MORE l) ∷ s) v (drop i ts) o → Goes (Nonterminal (CHAIN l) ∷ s) v (drop i ts) o
  chain_start h = goes (Nonterminal (OPERAND l) ∷ Nonterminal (MORE l) ∷ []) (chain_body l (class_at ts i)) h

  pub more_start : {op : BinOp} {p : Place} {j : ℕ} (f : HasOperator ts l op p i j)
      → Goes (counted f.mark ∷ Nonterminal (OPERAND l) ∷ Action (make_binary op) ∷ (behind l ++ s)) v (drop i ts) o → Goes (Nonterminal (MORE l) ∷ s) v (drop i ts) o
  more_start {op} f h = goes (operation_of l (f.mark, op)) (more_body l (class_at ts i) ∙ ap (λ (o : Option (Mark × BinOp)). Some (body_of (operation_of l) o)) f.operator) h

  pub more_none : operator_at (class_at ts i) (operators_of l) ≡ None → Goes s v (drop i ts) o → Goes (Nonterminal (MORE l) ∷ s) v (drop i ts) o
  more_none e h = goes [] (more_body l (class_at ts i) ∙ ap (λ (o : Option (Mark × BinOp)). Some (body_of (operation_of l) o)) e) h

-- one more operator of a level
operator_step : {ts : List Lexeme} (l : Level) {x y : Expr} {op : BinOp} {p : Place} {c b d e i j k n : ℕ}
    → ReadsYet ts (CHAIN l) c (MORE l) (expr x ∷ []) b i j → HasOperator ts l op p j k → (b < 64) × (d ≡ b + 1)
    → Reads ts (OPERAND l) d (expr y ∷ []) e k n
    → (s : List Sym) (cs : List ℕ) (vs : List Value) (o : Outcome State)
    → Goes (behind l ++ s) (at (e ∷ cs) (expr (record { place = p; kind = expressions.Binary op x y }) ∷ vs)) (drop n ts) o → Goes (Nonterminal (CHAIN l) ∷ s) (at (c ∷ cs) vs) (drop i ts) o
operator_step {ts} l {op = op} {j = j} i f g r s cs vs o h = i.leads s cs vs o (more_start ts j l f (by_counted f.finds g (r.leads _ _ _ _ (make h))))

pub operators_go_on : {ts : List Lexeme} (l : Level) {x y : Expr} {op : BinOp} {p : Place} {c b d e i j k n : ℕ} → (l ≡ levels.Compare → ⊥)
    → ReadsYet ts (CHAIN l) c (MORE l) (expr x ∷ []) b i j → HasOperator ts l op p j k → (b < 64) × (d ≡ b + 1)
    → Reads ts (OPERAND l) d (expr y ∷ []) e k n → ReadsYet ts (CHAIN l) c (MORE l) (expr (record { place = p; kind = expressions.Binary op x y }) ∷ []) e i n
operators_go_on {ts} l {x} {y} {op} {p} {e = e} {n = n} z i f g r = record {
  leads = λ s cs vs o h. operator_step l i f g r s cs vs o
      (subst (λ (b : List Sym). Goes (b ++ s) (at (e ∷ cs) (expr (record { place = p; kind = expressions.Binary op x y }) ∷ vs)) (drop n ts) o) (sym (loops l z)) h);
  grows = omega (arith, i.grows, r.grows, g.1);
  limit = r.limit;
  shrinks = omega (arith, i.shrinks, r.shrinks, one f.finds);
}

pub compare_ends : {ts : List Lexeme} (l : Level) {x y : Expr} {op : BinOp} {p : Place} {c b d e i j k n : ℕ} → l ≡ levels.Compare
    → ReadsYet ts (CHAIN l) c (MORE l) (expr x ∷ []) b i j → HasOperator ts l op p j k → (b < 64) × (d ≡ b + 1)
    → Reads ts (OPERAND l) d (expr y ∷ []) e k n → Reads ts (CHAIN l) c (expr (record { place = p; kind = expressions.Binary op x y }) ∷ []) e i n
compare_ends {ts} l {x} {y} {op} {p} {e = e} {n = n} z i f g r = record {
  leads = λ s cs vs o h. operator_step l i f g r s cs vs o
      (subst (λ (b : List Sym). Goes (b ++ s) (at (e ∷ cs) (expr (record { place = p; kind = expressions.Binary op x y }) ∷ vs)) (drop n ts) o) (sym (ap behind z)) h);
  grows = omega (arith, i.grows, r.grows, g.1);
  limit = r.limit;
  shrinks = omega (arith, i.shrinks, r.shrinks, one f.finds);
}

-- without a `~` an operand is read with its slices
pub post_reads : (ts : List Lexeme) (c i : ℕ) → false ≡ (class_at ts i == mark_class marks.Tilde) → (r : Result (Expr × ℕ × ℕ) Fault)
    → MatchResult r (λ x. Reads ts POST c (expr x.0 ∷ []) x.1 i x.2) (Fails ts POST c i) → MatchResult r (λ x. Reads ts UNARY c (expr x.0 ∷ []) x.1 i x.2) (Fails ts UNARY c i)
post_reads ts c i z (Ok x) h = record { leads = λ s cs vs o g. goes _ (other _ _ _ _ z refl) (h.leads _ _ _ _ g); grows = h.grows; limit = h.limit; shrinks = h.shrinks }
post_reads ts c i z (Err e) h = passed h (λ o g s cs vs. goes _ (other _ _ _ _ z refl) (g _ _ _))

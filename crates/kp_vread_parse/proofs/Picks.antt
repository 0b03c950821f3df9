-- What the machine does at a name, as the next token determines.
use Rattle.std.proofs.Common.{ℕ, zero, suc, ◌≡◌, ◌==◌, ◌≤◌, ◌-◌, nat_lt, List, [], ◌∷◌, ◌++◌, Bool, true, false, cond, ◌||◌, ◌&&◌, Option, Some, refl, sym, subst, arith}
use Rattle.std.proofs.lemmas.Bool.{eqb-true}
use Rattle.kp_bits.specs.declared.operator.BinOp.{BinOp}
use Rattle.kp_grammar.specs.{Grammar.Nonterminal, Grammar.Action, Tables.pick, Tables.among, Machine.Outcome, Machine.look, Machine.goes}
use Rattle.kp_vlog.specs.Language.{Sym, Value, verilog, mark, ID, mark_class, NAMES, BEHIND, make_binary, make_name, one_name}
use Rattle.kp_vlog.specs.{Words.operator_mark, declared.token.Mark.Mark, Tokens.Token, inner.Follow.tables}
use Rattle.kp_vlog.specs.declared.token.Mark.TheVariants as marks
use Rattle.kp_vread_parse.specs.inner.{Words.operator_classes, Reading.Goes}

pub other : (b : Bool) (x y z : Option (List Sym)) → false ≡ b → y ≡ z → cond (b || false) x y ≡ z
other true x y z h e = cc h
other false x y z h e = e

pub chosen : (b : Bool) (x y : Option (List Sym)) → true ≡ b → cond b x y ≡ x
chosen true x y h = refl
chosen false x y h = cc h

pub unchosen : (b : Bool) (x y : Option (List Sym)) → false ≡ b → cond b x y ≡ y
unchosen true x y h = cc h
unchosen false x y h = refl

at_class : (n c k : ℕ) (body : List Sym) → pick verilog.rules tables n c ≡ Some body → true ≡ (k == c) → pick verilog.rules tables n k ≡ Some body
at_class n c k body p h = subst (λ (d : ℕ). pick verilog.rules tables n d ≡ Some body) (sym (eqb-true k c (sym h))) p

op_body : (op : BinOp) → pick verilog.rules tables BEHIND (mark_class (operator_mark op)) ≡ Some (mark (operator_mark op) ∷ ID ∷ Action (make_binary op) ∷ [])
op_body BinOp.And = refl
op_body _ = refl

no_first : (c d : ℕ) (ds : List ℕ) → among c (d ∷ ds) ≡ false → ((c == d) ≡ false) × (among c ds ≡ false)
no_first c d ds h = split (c == d) (among c ds) h
  where
    split : (a b : Bool) → (a || b) ≡ false → (a ≡ false) × (b ≡ false)
    split true b h = cc h
    split false b h = (refl, h)

no_operator_body : (c : ℕ) → among c operator_classes ≡ false → false ≡ (c == mark_class marks.Question) → false ≡ (c == mark_class marks.OpenBracket)
    → pick verilog.rules tables BEHIND c ≡ Some (Action make_name ∷ [])
no_operator_body c h q b =
    let n1 = no_first c (mark_class marks.Ampersand) (mark_class marks.Bar ∷ mark_class marks.Caret ∷ mark_class marks.Plus ∷ mark_class marks.Minus ∷ mark_class marks.Star ∷ mark_class marks.EqualsEquals ∷ mark_class marks.Less ∷ mark_class marks.ShiftLeft ∷ mark_class marks.ShiftRight ∷ []) h in
    let n2 = no_first c (mark_class marks.Bar) (mark_class marks.Caret ∷ mark_class marks.Plus ∷ mark_class marks.Minus ∷ mark_class marks.Star ∷ mark_class marks.EqualsEquals ∷ mark_class marks.Less ∷ mark_class marks.ShiftLeft ∷ mark_class marks.ShiftRight ∷ []) n1.1 in
    let n3 = no_first c (mark_class marks.Caret) (mark_class marks.Plus ∷ mark_class marks.Minus ∷ mark_class marks.Star ∷ mark_class marks.EqualsEquals ∷ mark_class marks.Less ∷ mark_class marks.ShiftLeft ∷ mark_class marks.ShiftRight ∷ []) n2.1 in
    let n4 = no_first c (mark_class marks.Plus) (mark_class marks.Minus ∷ mark_class marks.Star ∷ mark_class marks.EqualsEquals ∷ mark_class marks.Less ∷ mark_class marks.ShiftLeft ∷ mark_class marks.ShiftRight ∷ []) n3.1 in
    let n5 = no_first c (mark_class marks.Minus) (mark_class marks.Star ∷ mark_class marks.EqualsEquals ∷ mark_class marks.Less ∷ mark_class marks.ShiftLeft ∷ mark_class marks.ShiftRight ∷ []) n4.1 in
    let n6 = no_first c (mark_class marks.Star) (mark_class marks.EqualsEquals ∷ mark_class marks.Less ∷ mark_class marks.ShiftLeft ∷ mark_class marks.ShiftRight ∷ []) n5.1 in
    let n7 = no_first c (mark_class marks.EqualsEquals) (mark_class marks.Less ∷ mark_class marks.ShiftLeft ∷ mark_class marks.ShiftRight ∷ []) n6.1 in
    let n8 = no_first c (mark_class marks.Less) (mark_class marks.ShiftLeft ∷ mark_class marks.ShiftRight ∷ []) n7.1 in
    let n9 = no_first c (mark_class marks.ShiftLeft) (mark_class marks.ShiftRight ∷ []) n8.1 in
    let n10 = no_first c (mark_class marks.ShiftRight) ([]) n9.1 in
    other _ _ _ _ (sym n1.0) (other _ _ _ _ (sym n2.0) (other _ _ _ _ (sym n3.0) (other _ _ _ _ (sym n4.0) (other _ _ _ _ (sym n5.0) (other _ _ _ _ (sym n6.0) (other _ _ _ _ (sym n7.0) (other _ _ _ _ (sym n8.0) (other _ _ _ _ (sym n9.0) (other _ _ _ _ (sym n10.0) (other _ _ _ _ q (other _ _ _ _ b refl)))))))))))

-- the names of a concatenation, of which at most `left` may still follow
some_body : (left c : ℕ) → left ≤ 10 → true ≡ (nat_lt 0 left && (c == mark_class marks.Comma)) → pick verilog.rules tables (NAMES left) c ≡ Some (mark marks.Comma ∷ ID ∷ Action one_name ∷ Nonterminal (NAMES (left - 1)) ∷ [])
some_body (suc (suc (suc (suc (suc (suc (suc (suc (suc (suc (suc n))))))))))) c k h = absurd (omega arith)
some_body zero c k h = cc h
some_body (suc left) c k h = at_class (NAMES (suc left)) _ c _ refl h

none_body : (left c : ℕ) → left ≤ 10 → false ≡ (nat_lt 0 left && (c == mark_class marks.Comma)) → pick verilog.rules tables (NAMES left) c ≡ Some []
none_body (suc (suc (suc (suc (suc (suc (suc (suc (suc (suc (suc n))))))))))) c k h = absurd (omega arith)
none_body zero c k h = refl
none_body (suc left) c k h = other _ _ _ _ h refl

-- the alternative that the token's class selects
pub goes_at : {n : ℕ} {body s : List Sym} {v : List Value} {ts : List Token} {o : Outcome (List Value)} (c : ℕ) → true ≡ (look verilog ts == c)
    → pick verilog.rules tables n c ≡ Some body → Goes (body ++ s) v ts o → Goes (Nonterminal n ∷ s) v ts o
goes_at {n} {body} {ts = ts} c h p l = goes body (at_class n c (look verilog ts) body p h) l

module _ {s : List Sym} {v : List Value} {ts : List Token} {o : Outcome (List Value)} where
  pub behind_op : (m : Mark) (op : BinOp) → m ≡ operator_mark op → look verilog ts ≡ mark_class (operator_mark op) → Goes (mark m ∷ ID ∷ Action (make_binary op) ∷ s) v ts o → Goes (Nonterminal BEHIND ∷ s) v ts o
  behind_op m op e h l = goes (mark (operator_mark op) ∷ ID ∷ Action (make_binary op) ∷ []) (subst (λ (d : ℕ). pick verilog.rules tables BEHIND d ≡ Some (mark (operator_mark op) ∷ ID ∷ Action (make_binary op) ∷ [])) (sym h) (op_body op)) (subst (λ (k : Mark). Goes (mark k ∷ ID ∷ Action (make_binary op) ∷ s) v ts o) e l)

  pub behind_else : among (look verilog ts) operator_classes ≡ false → false ≡ (look verilog ts == mark_class marks.Question) → false ≡ (look verilog ts == mark_class marks.OpenBracket) → Goes (Action make_name ∷ s) v ts o → Goes (Nonterminal BEHIND ∷ s) v ts o
  behind_else h q b l = goes (Action make_name ∷ []) (no_operator_body (look verilog ts) h q b) l

  pub names_some : (left : ℕ) → left ≤ 10 → true ≡ (nat_lt 0 left && (look verilog ts == mark_class marks.Comma)) → Goes (mark marks.Comma ∷ ID ∷ Action one_name ∷ Nonterminal (NAMES (left - 1)) ∷ s) v ts o → Goes (Nonterminal (NAMES left) ∷ s) v ts o
  names_some left k h l = goes (mark marks.Comma ∷ ID ∷ Action one_name ∷ Nonterminal (NAMES (left - 1)) ∷ []) (some_body left (look verilog ts) k h) l

  pub names_none : (left : ℕ) → left ≤ 10 → false ≡ (nat_lt 0 left && (look verilog ts == mark_class marks.Comma)) → Goes s v ts o → Goes (Nonterminal (NAMES left) ∷ s) v ts o
  names_none left k h l = goes [] (none_body left (look verilog ts) k h) l

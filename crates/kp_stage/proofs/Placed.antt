-- The laws of E16 and E17, of E21 and of E25, from the checks.
use Rattle.std.proofs.Common.{◌≡◌, ◌∙◌, ℕ, suc, ◌+◌, ◌<◌, List, [], ◌∷◌, Option, Some, None, Bool, true, false, not, cond, refl, ap, sym, arith}
use Rattle.std.proofs.lemmas.Bool.{and_parts, eqb-true, le-leb, not-true}
use Rattle.std.specs.{Prelude.◌||◌, Prelude.◌==◌, Prelude.nat_le, Prelude.is_some, Prelude.slice_get, Prelude.Contains, List.list_any}
use Rattle.std.specs.Cmp.Lexicographic.{bytes_decides}
use Rattle.kp_base.specs.{First.first, declared.place.Place.Place}
use Rattle.kp_bits.specs.Word.{Word}
use Rattle.kp_ast.specs.{Expressions.Env, Expressions.eval, Expressions.is_same_name, declared.tree.Expr.Expr, declared.tree.Decl.Decl, declared.tree.Stmt.Stmt}
use Rattle.kp_ast.specs.declared.tree.{StmtKind.StmtKind, Block.Block, Job.Job}
use Rattle.kp_ast.specs.declared.tree.Decl.TheVariants as decls
use Rattle.kp_ast.specs.declared.tree.StmtKind.TheVariants as stmts
use Rattle.kp_stage.specs.declared.rules.Rule.{Rule}
use Rattle.kp_stage.specs.Facts.{At, Facts, facts_of, stmts_in, where_same, put_at, puts_in, puts_of, hint_at, hints_of}
use Rattle.kp_stage.specs.{Rules.holds_of, Rules.is_at, Rules.ask_decl, Rules.ask_decls, Rules.ask_stmt, Rules.ask_name, Rules.ask_expr, Stages.broken_of}
use Rattle.kp_stage.specs.Uses.{statement_at, plain_in, exprs_in, uses, puts, sets, aims, is_pipe, declares_pipe, is_hint, declares_hint, IsPutBefore}
use Rattle.kp_stage.proofs.{Unbroken.first_none, Unbroken.answer_none, Unbroken.found_none, Kept.rules_kept, Kept.decls_kept, Kept.stmt_kept}
use Rattle.kp_stage.proofs.Names.{either, name_asked, same_value, plain_asked, exprs_asked, one_asked}
use Rattle.kp_width.proofs.Calls.{by_test, by_option}

-- E16 and E17

-- a statement among these puts the pipe
record PutsAmong (q : List ℕ) (ss : List Stmt) : Type 0 where
  index : ℕ
  stmt : Stmt
  there : slice_get ss index ≡ Some stmt
  puts_it : puts q stmt.kind ≡ true

-- and one among these blocks, from the one of number k on, in this stage
record PutsIn (q : List ℕ) (k : ℕ) (bs : List Block) (stage : ℕ) : Type 0 where
  place : ℕ
  far : stage ≡ k + place
  among : PutsAmong q (stmts_in (slice_get bs place))

put_same : (q n : List ℕ) (at x : At) → where_same q n at ≡ Some x → (x.stage ≡ at.stage) × (is_same_name q n ≡ true)
put_same q n at x e = by_test (is_same_name q n)
    (λ y. let z : Some at ≡ Some x = sym (ap (λ b. cond b (Some at) None) y) ∙ e in let same : at ≡ x = cc in (ap (λ (w : At). w.stage) (sym same), y))
    (λ m. let z : None ≡ Some x = sym (ap (λ b. cond b (Some at) None) m) ∙ e in cc)

put_here : (q : List ℕ) (k j : ℕ) (s : StmtKind) (x : At) → put_at q k j s ≡ Some x → (x.stage ≡ k) × (puts q s ≡ true)
put_here q k j (stmts.Put n e) x is = put_same q n.name (record { stage = k; index = j }) x is
put_here q k j y x is = cc

put_among : (q : List ℕ) (k j : ℕ) (ss : List Stmt) (x : At) → first (puts_in q k j ss) ≡ Some x → (x.stage ≡ k) × PutsAmong q ss
put_among q k j [] x e = cc
put_among q k j (s ∷ ss) x e = by_option (put_at q k j s.kind)
    (λ none.
    let more = put_among q k (j + 1) ss x (sym (ap (λ o. first (o ∷ puts_in q k (j + 1) ss)) none) ∙ e) in
    (more.0, record { index = suc more.1.index; stmt = more.1.stmt; there = more.1.there; puts_it = more.1.puts_it }))
    (λ y here.
    let z : Some y ≡ Some x = sym (ap (λ o. first (o ∷ puts_in q k (j + 1) ss)) here) ∙ e in
    let same : y ≡ x = cc in
    let h = put_here q k j s.kind x (here ∙ ap Some same) in
    (h.0, record { index = 0; stmt = s; there = refl; puts_it = h.1 }))

put_in : (q : List ℕ) (k : ℕ) (bs : List Block) (x : At) → first (puts_of q k bs) ≡ Some x → PutsIn q k bs x.stage
put_in q k [] x e = cc
put_in q k (b ∷ bs) x e = by_option (first (puts_in q k 0 b.stmts))
    (λ none.
    let more = put_in q (k + 1) bs x (sym (ap (λ o. first (o ∷ puts_of q (k + 1) bs)) none) ∙ e) in
    record { place = suc more.place; far = omega (arith, more.far); among = more.among })
    (λ y here.
    let z : Some y ≡ Some x = sym (ap (λ o. first (o ∷ puts_of q (k + 1) bs)) here) ∙ e in
    let same : y ≡ x = cc in
    let h = put_among q k 0 b.stmts x (here ∙ ap Some same) in
    record { place = 0; far = omega (arith, h.0); among = h.1 })

pipe_put : (facts : Facts) (i : ℕ) (d : Decl) (q : List ℕ) → declares_pipe q d ≡ true → ask_decl facts Rule.E16 i d ≡ None → is_some (facts.put q) ≡ true
pipe_put facts i (decls.Pipe n w) q h e =
    let same : q ≡ n.name = (bytes_decides q n.name).0 h in
    ap (λ x. is_some (facts.put x)) same ∙ answer_none (is_some (facts.put n.name)) _ e
pipe_put facts i x q h e = cc

some_pipe_put : (facts : Facts) (i : ℕ) (ds : List Decl) (q : List ℕ) → list_any (declares_pipe q) ds ≡ true → first (ask_decls facts Rule.E16 i ds) ≡ None → is_some (facts.put q) ≡ true
some_pipe_put facts i [] q h e = cc
some_pipe_put facts i (d ∷ ds) q h e =
    let both = first_none (ask_decl facts Rule.E16 i d) (ask_decls facts Rule.E16 (i + 1) ds) e in
    either (declares_pipe q d) (list_any (declares_pipe q) ds) h (λ y. pipe_put facts i d q y both.0) (λ y. some_pipe_put facts (i + 1) ds q y both.1)

not_late : (k : ℕ) (o : Option At) (x : At) → o ≡ Some x → not (holds_of (λ (p : At). nat_le k p.stage) o) ≡ true → nat_le k x.stage ≡ false
not_late k o x is e = not-true (nat_le k x.stage) (sym (ap (λ o. not (holds_of (λ (p : At). nat_le k p.stage) o)) is) ∙ e)

less_where : (k w : ℕ) → nat_le k w ≡ false → w < k
less_where k w e = grind (arith, le-leb)

pub put_before : (job : Job) → broken_of job ≡ None → (k j : ℕ) (s : Stmt) → statement_at job k j ≡ Some s
    → (e : Expr) → Contains (exprs_in s.kind) e → (q : List ℕ) → uses q e ≡ true → is_pipe job q ≡ true → IsPutBefore job q k
put_before job kept k j s there e within q used pipe =
    let facts = facts_of job in
    let rules = rules_kept job kept in
    let asked = one_asked facts Rule.E17 k (exprs_in s.kind) e within (exprs_asked facts Rule.E17 k s.kind (stmt_kept facts job rules Rule.E17 k j s there)) in
    let name = name_asked facts Rule.E17 k q e used asked in
    by_option (facts.put q)
    (λ none. let no : false ≡ true = sym (ap is_some none) ∙ some_pipe_put facts 0 job.decls q pipe (decls_kept facts job rules Rule.E16) in cc)
    (λ x is.
    let early = less_where k x.stage (not_late k (facts.put q) x is (found_none _ _ (facts.put q) name.0 name.1)) in
    let put = put_in q 0 job.blocks x is in
    record {
      stage = put.place;
      index = put.among.index;
      stmt = put.among.stmt;
      stands = put.among.there;
      puts_it = put.among.puts_it;
      earlier = omega (arith, put.far, early);
    })

-- E21

one_number : (o : Option ℕ) (i j : ℕ) → holds_of (λ x. x == i) o ≡ true → holds_of (λ x. x == j) o ≡ true → i ≡ j
one_number None i j e f = cc
one_number (Some x) i j e f = let a = eqb-true x i e in let b = eqb-true x j f in omega (arith, a, b)

one_spot : (o : Option At) (k i l j : ℕ) → holds_of (is_at k i) o ≡ true → holds_of (is_at l j) o ≡ true → (k ≡ l) × (i ≡ j)
one_spot None k i l j e f = cc
one_spot (Some x) k i l j e f =
    let a = and_parts (x.stage == k) (x.index == i) e in
    let b = and_parts (x.stage == l) (x.index == j) f in
    (omega (arith, eqb-true x.stage k a.0, eqb-true x.stage l b.0), omega (arith, eqb-true x.index i a.1, eqb-true x.index j b.1))

set_first : (facts : Facts) (k i : ℕ) (q : List ℕ) (s : StmtKind) → sets q s ≡ true → ask_stmt facts Rule.E21 k i s ≡ None → holds_of (λ x. x == i) (facts.set_in k q) ≡ true
set_first facts k i q (stmts.Set n x when) h e =
    let same : q ≡ n.name = (bytes_decides q n.name).0 h in
    ap (λ y. holds_of (λ x. x == i) (facts.set_in k y)) same ∙ answer_none (holds_of (λ x. x == i) (facts.set_in k n.name)) _ e
set_first facts k i q x h e = cc

aim_first : (facts : Facts) (k i : ℕ) (q : List ℕ) (s : StmtKind) → aims q s ≡ true → ask_stmt facts Rule.E21 k i s ≡ None → holds_of (is_at k i) (facts.aim q) ≡ true
aim_first facts k i q (stmts.Aim n x) h e =
    let same : q ≡ n.name = (bytes_decides q n.name).0 h in
    ap (λ y. holds_of (is_at k i) (facts.aim y)) same ∙ answer_none (holds_of (is_at k i) (facts.aim n.name)) _ e
aim_first facts k i q x h e = cc

pub set_once : (job : Job) → broken_of job ≡ None → (q : List ℕ) (k i j : ℕ) (s t : Stmt)
    → statement_at job k i ≡ Some s → sets q s.kind ≡ true → statement_at job k j ≡ Some t → sets q t.kind ≡ true → i ≡ j
set_once job kept q k i j s t a sets_it b sets_too =
    let facts = facts_of job in
    let asked = stmt_kept facts job (rules_kept job kept) Rule.E21 k in
    one_number (facts.set_in k q) i j (set_first facts k i q s.kind sets_it (asked i s a)) (set_first facts k j q t.kind sets_too (asked j t b))

pub aimed_once : (job : Job) → broken_of job ≡ None → (q : List ℕ) (k i l j : ℕ) (s t : Stmt)
    → statement_at job k i ≡ Some s → aims q s.kind ≡ true → statement_at job l j ≡ Some t → aims q t.kind ≡ true → (k ≡ l) × (i ≡ j)
aimed_once job kept q k i l j s t a aims_it b aims_too =
    let facts = facts_of job in
    let asked = stmt_kept facts job (rules_kept job kept) Rule.E21 in
    one_spot (facts.aim q) k i l j (aim_first facts k i q s.kind aims_it (asked k i s a)) (aim_first facts l j q t.kind aims_too (asked l j t b))

-- E25

some_where : (b : Bool) (i : ℕ) → is_some (cond b (Some i) None) ≡ b
some_where true i = refl
some_where false i = refl

some_first : {X : Type 0} (o : Option X) (os : List (Option X)) → is_some (first (o ∷ os)) ≡ (is_some o || is_some (first os))
some_first None os = refl
some_first (Some x) os = refl

hint_is : (q : List ℕ) (i : ℕ) (d : Decl) → is_some (hint_at q i d) ≡ declares_hint q d
hint_is q i (decls.Hint n w l) = some_where (is_same_name q n.name) i
hint_is q i x = refl

some_hint : (q : List ℕ) (i : ℕ) (ds : List Decl) → is_some (first (hints_of q i ds)) ≡ list_any (declares_hint q) ds
some_hint q i [] = refl
some_hint q i (d ∷ ds) =
    some_first (hint_at q i d) (hints_of q (i + 1) ds)
    ∙ (λ t. hint_is q i d t || some_hint q (i + 1) ds t)

no_hint : (job : Job) (k : ℕ) (q : List ℕ) (at : Place) → ask_name (facts_of job) Rule.E25 k q at ≡ None → is_hint job q ≡ false
no_hint job k q at e =
    sym (some_hint q 0 job.decls) ∙ not-true (is_some (first (hints_of q 0 job.decls))) (answer_none (not (is_some (first (hints_of q 0 job.decls)))) _ e)

module _ (job : Job) (kept : broken_of job ≡ None) (k j : ℕ) (s : Stmt) (there : statement_at job k j ≡ Some s) (e : Expr) (within : Contains (plain_in s.kind) e) where
  asked_plain : ask_expr (facts_of job) Rule.E25 k e ≡ None
  asked_plain = one_asked (facts_of job) Rule.E25 k (plain_in s.kind) e within (plain_asked (facts_of job) Rule.E25 k s.kind (stmt_kept (facts_of job) job (rules_kept job kept) Rule.E25 k j s there))

  pub hints_apart : (q : List ℕ) → uses q e ≡ true → is_hint job q ≡ false
  hints_apart q used = let name = name_asked (facts_of job) Rule.E25 k q e used asked_plain in no_hint job k q name.0 name.1

  pub hints_count_for_nothing : (a b : Env) → ((q : List ℕ) → is_hint job q ≡ false → a.names q ≡ b.names q)
      → ((q : List ℕ) (args : List Word) → a.calls q args ≡ b.calls q args) → eval a e ≡ eval b e
  hints_count_for_nothing a b names calls = same_value a b calls e (λ q used. names q (hints_apart q used))

-- What is noted in tables are the facts of the job.
use Rattle.std.proofs.Common.{◌≡◌, ◌∙◌, ℕ, zero, suc, ◌+◌, List, [], ◌∷◌, ◌++◌, Option, Some, None, true, false, cond, map, append-nil, append_assoc, refl, ap, sym, arith}
use Rattle.std.specs.{Prelude.is_some, Prelude.slice_get, Option.option_or}
use Rattle.std.specs.Cmp.Lexicographic.{bytes_decides, nat_list_eq_equiv}
use Rattle.kp_base.specs.First.{first}
use Rattle.kp_ast.specs.{Expressions.is_same_name, declared.tree.Decl.Decl, declared.tree.Stmt.Stmt, declared.tree.StmtKind.StmtKind, declared.tree.Block.Block}
use Rattle.kp_ast.specs.declared.tree.Job.{Job}
use Rattle.kp_ast.specs.declared.tree.Decl.TheVariants as decls
use Rattle.kp_ast.specs.declared.tree.StmtKind.TheVariants as stmts
use Rattle.kp_stage.specs.declared.facts.Facts as stored
use Rattle.kp_stage.specs.Facts.{At, where_same, put_at, puts_in, puts_of, aim_at, aims_in, aims_of, set_at, sets_in, first_set, hints_of, results_of, sample_at, stage_at, write_at, less, least, largest, facts_of}
use Rattle.kp_stage.specs.inner.Tables.{Entries, look_up, Known, with_value, with_first, less_than, with_less, Named, named, none_named, decl_noted, decls_noted, Given, given, between, stmt_noted, stmts_noted, ended, blocks_noted, table_in, facts_in}
use Rattle.kp_width.proofs.Calls.{by_test}

or_none : {X : Type 0} (o : Option X) → option_or o None ≡ o
or_none None = refl
or_none (Some x) = refl

or_some : {X : Type 0} (o p : Option X) → is_some o ≡ true → o ≡ option_or o p
or_some None p e = cc
or_some (Some x) p e = refl

or_is : {X : Type 0} (o : Option X) (x : X) → is_some o ≡ false → option_or o (Some x) ≡ Some x
or_is None x e = refl
or_is (Some y) x e = cc

-- what was there, then an answer, then the first of others
next : {X : Type 0} (a o : Option X) (os : List (Option X)) → option_or (option_or a o) (first os) ≡ option_or a (first (o ∷ os))
next None None os = refl
next None (Some x) os = refl
next (Some y) o os = refl

less_some : (o : Option ℕ) (w : ℕ) → less o (Some w) ≡ Some (less_than w o)
less_some None w = refl
less_some (Some v) w = refl

less_none : (o : Option ℕ) → less o None ≡ o
less_none None = refl
less_none (Some v) = refl

less_assoc : (a b c : Option ℕ) → less (less a b) c ≡ less a (less b c)
less_assoc None b c = refl
less_assoc (Some a) None c = refl
less_assoc (Some a) (Some b) None = refl
less_assoc (Some a) (Some b) (Some c) = ap Some (omega arith)

module _ {V : Type 0} (f : Known V) (n : List ℕ) where
  -- a value that is stored for one name, which combines the earlier one and a new one
  joined : (v w : V) (g : Option V → Option V → Option V) → ((o : Option V) → g o None ≡ o) → g (f n) (Some w) ≡ Some v → with_value f n v ≡ (λ q. g (f q) (where_same q n w))
  joined v w g none here = λ i q. at q i
    where
      at : (q : List ℕ) → with_value f n v q ≡ g (f q) (where_same q n w)
      at q = by_test (is_same_name q n)
          (λ y.
          ap (λ b. cond b (Some v) (f q)) (nat_list_eq_equiv.symm n q ∙ y)
          ∙ sym here
          ∙ ap (λ x. g (f x) (Some w)) (sym ((bytes_decides q n).0 y))
          ∙ ap (λ b. g (f q) (cond b (Some w) None)) (sym y))
          (λ m. ap (λ b. cond b (Some v) (f q)) (nat_list_eq_equiv.symm n q ∙ m) ∙ sym (none (f q)) ∙ ap (λ b. g (f q) (cond b (Some w) None)) (sym m))

  pub first_is : (v : V) → is_some (f n) ≡ false → with_value f n v ≡ with_first f n v
  first_is v e = joined v v option_or or_none (or_is (f n) v e)

  pub first_stays : (v : V) → is_some (f n) ≡ true → f ≡ with_first f n v
  first_stays v e = λ i q. at q i
    where
      at : (q : List ℕ) → f q ≡ option_or (f q) (where_same q n v)
      at q = by_test (is_same_name q n)
          (λ y. or_some (f q) (where_same q n v) (ap (λ x. is_some (f x)) ((bytes_decides q n).0 y) ∙ e))
          (λ m. sym (or_none (f q)) ∙ ap (λ b. option_or (f q) (cond b (Some v) None)) (sym m))

pub less_is : (f : Known ℕ) (n : List ℕ) (w : ℕ) → with_value f n (less_than w (f n)) ≡ with_less f n w
less_is f n w = joined f n (less_than w (f n)) w less less_none (less_some (f n) w)

-- DECLARATIONS: what was known, and the facts of these declarations
abbrev after_decls : Named → ℕ → List Decl → Named
after_decls n i ds = record {
  hint = λ q. option_or (n.hint q) (first (hints_of q i ds));
  result = λ q. option_or (n.result q) (first (results_of q i ds));
  sample = λ q. option_or (n.sample q) (first (map (sample_at q) ds));
  stage = λ q. option_or (n.stage q) (first (map (stage_at q) ds));
  written = λ q. less (n.written q) (least (map (write_at q) ds));
}

next_decl : (n : Named) (i : ℕ) (d : Decl) (ds : List Decl) → after_decls (decl_noted n i d) (i + 1) ds ≡ after_decls n i (d ∷ ds)
next_decl n i (decls.Hint h w s) ds = λ t. record (after_decls n (i + 1) ds) { hint = λ q. next (n.hint q) (where_same q h.name i) (hints_of q (i + 1) ds) t }
next_decl n i (decls.Sample s w k) ds = λ t. record (after_decls n (i + 1) ds) { sample = λ q. next (n.sample q) (where_same q s.name k.value) (map (sample_at q) ds) t }
next_decl n i (decls.Target r) ds = λ t. record (after_decls n (i + 1) ds) {
  result = λ q. next (n.result q) (where_same q r.target.name i) (results_of q (i + 1) ds) t;
  stage = λ q. next (n.stage q) (where_same q r.name.name r.stage.value) (map (stage_at q) ds) t;
  written = λ q. less_assoc (n.written q) (where_same q r.target.name r.stage.value) (least (map (write_at q) ds)) t;
}
next_decl n i x ds = refl

decls_are : (n : Named) (i : ℕ) (ds : List Decl) → decls_noted n i ds ≡ after_decls n i ds
decls_are n i [] = λ t. record {
  hint = λ q. sym (or_none (n.hint q)) t;
  result = λ q. sym (or_none (n.result q)) t;
  sample = λ q. sym (or_none (n.sample q)) t;
  stage = λ q. sym (or_none (n.stage q)) t;
  written = λ q. sym (less_none (n.written q)) t;
}
decls_are n i (d ∷ ds) = decls_are (decl_noted n i d) (i + 1) ds ∙ next_decl n i d ds

-- STATEMENTS
abbrev after_stmts : Given → ℕ → ℕ → List Stmt → Given
after_stmts g k j ss = record {
  put = λ q. option_or (g.put q) (first (puts_in q k j ss));
  aim = λ q. option_or (g.aim q) (first (aims_in q k j ss));
  set = λ q. option_or (g.set q) (first (sets_in q j ss));
  sets = g.sets;
}

next_stmt : (g : Given) (k j : ℕ) (s : Stmt) (x : StmtKind) (ss : List Stmt) → after_stmts (stmt_noted g k j x) k (j + 1) ss ≡ after_stmts g k j (record s { kind = x } ∷ ss)
next_stmt g k j s (stmts.Put n e) ss = λ t. record (after_stmts g k (j + 1) ss) { put = λ q. next (g.put q) (put_at q k j (stmts.Put n e)) (puts_in q k (j + 1) ss) t }
next_stmt g k j s (stmts.Aim n e) ss = λ t. record (after_stmts g k (j + 1) ss) { aim = λ q. next (g.aim q) (aim_at q k j (stmts.Aim n e)) (aims_in q k (j + 1) ss) t }
next_stmt g k j s (stmts.Set n e when) ss = λ t. record (after_stmts g k (j + 1) ss) { set = λ q. next (g.set q) (set_at q j (stmts.Set n e when)) (sets_in q (j + 1) ss) t }
next_stmt g k j s x ss = refl

stmts_are : (g : Given) (k j : ℕ) (ss : List Stmt) → stmts_noted g k j ss ≡ after_stmts g k j ss
stmts_are g k j [] = λ t. record { put = λ q. sym (or_none (g.put q)) t; aim = λ q. sym (or_none (g.aim q)) t; set = λ q. sym (or_none (g.set q)) t; sets = g.sets }
stmts_are g k j (s ∷ ss) = stmts_are (stmt_noted g k j s.kind) k (j + 1) ss ∙ next_stmt g k j s s.kind ss

abbrev set_of : Block → Known ℕ
set_of b q = first (sets_in q 0 b.stmts)

blocks_are : (put aim : Known At) (sets : List (Known ℕ)) (k : ℕ) (bs : List Block) → blocks_noted (between put aim sets) k bs
    ≡ between (λ q. option_or (put q) (first (puts_of q k bs))) (λ q. option_or (aim q) (first (aims_of q k bs))) (sets ++ map set_of bs)
blocks_are put aim sets k [] = λ t. between (λ q. sym (or_none (put q)) t) (λ q. sym (or_none (aim q)) t) (sym (append-nil sets) t)
blocks_are put aim sets k (b ∷ bs) =
    ap (λ g. blocks_noted (ended g) (k + 1) bs) (stmts_are (between put aim sets) k 0 b.stmts)
    ∙ blocks_are (λ q. option_or (put q) (first (puts_in q k 0 b.stmts))) (λ q. option_or (aim q) (first (aims_in q k 0 b.stmts))) (sets ++ set_of b ∷ []) (k + 1) bs
    ∙ (λ t. between (λ q. next (put q) (first (puts_in q k 0 b.stmts)) (puts_of q (k + 1) bs) t) (λ q. next (aim q) (first (aims_in q k 0 b.stmts)) (aims_of q (k + 1) bs) t)
    (append_assoc sets (set_of b ∷ []) (map set_of bs) t))

-- the sets of a stage
abbrev known_in : Option (Known ℕ) → Known ℕ
known_in None = λ q. None
known_in (Some f) = f

stored_at : (ts : List (Entries ℕ)) (k : ℕ) → look_up (table_in (slice_get ts k)) ≡ known_in (slice_get (map look_up ts) k)
stored_at [] k = refl
stored_at (t ∷ ts) zero = refl
stored_at (t ∷ ts) (suc k) = stored_at ts k

set_at_stage : (bs : List Block) (k : ℕ) → known_in (slice_get (map set_of bs) k) ≡ first_set bs k
set_at_stage [] k = refl
set_at_stage (b ∷ bs) zero = refl
set_at_stage (b ∷ bs) (suc k) = set_at_stage bs k

-- the tables hold the facts
pub facts_fit : (job : Job) (f : stored.Facts) → f.stages ≡ job.stages.value → named f.named ≡ decls_noted none_named 0 job.decls
    → given f.given [] ≡ blocks_noted (between (λ q. None) (λ q. None) []) 0 job.blocks → f.top ≡ largest (look_up f.named.writes) 0 job.blocks → facts_in f ≡ facts_of job
facts_fit job f stages n g top =
    let of_decls : named f.named ≡ after_decls none_named 0 job.decls = n ∙ decls_are none_named 0 job.decls in
    let of_stmts = g ∙ blocks_are (λ q. None) (λ q. None) [] 0 job.blocks in
    let sets : map look_up f.given.sets.items ≡ map set_of job.blocks = ap (λ (x : Given). x.sets) of_stmts in
    λ i. record {
      stages = stages i;
      put = (of_stmts i).put;
      aim = (of_stmts i).aim;
      set_in = λ k. (stored_at f.given.sets.items k ∙ ap (λ fs. known_in (slice_get fs k)) sets ∙ set_at_stage job.blocks k) i;
      hint = (of_decls i).hint;
      result = (of_decls i).result;
      sample = (of_decls i).sample;
      stage = (of_decls i).stage;
      written = (of_decls i).written;
      top = (top ∙ ap (λ (x : Named). largest x.written 0 job.blocks) of_decls) i;
    }

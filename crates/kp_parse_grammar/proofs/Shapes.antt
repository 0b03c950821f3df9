-- The contents of the stack while a description is read: each action finds the values that it builds from, and a sentence builds a job.
use Rattle.std.proofs.Common.{ℕ, zero, suc, ◌≡◌, ◌==◌, List, [], ◌∷◌, ◌++◌, map, length, Bool, true, false, cond, Option, refl, sym, ap, subst, ◌∙◌, arith}
use Rattle.std.proofs.lemmas.Bool.{eqb-true}
use Rattle.kp_base.specs.declared.place.Place.{Place}
use Rattle.kp_grammar.specs.Grammar.{Terminal, Nonterminal, Action, Rules, alternatives, Has, here, there}
use Rattle.kp_grammar.specs.{Tables.among, Machine.Outcome, Machine.Accepts, Machine.Leads, Machine.accept, Machine.goes, Machine.take, Machine.make}
use Rattle.kp_grammar.proofs.TableTests.{picks_rule}
use Rattle.kp_ast.specs.declared.tree.{Named.Named, Num.Num, Lit.Lit, Expr.Expr, Stmt.Stmt, Block.Block, Param.Param, Decl.Decl, Image.Image, Stalls.Stalls}
use Rattle.kp_ast.specs.declared.tree.{Inputs.Inputs, Job.Job}
use Rattle.kp_parse_grammar.specs.Language.{Value, Way, Step, State, Sym, language, rules, counts_read, values_read, counts_built, values_built, at, is_over}
use Rattle.kp_parse_grammar.specs.{declared.level.Level.Level, Tokens.Lexeme, Follow.tables}
use Rattle.kp_parse_grammar.specs.declared.level.Level.TheVariants as levels
use Rattle.kp_parse_grammar.specs.Language as l

-- the kinds of values
data Ty : Type 0 where
  a_place a_named a_number a_literal a_expr a_exprs a_perhaps_expr a_perhaps_named a_perhaps_number a_param : Ty
  a_params a_decl a_decls a_stmt a_stmts a_block a_blocks a_literals a_image a_images : Ty
  a_perhaps_images a_stall a_stalls a_perhaps_stalls a_input a_inputs a_perhaps_inputs a_job : Ty

-- a kind: its values, and each as a value of the stack
record Kind : Type 1 where
  Of : Type 0
  value : Of → Value

abbrev kind : Ty → Kind
kind a_place = record { Of = Place; value = l.place }
kind a_named = record { Of = Named; value = l.named }
kind a_number = record { Of = Num; value = l.number }
kind a_literal = record { Of = Lit; value = l.literal }
kind a_expr = record { Of = Expr; value = l.expr }
kind a_exprs = record { Of = List Expr; value = l.exprs }
kind a_perhaps_expr = record { Of = Option Expr; value = l.perhaps_expr }
kind a_perhaps_named = record { Of = Option Named; value = l.perhaps_named }
kind a_perhaps_number = record { Of = Option Num; value = l.perhaps_number }
kind a_param = record { Of = Param; value = l.param }
kind a_params = record { Of = List Param; value = l.params }
kind a_decl = record { Of = Decl; value = l.decl }
kind a_decls = record { Of = List Decl; value = l.decls }
kind a_stmt = record { Of = Stmt; value = l.stmt }
kind a_stmts = record { Of = List Stmt; value = l.stmts }
kind a_block = record { Of = Block; value = l.block }
kind a_blocks = record { Of = List Block; value = l.blocks }
kind a_literals = record { Of = List Lit; value = l.literals }
kind a_image = record { Of = Image; value = l.image }
kind a_images = record { Of = List Image; value = l.images }
kind a_perhaps_images = record { Of = Option (List Image); value = l.perhaps_images }
kind a_stall = record { Of = Stalls; value = l.stall }
kind a_stalls = record { Of = List Stalls; value = l.stalls }
kind a_perhaps_stalls = record { Of = Option (List Stalls); value = l.perhaps_stalls }
kind a_input = record { Of = Inputs; value = l.input }
kind a_inputs = record { Of = List Inputs; value = l.inputs }
kind a_perhaps_inputs = record { Of = Option (List Inputs); value = l.perhaps_inputs }
kind a_job = record { Of = Job; value = l.job }

-- values of some kinds, and how the stack has them
abbrev Env : List Ty → Type 0
Env [] = Unit {0}
Env (t ∷ ts) = (kind t).Of × Env ts

abbrev values : (ts : List Ty) → Env ts → List Value
values [] e = []
values (t ∷ ts) e = (kind t).value e.0 ∷ values ts e.1

abbrev Stack : List Ty → List Value → Type 0
Stack ts vs = (e : Env ts) × (vs ≡ values ts e)

-- the kinds that an action finds and builds
abbrev effect : Step → List Ty × List Ty
effect l.enter = ([], [])
effect l.leave = ([], [])
effect l.no_expr = ([], a_perhaps_expr ∷ [])
effect l.some_expr = (a_expr ∷ [], a_perhaps_expr ∷ [])
effect l.no_hedge = ([], a_perhaps_expr ∷ a_perhaps_expr ∷ [])
effect l.some_when = (a_expr ∷ [], a_perhaps_expr ∷ a_perhaps_expr ∷ [])
effect l.some_guess = (a_expr ∷ [], a_perhaps_expr ∷ a_perhaps_expr ∷ [])
effect l.no_name = ([], a_perhaps_named ∷ [])
effect l.some_name = (a_named ∷ [], a_perhaps_named ∷ [])
effect l.no_number = ([], a_perhaps_number ∷ [])
effect l.some_number = (a_number ∷ [], a_perhaps_number ∷ [])
effect l.no_exprs = ([], a_exprs ∷ [])
effect l.one_expr = (a_expr ∷ a_exprs ∷ [], a_exprs ∷ [])
effect l.make_choice = (a_expr ∷ a_expr ∷ a_place ∷ a_expr ∷ [], a_expr ∷ [])
effect (l.make_binary op) = (a_expr ∷ a_place ∷ a_expr ∷ [], a_expr ∷ [])
effect l.make_not = (a_expr ∷ a_place ∷ [], a_expr ∷ [])
effect l.same_bit = (a_number ∷ [], a_number ∷ a_number ∷ [])
effect l.make_slice = (a_number ∷ a_number ∷ a_place ∷ a_expr ∷ [], a_expr ∷ [])
effect l.make_literal = (a_literal ∷ [], a_expr ∷ [])
effect l.make_name = (a_named ∷ [], a_expr ∷ [])
effect l.make_call = (a_exprs ∷ a_named ∷ [], a_expr ∷ [])
effect l.make_concat = (a_exprs ∷ a_place ∷ [], a_expr ∷ [])
effect l.make_zext = (a_number ∷ a_expr ∷ a_place ∷ [], a_expr ∷ [])
effect l.make_sext = (a_number ∷ a_expr ∷ a_place ∷ [], a_expr ∷ [])
effect l.make_param = (a_number ∷ a_named ∷ [], a_param ∷ [])
effect l.no_params = ([], a_params ∷ [])
effect l.one_param = (a_param ∷ a_params ∷ [], a_params ∷ [])
effect l.make_reg = (a_literal ∷ a_param ∷ [], a_decl ∷ [])
effect l.make_file = (a_number ∷ a_param ∷ [], a_decl ∷ [])
effect l.make_pipe = (a_param ∷ [], a_decl ∷ [])
effect l.make_result = (a_number ∷ a_perhaps_named ∷ a_perhaps_named ∷ a_named ∷ a_param ∷ [], a_decl ∷ [])
effect l.make_hint = (a_literal ∷ a_param ∷ [], a_decl ∷ [])
effect l.make_sample = (a_number ∷ a_param ∷ [], a_decl ∷ [])
effect l.make_fn = (a_expr ∷ a_number ∷ a_params ∷ a_named ∷ [], a_decl ∷ [])
effect l.no_decls = ([], a_decls ∷ [])
effect l.one_decl = (a_decl ∷ a_decls ∷ [], a_decls ∷ [])
effect l.make_read = (a_perhaps_expr ∷ a_perhaps_expr ∷ a_perhaps_expr ∷ a_named ∷ a_named ∷ a_place ∷ [], a_stmt ∷ [])
effect l.make_let = (a_expr ∷ a_named ∷ a_place ∷ [], a_stmt ∷ [])
effect l.make_put = (a_expr ∷ a_named ∷ a_place ∷ [], a_stmt ∷ [])
effect l.make_set = (a_perhaps_expr ∷ a_expr ∷ a_named ∷ a_place ∷ [], a_stmt ∷ [])
effect l.make_aim = (a_expr ∷ a_named ∷ a_place ∷ [], a_stmt ∷ [])
effect l.no_stmts = ([], a_stmts ∷ [])
effect l.one_stmt = (a_stmt ∷ a_stmts ∷ [], a_stmts ∷ [])
effect l.make_block = (a_stmts ∷ a_number ∷ [], a_block ∷ [])
effect l.no_blocks = ([], a_blocks ∷ [])
effect l.one_block = (a_block ∷ a_blocks ∷ [], a_blocks ∷ [])
effect l.no_literals = ([], a_literals ∷ [])
effect l.one_literal = (a_literal ∷ a_literals ∷ [], a_literals ∷ [])
effect l.make_image = (a_literals ∷ a_perhaps_number ∷ a_named ∷ [], a_image ∷ [])
effect l.no_images = ([], a_images ∷ [])
effect l.one_image = (a_image ∷ a_images ∷ [], a_images ∷ [])
effect l.no_image_section = ([], a_perhaps_images ∷ [])
effect l.image_section = (a_images ∷ [], a_perhaps_images ∷ [])
effect l.make_stall = (a_perhaps_number ∷ a_number ∷ a_number ∷ a_number ∷ [], a_stall ∷ [])
effect l.no_stalls = ([], a_stalls ∷ [])
effect l.one_stall = (a_stall ∷ a_stalls ∷ [], a_stalls ∷ [])
effect l.no_stall_section = ([], a_perhaps_stalls ∷ [])
effect l.stall_section = (a_stalls ∷ [], a_perhaps_stalls ∷ [])
effect l.make_input = (a_perhaps_number ∷ a_number ∷ a_number ∷ a_literal ∷ a_named ∷ [], a_input ∷ [])
effect l.no_inputs = ([], a_inputs ∷ [])
effect l.one_input = (a_input ∷ a_inputs ∷ [], a_inputs ∷ [])
effect l.no_input_section = ([], a_perhaps_inputs ∷ [])
effect l.input_section = (a_inputs ∷ [], a_perhaps_inputs ∷ [])
effect l.make_job = (a_perhaps_inputs ∷ a_perhaps_stalls ∷ a_perhaps_images ∷ a_blocks ∷ a_decls ∷ a_number ∷ a_named ∷ [], a_job ∷ [])

abbrev depth_built : Step → ℕ → ℕ
depth_built l.enter d = suc d
depth_built l.leave (suc d) = d
depth_built _ d = d

-- the kinds that a token is read as, and how many counts there are then
abbrev read_as : Way → List Ty
read_as l.as_place = a_place ∷ []
read_as l.as_name = a_named ∷ []
read_as l.as_number = a_number ∷ []
read_as l.as_literal = a_literal ∷ []
read_as l.counts_one = a_place ∷ []
read_as l.opens_at = a_place ∷ []
read_as _ = []

abbrev depth_read : Way → ℕ → ℕ
depth_read l.opens (suc d) = suc (suc d)
depth_read l.opens_at (suc d) = suc (suc d)
depth_read l.closes (suc d) = d
depth_read _ d = d

-- for a name: how many counts there are at least, and the kinds that it finds and builds
record Shape : Type 0 where
  counts : ℕ
  found : List Ty
  built : List Ty

abbrev each_level : (Level → ℕ) → List ℕ
each_level f = f levels.Or ∷ f levels.Xor ∷ f levels.And ∷ f levels.Compare ∷ f levels.Shift ∷ f levels.Sum ∷ f levels.Product ∷ []

abbrev shape_in : List (List ℕ × Shape) → ℕ → Shape
shape_in [] n = record { counts = 0; found = []; built = a_job ∷ [] }
shape_in (r ∷ rs) n = cond (among n r.0) r.1 (shape_in rs n)

unfoldable shape : ℕ → Shape
shape = shape_in (
    (l.DECL ∷ [], record { counts = 0; found = []; built = a_decl ∷ [] })
    ∷ (l.DECLS ∷ [], record { counts = 0; found = a_decls ∷ []; built = a_decls ∷ [] })
    ∷ (l.PAR ∷ [], record { counts = 0; found = []; built = a_param ∷ [] })
    ∷ (l.PARS ∷ [], record { counts = 0; found = a_params ∷ []; built = a_params ∷ [] })
    ∷ (l.INDEX ∷ l.ENABLE ∷ [], record { counts = 0; found = []; built = a_perhaps_named ∷ [] })
    ∷ (l.STAGE ∷ [], record { counts = 0; found = []; built = a_block ∷ [] })
    ∷ (l.STAGES ∷ [], record { counts = 0; found = a_blocks ∷ []; built = a_blocks ∷ [] })
    ∷ (l.STMT ∷ [], record { counts = 0; found = []; built = a_stmt ∷ [] })
    ∷ (l.STMTS ∷ [], record { counts = 0; found = a_stmts ∷ []; built = a_stmts ∷ [] })
    ∷ (l.BINDING ∷ [], record { counts = 0; found = []; built = a_expr ∷ a_named ∷ [] })
    ∷ (l.ADDRESS ∷ l.WHEN ∷ [], record { counts = 0; found = []; built = a_perhaps_expr ∷ [] })
    ∷ (l.HEDGE ∷ [], record { counts = 0; found = []; built = a_perhaps_expr ∷ a_perhaps_expr ∷ [] })
    ∷ (l.WHOLE ∷ [], record { counts = 0; found = []; built = a_expr ∷ [] })
    ∷ (l.IMAGE ∷ [], record { counts = 0; found = []; built = a_perhaps_images ∷ [] })
    ∷ (l.WORD ∷ [], record { counts = 0; found = []; built = a_image ∷ [] })
    ∷ (l.WORDS ∷ [], record { counts = 0; found = a_images ∷ []; built = a_images ∷ [] })
    ∷ (l.LITS ∷ [], record { counts = 0; found = a_literals ∷ []; built = a_literals ∷ [] })
    ∷ (l.NUMBERED ∷ l.STEP ∷ [], record { counts = 0; found = []; built = a_perhaps_number ∷ [] })
    ∷ (l.STALLS ∷ [], record { counts = 0; found = []; built = a_perhaps_stalls ∷ [] })
    ∷ (l.SPAN ∷ [], record { counts = 0; found = []; built = a_stall ∷ [] })
    ∷ (l.SPANS ∷ [], record { counts = 0; found = a_stalls ∷ []; built = a_stalls ∷ [] })
    ∷ (l.INPUTS ∷ [], record { counts = 0; found = []; built = a_perhaps_inputs ∷ [] })
    ∷ (l.ENTRY ∷ [], record { counts = 0; found = []; built = a_input ∷ [] })
    ∷ (l.ENTRIES ∷ [], record { counts = 0; found = a_inputs ∷ []; built = a_inputs ∷ [] })
    ∷ (l.EXPR ∷ l.UNARY ∷ l.POST ∷ l.PRIM ∷ each_level l.CHAIN, record { counts = 1; found = []; built = a_expr ∷ [] })
    ∷ (l.CHOICE ∷ l.SLICES ∷ each_level l.MORE, record { counts = 1; found = a_expr ∷ []; built = a_expr ∷ [] })
    ∷ (l.LOW ∷ [], record { counts = 1; found = a_number ∷ []; built = a_number ∷ a_number ∷ [] })
    ∷ (l.EXTENDED ∷ [], record { counts = 1; found = []; built = a_number ∷ a_expr ∷ [] })
    ∷ (l.CALL ∷ [], record { counts = 1; found = a_named ∷ []; built = a_expr ∷ [] })
    ∷ (l.EXPRS ∷ [], record { counts = 2; found = []; built = a_exprs ∷ [] })
    ∷ (l.PARTS ∷ [], record { counts = 2; found = a_exprs ∷ []; built = a_exprs ∷ [] })
    ∷ []
    )

-- A claim is an equation of what there is (how many counts, and the kinds of values) and what is wanted.
abbrev There : Type 0
There = ℕ × List Ty

abbrev raised : ℕ → ℕ → ℕ
raised zero d = d
raised (suc k) d = suc (raised k d)

abbrev lowered : ℕ → ℕ → ℕ
lowered zero d = d
lowered (suc k) zero = zero
lowered (suc k) (suc d) = lowered k d

abbrev rest : List Ty → List Ty → List Ty
rest [] us = us
rest (t ∷ ts) [] = []
rest (t ∷ ts) (u ∷ us) = rest ts us

-- what symbols claim that lead from d counts and the kinds ts to the goal
abbrev claims : List Sym → ℕ → List Ty → There → List (There × There)
claims [] d ts goal = ((d, ts), goal) ∷ []
claims (Terminal c way ∷ s) d ts goal = claims s (depth_read way d) (read_as way ++ ts) goal
claims (Action a ∷ s) d ts goal = let left = rest (effect a).0 ts in ((d, ts), (d, (effect a).0 ++ left)) ∷ claims s (depth_built a d) ((effect a).1 ++ left) goal
claims (Nonterminal n ∷ s) d ts goal =
    let left = rest (shape n).found ts in
    ((d, ts), (raised (shape n).counts (lowered (shape n).counts d), (shape n).found ++ left)) ∷ claims s d ((shape n).built ++ left) goal

abbrev Hold : List (There × There) → Type 0
Hold cs = map (λ (c : There × There). c.0) cs ≡ map (λ (c : There × There). c.1) cs

both : (c : There × There) (cs : List (There × There)) → Hold (c ∷ cs) → (c.0 ≡ c.1) × Hold cs
both c cs h = (cc h, cc h)

join : (c : There × There) (cs : List (There × There)) → c.0 ≡ c.1 → Hold cs → Hold (c ∷ cs)
join c cs p h = cc (p, h)

halves : (xs ys : List (There × There)) → Hold (xs ++ ys) → Hold xs × Hold ys
halves [] ys h = (refl, h)
halves (x ∷ xs) ys h = let p = both x (xs ++ ys) h in let q = halves xs ys p.1 in (join x xs p.0 q.0, q.1)

follows : (b s : List Sym) (d : ℕ) (ts : List Ty) (e : ℕ) (us : List Ty) (goal : There) → Hold (claims b d ts (e, us)) → Hold (claims s e us goal) → Hold (claims (b ++ s) d ts goal)
follows [] s d ts e us goal h k = subst (λ (x : There). Hold (claims s x.0 x.1 goal)) (sym (both ((d, ts), (e, us)) [] h).0) k
follows (Terminal c way ∷ b) s d ts e us goal h k = follows b s (depth_read way d) (read_as way ++ ts) e us goal h k
follows (Action a ∷ b) s d ts e us goal h k = let p = both _ _ h in join _ _ p.0 (follows b s _ _ e us goal p.1 k)
follows (Nonterminal n ∷ b) s d ts e us goal h k = let p = both _ _ h in join _ _ p.0 (follows b s _ _ e us goal p.1 k)

-- Each alternative of a name finds and builds what the name does.
abbrev body_claims : Shape → ℕ → List Ty → List (List Sym) → List (There × There)
body_claims h d ts [] = []
body_claims h d ts (b ∷ bs) = claims b (raised h.counts d) (h.found ++ ts) (raised h.counts d, h.built ++ ts) ++ body_claims h d ts bs

abbrev rule_claims : ℕ → List Ty → Rules Way Step → List (There × There)
rule_claims d ts [] = []
rule_claims d ts (r ∷ rs) = body_claims (shape r.0) d ts r.1 ++ rule_claims d ts rs

abbrev Fits : Shape → ℕ → List Ty → List Sym → Type 0
Fits h d ts b = Hold (claims b (raised h.counts d) (h.found ++ ts) (raised h.counts d, h.built ++ ts))

of_body : (h : Shape) (d : ℕ) (ts : List Ty) (b : List Sym) (bs : List (List Sym)) → Has b bs → Hold (body_claims h d ts bs) → Fits h d ts b
of_body h d ts b [] m k = elim m [ ]
of_body h d ts b (c ∷ bs) here k = (halves (claims b (raised h.counts d) (h.found ++ ts) (raised h.counts d, h.built ++ ts)) (body_claims h d ts bs) k).0
of_body h d ts b (c ∷ bs) (there m) k = of_body h d ts b bs m (halves (claims c (raised h.counts d) (h.found ++ ts) (raised h.counts d, h.built ++ ts)) (body_claims h d ts bs) k).1

of_rule : (r : ℕ × List (List Sym)) (rs : Rules Way Step) (n d : ℕ) (ts : List Ty) (b : List Sym) (a : Bool) → (r.0 == n) ≡ a → Has b (cond a r.1 (alternatives rs n)) → Hold (body_claims (shape r.0) d ts r.1)
    → (Has b (alternatives rs n) → Fits (shape n) d ts b) → Fits (shape n) d ts b
of_rule r rs n d ts b true e m k f = subst (λ (i : ℕ). Fits (shape i) d ts b) (eqb-true r.0 n e) (of_body (shape r.0) d ts b r.1 m k)
of_rule r rs n d ts b false e m k f = f m

of_rules : (rs : Rules Way Step) (n d : ℕ) (ts : List Ty) (b : List Sym) → Has b (alternatives rs n) → Hold (rule_claims d ts rs) → Fits (shape n) d ts b
of_rules [] n d ts b m k = elim m [ ]
of_rules (r ∷ rs) n d ts b m k =
    let p = halves (body_claims (shape r.0) d ts r.1) (rule_claims d ts rs) k in
    of_rule r rs n d ts b (r.0 == n) refl m p.0 (λ i. of_rules rs n d ts b i p.1)

all_hold : (d : ℕ) (ts : List Ty) → Hold (rule_claims d ts rules)
unfolding shape
all_hold d ts = refl

-- how a stack is taken apart and put together
apart : (ts us : List Ty) (e : Env (ts ++ us)) → (f : Env ts) × (g : Env us) × (values (ts ++ us) e ≡ values ts f ++ values us g)
apart [] us e = (tt, e, refl)
apart (t ∷ ts) us e = let r = apart ts us e.1 in ((e.0, r.0), r.1, ap (λ (v : List Value). (kind t).value e.0 ∷ v) r.2)

joined : (ts us : List Ty) (f : Env ts) (g : Env us) → Stack (ts ++ us) (values ts f ++ values us g)
joined [] us f g = (g, refl)
joined (t ∷ ts) us f g = let r = joined ts us f.1 g in ((f.0, r.0), ap (λ (v : List Value). (kind t).value f.0 ∷ v) r.1)

-- what an action and a token do to the stack and to the counts
builds : (a : Step) (e : Env (effect a).0) (vs : List Value) → (f : Env (effect a).1) × (values_built a (values (effect a).0 e ++ vs) ≡ values (effect a).1 f ++ vs)
builds l.enter e vs = (tt, refl)
builds l.leave e vs = (tt, refl)
builds l.no_hedge e vs = ((_, (_, tt)), refl)
builds l.some_when e vs = ((_, (_, tt)), refl)
builds l.some_guess e vs = ((_, (_, tt)), refl)
builds l.same_bit e vs = ((_, (_, tt)), refl)
builds _ e vs = ((_, tt), refl)

built_stack : (a : Step) (us : List Ty) (vs : List Value) → Stack ((effect a).0 ++ us) vs → Stack ((effect a).1 ++ us) (values_built a vs)
built_stack a us vs s =
    let p = apart (effect a).0 us s.0 in
    let q = builds a p.0 (values us p.1) in
    let r = joined (effect a).1 us q.0 p.1 in
    (r.0, ap (values_built a) (s.1 ∙ p.2) ∙ q.1 ∙ r.1)

built_deep : (a : Step) (cs : List ℕ) → length (counts_built a cs) ≡ depth_built a (length cs)
built_deep l.enter cs = refl
built_deep l.leave (c ∷ cs) = refl
built_deep _ cs = refl

reads : (way : Way) (t : Lexeme) (vs : List Value) → (f : Env (read_as way)) × (values_read way t vs ≡ values (read_as way) f ++ vs)
reads l.dropped t vs = (tt, refl)
reads l.opens t vs = (tt, refl)
reads l.closes t vs = (tt, refl)
reads l.separates t vs = (tt, refl)
reads _ t vs = ((_, tt), refl)

read_stack : (way : Way) (t : Lexeme) (ts : List Ty) (vs : List Value) → Stack ts vs → Stack (read_as way ++ ts) (values_read way t vs)
read_stack way t ts vs s =
    let q = reads way t vs in
    let r = joined (read_as way) ts q.0 s.0 in
    (r.0, q.1 ∙ ap (λ (v : List Value). values (read_as way) q.0 ++ v) s.1 ∙ r.1)

read_deep : (way : Way) (cs : List ℕ) → length (counts_read way cs) ≡ depth_read way (length cs)
read_deep l.counts_one (c ∷ cs) = refl
read_deep l.opens (c ∷ cs) = refl
read_deep l.opens_at (c ∷ cs) = refl
read_deep l.closes (c ∷ cs) = refl
read_deep l.separates (b ∷ c ∷ cs) = refl
read_deep _ cs = refl

job_state : (cs : List ℕ) (vs : List Value) (o : Bool) → length cs ≡ 0 → Stack (a_job ∷ []) vs → o ≡ false → (j : Job) × (record { counts = cs; over = o; values = vs } ≡ at [] (l.job j ∷ []))
job_state [] vs o h k e = (k.0.0, rw (e, k.1))
job_state (c ∷ cs) vs o h k e = absurd (omega arith)

-- what is accepted is a job
abbrev end : There
end = (0, a_job ∷ [])

accepts_job : {s : List Sym} {v w : State} {xs : List Lexeme} {o : Outcome State} (ts : List Ty) → Leads language is_over tables s v xs o → Hold (claims s (length v.counts) ts end) → Stack ts v.values
    → v.over ≡ false → o ≡ Accepts w → (j : Job) × (w ≡ at [] (l.job j ∷ []))
accepts_job {v = v} {w = w} ts accept h k e is =
    let same : w ≡ v = cc is in
    let p = (both ((length v.counts, ts), end) [] h).0 in
    let r = job_state v.counts v.values v.over (ap (λ (x : There). x.0) p) (subst (λ (x : There). Stack x.1 v.values) p k) e in
    (r.0, same ∙ r.1)
accepts_job {v = v} ts (goes {n = n} {s = s} body p leads) h k e is =
    let c = both _ _ h in
    let left = rest (shape n).found ts in
    let d = lowered (shape n).counts (length v.counts) in
    let b = of_rules rules n d left body (picks_rule rules tables n _ body p) (all_hold d left) in
    let f = subst (λ (x : There). Hold (claims body x.0 x.1 (x.0, (shape n).built ++ left))) (sym c.0) b in
    accepts_job ts leads (follows body s (length v.counts) ts (length v.counts) ((shape n).built ++ left) end f c.1) k e is
accepts_job {v = v} ts (take {way = way} {s = s} {x = x} same within leads) h k e is =
    let f = subst (λ (d : ℕ). Hold (claims s d (read_as way ++ ts) end)) (sym (read_deep way v.counts)) h in
    accepts_job (read_as way ++ ts) leads f (read_stack way x ts v.values k) within is
accepts_job {v = v} ts (make {a = a} {s = s} leads) h k e is =
    let c = both _ _ h in
    let left = rest (effect a).0 ts in
    let f = subst (λ (d : ℕ). Hold (claims s d ((effect a).1 ++ left) end)) (sym (built_deep a v.counts)) c.1 in
    accepts_job ((effect a).1 ++ left) leads f (built_stack a left v.values (subst (λ (x : There). Stack x.1 v.values) c.0 k)) e is
accepts_job ts leads h k e is = cc is

pub reads_job : {w : State} {xs : List Lexeme} → Leads language is_over tables (Nonterminal l.JOB ∷ []) (at [] []) xs (Accepts w) → (j : Job) × (w ≡ at [] (l.job j ∷ []))
unfolding shape
reads_job leads = accepts_job [] leads refl (tt, refl) refl refl

-- A statement of a job that violates no rule: what is in scope before it and after it, and which rules it satisfies.
use Rattle.std.proofs.Common.{◌≡◌, ◌∙◌, ℕ, zero, suc, ◌+◌, List, [], ◌∷◌, take, Option, Some, None, true, refl, ap, sym, subst, arith}
use Rattle.std.specs.Prelude.{slice_get}
use Rattle.kp_base.specs.{First.first, Check.ok, Check.◌>>=◌}
use Rattle.kp_ast.specs.declared.tree.{Decl.Decl, Stmt.Stmt, StmtKind.StmtKind, Block.Block, Job.Job}
use Rattle.kp_ast.specs.declared.tree.StmtKind.TheVariants as stmts
use Rattle.kp_ast.specs.declared.widths.Scope.TheVariants as scopes
use Rattle.kp_width.specs.{Names.Sense, Names.Scoped, Names.nothing, Names.look_up, Names.opened, Declarations.declarations_of}
use Rattle.kp_width.specs.{Statements.statement_of, Statements.statements_of, Statements.blocks_of, Widths.widths_of}
use Rattle.kp_width.proofs.{Unbroken.Unbroken, Unbroken.bind_unbroken, Calls.pushed}
use Rattle.kp_stage.specs.{Facts.Facts, Facts.facts_of, Facts.stmts_in, declared.rules.Rule.Rule, Rules.ask_stmt, Rules.may_guess, Rules.broken_by}
use Rattle.kp_stage.{specs.Stages.broken_of, proofs.Unbroken.answer_none, proofs.Kept.rules_kept, proofs.Kept.stmt_kept}
use Rattle.kp_machine.proofs.Text.{is_local}
use Rattle.kp_synth_stage.specs.{Work.stmts_at, Scopes.declared, Scopes.opened_at, Scopes.scope_at}
use Rattle.kp_synth_stage.{specs.inner.Standing.GuessRight, specs.inner.Standing.StmtRight, proofs.Binding.slots_next}

-- the statement at an index violates no rule of names and widths, and leads to the scope of the next
stmt_right : (ds : List Decl) (s : Scoped) (xs : List Stmt) (j : ℕ) (x : Stmt) → Unbroken (statements_of ds s xs) → slice_get xs j ≡ Some x
    → Unbroken (statement_of ds (statements_of ds s (take j xs)).value x.kind)
stmt_right ds s [] j x u e = cc
stmt_right ds s (y ∷ xs) zero x u e =
    let f : y ≡ x = cc in
    subst (λ (z : Stmt). Unbroken (statement_of ds s z.kind)) f (bind_unbroken (statement_of ds s y.kind) (λ t. statements_of ds t xs) u).0
stmt_right ds s (y ∷ xs) (suc j) x u e = stmt_right ds (statement_of ds s y.kind).value xs j x (bind_unbroken (statement_of ds s y.kind) (λ t. statements_of ds t xs) u).1 e

stmt_next : (ds : List Decl) (s : Scoped) (xs : List Stmt) (j : ℕ) (x : Stmt) → slice_get xs j ≡ Some x
    → (statements_of ds s (take (suc j) xs)).value ≡ (statement_of ds (statements_of ds s (take j xs)).value x.kind).value
stmt_next ds s [] j x e = cc
stmt_next ds s (y ∷ xs) zero x e = let f : y ≡ x = cc in ap (λ (z : Stmt). (statement_of ds s z.kind).value) f
stmt_next ds s (y ∷ xs) (suc j) x e = stmt_next ds (statement_of ds s y.kind).value xs j x e

block_right : (ds : List Decl) (k : ℕ) (s : Scoped) (bs : List Block) (i : ℕ) (b : Block) → Unbroken (blocks_of ds k s bs) → slice_get bs i ≡ Some b
    → Unbroken (statements_of ds (opened (blocks_of ds k s (take i bs)).value (scopes.Stage (k + i))) b.stmts)
block_right ds k s [] i b u e = cc
block_right ds k s (y ∷ bs) zero b u e =
    let f : y ≡ b = cc in
    let z : k ≡ k + 0 = omega arith in
    let h = (bind_unbroken (statements_of ds (opened s (scopes.Stage k)) y.stmts) (λ t. blocks_of ds (k + 1) t bs) u).0 in
    subst (λ n. Unbroken (statements_of ds (opened s (scopes.Stage n)) b.stmts)) z
    (subst (λ (x : Block). Unbroken (statements_of ds (opened s (scopes.Stage k)) x.stmts)) f h)
block_right ds k s (y ∷ bs) (suc i) b u e =
    let t = (statements_of ds (opened s (scopes.Stage k)) y.stmts).value in
    let z : (k + 1) + i ≡ k + suc i = omega arith in
    subst (λ n. Unbroken (statements_of ds (opened (blocks_of ds (k + 1) t (take i bs)).value (scopes.Stage n)) b.stmts)) z
    (block_right ds (k + 1) t bs i b (bind_unbroken (statements_of ds (opened s (scopes.Stage k)) y.stmts) (λ x. blocks_of ds (k + 1) x bs) u).1 e)

-- what statements leave as it was
pub one_text : (ds : List Decl) (s : Scoped) (x : StmtKind) → (statement_of ds s x).value.text ≡ s.text
one_text ds s (stmts.Read r) = refl
one_text ds s _ = refl

one_here : (ds : List Decl) (s : Scoped) (x : StmtKind) → (statement_of ds s x).value.here ≡ s.here
one_here ds s (stmts.Read r) = refl
one_here ds s _ = refl

abbrev Locals : Scoped → Type 0
Locals s = (q : List ℕ) (m : Sense) → look_up s.local q ≡ Some m → is_local m.kind ≡ true

one_locals : (ds : List Decl) (s : Scoped) (x : StmtKind) → Locals s → Locals (statement_of ds s x).value
one_locals ds s (stmts.Read r) h q m e = pushed s.local r.name.name q _ m (λ b. h q m b) (λ z y is. ap (λ (v : Sense). is_local v.kind) (sym is)) e
one_locals ds s (stmts.Let n e') h q m e = pushed s.local n.name q _ m (λ b. h q m b) (λ z y is. ap (λ (v : Sense). is_local v.kind) (sym is)) e
one_locals ds s _ h q m e = h q m e

all_text : (ds : List Decl) (s : Scoped) (xs : List Stmt) → (statements_of ds s xs).value.text ≡ s.text
all_text ds s [] = refl
all_text ds s (x ∷ xs) = all_text ds (statement_of ds s x.kind).value xs ∙ one_text ds s x.kind

all_here : (ds : List Decl) (s : Scoped) (xs : List Stmt) → (statements_of ds s xs).value.here ≡ s.here
all_here ds s [] = refl
all_here ds s (x ∷ xs) = all_here ds (statement_of ds s x.kind).value xs ∙ one_here ds s x.kind

all_locals : (ds : List Decl) (s : Scoped) (xs : List Stmt) → Locals s → Locals (statements_of ds s xs).value
all_locals ds s [] h = h
all_locals ds s (x ∷ xs) h = all_locals ds (statement_of ds s x.kind).value xs (one_locals ds s x.kind h)

blocks_text : (ds : List Decl) (k : ℕ) (s : Scoped) (bs : List Block) → (blocks_of ds k s bs).value.text ≡ s.text
blocks_text ds k s [] = refl
blocks_text ds k s (b ∷ bs) = blocks_text ds (k + 1) (statements_of ds (opened s (scopes.Stage k)) b.stmts).value bs ∙ all_text ds (opened s (scopes.Stage k)) b.stmts

-- a statement has a block
in_block : (o : Option Block) (j : ℕ) (x : Stmt) → slice_get (stmts_in o) j ≡ Some x → (b : Block) × (o ≡ Some b)
in_block None j x e = cc
in_block (Some b) j x e = (b, refl)

pub scope_text : (job : Job) (k j : ℕ) → (scope_at job k j).text ≡ (declared job).text
unfolding scope_at
scope_text job k j = all_text job.decls (opened_at job k) (take j (stmts_at job k)) ∙ blocks_text job.decls 0 (declared job) (take k job.blocks)

pub scope_here : (job : Job) (k j : ℕ) → (scope_at job k j).here ≡ scopes.Stage k
unfolding scope_at
scope_here job k j = all_here job.decls (opened_at job k) (take j (stmts_at job k))

pub scope_locals : (job : Job) (k j : ℕ) → Locals (scope_at job k j)
unfolding scope_at
scope_locals job k j = all_locals job.decls (opened_at job k) (take j (stmts_at job k)) (λ q m e. cc)

pub scope_start : (job : Job) (k : ℕ) → scope_at job k 0 ≡ opened_at job k
unfolding scope_at
scope_start job k = refl

guess_right : (facts : Facts) (k j : ℕ) (x : StmtKind) → ask_stmt facts Rule.E23 k j x ≡ None → GuessRight facts k x
guess_right facts k j (stmts.Read r) e = answer_none (may_guess facts k r) _ e
guess_right facts k j _ e = tt

pub is_right : (job : Job) (k j : ℕ) (x : Stmt) → first (widths_of job).asked ≡ None → broken_of job ≡ None → slice_get (stmts_at job k) j ≡ Some x → StmtRight job k j x.kind
unfolding scope_at
is_right job k j x u kept e =
    let b = in_block (slice_get job.blocks k) j x e in
    let d = declarations_of job.decls 0 0 nothing job.decls in
    let more = (bind_unbroken d (λ s. blocks_of job.decls 0 s job.blocks >>= (λ y. ok y.entries)) u).1 in
    let blocks = (bind_unbroken (blocks_of job.decls 0 d.value job.blocks) (λ y. ok y.entries) more).0 in
    let here = block_right job.decls 0 d.value job.blocks k b.0 blocks b.1 in
    let z : 0 + k ≡ k = omega arith in
    let opens : Unbroken (statements_of job.decls (opened_at job k) b.0.stmts) = subst (λ n. Unbroken (statements_of job.decls (opened (blocks_of job.decls 0 d.value (take k job.blocks)).value (scopes.Stage n)) b.0.stmts)) z here in
    let same : stmts_at job k ≡ b.0.stmts = ap stmts_in b.1 in
    let at : Unbroken (statements_of job.decls (opened_at job k) (stmts_at job k)) = subst (λ xs. Unbroken (statements_of job.decls (opened_at job k) xs)) (sym same) opens in
    let rules : broken_by (facts_of job) job ≡ None = rules_kept job kept in
    record {
      right = stmt_right job.decls (opened_at job k) (stmts_at job k) j x at e;
      next = stmt_next job.decls (opened_at job k) (stmts_at job k) j x e;
      free = stmt_kept (facts_of job) job rules Rule.E25 k j x e;
      guess = guess_right (facts_of job) k j x.kind (stmt_kept (facts_of job) job rules Rule.E23 k j x e);
      slots = slots_next job k j x e;
    }

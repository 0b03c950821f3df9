-- The violations that are listed begin with the first one of all checks; and if there is none, the scope at the end is that of the checks.
use Rattle.std.proofs.Common.{◌≡◌, ◌∙◌, ℕ, ◌+◌, List, [], ◌∷◌, ◌++◌, length, Option, Some, None, Ok, Bool, true, false, cond, append-nil, refl, ap, sym}
use Rattle.std.specs.{Option.option_map, Prelude.nat_lt, Prelude.nat_le, Prelude.slice_get, Prelude.◌&&◌}
use Rattle.kp_base.specs.{First.first, Check.Check, Check.after, Check.◌>>=◌, Findings.Collected, Findings.with_answer, Findings.with_answers}
use Rattle.kp_base.proofs.{First.first_append_none, Collecting.append, Collecting.full_stays, Collecting.first_of_all, Collecting.first_taken}
use Rattle.kp_ast.specs.declared.tree.{Param.Param, Decl.Decl, Stmt.Stmt, StmtKind.StmtKind, Block.Block, Job.Job}
use Rattle.kp_ast.specs.declared.tree.Decl.TheVariants as decls
use Rattle.kp_ast.specs.declared.tree.StmtKind.TheVariants as stmts
use Rattle.kp_ast.specs.declared.widths.Scope.TheVariants as scopes
use Rattle.kp_ast.specs.declared.widths.NameKind.TheVariants as kinds
use Rattle.kp_width.specs.Faults.{WidthFinding, refusal_of, is_doubtful}
use Rattle.kp_width.specs.Names.{sense, Scoped, nothing, opened, doubted_text, declared_local}
use Rattle.kp_width.specs.Declarations.{name_of, parameters_of, function_opened, functions_in, declaration_of, declarations_of}
use Rattle.kp_width.specs.Statements.{statement_of, statements_of, blocks_of}
use Rattle.kp_width.specs.Widths.{widths_of, width_broken, noted, next, after_decl, after_decls, decl_answers, refused_stmt, after_stmt, after_stmts, stmt_answers, after_blocks, block_answers, after_all, width_answers}
use Rattle.kp_width.specs.inner.Steps.{HasRoom}
use Rattle.kp_width.proofs.Calls.{by_test, by_option}

abbrev Answers : Type 0
Answers = List (Option WidthFinding)

first_append_some : {X : Type 0} (xs ys : List (Option X)) (x : X) → first xs ≡ Some x → first (xs ++ ys) ≡ Some x
first_append_some [] ys x e = cc
first_append_some (None ∷ xs) ys x e = first_append_some xs ys x e
first_append_some (Some y ∷ xs) ys x e = e

-- what is listed, and the scope after it, where a check asks the same
record Begins (answers : Answers) (t : Scoped) (c : Check WidthFinding Scoped) : Type 0 where
  first_is : first answers ≡ first c.asked
  scope_is : first c.asked ≡ None → t ≡ c.value

one_is : {X : Type 0} (o : Option X) → first (o ∷ []) ≡ o
one_is None = refl
one_is (Some x) = refl

-- an item, in a scope where no name is doubtful
item : (s refused : Scoped) (c : Check WidthFinding Scoped) → s.doubts ≡ false → Begins (noted s c.found ∷ []) (next refused c.found) c
item s refused c clean = record {
  first_is = one_is (noted s c.found) ∙ ap (noted s) c.same ∙ answered (first c.asked);
  scope_is = λ none. ap (next refused) (c.same ∙ ap (λ o. after o (Ok c.value)) none);
}
  where
    answered : (o : Option WidthFinding) → noted s (after o (Ok c.value)) ≡ o
    answered None = refl
    answered (Some f) = ap (λ b. cond (b && is_doubtful f.fault) None (Some f)) clean

-- a list, and what follows it
joined : (xs : Answers) (t : Scoped) (c : Check WidthFinding Scoped) (ys : Scoped → Answers) (last : Scoped → Scoped) (more : Scoped → Check WidthFinding Scoped)
    → Begins xs t c → Begins (ys c.value) (last c.value) (more c.value) → Begins (xs ++ ys t) (last t) (c >>= more)
joined xs t c ys last more a b = by_option (first c.asked)
    (λ none.
    let same = a.scope_is none in
    let rest = first_append_none c.asked (more c.value).asked none in
    record {
      first_is = first_append_none xs (ys t) (a.first_is ∙ none) ∙ ap (λ s. first (ys s)) same ∙ b.first_is ∙ sym rest;
      scope_is = λ e. ap last same ∙ b.scope_is (sym rest ∙ e);
    })
    (λ f some.
    let rest = first_append_some c.asked (more c.value).asked f some in
    record {
      first_is = first_append_some xs (ys t) f (a.first_is ∙ some) ∙ sym rest;
      scope_is = λ e. let no : Some f ≡ None = sym rest ∙ e in cc;
    })

parameters_doubts : (i : ℕ) (s : Scoped) (ps : List Param) → (parameters_of i s ps).value.doubts ≡ s.doubts
parameters_doubts i s [] = refl
parameters_doubts i s (p ∷ ps) = parameters_doubts i (declared_local s p.name.name (sense kinds.Param p.width.value i)) ps

decl_doubts : (ds : List Decl) (i k : ℕ) (s : Scoped) (d : Decl) → (declaration_of ds i k s d).value.doubts ≡ s.doubts
decl_doubts ds i k s (decls.Func f) = parameters_doubts i (function_opened s k f) f.params
decl_doubts ds i k s (decls.Reg n width start) = refl
decl_doubts ds i k s (decls.File n width address) = refl
decl_doubts ds i k s (decls.Pipe n width) = refl
decl_doubts ds i k s (decls.Hint n width start) = refl
decl_doubts ds i k s (decls.Sample n width stage) = refl
decl_doubts ds i k s (decls.Target r) = refl

decls_doubts : (ds : List Decl) (i k : ℕ) (s : Scoped) (rest : List Decl) → (declarations_of ds i k s rest).value.doubts ≡ s.doubts
decls_doubts ds i k s [] = refl
decls_doubts ds i k s (d ∷ rest) = decls_doubts ds (i + 1) (k + functions_in d) (declaration_of ds i k s d).value rest ∙ decl_doubts ds i k s d

stmt_doubts : (ds : List Decl) (s : Scoped) (x : StmtKind) → (statement_of ds s x).value.doubts ≡ s.doubts
stmt_doubts ds s (stmts.Read r) = refl
stmt_doubts ds s (stmts.Let n e) = refl
stmt_doubts ds s (stmts.Put n e) = refl
stmt_doubts ds s (stmts.Set n e when) = refl
stmt_doubts ds s (stmts.Aim n e) = refl

stmts_doubts : (ds : List Decl) (s : Scoped) (xs : List Stmt) → (statements_of ds s xs).value.doubts ≡ s.doubts
stmts_doubts ds s [] = refl
stmts_doubts ds s (x ∷ xs) = stmts_doubts ds (statement_of ds s x.kind).value xs ∙ stmt_doubts ds s x.kind

all_decls : (ds : List Decl) (i k : ℕ) (s : Scoped) (rest : List Decl) → s.doubts ≡ false → Begins (decl_answers ds i k s rest) (after_decls ds i k s rest) (declarations_of ds i k s rest)
all_decls ds i k s [] clean = record { first_is = refl; scope_is = λ e. refl }
all_decls ds i k s (d ∷ rest) clean =
    let c = declaration_of ds i k s d in
    let j = k + functions_in d in
    joined (noted s c.found ∷ []) (after_decl ds i k s d) c (λ t. decl_answers ds (i + 1) j t rest) (λ t. after_decls ds (i + 1) j t rest) (λ t. declarations_of ds (i + 1) j t rest)
    (item s (doubted_text s (name_of d).name) c clean) (all_decls ds (i + 1) j c.value rest (decl_doubts ds i k s d ∙ clean))

all_stmts : (ds : List Decl) (s : Scoped) (xs : List Stmt) → s.doubts ≡ false → Begins (stmt_answers ds s xs) (after_stmts ds s xs) (statements_of ds s xs)
all_stmts ds s [] clean = record { first_is = refl; scope_is = λ e. refl }
all_stmts ds s (x ∷ xs) clean =
    let c = statement_of ds s x.kind in
    joined (noted s c.found ∷ []) (after_stmt ds s x.kind) c (λ t. stmt_answers ds t xs) (λ t. after_stmts ds t xs) (λ t. statements_of ds t xs)
    (item s (refused_stmt s x.kind) c clean) (all_stmts ds c.value xs (stmt_doubts ds s x.kind ∙ clean))

all_blocks : (ds : List Decl) (k : ℕ) (s : Scoped) (bs : List Block) → s.doubts ≡ false → Begins (block_answers ds k s bs) (after_blocks ds k s bs) (blocks_of ds k s bs)
all_blocks ds k s [] clean = record { first_is = refl; scope_is = λ e. refl }
all_blocks ds k s (b ∷ bs) clean =
    let o = opened s (scopes.Stage k) in
    joined (stmt_answers ds o b.stmts) (after_stmts ds o b.stmts) (statements_of ds o b.stmts) (λ t. block_answers ds (k + 1) t bs) (λ t. after_blocks ds (k + 1) t bs) (λ t. blocks_of ds (k + 1) t bs)
    (all_stmts ds o b.stmts clean) (all_blocks ds (k + 1) (statements_of ds o b.stmts).value bs (stmts_doubts ds o b.stmts ∙ clean))

abbrev job_check : Job → Check WidthFinding Scoped
job_check job = declarations_of job.decls 0 0 nothing job.decls >>= (λ s. blocks_of job.decls 0 s job.blocks)

all : (job : Job) → Begins (width_answers job) (after_all nothing job.decls job.blocks) (job_check job)
all job =
    let c = declarations_of job.decls 0 0 nothing job.decls in
    joined (decl_answers job.decls 0 0 nothing job.decls) (after_decls job.decls 0 0 nothing job.decls) c (λ s. block_answers job.decls 0 s job.blocks) (λ s. after_blocks job.decls 0 s job.blocks) (λ s. blocks_of job.decls 0 s job.blocks)
    (all_decls job.decls 0 0 nothing job.decls refl) (all_blocks job.decls 0 c.value job.blocks (decls_doubts job.decls 0 0 nothing job.decls))

asked_is : (job : Job) → first (widths_of job).asked ≡ first (job_check job).asked
asked_is job =
    let c = declarations_of job.decls 0 0 nothing job.decls in
    ap (λ xs. first (c.asked ++ xs)) (append-nil (blocks_of job.decls 0 c.value job.blocks).asked)

-- the first violation that is listed is the first of all checks
pub verdict : (job : Job) → first (width_answers job) ≡ first (widths_of job).asked
verdict job = (all job).first_is ∙ sym (asked_is job)

-- a job that violates no rule of names and widths
pub unbroken_widths : (job : Job) → width_broken job ≡ None → first (widths_of job).asked ≡ None
unbroken_widths job = by (first (widths_of job).asked)
  where
    by : (o : Option WidthFinding) → option_map refusal_of o ≡ None → o ≡ None
    by None e = refl
    by (Some f) e = cc

-- the entries of a job that violates no rule
pub entries_are : (job : Job) → first (widths_of job).asked ≡ None → (after_all nothing job.decls job.blocks).entries ≡ (widths_of job).value
entries_are job none = ap (λ (s : Scoped). s.entries) ((all job).scope_is (sym (asked_is job) ∙ none))

-- While findings are collected: some answers, and then those that depend on the scope, which is known unless there are enough.
pub both : {F : Type 0} (n m : Collected F) (xs : List (Option F)) (ys : Scoped → List (Option F)) (s t : Scoped) → m ≡ with_answers n xs → (HasRoom m → s ≡ t)
    → with_answers m (ys s) ≡ with_answers n (xs ++ ys t)
both n m xs ys s t is same = by_test (nat_le m.most (length m.found))
    (λ full. full_stays m (ys s) full ∙ sym (full_stays m (ys t) full) ∙ after_those)
    (λ room. ap (λ u. with_answers m (ys u)) (same room) ∙ after_those)
  where
    after_those : with_answers m (ys t) ≡ with_answers n (xs ++ ys t)
    after_those = ap (λ c. with_answers c (ys t)) is ∙ sym (append n xs (ys t))

-- there was room before
pub room_before : {F : Type 0} (n m : Collected F) (xs : List (Option F)) → m ≡ with_answers n xs → HasRoom m → HasRoom n
room_before n m xs is room = by_test (nat_le n.most (length n.found))
    (λ full. ap (λ (c : Collected _). nat_le c.most (length c.found)) (sym (is ∙ full_stays n xs full)) ∙ room)
    (λ free. free)

most_stays : {F : Type 0} (n : Collected F) (xs : List (Option F)) → (with_answers n xs).most ≡ n.most
most_stays n [] = refl
most_stays n (x ∷ xs) = most_stays (with_answer n x) xs ∙ one x
  where
    one : (y : Option _) → (with_answer n y).most ≡ n.most
    one None = refl
    one (Some f) = by_test (nat_lt (length n.found) n.most)
        (λ e. ap (λ b. (cond b (record { most = n.most; found = n.found ++ f ∷ [] }) n).most) e)
        (λ e. ap (λ b. (cond b (record { most = n.most; found = n.found ++ f ∷ [] }) n).most) e)

none_there : {F : Type 0} (fs : List F) → slice_get fs 0 ≡ None → nat_le 1 (length fs) ≡ false
none_there [] e = refl
none_there (f ∷ fs) e = cc

-- a pass that ends at the first finding, and the scope at its end
pub judged : (job : Job) (m : Collected WidthFinding) → m ≡ with_answers (record { most = 1; found = [] }) (width_answers job)
    → (slice_get m.found 0 ≡ first (widths_of job).asked) × (first (widths_of job).asked ≡ None → HasRoom m)
judged job m is =
    let found : slice_get m.found 0 ≡ first (widths_of job).asked
    = ap (λ (c : Collected WidthFinding). slice_get c.found 0) is ∙ ap (λ fs. slice_get fs 0) (first_of_all 1 (width_answers job)) ∙ first_taken (width_answers job) ∙ verdict job in (
      found,
      λ none. ap (λ k. nat_le k (length m.found)) (ap (λ (c : Collected WidthFinding). c.most) is ∙ most_stays _ (width_answers job)) ∙ none_there m.found (found ∙ none),
    )

pub accepted : (job : Job) (m : Collected WidthFinding) (t : Scoped) → m ≡ with_answers (record { most = 1; found = [] }) (width_answers job)
    → (HasRoom m → t ≡ after_all nothing job.decls job.blocks) → slice_get m.found 0 ≡ None
    → (first (widths_of job).asked ≡ None) × (t.entries ≡ (widths_of job).value)
accepted job m t is same empty =
    let j = judged job m is in
    let none = sym j.0 ∙ empty in
    (none, ap (λ (s : Scoped). s.entries) (same (j.1 none)) ∙ entries_are job none)

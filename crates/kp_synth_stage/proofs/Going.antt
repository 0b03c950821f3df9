-- The statements of a stage, in order.
use Rattle.std.proofs.Common.{◌≡◌, ◌∙◌, ℕ, zero, suc, ◌+◌, List, [], ◌∷◌, ◌++◌, take, length, Some, ap, sym, subst, arith}
use Rattle.std.{proofs.lemmas.List.Sums.fold-append, proofs.lemmas.List.take_all, specs.Prelude.slice_get}
use Rattle.kp_machine.specs.{Machine.stage_tree, Trees.entered}
use Rattle.kp_synth_registers.specs.Meaning.{guesses_at}
use Rattle.kp_design.specs.Numbers.{guesses_in}
use Rattle.kp_net.specs.{declared.node.NodeId.NodeId, Growth.Held, Growth.Kept}
use Rattle.kp_ast.specs.{Expressions.look_up, declared.tree.Decl.Decl, declared.tree.Stmt.Stmt, declared.tree.Job.Job}
use Rattle.kp_synth_stage.specs.{declared.row.Source.Source, declared.work.Work.Work, Rows.SourcesOk}
use Rattle.kp_synth_stage.specs.Doing.{Doing, Truths, after_stmt, after_stmts, begun, outcome_of}
use Rattle.kp_synth_stage.specs.{Known.Knows, Work.stmts_at, Work.Means, Work.Does, Work.cost_of, Work.costs_of}
use Rattle.kp_synth_stage.specs.inner.Standing.{slots_at, Stands, GoesBy, AllGo, Enters}
use Rattle.kp_synth_stage.proofs.{Nearest.sees_kept, Running.stage_runs}

-- one more statement
after_more : (ds : List Decl) (v : Truths) (hints : ℕ → ℕ) (d : Doing) (xs : List Stmt) (j : ℕ) (x : Stmt) → slice_get xs j ≡ Some x
    → after_stmts ds v hints d (take (suc j) xs) ≡ after_stmt ds v hints (after_stmts ds v hints d (take j xs)) x.kind
after_more ds v hints d [] j x e = cc
after_more ds v hints d (y ∷ xs) zero x e = let f : y ≡ x = cc in ap (λ (z : Stmt). after_stmt ds v hints d z.kind) f
after_more ds v hints d (y ∷ xs) (suc j) x e = after_more ds v hints (after_stmt ds v hints d y.kind) xs j x e

take_next : (xs : List Stmt) (j : ℕ) (x : Stmt) → slice_get xs j ≡ Some x → take (suc j) xs ≡ take j xs ++ x ∷ []
take_next [] j x e = cc
take_next (y ∷ xs) zero x e = let f : y ≡ x = cc in ap (λ (z : Stmt). z ∷ []) f
take_next (y ∷ xs) (suc j) x e = ap (λ zs. y ∷ zs) (take_next xs j x e)

pub costs_more : (job : Job) (xs : List Stmt) (j : ℕ) (x : Stmt) → slice_get xs j ≡ Some x → costs_of job (take (suc j) xs) ≡ costs_of job (take j xs) + cost_of job x.kind
costs_more job xs j x e = ap (costs_of job) (take_next xs j x e) ∙ fold-append (λ a (y : Stmt). a + cost_of job y.kind) 0 (take j xs) (x ∷ [])

pub all_none : (job : Job) (k : ℕ) (p : Held) (w : Work) (ss : List Source) → AllGo job k p w ss p w 0
unfolding AllGo
all_none job k p w ss = λ c v hints d sees h. h

pub all_more : (job : Job) (k : ℕ) (p q z : Held) (m : ℕ) (w w' w'' : Work) (ss : List Source) (j : ℕ) (x : Stmt) → Kept p q m → SourcesOk job p ss → slice_get (stmts_at job k) j ≡ Some x
    → AllGo job k p w ss q w' j → GoesBy job k j x.kind q w' ss z w'' → AllGo job k p w ss z w'' (suc j)
unfolding AllGo GoesBy
all_more job k p q z m w w' w'' ss j x g ok at all one = λ c v hints d sees h.
    subst (λ y. Stands job k (suc j) hints c z w'' y) (sym (after_more job.decls v hints d (stmts_at job k) j x at))
    (one c v hints (after_stmts job.decls v hints d (take j (stmts_at job k))) (sees_kept job c p q m ss v g ok sees) (all c v hints d sees h))

-- the guessed reads before the end are those of the stage
pub slots_end : (job : Job) (k : ℕ) → slots_at job k (length (stmts_at job k)) ≡ guesses_at job k
unfolding slots_at guesses_at
slots_end job k = ap (guesses_in job k 0) (take_all (length (stmts_at job k)) (stmts_at job k) (omega arith))

-- WHAT A STAGE DOES is what its nodes mean
pub does : (job : Job) (k : ℕ) (p q z : Held) (m : ℕ) (pipes samples hints : List NodeId) (w w' : Work) (ss : List Source) → Kept p q m → SourcesOk job p ss → Enters job k p pipes samples hints q w
    → AllGo job k q w ss z w' (length (stmts_at job k)) → Does job k p pipes samples hints ss z w'
unfolding Does Enters AllGo stage_tree
does job k p q z m pipes samples hints w w' ss g ok enters all = λ c v values taken aims sees ps ts hs.
    let st = all c v aims (begun (entered job.decls taken values)) (sees_kept job c p q m ss v g ok sees) (enters c values taken aims ps ts hs) in
    let same : take (length (stmts_at job k)) (stmts_at job k) ≡ stmts_at job k = take_all (length (stmts_at job k)) (stmts_at job k) (omega arith) in
    let runs = stage_runs job.decls v aims (entered job.decls taken values) (stmts_at job k) in
    subst (λ o. Means job c z (guesses_at job k) w' o) (sym runs)
    (subst (λ xs. Means job c z (guesses_at job k) w' (outcome_of aims (after_stmts job.decls v aims (begun (entered job.decls taken values)) xs))) same
    (subst (λ gs. Means job c z gs w' (outcome_of aims (after_stmts job.decls v aims (begun (entered job.decls taken values)) (take (length (stmts_at job k)) (stmts_at job k))))) (slots_end job k) st.outcome))

-- WHAT ITS NAMES MEAN
pub knows : (job : Job) (k : ℕ) (p q z : Held) (m : ℕ) (pipes samples hints : List NodeId) (w w' : Work) (ss : List Source) → Kept p q m → SourcesOk job p ss → Enters job k p pipes samples hints q w
    → AllGo job k q w ss z w' (length (stmts_at job k)) → Knows job k p pipes samples hints ss z w'.env
unfolding Knows Enters AllGo
knows job k p q z m pipes samples hints w w' ss g ok enters all = λ c v values taken aims sees ps ts hs x sense found bound.
    let st = all c v aims (begun (entered job.decls taken values)) (sees_kept job c p q m ss v g ok sees) (enters c values taken aims ps ts hs) in
    let same : take (length (stmts_at job k)) (stmts_at job k) ≡ stmts_at job k = take_all (length (stmts_at job k)) (stmts_at job k) (omega arith) in
    st.names.names x sense found bound ∙ ap (λ xs. look_up (after_stmts job.decls v aims (begun (entered job.decls taken values)) xs).done.names x) same

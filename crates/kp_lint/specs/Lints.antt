-- THE WARNINGS for a job that violates no rule: what may not be meant so, in the order of the text.
use Rattle.std.specs.Prelude.{ℕ, ◌+◌, List, [], ◌∷◌, ◌++◌, Option, Some, None, Bool, true, false, ◌&&◌, ◌||◌, not, ◌==◌, nat_lt, is_some, is_none, slice_get, if◌then◌else◌, codes}
use Rattle.std.specs.{List.list_any, Option.option_map, Str.bytes_eq}
use Rattle.kp_base.specs.declared.{finding.Finding.Finding, place.Place.Place}
use Rattle.kp_ast.specs.{Expressions.is_same_name, declared.tree.Expr.Expr, declared.tree.ExprKind.ExprKind, declared.tree.ExprKind.TheOpen.ExprKind-F, declared.tree.ExprKind.TheViews.out-ExprKind}
use Rattle.kp_ast.specs.declared.tree.{Named.Named, ResultDecl.ResultDecl, Decl.Decl, Stmt.Stmt, StmtKind.StmtKind, Block.Block, Job.Job}
use Rattle.kp_ast.specs.declared.tree.ExprKind.TheOpen as level
use Rattle.kp_ast.specs.declared.tree.Decl.TheVariants as decls
use Rattle.kp_ast.specs.declared.tree.StmtKind.TheVariants as stmts
use Rattle.kp_lint.specs.{Alike.alike, Ready.known_in, Ready.ready, Used.is_used, Used.names_in_block, Used.names_in_both}
use Rattle.kp_lint.specs.{declared.sets.PlacedSet.PlacedSet, Sets.first_sure, Sets.in_vain, Sets.sets_from, declared.lint.Lint.Lint}
use Rattle.kp_lint.specs.declared.lint.Lint.TheVariants as lints

-- a warning, or none
abbrev pub Answer : Type 0
Answer = Option (Finding Lint)

abbrev pub warn_if : Bool → Lint → Place → Answer
warn_if test lint at = if test then Some (record { place = at; fault = lint }) else None

-- what is looked up: whether an expression of the job uses a name, and the first stage in which a pipe can be used
pub record Facts : Type 0 where
  pub used : List ℕ → Bool
  pub first : List ℕ → Option ℕ

abbrev pub facts_of : Job → Facts
facts_of job = record { used = is_used (names_in_both job.decls job.blocks); first = known_in job.blocks }

-- The declaration of number i.

-- whether the address or the enable of a result is this pipe, and whether a result writes this target
abbrev pub is_called : List ℕ → Option Named → Bool
is_called name None = false
is_called name (Some n) = is_same_name name n.name

abbrev pub uses_pipe : List ℕ → Decl → Bool
uses_pipe name (decls.Target r) = is_called name r.address || is_called name r.enable
uses_pipe name _ = false

abbrev pub is_pipe_used : Facts → List Decl → List ℕ → Bool
is_pipe_used facts ds name = facts.used name || list_any (uses_pipe name) ds

abbrev pub writes : List ℕ → Decl → Bool
writes name (decls.Target r) = is_same_name name r.target.name
writes name _ = false

-- A result is covered where one of its sets has the condition `~p`, and another one a condition written as `p`, which is over pipes: one of both takes place.
abbrev pub has_condition : List ℕ → Expr → StmtKind → Bool
has_condition result p (stmts.Set n e (Some when)) = is_same_name n.name result && alike when p
has_condition result p _ = false

abbrev pub is_condition : List ℕ → List Block → Expr → Bool
is_condition result bs p = list_any (λ (b : Block). list_any (λ (s : Stmt). has_condition result p s.kind) b.stmts) bs

abbrev pub negates : Facts → List ℕ → List Block → ExprKind-F ExprKind Expr → Bool
negates facts result bs (level.Not p) = is_some (ready facts.first p) && is_condition result bs p
negates facts result bs _ = false

abbrev pub has_both : Facts → List ℕ → List Block → StmtKind → Bool
has_both facts result bs (stmts.Set n e (Some when)) = is_same_name n.name result && negates facts result bs (out-ExprKind when.kind)
has_both facts result bs _ = false

abbrev pub is_covered : Facts → List ℕ → List Block → Bool
is_covered facts result bs = list_any (λ (b : Block). list_any (λ (s : Stmt). has_both facts result bs s.kind) b.stmts) bs

abbrev pub line_at : List PlacedSet → ℕ → Option ℕ
line_at sets i = option_map (λ s. s.place.line) (slice_get sets i)

-- W1, for the sets of a result: it is never set, or each set has a condition, the result isn't covered, and it has no enable
abbrev pub of_sets : Facts → List Block → ℕ → ResultDecl → List PlacedSet → Answer
of_sets facts bs i r [] = warn_if true (lints.NeverSet i) r.name.at
of_sets facts bs i r (s ∷ ss) =
    warn_if (is_none r.enable && (is_none (first_sure (s ∷ ss)) && not (is_covered facts r.name.name bs)))
    (lints.MaybeUnset i (line_at (s ∷ ss) 0 ∷ line_at (s ∷ ss) 1 ∷ line_at (s ∷ ss) 2 ∷ line_at (s ∷ ss) 3 ∷ [])) r.name.at

-- W4: nothing uses a pipe
-- W5: no expression uses a hint, a sample or a function
-- W6: a register has no result
abbrev pub of_decl : Facts → Job → ℕ → Decl → Answer
of_decl facts job i (decls.Target r) = of_sets facts job.blocks i r (sets_from r.name.name 0 job.blocks)
of_decl facts job i (decls.Pipe n width) = warn_if (not (is_pipe_used facts job.decls n.name)) lints.UnusedPipe n.at
of_decl facts job i (decls.Hint n width start) = warn_if (not (facts.used n.name)) lints.UnusedHint n.at
of_decl facts job i (decls.Sample n width stage) = warn_if (not (facts.used n.name)) lints.UnusedSample n.at
of_decl facts job i (decls.Func f) = warn_if (not (facts.used f.name.name)) lints.UnusedFunction f.name.at
of_decl facts job i (decls.Reg n width start) = warn_if (not (list_any (writes n.name) job.decls)) lints.NoResult n.at
of_decl facts job i (decls.File n width address) = None

-- W8: the port `s_NAME` of a sample is a keyword of SystemVerilog: s_always, s_eventually, s_nexttime, s_until and s_until_with are all that begin with `s_`
-- (IEEE 1800-2017, Annex B). No keyword has the form of another name of a module.
abbrev pub has_keyword_port : List ℕ → Bool
has_keyword_port name =
    bytes_eq name (codes "always") || (bytes_eq name (codes "eventually") || (bytes_eq name (codes "nexttime")
    || (bytes_eq name (codes "until") || bytes_eq name (codes "until_with"))))

abbrev pub of_port : Decl → Answer
of_port (decls.Sample n width stage) = warn_if (has_keyword_port n.name) lints.KeywordPort n.at
of_port _ = None

-- Statement j of stage k.

-- W5: no expression of the stage uses a local name; a read with a guess serves without a use of its name
abbrev pub of_local : (List ℕ → Bool) → ℕ → StmtKind → Answer
of_local used k (stmts.Read r) = warn_if (is_none r.guess && not (used r.name.name)) (lints.UnusedLocal k) r.name.at
of_local used k (stmts.Let n e) = warn_if (not (used n.name)) (lints.UnusedLocal k) n.at
of_local used k _ = None

-- W3: a set is in vain, since a set of the same result without a condition comes before it
abbrev pub is_among : ℕ → ℕ → List PlacedSet → Bool
is_among k j sets = list_any (λ (s : PlacedSet). (s.stage == k) && (s.index == j)) sets

abbrev pub set_after : Bool → ℕ → Option PlacedSet → Place → Answer
set_after vain i None at = None
set_after vain i (Some first) at = warn_if vain (lints.SetInVain i first.stage first.place.line) at

abbrev pub of_set : (stage statement first : ℕ) → Place → List PlacedSet → Answer
of_set k j i at sets = set_after (is_among k j (in_vain sets)) i (first_sure sets) at

-- W7: the address or the enable of a result whose target is read can be computed in an earlier stage
abbrev pub reads_target : List ℕ → StmtKind → Bool
reads_target name (stmts.Read r) = is_same_name name r.target.name
reads_target name _ = false

abbrev pub reads : List ℕ → Stmt → Bool
reads name s = reads_target name s.kind

abbrev pub is_read : List ℕ → List Block → Bool
is_read name bs = list_any (λ (b : Block). list_any (reads name) b.stmts) bs

abbrev pub waits_for : List Block → List ℕ → ResultDecl → Bool
waits_for bs pipe r = (is_called pipe r.address || is_called pipe r.enable) && is_read r.target.name bs

abbrev pub put_after : ℕ → ℕ → Option ℕ → Place → Answer
put_after i k None at = None
put_after i k (Some earliest) at = warn_if (nat_lt earliest k) (lints.PutLate i earliest) at

abbrev pub of_result : Facts → List Block → ℕ → ℕ → Place → StmtKind → ℕ → Decl → Answer
of_result facts bs k j at (stmts.Set n e when) i (decls.Target r) =
    if is_same_name n.name r.name.name then of_set k j i at (sets_from r.name.name 0 bs) else None
of_result facts bs k j at (stmts.Put n e) i (decls.Target r) =
    if waits_for bs n.name r then put_after i k (ready facts.first e) n.at else None
of_result facts bs k j at _ i _ = None

-- The answers in the order of the text.

abbrev pub of_decls : Facts → Job → ℕ → List Decl → List Answer
of_decls facts job i [] = []
of_decls facts job i (d ∷ ds) = of_decl facts job i d ∷ of_port d ∷ of_decls facts job (i + 1) ds

abbrev pub of_results : Facts → List Block → ℕ → ℕ → Stmt → ℕ → List Decl → List Answer
of_results facts bs k j s i [] = []
of_results facts bs k j s i (d ∷ ds) = of_result facts bs k j s.at s.kind i d ∷ of_results facts bs k j s (i + 1) ds

abbrev pub of_stmt : Facts → Job → (List ℕ → Bool) → ℕ → ℕ → Stmt → List Answer
of_stmt facts job used k j s = of_local used k s.kind ∷ of_results facts job.blocks k j s 0 job.decls

abbrev pub of_stmts : Facts → Job → (List ℕ → Bool) → ℕ → ℕ → List Stmt → List Answer
of_stmts facts job used k j [] = []
of_stmts facts job used k j (s ∷ ss) = of_stmt facts job used k j s ++ of_stmts facts job used k (j + 1) ss

abbrev pub of_block : Facts → Job → ℕ → Block → List Answer
of_block facts job k b = of_stmts facts job (is_used (names_in_block b)) k 0 b.stmts

abbrev pub of_blocks : Facts → Job → ℕ → List Block → List Answer
of_blocks facts job k [] = []
of_blocks facts job k (b ∷ bs) = of_block facts job k b ++ of_blocks facts job (k + 1) bs

unfoldable pub warned_in : Job → List Answer
warned_in job = of_decls (facts_of job) job 0 job.decls ++ of_blocks (facts_of job) job 0 job.blocks

-- The rules E15 to E25, E34 and E35 of stages. Each rule is checked at the head of the job, at each declaration, at
-- the number of each block, and at each statement; the first violation in the text is the reported position.
--
-- Names and widths have been checked before: a name that is put is a pipe, one that is set is a result, one that is
-- aimed is a hint, and a target that is read or written with an address is a file. And each rule may assume that
-- those of lower numbers hold.
use Rattle.std.specs.Prelude.{if◌then◌else◌, ℕ, ◌+◌, List, [], ◌∷◌, ◌++◌, Option, Some, None, Bool, false, ◌&&◌, ◌||◌, not, ◌==◌, nat_lt, nat_le, is_some, unwrap_or, length}
use Rattle.kp_base.specs.{First.first, declared.place.Place.Place}
use Rattle.kp_ast.specs.declared.tree.{Named.Named, Expr.Expr, ExprKind.TheOpen.ExprKind-F, ExprKind.TheOpen.Expr-F, ExprKind.TheFolds.fold-Expr}
use Rattle.kp_ast.specs.declared.tree.{ReadStmt.ReadStmt, Decl.Decl, Stmt.Stmt, StmtKind.StmtKind, Block.Block, Job.Job}
use Rattle.kp_ast.specs.declared.tree.ExprKind.TheOpen as level
use Rattle.kp_ast.specs.declared.tree.Decl.TheVariants as decls
use Rattle.kp_ast.specs.declared.tree.StmtKind.TheVariants as stmts
use Rattle.kp_stage.specs.{declared.rules.Rule.Rule, Facts.At, Facts.Facts, Findings.Answer, Findings.broken_unless, Findings.broken_if, declared.fault.StageFault.StageFault}
use Rattle.kp_stage.specs.declared.fault.StageFault.TheVariants as faults

-- the test of an optional value, false if there is none
abbrev pub holds_of : {X : Type 0} → (X → Bool) → Option X → Bool
holds_of test None = false
holds_of test (Some x) = test x

abbrev pub is_at : ℕ → ℕ → At → Bool
is_at k j at = (at.stage == k) && (at.index == j)

-- the statement that is found, or this one
abbrev pub or_here : ℕ → ℕ → Option At → At
or_here k j found = unwrap_or found (record { stage = k; index = j })

-- a put and an aim after this one
abbrev pub put_again : At → StageFault
put_again at = faults.PutAgain at.stage at.index

abbrev pub aimed_again : At → StageFault
aimed_again at = faults.AimedAgain at.stage at.index

-- The checks of the head.

-- E15: there are 2 to 12 stages, and at least as many blocks
abbrev pub head_fault : Job → StageFault
head_fault job = if nat_le 2 job.stages.value && nat_le job.stages.value 12 then faults.FewBlocks job.stages.value (length job.blocks) else faults.StageCount job.stages.value

abbrev pub ask_head : Rule → Job → Answer
ask_head Rule.E15 job = broken_unless (nat_le 2 job.stages.value && nat_le job.stages.value 12 && nat_le job.stages.value (length job.blocks)) (head_fault job) job.stages.at
ask_head _ job = None

-- The checks of the declaration of number i.

-- E19: the address and the enable pipe of a result are put in stages before the write stage w (E16 says that a pipe is put)
abbrev pub ask_pipe : Facts → ℕ → Option Named → Answer
ask_pipe facts w None = None
ask_pipe facts w (Some n) = broken_if (λ at. nat_le w at.stage) (λ at. faults.PutLate at.stage w) (facts.put n.name) n.at

-- E15: a write stage is one of the stages, and so is the stage of a sample
-- E16: a pipe is put
-- E22: a target has one result
-- E24 and E35: a write stage, and the stage of a sample, is at least W-1, where W is the largest write stage of a guessed register
abbrev pub ask_decl : Facts → Rule → ℕ → Decl → Answer
ask_decl facts Rule.E15 i (decls.Target r) = broken_unless (nat_lt r.stage.value facts.stages) (faults.NoStage r.stage.value facts.stages) r.stage.at
ask_decl facts Rule.E15 i (decls.Sample n width stage) = broken_unless (nat_lt stage.value facts.stages) (faults.NoStage stage.value facts.stages) stage.at
ask_decl facts Rule.E16 i (decls.Pipe n width) = broken_unless (is_some (facts.put n.name)) faults.NeverPut n.at
ask_decl facts Rule.E19 i (decls.Target r) = first (ask_pipe facts r.stage.value r.address ∷ ask_pipe facts r.stage.value r.enable ∷ [])
ask_decl facts Rule.E22 i (decls.Target r) = broken_unless (holds_of (λ j. j == i) (facts.result r.target.name)) (faults.SecondResult (unwrap_or (facts.result r.target.name) i)) r.target.at
ask_decl facts Rule.E24 i (decls.Target r) = broken_unless (nat_le facts.top (r.stage.value + 1)) (faults.EarlyWrite r.stage.value facts.top) r.stage.at
ask_decl facts Rule.E35 i (decls.Sample n width stage) = broken_unless (nat_le facts.top (stage.value + 1)) (faults.EarlySample stage.value facts.top) stage.at
ask_decl facts _ i d = None

-- The check of the block of number k.

-- E15: its number is its index, and one of the stages
abbrev pub block_fault : Facts → ℕ → Block → StageFault
block_fault facts k b = if nat_lt k facts.stages then faults.BlockNumber b.number.value k else faults.BlockBeyond facts.stages

abbrev pub ask_block : Facts → Rule → ℕ → Block → Answer
ask_block facts Rule.E15 k b = broken_unless (b.number.value == k && nat_lt k facts.stages) (block_fault facts k b) b.number.at
ask_block facts _ k b = None

-- The checks of a name that is used as a value in stage k.

-- E17: a pipe is used in stages after that of its put
-- E25: a hint is not a value, outside a guess and an aim
-- E34: a sample is used in its own stage
abbrev pub ask_name : Facts → Rule → ℕ → List ℕ → Place → Answer
ask_name facts Rule.E17 k name at = broken_if (λ p. nat_le k p.stage) (λ p. faults.UsedEarly p.stage p.index k) (facts.put name) at
ask_name facts Rule.E25 k name at = broken_unless (not (is_some (facts.hint name))) faults.HintAsValue at
ask_name facts Rule.E34 k name at = broken_if (λ w. not (w == k)) (λ w. faults.SampleElsewhere w k) (facts.sample name) at
ask_name facts _ k name at = None

-- the violation at the first name in an expression that has one
abbrev pub ask_kind : Facts → Rule → ℕ → ExprKind-F (Place → Answer) Answer → Place → Answer
ask_kind facts rule k (level.Lit l) at = None
ask_kind facts rule k (level.Name name) at = ask_name facts rule k name at
ask_kind facts rule k (level.Not a) at = a
ask_kind facts rule k (level.Binary op a b) at = first (a ∷ b ∷ [])
ask_kind facts rule k (level.Mux test a b) at = first (test ∷ a ∷ b ∷ [])
ask_kind facts rule k (level.Concat parts) at = first parts
ask_kind facts rule k (level.Slice a hi lo) at = a
ask_kind facts rule k (level.Zext a width) at = a
ask_kind facts rule k (level.Sext a width) at = a
ask_kind facts rule k (level.Call name args) at = first args

abbrev pub ask_level : Expr-F (Place → Answer) Answer → Answer
ask_level e = e.kind e.place

abbrev pub ask_expr : Facts → Rule → ℕ → Expr → Answer
ask_expr facts rule k = fold-Expr (Place → Answer) Answer (ask_kind facts rule k) ask_level

abbrev pub ask_option : Facts → Rule → ℕ → Option Expr → Answer
ask_option facts rule k None = None
ask_option facts rule k (Some e) = ask_expr facts rule k e

-- the names in a statement outside a guess and an aim
abbrev pub ask_values : Facts → Rule → ℕ → StmtKind → Answer
ask_values facts rule k (stmts.Read r) = first (ask_option facts rule k r.address ∷ ask_option facts rule k r.when ∷ [])
ask_values facts rule k (stmts.Let n e) = ask_expr facts rule k e
ask_values facts rule k (stmts.Put n e) = ask_expr facts rule k e
ask_values facts rule k (stmts.Set n e when) = first (ask_expr facts rule k e ∷ ask_option facts rule k when ∷ [])
ask_values facts rule k (stmts.Aim n e) = None

-- the names in a guess or an aim
abbrev pub ask_guesses : Facts → Rule → ℕ → StmtKind → Answer
ask_guesses facts rule k (stmts.Read r) = ask_option facts rule k r.guess
ask_guesses facts rule k (stmts.Aim n e) = ask_expr facts rule k e
ask_guesses facts rule k _ = None

-- The checks of the statement of number j in stage k.

-- E23: a guess is of a register with a result, and is made two stages or more before the write stage
abbrev pub may_guess : Facts → ℕ → ReadStmt → Bool
may_guess facts k r = not (is_some r.guess) || (not (is_some r.address) && holds_of (λ w. nat_le (k + 2) w) (facts.written r.target.name))

abbrev pub guess_fault_of : ℕ → Option ℕ → StageFault
guess_fault_of k None = faults.GuessWithoutResult
guess_fault_of k (Some w) = faults.GuessLate w k

abbrev pub guess_fault : Facts → ℕ → ReadStmt → StageFault
guess_fault facts k r = if is_some r.address then faults.GuessedFile else guess_fault_of k (facts.written r.target.name)

-- E16: a put is the first of its pipe
-- E17, E25 and E34: for the names in it, from left to right
-- E18: a target is read in no stage after its write stage
-- E20: a result is set in no stage after its write stage
-- E21: a set is the first of its result in the stage, and an aim the first of its hint
abbrev pub ask_stmt : Facts → Rule → ℕ → ℕ → StmtKind → Answer
ask_stmt facts Rule.E16 k j (stmts.Put n e) = broken_unless (holds_of (is_at k j) (facts.put n.name)) (put_again (or_here k j (facts.put n.name))) n.at
ask_stmt facts Rule.E17 k j s = first (ask_values facts Rule.E17 k s ∷ ask_guesses facts Rule.E17 k s ∷ [])
ask_stmt facts Rule.E18 k j (stmts.Read r) = broken_if (λ w. nat_lt w k) (λ w. faults.ReadLate w k) (facts.written r.target.name) r.target.at
ask_stmt facts Rule.E20 k j (stmts.Set n e when) = broken_if (λ w. nat_lt w k) (λ w. faults.SetLate w k) (facts.stage n.name) n.at
ask_stmt facts Rule.E21 k j (stmts.Set n e when) = broken_unless (holds_of (λ i. i == j) (facts.set_in k n.name)) (faults.SetAgain (unwrap_or (facts.set_in k n.name) j)) n.at
ask_stmt facts Rule.E21 k j (stmts.Aim n e) = broken_unless (holds_of (is_at k j) (facts.aim n.name)) (aimed_again (or_here k j (facts.aim n.name))) n.at
ask_stmt facts Rule.E23 k j (stmts.Read r) = broken_unless (may_guess facts k r) (guess_fault facts k r) r.target.at
ask_stmt facts Rule.E25 k j s = ask_values facts Rule.E25 k s
ask_stmt facts Rule.E34 k j s = first (ask_values facts Rule.E34 k s ∷ ask_guesses facts Rule.E34 k s ∷ [])
ask_stmt facts _ k j s = None

-- The violations in text order.

abbrev pub ask_decls : Facts → Rule → ℕ → List Decl → List Answer
ask_decls facts rule i [] = []
ask_decls facts rule i (d ∷ ds) = ask_decl facts rule i d ∷ ask_decls facts rule (i + 1) ds

abbrev pub ask_stmts : Facts → Rule → ℕ → ℕ → List Stmt → List Answer
ask_stmts facts rule k j [] = []
ask_stmts facts rule k j (s ∷ ss) = ask_stmt facts rule k j s.kind ∷ ask_stmts facts rule k (j + 1) ss

-- a block is checked at its number, and in its statements
abbrev pub ask_in_block : Facts → Rule → ℕ → Block → List Answer
ask_in_block facts rule k b = ask_block facts rule k b ∷ ask_stmts facts rule k 0 b.stmts

abbrev pub ask_blocks : Facts → Rule → ℕ → List Block → List Answer
ask_blocks facts rule k [] = []
ask_blocks facts rule k (b ∷ bs) = ask_in_block facts rule k b ++ ask_blocks facts rule (k + 1) bs

-- the answers of a rule in text order
abbrev pub asked_at : Facts → Job → Rule → List Answer
asked_at facts job rule = ask_head rule job ∷ (ask_decls facts rule 0 job.decls ++ ask_blocks facts rule 0 job.blocks)

abbrev pub all_rules : List Rule
all_rules = Rule.E15 ∷ Rule.E16 ∷ Rule.E17 ∷ Rule.E18 ∷ Rule.E19 ∷ Rule.E20 ∷ Rule.E21 ∷ Rule.E22 ∷ Rule.E23 ∷ Rule.E24 ∷ Rule.E25 ∷ Rule.E34 ∷ Rule.E35 ∷ []

abbrev pub asked_by_rules : Facts → Job → List Rule → List Answer
asked_by_rules facts job [] = []
asked_by_rules facts job (rule ∷ rules) = asked_at facts job rule ++ asked_by_rules facts job rules

-- the answers of all rules: by rules, and each in text order
unfoldable pub asked_by : Facts → Job → List Answer
asked_by facts job = asked_by_rules facts job all_rules

-- the first rule that a job violates, at the first position where it does
unfoldable pub broken_by : Facts → Job → Answer
broken_by facts job = first (asked_by facts job)

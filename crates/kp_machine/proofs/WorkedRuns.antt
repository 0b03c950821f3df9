-- The worked runs, by computation: the trees of the stages, with their expressions computed, are those of machines on numbers.
use Rattle.std.proofs.Common.{◌≡◌, ◌∙◌, ℕ, zero, suc, ◌+◌, ◌/◌, ◌%◌, ◌^◌, cond, eqb, List, [], ◌∷◌, ◌++◌, take, drop, Option, None, refl, ap}
use Rattle.std.{proofs.Math.Path.fun_ext, specs.Prelude.codes}
use Rattle.kp_bits.specs.{Word.Word, Word.word, Word.add_of, Word.slice_of, declared.operator.BinOp.BinOp}
use Rattle.kp_ast.specs.Expressions.{Env, eval, env_of, names_of, calls_of, value_of_kind, value_of_level}
use Rattle.kp_ast.specs.declared.tree.{Decl.Decl, Stmt.Stmt, Job.Job}
use Rattle.kp_ast.proofs.Levels.{fold-Lit, fold-Name, fold-Binary, fold-Slice, fold-Call}
use Rattle.kp_stage.specs.Start.{start_of}
use Rattle.kp_pipeline.specs.Machine.{Machine, Tree, Done, Ask, Guess}
use Rattle.kp_pipeline.specs.Pipeline.{above, back, from_stages, next_hints, next_stage, next_visible, outcome, stall, ue}
use Rattle.kp_pipeline.specs.{Rows.pipe, Sequential.before_stage, Sequential.first_value, Sequential.seq, Timeline.no_samples}
use Rattle.kp_machine.specs.Examples.{name, number, sum, bit, call, place, late3, late3_rows, hint3, hint3_rows, near, near_rows, odd, odd_block}
use Rattle.kp_machine.specs.Slots.{words_of, hints_of, result_named}
use Rattle.kp_machine.specs.Trees.{value_with_hints, Progress, entered, with_name, with_value, with_put, with_set, tree_of, value_of}
use Rattle.kp_machine.specs.Machine.{machine_of, stage_tree, result_for, state_of, start_hints, inputs_from, pipe_of, sequential}

eval_number : (env : Env) (w v : ℕ) → eval env (number w v) ≡ word w v
eval_number env w v = fold-Lit Word Word (value_of_kind env) value_of_level place (record { width = w; value = v })

eval_name : (env : Env) (n : List ℕ) → eval env (name n) ≡ env.names n
eval_name env n = fold-Name Word Word (value_of_kind env) value_of_level place n

eval_plus : (env : Env) (n : List ℕ) (w v : ℕ) → eval env (sum (name n) (number w v)) ≡ add_of (env.names n) (word w v)
eval_plus env n w v =
    fold-Binary Word Word (value_of_kind env) value_of_level place BinOp.Add (name n) (number w v)
    ∙ ap (λ (x : Word). add_of x (eval env (number w v))) (eval_name env n)
    ∙ ap (λ (x : Word). add_of (env.names n) x) (eval_number env w v)

-- the value of an expression at these names
abbrev at_names : List Decl → Progress → Env
at_names ds done = env_of ds done.names

abbrev no_values : ℕ → Option ℕ
no_values x = None

abbrev no_aims : (ℕ → ℕ) → ℕ → Option ℕ
no_aims hints h = None

abbrev only : ℕ → ℕ → Option ℕ
only v = with_value 0 v no_values

-- a job whose stages have these trees
computed : (job : Job) (body : ℕ → (ℕ → ℕ) → Tree) → ((k : ℕ) (q p : ℕ → ℕ) → stage_tree job k q p ≡ body k p)
    → machine_of job ≡ record (machine_of job) { body = λ k q p. body k p }
unfolding machine_of
computed job body same =
    let with_body : (ℕ → (ℕ → ℕ) → (ℕ → ℕ) → Tree) → Machine = λ b. record (machine_of job) { body = b } in
    ap with_body (fun_ext (λ k. fun_ext (λ q. fun_ext (λ p. same k q p))))

abbrev late3_body : ℕ → (ℕ → ℕ) → Tree
late3_body zero p = Ask 0 0 (λ v. Done (only v) no_values no_aims)
late3_body (suc (suc zero)) p = Done no_values (only ((p 0 + 1) % 2 ^ 8)) no_aims
late3_body _ p = Done no_values no_values no_aims

late3_trees : (k : ℕ) (q p : ℕ → ℕ) → stage_tree late3 k q p ≡ late3_body k p
unfolding stage_tree
late3_trees zero q p =
    let end : (ℕ → ℕ) → Tree = λ f. Ask 0 0 (λ v. Done (only (f v)) no_values no_aims) in
    ap end (fun_ext (λ v. ap (λ (x : Word). x.value) (eval_name (at_names late3.decls (with_name (entered late3.decls q p) (codes "x") (word 8 v))) (codes "x"))))
late3_trees (suc (suc zero)) q p =
    let end : Word → Tree = λ x. Done no_values (only x.value) no_aims in
    ap end (eval_plus (at_names late3.decls (entered late3.decls q p)) (codes "A") 8 1)
late3_trees _ q p = refl

pub late3-two : sequential late3 no_samples 2 0 0 ≡ 3
unfolding before_stage seq machine_of result_for state_of start_of
late3-two = ap (λ (m : Machine). seq m (state_of late3 (start_of late3)) no_samples 2 0 0) (computed late3 late3_body late3_trees) ∙ refl

pub late3-shown : (pipe_of late3 (inputs_from late3 0 5)).rows ≡ late3_rows
unfolding next_stage next_visible next_hints ue back outcome stall above from_stages machine_of result_for state_of start_of
late3-shown =
    ap (λ (m : Machine). (pipe m (state_of late3 (start_of late3)) (start_hints late3) (inputs_from late3 0 5)).rows) (computed late3 late3_body late3_trees) ∙ refl

pub late3-value : (pipe_of late3 (inputs_from late3 0 5)).visible 5 0 0 ≡ 3
unfolding next_stage next_visible next_hints ue back outcome stall above from_stages machine_of result_for state_of start_of
late3-value =
    ap (λ (m : Machine). (pipe m (state_of late3 (start_of late3)) (start_hints late3) (inputs_from late3 0 5)).visible 5 0 0) (computed late3 late3_body late3_trees) ∙ refl

abbrev hint3_body : ℕ → (ℕ → ℕ) → Tree
hint3_body zero p = Guess 0 (λ hints. hints 0) (λ v. Done (only v) no_values (λ hints. only ((v + 2) % 2 ^ 8)))
hint3_body (suc (suc zero)) p = Done no_values (only ((p 0 + 1) % 2 ^ 8)) no_aims
hint3_body _ p = Done no_values no_values no_aims

-- the environment at these names and hints
abbrev at_hints : List Decl → Progress → (ℕ → ℕ) → Env
at_hints ds done hints = env_of ds (done.names ++ words_of (hints_of ds) hints)

hint3_trees : (k : ℕ) (q p : ℕ → ℕ) → stage_tree hint3 k q p ≡ hint3_body k p
unfolding stage_tree
hint3_trees zero q p =
    let start : Progress = entered hint3.decls q p in
    let read : ℕ → Progress = λ v. with_name start (codes "x") (word 8 v) in
    let whole : ((ℕ → ℕ) → ℕ) → (ℕ → ℕ) → (ℕ → (ℕ → ℕ) → ℕ) → Tree =
    λ guess put aim. Guess 0 guess (λ v. Done (only (put v)) no_values (λ hints. only (aim v hints))) in
    let put : ℕ → ℕ = λ v. value_of hint3.decls (read v) (name (codes "x")) in
    let aim : ℕ → (ℕ → ℕ) → ℕ = λ v. value_with_hints hint3.decls (read v) (sum (name (codes "x")) (number 8 2)) in
    ap (λ guess. whole guess put aim) (fun_ext (λ hints. ap (λ (x : Word). x.value) (eval_name (at_hints hint3.decls start hints) (codes "G"))))
    ∙ ap (λ f. whole (λ hints. hints 0) f aim) (fun_ext (λ v. ap (λ (x : Word). x.value) (eval_name (at_names hint3.decls (read v)) (codes "x"))))
    ∙ ap (λ f. whole (λ hints. hints 0) (λ v. v) f)
    (fun_ext (λ v. fun_ext (λ hints. ap (λ (x : Word). x.value) (eval_plus (at_hints hint3.decls (read v) hints) (codes "x") 8 2))))
hint3_trees (suc (suc zero)) q p =
    let end : Word → Tree = λ x. Done no_values (only x.value) no_aims in
    ap end (eval_plus (at_names hint3.decls (entered hint3.decls q p)) (codes "A") 8 1)
hint3_trees _ q p = refl

pub hint3-one : sequential hint3 no_samples 1 0 0 ≡ 2
unfolding before_stage seq machine_of result_for state_of start_of
hint3-one = ap (λ (m : Machine). seq m (state_of hint3 (start_of hint3)) no_samples 1 0 0) (computed hint3 hint3_body hint3_trees) ∙ refl

pub hint3-shown : (pipe_of hint3 (inputs_from hint3 0 3)).rows ≡ hint3_rows
unfolding next_stage next_visible next_hints ue back outcome stall above from_stages machine_of result_for state_of start_of
hint3-shown =
    ap (λ (m : Machine). (pipe m (state_of hint3 (start_of hint3)) (start_hints hint3) (inputs_from hint3 0 3)).rows) (computed hint3 hint3_body hint3_trees) ∙ refl

pub hint3-value : (pipe_of hint3 (inputs_from hint3 0 3)).visible 3 0 0 ≡ 2
unfolding next_stage next_visible next_hints ue back outcome stall above from_stages machine_of result_for state_of start_of
hint3-value =
    ap (λ (m : Machine). (pipe m (state_of hint3 (start_of hint3)) (start_hints hint3) (inputs_from hint3 0 3)).visible 3 0 0) (computed hint3 hint3_body hint3_trees) ∙ refl

abbrev near_body : ℕ → (ℕ → ℕ) → Tree
near_body zero p = Ask 0 1 (λ v. Done (with_value 1 v (only 1)) no_values no_aims)
near_body (suc zero) p = Done no_values (only ((p 1 + 1) % 2 ^ 8)) no_aims
near_body _ p = Done no_values no_values no_aims

near_trees : (k : ℕ) (q p : ℕ → ℕ) → stage_tree near k q p ≡ near_body k p
unfolding stage_tree
near_trees zero q p =
    let start : Progress = entered near.decls q p in
    let read : ℕ → Progress = λ v. with_name start (codes "v") (word 8 v) in
    let whole : ℕ → (ℕ → ℕ) → (ℕ → ℕ) → Tree = λ a first second. Ask 0 a (λ v. Done (with_value 1 (second v) (only (first v))) no_values no_aims) in
    let first : ℕ → ℕ = λ v. value_of near.decls (read v) (number 2 1) in
    let second : ℕ → ℕ = λ v. value_of near.decls (read v) (name (codes "v")) in
    ap (λ a. whole a first second) (ap (λ (x : Word). x.value) (eval_number (at_names near.decls start) 2 1))
    ∙ ap (λ f. whole 1 f second) (fun_ext (λ v. ap (λ (x : Word). x.value) (eval_number (at_names near.decls (read v)) 2 1)))
    ∙ ap (λ f. whole 1 (λ v. 1) f) (fun_ext (λ v. ap (λ (x : Word). x.value) (eval_name (at_names near.decls (read v)) (codes "v"))))
near_trees (suc zero) q p =
    let end : Word → Tree = λ x. Done no_values (only x.value) no_aims in
    ap end (eval_plus (at_names near.decls (entered near.decls q p)) (codes "V") 8 1)
near_trees (suc (suc (suc zero))) q p = refl
near_trees _ q p = refl

pub near-four : sequential near no_samples 4 0 1 ≡ 14
unfolding before_stage seq machine_of result_for state_of start_of
near-four = ap (λ (m : Machine). seq m (state_of near (start_of near)) no_samples 4 0 1) (computed near near_body near_trees) ∙ refl

pub near-other : sequential near no_samples 4 0 2 ≡ 0
unfolding before_stage seq machine_of result_for state_of start_of
near-other = ap (λ (m : Machine). seq m (state_of near (start_of near)) no_samples 4 0 2) (computed near near_body near_trees) ∙ refl

pub near-shown : (pipe_of near (inputs_from near 0 4)).rows ≡ near_rows
unfolding next_stage next_visible next_hints ue back outcome stall above from_stages machine_of result_for state_of start_of
near-shown =
    ap (λ (m : Machine). (pipe m (state_of near (start_of near)) (start_hints near) (inputs_from near 0 4)).rows) (computed near near_body near_trees) ∙ refl

eval_sum : (env : Env) (a b : List ℕ) → eval env (sum (name a) (name b)) ≡ add_of (env.names a) (env.names b)
eval_sum env a b =
    fold-Binary Word Word (value_of_kind env) value_of_level place BinOp.Add (name a) (name b)
    ∙ ap (λ (x : Word). add_of x (eval env (name b))) (eval_name env a)
    ∙ ap (λ (x : Word). add_of (env.names a) x) (eval_name env b)

eval_bit : (env : Env) (n : List ℕ) (i : ℕ) → eval env (bit (name n) i) ≡ slice_of (env.names n) i i
eval_bit env n i =
    fold-Slice Word Word (value_of_kind env) value_of_level place (name n) i i
    ∙ ap (λ (x : Word). slice_of x i i) (eval_name env n)

eval_call : (env : Env) (f n : List ℕ) → eval env (call f (name n)) ≡ env.calls f (env.names n ∷ [])
eval_call env f n =
    fold-Call Word Word (value_of_kind env) value_of_level place f (name n ∷ [])
    ∙ ap (λ (x : Word). env.calls f (x ∷ [])) (eval_name env n)

-- the sets of stage 0 of odd: the second only if the condition is 1
abbrev odd_end : ℕ → ℕ → ℕ → Tree
odd_end b x y =
    cond (eqb b 1)
    (Done (only b) (λ t. first_value (only ((x + 1) % 2 ^ 8) t) (with_value 1 ((y + x) % 2 ^ 8) no_values t)) no_aims)
    (Done (only b) (only ((x + 1) % 2 ^ 8)) no_aims)

abbrev odd_read : ℕ → (ℕ → Tree) → Tree
odd_read b end = cond (eqb b 1) (Ask 1 0 end) (end 0)

abbrev odd_body : ℕ → (ℕ → ℕ) → Tree
odd_body zero p = Ask 0 0 (λ x. odd_read (x / 2 ^ 0 % 2 ^ 1) (odd_end (x / 2 ^ 0 % 2 ^ 1) x))
odd_body (suc (suc zero)) p = Done no_values (with_value 1 255 no_values) no_aims
odd_body _ p = Done no_values no_values no_aims

module _ (q p : ℕ → ℕ) (x : ℕ) where
  abbrev ds : List Decl
  ds = odd.decls

  abbrev rest : ℕ → List Stmt
  rest n = drop n odd_block.stmts

  abbrev lowest : Word
  lowest = word 1 (x / 2 ^ 0 % 2 ^ 1)

  abbrev has_x : Progress
  has_x = with_name (entered ds q p) (codes "x") (word 8 x)

  abbrev has_e : Progress
  has_e = with_name has_x (codes "e") lowest

  abbrev has_put : Progress
  has_put = with_put has_e 0 lowest.value

  abbrev has_y : ℕ → Progress
  has_y y = with_name has_put (codes "y") (word 8 y)

  abbrev has_set : ℕ → Progress
  has_set y = with_set ds (has_y y) (result_named ds (codes "C")) ((x + 1) % 2 ^ 8)

  abbrev in_up : Env
  in_up = record { names = names_of ((codes "a", word 8 x) ∷ []); calls = calls_of (take 3 ds) }

  call_up : (env : Env) → env.calls (codes "up") (word 8 x ∷ []) ≡ eval in_up (sum (name (codes "a")) (number 8 1))
      → env.names (codes "x") ≡ word 8 x → eval env (call (codes "up") (name (codes "x"))) ≡ word 8 ((x + 1) % 2 ^ 8)
  call_up env is there =
      eval_call env (codes "up") (codes "x")
      ∙ ap (λ (w : Word). env.calls (codes "up") (w ∷ [])) there
      ∙ is
      ∙ eval_plus in_up (codes "a") 8 1

  odd_ends : (y : ℕ) → tree_of ds (has_y y) (rest 4) ≡ odd_end lowest.value x y
  odd_ends y =
      let first : Word → Tree = λ w. tree_of ds (with_set ds (has_y y) (result_named ds (codes "C")) w.value) (rest 5) in
      let second : Word → Tree = λ w. tree_of ds (with_set ds (has_set y) (result_named ds (codes "D")) w.value) [] in
      let chosen : Word → Tree → Tree = λ w end. cond (eqb w.value 1) end (tree_of ds (has_set y) []) in
      ap first (call_up (at_names ds (has_y y)) refl refl)
      ∙ ap (λ w. chosen w (second (eval (at_names ds (has_set y)) (sum (name (codes "y")) (name (codes "x")))))) (eval_name (at_names ds (has_set y)) (codes "e"))
      ∙ ap (λ w. chosen lowest (second w)) (eval_sum (at_names ds (has_set y)) (codes "y") (codes "x"))

  odd_reads : tree_of ds has_x (rest 1) ≡ odd_read lowest.value (odd_end lowest.value x)
  odd_reads =
      let let_e : Word → Tree = λ w. tree_of ds (with_name has_x (codes "e") w) (rest 2) in
      let put_e : Word → Tree = λ w. tree_of ds (with_put has_e 0 w.value) (rest 3) in
      let when_e : Word → (ℕ → Tree) → Tree = λ w end. odd_read w.value end in
      ap let_e (eval_bit (at_names ds has_x) (codes "x") 0)
      ∙ ap put_e (eval_name (at_names ds has_e) (codes "e"))
      ∙ ap (λ w. when_e w (λ y. tree_of ds (has_y y) (rest 4))) (eval_name (at_names ds has_put) (codes "e"))
      ∙ ap (when_e lowest) (fun_ext odd_ends)

odd_trees : (k : ℕ) (q p : ℕ → ℕ) → stage_tree odd k q p ≡ odd_body k p
unfolding stage_tree
odd_trees zero q p = let whole : (ℕ → Tree) → Tree = λ f. Ask 0 0 f in ap whole (fun_ext (odd_reads q p))
odd_trees (suc (suc zero)) q p =
    let end : Word → Tree = λ w. Done no_values (with_value 1 w.value no_values) no_aims in
    ap end (eval_number (at_names odd.decls (entered odd.decls q p)) 8 255)
odd_trees _ q p = refl

pub odd-x : sequential odd no_samples 4 0 0 ≡ 9
unfolding before_stage seq machine_of result_for state_of start_of
odd-x = ap (λ (m : Machine). seq m (state_of odd (start_of odd)) no_samples 4 0 0) (computed odd odd_body odd_trees) ∙ refl

pub odd-y : sequential odd no_samples 4 1 0 ≡ 12
unfolding before_stage seq machine_of result_for state_of start_of
odd-y = ap (λ (m : Machine). seq m (state_of odd (start_of odd)) no_samples 4 1 0) (computed odd odd_body odd_trees) ∙ refl

pub ruleset runs = (late3-two, late3-shown, late3-value, hint3-one, hint3-shown, hint3-value, near-four, near-other, near-shown, odd-x, odd-y)

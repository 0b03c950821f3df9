-- A stage runs by executing its statements in order.
use Rattle.std.proofs.Common.{◌≡◌, ◌∙◌, ℕ, Bool, true, false, cond, ◌||◌, List, [], ◌∷◌, ◌++◌, Option, Some, None, refl, sym, ap}
use Rattle.std.proofs.{lemmas.List.append_assoc, lemmas.List.append-nil, Math.Bool.or-false}
use Rattle.kp_ast.specs.declared.tree.{Expr.Expr, ReadStmt.ReadStmt, Decl.Decl, Stmt.Stmt, StmtKind.StmtKind}
use Rattle.kp_ast.specs.declared.tree.StmtKind.TheVariants as stmts
use Rattle.kp_pipeline.specs.{Machine.Tree, Sequential.StageOutcome, Sequential.PendingGuess, Sequential.after_read, Sequential.after_guess, Sequential.run}
use Rattle.kp_machine.specs.Slots.{result_named}
use Rattle.kp_machine.specs.Trees.{Progress, holds, value_of, with_name, with_set, word_read, read_of, statement_of, tree_of}
use Rattle.kp_synth_stage.specs.Reading.{given, lacks}
use Rattle.kp_synth_stage.specs.Doing.{Doing, Truths, target_of, truth_of, miss_of, hazard_of, guess_of, after_stmt, after_stmts, begun, outcome_of}

-- an outcome after a hazard and guesses that came before
abbrev led : Bool → List PendingGuess → StageOutcome → StageOutcome
led h gs o = record { hazard = h || o.hazard; puts = o.puts; sets = o.sets; guesses = gs ++ o.guesses; aims = o.aims }

led_same : (o : StageOutcome) (h h' : Bool) (gs gs' : List PendingGuess) → h ≡ h' → gs ≡ gs'
    → ◌≡◌ {A = StageOutcome} (record { hazard = h; puts = o.puts; sets = o.sets; guesses = gs; aims = o.aims }) (record { hazard = h'; puts = o.puts; sets = o.sets; guesses = gs'; aims = o.aims })
led_same o h h' gs gs' e f = λ i. record { hazard = e i; puts = o.puts; sets = o.sets; guesses = f i; aims = o.aims }

or_none : (a b : Bool) → (a || b) ≡ ((a || false) || b)
or_none a b = ap (λ x. x || b) (sym (or-false a))

or_one : (a b : Bool) → (a || true) ≡ ((a || true) || b)
or_one true b = refl
or_one false b = refl

led_none : (h : Bool) (gs : List PendingGuess) (o : StageOutcome) → led h gs o ≡ led (h || false) (gs ++ []) o
led_none h gs o = led_same o _ _ _ _ (or_none h o.hazard) (ap (λ xs. xs ++ o.guesses) (sym (append-nil gs)))

ask_led : (h : Bool) (gs : List PendingGuess) (o : Option ℕ) (go : ℕ → StageOutcome)
    → led h gs (after_read o go) ≡ led (h || lacks true o) (gs ++ []) (go (given true o 0))
ask_led h gs (Some x) go = led_none h gs (go x)
ask_led h gs None go = led_same (go 0) _ _ _ _ (or_one h (go 0).hazard) (ap (λ xs. xs ++ (go 0).guesses) (sym (append-nil gs)))

guess_led : (h : Bool) (gs : List PendingGuess) (o : Option ℕ) (t miss : ℕ) (go : ℕ → StageOutcome)
    → led h gs (after_guess o t miss go) ≡ led (h || false) (gs ++ cond (lacks true o) (record { register = t; value = miss } ∷ []) []) (go (given true o miss))
guess_led h gs (Some x) t miss go = led_none h gs (go x)
guess_led h gs None t miss go = led_same (go miss) _ _ _ _ (or_none h (go miss).hazard) (sym (append_assoc gs (record { register = t; value = miss } ∷ []) (go miss).guesses))

module _ (ds : List Decl) (v : Truths) (hints : ℕ → ℕ) where
  abbrev outcome : Tree → StageOutcome
  outcome = run v hints

  read_runs : (h : Bool) (gs : List PendingGuess) (done : Progress) (r : ReadStmt) (guess : Option Expr) (b : Bool) (rest : Progress → Tree)
      → led h gs (outcome (cond b (read_of ds done r guess (λ x. rest (with_name done r.name.name (word_read ds r x)))) (rest (with_name done r.name.name (word_read ds r 0)))))
      ≡ led (h || hazard_of guess (lacks b (truth_of ds v done r guess)))
      (gs ++ guess_of guess (lacks b (truth_of ds v done r guess)) (record { register = target_of ds r; value = miss_of ds hints done guess }))
      (outcome (rest (with_name done r.name.name (word_read ds r (given b (truth_of ds v done r guess) (miss_of ds hints done guess))))))
  read_runs h gs done r None true rest = ask_led h gs (truth_of ds v done r None) (λ x. outcome (rest (with_name done r.name.name (word_read ds r x))))
  read_runs h gs done r (Some e) true rest = guess_led h gs (truth_of ds v done r (Some e)) (target_of ds r) (miss_of ds hints done (Some e)) (λ x. outcome (rest (with_name done r.name.name (word_read ds r x))))
  read_runs h gs done r None false rest = led_none h gs (outcome (rest (with_name done r.name.name (word_read ds r 0))))
  read_runs h gs done r (Some e) false rest = led_none h gs (outcome (rest (with_name done r.name.name (word_read ds r 0))))

  set_runs : (h : Bool) (gs : List PendingGuess) (done more : Progress) (b : Bool) (rest : Progress → Tree) → led h gs (outcome (cond b (rest more) (rest done))) ≡ led h gs (outcome (rest (cond b more done)))
  set_runs h gs done more true rest = refl
  set_runs h gs done more false rest = refl

  one_runs : (d : Doing) (x : StmtKind) (rest : Progress → Tree)
      → led d.hazard d.guesses (outcome (statement_of ds d.done x rest)) ≡ led (after_stmt ds v hints d x).hazard (after_stmt ds v hints d x).guesses (outcome (rest (after_stmt ds v hints d x).done))
  one_runs d (stmts.Read r) rest = read_runs d.hazard d.guesses d.done r r.guess (holds ds d.done r.when) rest
  one_runs d (stmts.Set n e when) rest = set_runs d.hazard d.guesses d.done (with_set ds d.done (result_named ds n.name) (value_of ds d.done e)) (holds ds d.done when) rest
  one_runs d _ rest = refl

  all_run : (d : Doing) (xs : List Stmt) → led d.hazard d.guesses (outcome (tree_of ds d.done xs)) ≡ outcome_of hints (after_stmts ds v hints d xs)
  all_run d [] = led_same (outcome_of hints d) _ _ _ _ (or-false d.hazard) (append-nil d.guesses)
  all_run d (x ∷ xs) = one_runs d x.kind (λ more. tree_of ds more xs) ∙ all_run (after_stmt ds v hints d x.kind) xs

  -- what a stage does is what its statements do
  pub stage_runs : (done : Progress) (xs : List Stmt) → run v hints (tree_of ds done xs) ≡ outcome_of hints (after_stmts ds v hints (begun done) xs)
  stage_runs done xs = all_run (begun done) xs

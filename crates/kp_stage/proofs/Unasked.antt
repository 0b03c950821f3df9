-- A rule that isn't checked in statements isn't violated there.
use Rattle.std.proofs.Common.{◌≡◌, ◌∙◌, ℕ, ◌+◌, List, [], ◌∷◌, length, Option, Some, None, false, refl, ap, arith}
use Rattle.std.proofs.lemmas.Bool.{Decides.Decides-eqb, not-false}
use Rattle.std.specs.Prelude.{◌==◌, not, nat_le, is_some}
use Rattle.kp_base.specs.{First.first, Findings.Collected, Findings.with_answers, declared.finding.Finding.Finding, declared.place.Place.Place}
use Rattle.kp_ast.specs.declared.tree.{Expr.Expr, Stmt.Stmt, StmtKind.StmtKind}
use Rattle.kp_ast.specs.declared.tree.StmtKind.TheVariants as stmts
use Rattle.kp_stage.specs.Rules.{ask_name, ask_expr, ask_option, ask_values, ask_guesses, ask_stmt, ask_stmts}
use Rattle.kp_stage.specs.declared.fault.StageFault.{StageFault}
use Rattle.kp_stage.specs.declared.fault.StageFault.TheVariants as faults
use Rattle.kp_stage.specs.{declared.rules.Rule.Rule, Findings.broken_unless, Findings.broken_if, Facts.At, Facts.Facts, inner.Tables.Entries, inner.Tables.look_up, inner.Tables.facts_in}
use Rattle.kp_stage.specs.inner.Asked.{asks_stmts}
use Rattle.kp_stage.specs.declared.facts.Facts as stored
use Rattle.kp_base.proofs.{Collecting.none_noted}
use Rattle.kp_stage.proofs.Names.{no_name}

-- a rule that no name violates
module _ (facts : Facts) (rule : Rule) (k : ℕ) (names : (q : List ℕ) (at : Place) → ask_name facts rule k q at ≡ None) where
  in_expr : (e : Expr) → ask_expr facts rule k e ≡ None
  in_expr e = no_name facts rule k names e

  in_option : (o : Option Expr) → ask_option facts rule k o ≡ None
  in_option None = refl
  in_option (Some e) = in_expr e

  in_values : (s : StmtKind) → ask_values facts rule k s ≡ None
  in_values (stmts.Read r) = λ i. first (in_option r.address i ∷ in_option r.when i ∷ [])
  in_values (stmts.Let n e) = in_expr e
  in_values (stmts.Put n e) = in_expr e
  in_values (stmts.Set n e when) = λ i. first (in_expr e i ∷ in_option when i ∷ [])
  in_values (stmts.Aim n e) = refl

  in_guesses : (s : StmtKind) → ask_guesses facts rule k s ≡ None
  in_guesses (stmts.Read r) = in_option r.guess
  in_guesses (stmts.Aim n e) = in_expr e
  in_guesses x = refl

  in_both : (s : StmtKind) → first (ask_values facts rule k s ∷ ask_guesses facts rule k s ∷ []) ≡ None
  in_both s i = first (in_values s i ∷ in_guesses s i ∷ [])

-- a rule that no statement violates
module _ (facts : Facts) (rule : Rule) (k : ℕ) (kinds : (j : ℕ) (s : StmtKind) → ask_stmt facts rule k j s ≡ None) where
  in_stmts : (j : ℕ) (ss : List Stmt) → first (ask_stmts facts rule k j ss) ≡ None
  in_stmts j [] = refl
  in_stmts j (s ∷ ss) = ap (λ o. first (o ∷ ask_stmts facts rule k (j + 1) ss)) (kinds j s.kind) ∙ in_stmts (j + 1) ss

-- nothing is found in an empty table
none_found : {V : Type 0} (es : Entries V) (q : List ℕ) → not (length es == 0) ≡ false → look_up es q ≡ None
none_found [] q e = refl
none_found (x ∷ es) q e =
    let empty : length (x ∷ es) ≡ 0 = (Decides-eqb (length (x ∷ es)) 0).0 (not-false (length (x ∷ es) == 0) e) in
    absurd (omega arith)

no_pipe : (t : stored.Facts) → asks_stmts t Rule.E17 ≡ false → (k : ℕ) (q : List ℕ) (at : Place) → ask_name (facts_in t) Rule.E17 k q at ≡ None
no_pipe t e k q at = ap (λ (o : Option At). broken_if (λ p. nat_le k p.stage) (λ p. faults.UsedEarly p.stage p.index k) o at) (none_found t.given.puts q e)

no_hint : (t : stored.Facts) → asks_stmts t Rule.E25 ≡ false → (k : ℕ) (q : List ℕ) (at : Place) → ask_name (facts_in t) Rule.E25 k q at ≡ None
no_hint t e k q at = ap (λ (o : Option ℕ). broken_unless (not (is_some o)) faults.HintAsValue at) (none_found t.named.hints q e)

no_sample : (t : stored.Facts) → asks_stmts t Rule.E34 ≡ false → (k : ℕ) (q : List ℕ) (at : Place) → ask_name (facts_in t) Rule.E34 k q at ≡ None
no_sample t e k q at = ap (λ (o : Option ℕ). broken_if (λ w. not (w == k)) (λ w. faults.SampleElsewhere w k) o at) (none_found t.named.samples q e)

no_answer : (t : stored.Facts) (rule : Rule) → asks_stmts t rule ≡ false → (k : ℕ) (ss : List Stmt) → first (ask_stmts (facts_in t) rule k 0 ss) ≡ None
no_answer t Rule.E15 e k = in_stmts (facts_in t) Rule.E15 k (λ j s. refl) 0
no_answer t Rule.E17 e k = in_stmts (facts_in t) Rule.E17 k (λ j s. in_both (facts_in t) Rule.E17 k (no_pipe t e k) s) 0
no_answer t Rule.E19 e k = in_stmts (facts_in t) Rule.E19 k (λ j s. refl) 0
no_answer t Rule.E22 e k = in_stmts (facts_in t) Rule.E22 k (λ j s. refl) 0
no_answer t Rule.E24 e k = in_stmts (facts_in t) Rule.E24 k (λ j s. refl) 0
no_answer t Rule.E25 e k = in_stmts (facts_in t) Rule.E25 k (λ j s. in_values (facts_in t) Rule.E25 k (no_hint t e k) s) 0
no_answer t Rule.E34 e k = in_stmts (facts_in t) Rule.E34 k (λ j s. in_both (facts_in t) Rule.E34 k (no_sample t e k) s) 0
no_answer t Rule.E35 e k = in_stmts (facts_in t) Rule.E35 k (λ j s. refl) 0
no_answer t x e k = cc

pub nothing_noted : (t : stored.Facts) (rule : Rule) (n : Collected (Finding StageFault)) (k : ℕ) (ss : List Stmt) → asks_stmts t rule ≡ false → with_answers n (ask_stmts (facts_in t) rule k 0 ss) ≡ n
nothing_noted t rule n k ss e = none_noted n (ask_stmts (facts_in t) rule k 0 ss) (no_answer t rule e k ss)

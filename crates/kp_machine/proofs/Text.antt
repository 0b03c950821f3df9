-- The text of a job whose names and widths are right: what its names name. And the names that the expressions of a stage may use.
use Rattle.std.proofs.Common.{◌≡◌, ◌∙◌, ℕ, List, Some, None, Bool, true, false, not, refl, ap, sym}
use Rattle.std.specs.{Option.option_map, Prelude.is_some, Prelude.slice_get, Prelude.unwrap_or}
use Rattle.kp_base.specs.{Check.ok, Check.◌>>=◌, declared.place.Place.Place}
use Rattle.kp_ast.specs.{Expressions.calls_of, Checked.checked_calls_of, declared.tree.Expr.Expr}
use Rattle.kp_ast.specs.declared.tree.{ExprKind.TheOpen.ExprKind-F, ExprKind.TheOpen.Expr-F, ExprKind.TheFolds.fold-Expr, ResultDecl.ResultDecl, Job.Job}
use Rattle.kp_ast.specs.declared.widths.NameKind.{NameKind}
use Rattle.kp_ast.specs.declared.tree.ExprKind.TheOpen as level
use Rattle.kp_ast.specs.declared.widths.Scope.TheVariants as scopes
use Rattle.kp_ast.specs.declared.widths.NameKind.TheVariants as kinds
use Rattle.kp_width.specs.Names.{Sense, Names, Scoped, nothing, look_up, find, or_else, is_value_in, is_hint}
use Rattle.kp_width.specs.{Declarations.address_width, Declarations.declarations_of, Statements.blocks_of, Widths.widths_of}
use Rattle.kp_width.proofs.{Unbroken.Unbroken, Unbroken.bind_unbroken, Found.first_name, Found.name_kind, Found.name_level}
use Rattle.kp_width.proofs.Calls.{Open, declared_calls_fit}
use Rattle.kp_stage.{specs.Facts.Facts, specs.Findings.Answer, specs.Rules.ask_name, specs.Rules.ask_kind, specs.Rules.ask_expr, specs.Rules.all_rules, proofs.Unbroken.answer_none}
use Rattle.kp_machine.{specs.Slots.targets_of, specs.Slots.number_of, specs.Slots.result_to, proofs.Cases.by_option, proofs.Results.to_stands}
use Rattle.kp_machine.proofs.Scopes.{Placed, IsSlot, ResultFits, all_placed, results_fit, storage_kind}

-- the question of a rule to the names in an expression
same_kind : (facts : Facts) (rule : _) (k : ℕ) (x : ExprKind-F (Place → Answer) Answer) (at : Place) → name_kind (ask_name facts rule k) x at ≡ ask_kind facts rule k x at
same_kind facts rule k (level.Lit l) at = refl
same_kind facts rule k _ at = refl

pub same_question : (facts : Facts) (rule : _) (k : ℕ) (e : Expr) → first_name (ask_name facts rule k) e ≡ ask_expr facts rule k e
same_question facts rule k e = λ i. fold-Expr (Place → Answer) Answer (λ x at. same_kind facts rule k x at i) name_level e

-- the name of a read or a let
abbrev pub is_local : NameKind → Bool
is_local kinds.Read = true
is_local kinds.Let = true
is_local _ = false

-- a name that has a value in a stage
abbrev pub is_bound : NameKind → Bool
is_bound kinds.Pipe = true
is_bound kinds.Sample = true
is_bound kinds.Read = true
is_bound kinds.Let = true
is_bound _ = false

-- what may be used as a value in a stage is bound, or it is a hint
pub value_kind : {G : Type 0} (k : ℕ) (kind : NameKind) → is_value_in (scopes.Stage k) kind ≡ true → (is_bound kind ≡ true → G) → (is_hint kind ≡ true → G) → G
value_kind k kinds.Pipe e bound hint = bound refl
value_kind k kinds.Sample e bound hint = bound refl
value_kind k kinds.Read e bound hint = bound refl
value_kind k kinds.Let e bound hint = bound refl
value_kind k kinds.Hint e bound hint = hint refl
value_kind k _ e bound hint = cc

-- the name of a read or a let is not a name of another kind
pub local_no : {G : Type 0} (takes : NameKind → Bool) → takes kinds.Read ≡ false → takes kinds.Let ≡ false → (kind : NameKind) → is_local kind ≡ true → takes kind ≡ true → G
local_no takes read let_ kinds.Read e f = let g : false ≡ true = sym read ∙ f in cc
local_no takes read let_ kinds.Let e f = let g : false ≡ true = sym let_ ∙ f in cc
local_no takes read let_ _ e f = cc

-- a name in scope is one of the block, or one of the text
pub found_where : {G : Type 0} (s : Scoped) (q : List ℕ) (m : Sense) → find s q ≡ Some m → (look_up s.local q ≡ Some m → G) → (look_up s.local q ≡ None → look_up s.text q ≡ Some m → G) → G
found_where s q m e local text = by_option (look_up s.local q)
    (λ none. text none (sym (ap (λ o. or_else o (look_up s.text q)) none) ∙ e))
    (λ x some. local (some ∙ sym (ap (λ o. or_else o (look_up s.text q)) some) ∙ e))

-- rule E25: a name is that of no hint
pub no_hint : (facts : Facts) (rule : _) (k : ℕ) (q : List ℕ) (at : Place) → slice_get all_rules 10 ≡ Some rule → ask_name facts rule k q at ≡ None → not (is_some (facts.hint q)) ≡ true
no_hint facts rule k q at is e =
    answer_none (not (is_some (facts.hint q))) _ (ap (λ o. unwrap_or (option_map (λ r. ask_name facts r k q at) o) None) is ∙ e)

module _ (job : Job) (unbroken : Unbroken (widths_of job)) where
  abbrev pub text : Names
  text = (declarations_of job.decls 0 0 nothing job.decls).value.text

  pub declared_right : Unbroken (declarations_of job.decls 0 0 nothing job.decls)
  declared_right = (bind_unbroken (declarations_of job.decls 0 0 nothing job.decls) (λ s. blocks_of job.decls 0 s job.blocks >>= (λ u. ok u.entries)) unbroken).0

  pub placed : (q : List ℕ) (m : Sense) → look_up text q ≡ Some m → Placed job.decls q m
  placed q m e = all_placed job.decls 0 0 nothing job.decls declared_right q m refl e

  pub calls_open : Open job.decls (checked_calls_of job.decls) (calls_of job.decls) (declarations_of job.decls 0 0 nothing job.decls).value
  calls_open = declared_calls_fit job.decls declared_right

  -- the result of a target is one of the text
  pub fits_text : (x : ℕ) (r : ResultDecl) → result_to (targets_of job.decls) job.decls x ≡ Some r → ResultFits text r × (number_of (targets_of job.decls) r.target.name ≡ x)
  fits_text x r e =
      let s = to_stands (targets_of job.decls) job.decls x r e in
      (results_fit job.decls 0 0 nothing job.decls refl declared_right s.0.index r s.0.there, s.1)

  -- the target of a result
  pub target_slot : (r : ResultDecl) (f : ResultFits text r) → IsSlot (targets_of job.decls) r.target.name f.sense.width (address_width f.sense.kind)
  target_slot r f =
      (placed r.target.name f.sense f.found).target (storage_kind (is_some r.address) f.sense.kind f.stored)

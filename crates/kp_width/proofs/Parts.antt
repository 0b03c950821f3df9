-- A part of an expression that violates no rule, where it must have a width.
use Rattle.std.proofs.{Common.◌≡◌, Common.ℕ, Common.List, lemmas.Bool.eqb-true}
use Rattle.kp_ast.specs.declared.tree.{Decl.Decl, Expr.Expr}
use Rattle.kp_width.specs.{declared.fault.Destination.Destination, Names.Scoped, Expressions.part_of, Expressions.width_of, Expressions.value_of}
use Rattle.kp_width.proofs.Unbroken.{Unbroken, first_split, answer_unbroken}

pub given_parts : (ds : List Decl) (done : ℕ) (s : Scoped) (e : Expr) (w : ℕ) (to : Destination) → Unbroken (value_of (part_of ds done s e) w to) → Unbroken (width_of ds done s e) × ((width_of ds done s e).value ≡ w)
given_parts ds done s e w to h = let x = first_split (width_of ds done s e).asked _ h in (x.0, eqb-true _ _ (answer_unbroken _ _ _ x.1).0)

use Rattle.std.proofs.Common.{◌≡◌, ◌∙◌, true, false, length, arith, ap, get_or}
use Rattle.kp_ast.{specs.Expressions.is_function, proofs.Bodies.length-capped_bodies, proofs.Bodies.found_here, proofs.Bodies.found_before}
use Rattle.kp_ast.proofs.size.body_size.Goals.{then-is_function, else-is_function}
use Rattle.kp_ast.proofs.size.body_size.Goals as goal

pub bounds-bodies-i : goal.bounds-bodies-i
bounds-bodies-i c = omega (arith, ap length c.requires, length-capped_bodies c.args.decls.now)

pub loop-i-preserved : goal.loop-i-preserved
loop-i-preserved c = elim c.if-is_function.branch [
  | then-is_function w ↦
      let here : is_function c.args.name.now c.index-decls-i.result ≡ true = cc in
      w.size-is ∙ ap (λ ns. get_or ns c.loop-i.i 0) c.requires ∙ found_here c.args.decls.now c.loop-i.i c.index-decls-i.result (omega arith) c.index-decls-i.is c.args.name.now here
  | else-is_function w ↦
      let past : is_function c.args.name.now c.index-decls-i.result ≡ false = cc in
      w.size-is ∙ c.loop-i.invariant ∙ found_before c.args.decls.now c.loop-i.i c.index-decls-i.result (omega arith) c.index-decls-i.is c.args.name.now past
]

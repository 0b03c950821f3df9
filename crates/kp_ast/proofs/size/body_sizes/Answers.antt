use Rattle.std.proofs.Common.{◌≡◌, ◌-◌, arith, ap, take}
use Rattle.kp_ast.proofs.Bodies.{capped_more}
use Rattle.kp_ast.proofs.size.body_sizes.Goals as goal

pub loop-i-preserved : goal.loop-i-preserved
loop-i-preserved c =
    let more = capped_more c.args.decls.now c.loop-i.i c.index-decls-i.result (omega arith) c.index-decls-i.is in
    let front : take (c.loop-i.i - 0) c.args.decls.now ≡ take c.loop-i.i c.args.decls.now = ap (λ n. take n c.args.decls.now) (omega arith) in
    cc (c.in_ok-push.ensures.items)

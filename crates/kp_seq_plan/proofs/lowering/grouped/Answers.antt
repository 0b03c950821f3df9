use Rattle.std.proofs.{Common.subst, Common.sym, Common.◌≡◌, Common.IfSome, lemmas.Result.IfOk-weaker}
use Rattle.kp_bits.specs.declared.operator.BinOp.{BinOp}
use Rattle.kp_seq_plan.{specs.inner.Parts.Replaces, proofs.Replacing.regrouped}
use Rattle.kp_seq_plan.specs.declared.code.Code.TheViews as codes
use Rattle.kp_seq_plan.proofs.lowering.grouped.Goals as goal

pub returns-in-Some : goal.returns-in-Some
returns-in-Some c =
    let op = c.args.op in
    let b = c.args.b in
    let k = c.in-Binary in
    let w = c.args.width in
    let m = c.args.mask in
    let is = c.in-Some.ensures in
    let or : op ≡ BinOp.Or = subst (λ o. IfSome o (λ x. op ≡ BinOp.Or)) is.1 c.union.ensures.or in
    let one : Replaces c.in-Some.set (codes.Binary op c.get.result.now b w m) = subst (λ o. IfSome o (λ x. Replaces x (codes.Binary op c.get.result.now b w m))) is.1 (c.union.ensures.set w m) in
    let set = regrouped op k.inner c.args.a k.first k.last c.get.result.now b c.in-Some.set k.width_of_a k.mask_of_a w m k.is is.0 c.get.ensures or one in
    IfOk-weaker _ _ _ (λ x e. subst (λ y. Replaces y (codes.Binary op c.args.a b w m)) (sym e) set) c.with_set.ensures

use Rattle.std.proofs.Common.{◌≡◌, ◌∙◌, List, length, take, subst, ap, map, arith, true, get_or}
use Rattle.std.{proofs.Math.Seq.take-length, specs.List.list_all}
use Rattle.kp_bits.specs.Operators.{joined_of}
use Rattle.kp_net.specs.{declared.node.NodeId.NodeId, Widths.no_node}
use Rattle.kp_pool.{specs.Folding.is_const, specs.inner.Folds.number_at, proofs.Folds.row_of_consts}
use Rattle.kp_pool.proofs.fold.joined.Goals as goal

pub returns : goal.returns
returns c =
    let ns = c.args.nodes.now in
    let parts = c.args.parts.now in
    let z : c.loop-i.i ≡ length parts = omega (arith, c.loop-i-test.false, c.loop-i.auto.i-end) in
    let all : take c.loop-i.i parts ≡ parts = ap (λ k. take k parts) z ∙ take-length parts in
    let inv = c.loop-i.invariant in
    let P : List NodeId → Type 0 = λ xs. list_all (λ a. is_const (get_or ns a.0 no_node).kind) xs ≡ true in
    λ k ok. row_of_consts ns k parts c.loop-i.word c.requires.right ok (subst P all inv.3) (inv.1 ∙ ap (λ (xs : List NodeId). joined_of (map (λ a. number_at ns a.0) xs)) all)

use Rattle.std.proofs.Common.{◌∙◌, ◌∷◌, ℕ, List, cond, Some, sym, ap, subst}
use Rattle.std.specs.Map.{lookup}
use Rattle.kp_net.specs.{declared.node.NodeId.NodeId, Names.same}
use Rattle.kp_vlog.specs.declared.tree.Update.{Update}
use Rattle.kp_vread.{specs.inner.Building.node_by, specs.inner.Nexts.AreNexts, proofs.Updating.reg_next}
use Rattle.kp_vread.proofs.nexts.Nexts.put.Goals as goal

pub returns-in_ok-insert-in-Reg : goal.returns-in_ok-insert-in-Reg
returns-in_ok-insert-in-Reg c = λ xs a.
    let es = c.self.inside.table.entries in
    let k = c.in-Reg.name in
    let v = c.in-Reg.value in
    subst (λ (u : Update). AreNexts c.args.wires.now c.insert.new.self.entries (u ∷ xs)) (sym c.in-Reg.is)
    (reg_next c.args.wires.now c.args.self.now c.insert.new.self.entries k v
    (λ n. c.in_ok-insert-in-Reg.ensures.updates.0 n ∙ ap (λ (key : List ℕ). cond (same key n) (Some c.node.result) (lookup (same n) es)) c.new.ensures
    ∙ ap (λ (b : NodeId). cond (same k.name n) (Some b) (lookup (same n) es)) c.node.ensures
    ∙ ap (λ (xs : List (List ℕ × NodeId)). cond (same k.name n) (Some (node_by c.args.wires.now v)) (lookup (same n) xs)) c.self.view_is) xs a)

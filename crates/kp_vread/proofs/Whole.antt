-- The netlist of a module that violates no rule.
use Rattle.std.proofs.Common.{◌≡◌, ◌∙◌, ℕ, ◌≤◌, List, length, None, sym, ap, subst}
use Rattle.kp_net.specs.{declared.node.Node.Node, declared.netlist.Parts.Parts, Netlist.Net, Parts.NetOk}
use Rattle.kp_vlog.specs.{declared.tree.VModule.VModule, Scope.scope_of, Scope.sizes_of, Rules.broken, Denote.made_by, Denote.parts_of, Denote.net_of}
use Rattle.kp_vlog.proofs.Sound.{sound}
use Rattle.kp_vread_rules.specs.Tables.{AlikeSizes}
use Rattle.kp_vread.specs.inner.{Numbering.Numbered, Numbering.AreNumbered, Building.Numbers, Building.IsScope, Building.IsMade}

net : List Node → Parts → Net
net nodes parts = record { nodes = nodes; parts = parts }

pub net_same : (m : VModule) (t : Numbers) (wires : Numbered) (nodes : List Node) (parts : Parts) → IsScope t (scope_of m) → IsMade wires nodes (made_by (scope_of m) m.items)
    → ((ks : List (List ℕ)) → AreNumbered wires ks → AlikeSizes t.sizes (sizes_of m) → parts ≡ parts_of ks m) → record { nodes = nodes; parts = parts } ≡ net_of m
unfolding net_of net
net_same m t wires nodes parts s h p =
    let made = made_by (scope_of m) m.items in
    ap (λ ns. net ns parts) h.nodes ∙ ap (net made.nodes) (p made.wires h.wires s.sizes)

pub net_ok : (m : VModule) (n : Net) → length m.samples ≤ 16777216 → length m.items ≤ 16777216 → broken m ≡ None → n ≡ net_of m → NetOk n
net_ok m n few more b e = subst NetOk (sym e) (sound m (record { items = more; samples = few }) b)

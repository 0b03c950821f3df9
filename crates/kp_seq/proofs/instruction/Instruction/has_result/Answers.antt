use Rattle.std.proofs.Common.{◌∙◌, ◌<◌, ◌≤◌, None, false, length, get_or, is_some, sym, ap, arith}
use Rattle.std.proofs.lemmas.{Bool.le-ltb, List.get_or_default, List.get_or_past}
use Rattle.kp_seq.{specs.inner.Resolved.Raw, proofs.Flight.where_some}
use Rattle.kp_seq.proofs.instruction.Instruction.has_result.Goals as goal

pub returns-then-target-len : goal.returns-then-target-len
returns-then-target-len c =
    let bs = c.self.inside.is_set.items in
    let t = c.args.target in
    let l : t < length bs = omega (arith, c.if-target-len.true, c.len.ensures, c.self.inside.is_set.ok.0) in
    c.index.ensures ∙ get_or_default bs t _ false l ∙ sym (where_some bs c.self.inside.results.words t) ∙ ap (λ (r : Raw). is_some (get_or r.results t None)) c.self.view_is

pub returns-else-target-len : goal.returns-else-target-len
returns-else-target-len c =
    let bs = c.self.inside.is_set.items in
    let t = c.args.target in
    let past : length bs ≤ t = omega (arith, c.if-target-len.false, c.len.ensures, c.self.inside.is_set.ok.0) in
    le-ltb t c.len.result c.if-target-len.false ∙ sym (get_or_past bs t false past) ∙ sym (where_some bs c.self.inside.results.words t) ∙ ap (λ (r : Raw). is_some (get_or r.results t None)) c.self.view_is

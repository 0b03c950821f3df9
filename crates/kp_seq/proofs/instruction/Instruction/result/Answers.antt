use Rattle.std.proofs.Common.{◌≡◌, ◌∙◌, ℕ, List, Option, None, true, false, get_or, is_some, unwrap_or, sym, ap}
use Rattle.kp_seq.{specs.inner.Resolved.Raw, specs.inner.Flight.where_set}
use Rattle.kp_seq.proofs.Flight.{where_some, where_value}
use Rattle.kp_seq.proofs.instruction.Instruction.result.Goals as goal

pub returns-then-has_result : goal.returns-then-has_result
returns-then-has_result c =
    let bs = c.self.inside.is_set.items in
    let ws = c.self.inside.results.words in
    let t = c.args.target in
    let view : where_set bs ws ≡ c.args.self.now.results = ap (λ (r : Raw). r.results) c.self.view_is in
    let on : get_or bs t false ≡ true =
    sym (where_some bs ws t) ∙ ap (λ (rs : List (Option ℕ)). is_some (get_or rs t None)) view ∙ sym c.has_result.ensures ∙ c.if-has_result.true in
    c.word_at.ensures ∙ ap (λ (xs : List ℕ). get_or xs t 0) c.all.ensures ∙ sym (where_value bs ws t on) ∙ ap (λ (rs : List (Option ℕ)). unwrap_or (get_or rs t None) 0) view

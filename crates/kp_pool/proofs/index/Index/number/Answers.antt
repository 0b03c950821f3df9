use Rattle.std.proofs.Common.{◌∙◌, ℕ, Option, MatchOption, length, sym, subst}
use Rattle.kp_net.specs.inner.Lookup.{LacksBelow}
use Rattle.kp_pool.specs.inner.Numbers.{Numbered, Has, IsIndex}
use Rattle.kp_pool.proofs.index.Index.number.Goals as goal

pub returns-in-Some : goal.returns-in-Some
returns-in-Some c =
    let ns = c.args.nodes.now in
    let n = c.args.n.now in
    let t = c.self.inside.numbers.entries in
    let h = subst (λ (x : Numbered). IsIndex x ns) (sym c.self.view_is) c.requires in
    subst (λ (o : Option ℕ). MatchOption o (LacksBelow ns n (length t)) (Has ns n)) (sym (sym c.in-Some.is ∙ c.copied.ensures ∙ c.get.ensures.value)) (h.each n)

pub search-requires-clause-lacks : goal.search-requires-clause-lacks
search-requires-clause-lacks c =
    let ns = c.args.nodes.now in
    let n = c.args.n.now in
    let t = c.self.inside.numbers.entries in
    let h = subst (λ (x : Numbered). IsIndex x ns) (sym c.self.view_is) c.requires in
    let lacks : LacksBelow ns n (length t) =
    subst (λ (o : Option ℕ). MatchOption o (LacksBelow ns n (length t)) (Has ns n)) (sym (sym c.in-None.is ∙ c.copied.ensures ∙ c.get.ensures.value)) (h.each n) in
    subst (LacksBelow ns n) (sym c.len.ensures.len) lacks

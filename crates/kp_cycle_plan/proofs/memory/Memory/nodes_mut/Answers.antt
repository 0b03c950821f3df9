use Rattle.std.proofs.Common.{◌≡◌, ◌+◌, ℕ, List, length, map, sym, refl, ap, ◌∙◌, arith}
use Rattle.std.specs.List.{refill}
use Rattle.kp_region.{specs.Words.Words, specs.Words.span_words, specs.Words.overwritten, proofs.Spans.lent_length, proofs.Spans.lent_front, proofs.Spans.lent_lands}
use Rattle.kp_cycle_plan.specs.{inner.Spans.first_span, inner.Spans.front, inner.Spans.held, Storage.Stored}
use Rattle.kp_cycle_plan.proofs.{Spans.stored_in, Copies.laid_past, Copies.view_past}
use Rattle.kp_cycle_plan.proofs.memory.Memory.nodes_mut.Goals as goal

pub words_mut-requires : goal.words_mut-requires
words_mut-requires c = record { within = omega (arith, c.self.invariant.1) }

pub invariant_of-self-lent : goal.invariant_of-self-lent
invariant_of-self-lent c w =
    let m = c.self.inside in
    let last = c.self.invariant.1 in
    let end : m.nodes.start + m.nodes.len ≡ length m.region.words = last.0 ∙ last.1 in
    let new : Words = overwritten m.region m.nodes w in
    let many = lent_length m.region m.nodes end w in
    (laid_past (front m.region m.nodes) (first_span m.reg_count) m.files.items m.whole m.slots.items c.self.invariant.0 new.words (lent_front m.region m.nodes end w) many, (last.0, last.1 ∙ sym many))

pub returns : goal.returns
returns c =
    let m = c.self.inside in
    let r = front m.region m.nodes in
    let g = first_span m.reg_count in
    let end : m.nodes.start + m.nodes.len ≡ length m.region.words = c.self.invariant.1.0 ∙ c.self.invariant.1.1 in (
      (
        refl,
        λ w. let new : Words = overwritten m.region m.nodes w in
            ap (λ (v : List ℕ). stored_in v g m.files.items (map (held new g m.files.items) m.slots.items) new) (lent_lands m.region m.nodes end w)
            ∙ view_past r g m.files.items m.whole m.slots.items c.self.invariant.0 new.words (lent_front m.region m.nodes end w) (refill (length (span_words m.region m.nodes)) (span_words m.region m.nodes) w)
            ∙ ap (λ (x : Stored). record x { nodes = refill (length x.nodes) x.nodes w }) c.self.view_is,
      ),
      record { writes_back = tt; value = c.words_mut.ensures.value ∙ ap (λ (x : Stored). x.nodes) c.self.view_is },
    )

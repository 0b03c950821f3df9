use Rattle.std.proofs.Common.{◌≡◌, ◌≤◌, ◌+◌, ◌-◌, ℕ, ◌++◌, List, length, map, take, drop, inl, refl, sym, subst, ap, ◌∙◌, arith}
use Rattle.std.proofs.lemmas.List.{take-take}
use Rattle.kp_region.specs.{declared.span.Span.Span, Words.Words, Words.span_words, Words.copied}
use Rattle.kp_region.{proofs.Laid.take-laid_over, proofs.Spans.span_length, proofs.Spans.length_copied, proofs.Spans.copy_starts}
use Rattle.kp_cycle_plan.specs.{inner.Spans.first_span, inner.Spans.front, inner.Spans.IsLast, inner.Spans.Laid, inner.Spans.held, Storage.Stored}
use Rattle.kp_cycle_plan.proofs.{Spans.stored_in, Copies.laid_past, Copies.view_past}
use Rattle.kp_cycle_plan.proofs.memory.Memory.show_regs.Goals as goal

-- fewer words from the start of a region
first_part : (r : Words) (a b : ℕ) → a ≤ b → span_words r (first_span a) ≡ take a (span_words r (first_span b))
first_part r a b few =
    let here : 0 + a - 0 ≡ a = omega arith in
    let there : b ≡ 0 + b - 0 = omega arith in
    ap (λ (n : ℕ). take n r.words) here ∙ sym (take-take a b r.words few) ∙ ap (λ (n : ℕ). take a (take n r.words)) there

-- there are as many registers and nodes
few_regs : (r : Words) (n : Span) (regs count : ℕ) (m : Stored) → IsLast n r → regs ≤ n.start → span_words r (first_span regs) ≡ m.regs → count ≤ length m.regs → count ≤ regs
few_regs r n regs count m last below is few = omega (arith, few, ap (λ (v : List ℕ). length v) is, span_length r (first_span regs) (omega (arith, last)) (omega (arith, last, below)))

few_nodes : (r : Words) (n : Span) (count : ℕ) (m : Stored) → IsLast n r → span_words r n ≡ m.nodes → count ≤ length m.nodes → count ≤ n.len
few_nodes r n count m last is few = omega (arith, few, ap (λ (v : List ℕ). length v) is, span_length r n (omega (arith, last)) (omega (arith, last)))

pub copy-requires-clause-from_within : goal.copy-requires-clause-from_within
copy-requires-clause-from_within c =
    let m = c.self.inside in
    let last = c.self.invariant.1 in
    let regs = c.self.invariant.0.apart.within 0 (omega arith) in
    let few = few_regs m.region m.nodes m.reg_count c.args.count c.args.self.now last (omega (arith, regs)) (ap (λ (x : Stored). x.regs) c.self.view_is) c.requires.regs in
    omega (arith, few, regs, last)

pub copy-requires-clause-to_within : goal.copy-requires-clause-to_within
copy-requires-clause-to_within c =
    let m = c.self.inside in
    let last = c.self.invariant.1 in
    let fits = few_nodes m.region m.nodes c.args.count c.args.self.now last (ap (λ (x : Stored). x.nodes) c.self.view_is) c.requires.nodes in
    omega (arith, fits, last)

pub copy-requires-clause-disjoint : goal.copy-requires-clause-disjoint
copy-requires-clause-disjoint c =
    let m = c.self.inside in
    let regs = c.self.invariant.0.apart.within 0 (omega arith) in
    let few = few_regs m.region m.nodes m.reg_count c.args.count c.args.self.now c.self.invariant.1 (omega (arith, regs)) (ap (λ (x : Stored). x.regs) c.self.view_is) c.requires.regs in
    inl (omega (arith, few, regs))

pub invariant_of-self : goal.invariant_of-self
invariant_of-self c =
    let m = c.self.inside in
    let g = first_span m.reg_count in
    let last = c.self.invariant.1 in
    let count = c.args.count in
    let from : Span = record { start = 0; len = count } in
    let to : Span = record { start = m.nodes.start; len = count } in
    let new : Words = copied m.region from to in
    let regs = c.self.invariant.0.apart.within 0 (omega arith) in
    let few = few_regs m.region m.nodes m.reg_count count c.args.self.now last (omega (arith, regs)) (ap (λ (x : Stored). x.regs) c.self.view_is) c.requires.regs in
    let fits = few_nodes m.region m.nodes count c.args.self.now last (ap (λ (x : Stored). x.nodes) c.self.view_is) c.requires.nodes in
    let many : length new.words ≡ length m.region.words = length_copied m.region from to (omega (arith, last)) (omega (arith, few, regs, last)) (omega (arith, fits, last)) refl in
    let P : Words → Type 0 = λ x. Laid (front x m.nodes) g m.files.items m.whole m.slots.items × IsLast m.nodes x in
    subst P (sym c.copy.ensures.copied) (
      laid_past (front m.region m.nodes) g m.files.items m.whole m.slots.items c.self.invariant.0 new.words (take-laid_over m.region.words (span_words m.region from) m.nodes.start (omega (arith, last)) m.nodes.start (omega arith)) many,
      (last.0, last.1 ∙ sym many),
    )

pub returns : goal.returns
returns c =
    let m = c.self.inside in
    let g = first_span m.reg_count in
    let last = c.self.invariant.1 in
    let count = c.args.count in
    let from : Span = record { start = 0; len = count } in
    let to : Span = record { start = m.nodes.start; len = count } in
    let new : Words = copied m.region from to in
    let values : List ℕ = span_words m.region m.nodes in
    let regs = c.self.invariant.0.apart.within 0 (omega arith) in
    let few = few_regs m.region m.nodes m.reg_count count c.args.self.now last (omega (arith, regs)) (ap (λ (x : Stored). x.regs) c.self.view_is) c.requires.regs in
    let fits = few_nodes m.region m.nodes count c.args.self.now last (ap (λ (x : Stored). x.nodes) c.self.view_is) c.requires.nodes in
    ap (λ (x : Words). stored_in (span_words x m.nodes) g m.files.items (map (held x g m.files.items) m.slots.items) x) c.copy.ensures.copied
    ∙ ap (λ (v : List ℕ). stored_in v g m.files.items (map (held new g m.files.items) m.slots.items) new)
    (copy_starts m.region from to (omega (arith, last)) (omega (arith, few, regs, last)) (omega (arith, fits, last)) refl m.nodes refl fits ∙ ap (λ (v : List ℕ). v ++ drop count values) (first_part m.region count m.reg_count few))
    ∙ view_past (front m.region m.nodes) g m.files.items m.whole m.slots.items c.self.invariant.0 new.words (take-laid_over m.region.words (span_words m.region from) m.nodes.start (omega (arith, last)) m.nodes.start (omega arith)) (take count (span_words m.region g) ++ drop count values)
    ∙ ap (λ (x : Stored). record x { nodes = take count x.regs ++ drop count x.nodes }) c.self.view_is

use Rattle.std.proofs.Common.{◌+◌, ℕ, List, length, map, set, sym, subst, ap, ◌∙◌, arith}
use Rattle.std.proofs.lemmas.List.{length-set, take-set-le}
use Rattle.kp_region.{specs.Words.Words, specs.Words.span_words, proofs.Spans.span_length, proofs.Spans.span_lands}
use Rattle.kp_cycle_plan.specs.{inner.Spans.first_span, inner.Spans.front, inner.Spans.IsLast, inner.Spans.Laid, inner.Spans.held, Storage.Stored}
use Rattle.kp_cycle_plan.proofs.{Spans.stored_in, Copies.laid_past, Copies.view_past, Copies.written_last}
use Rattle.kp_cycle_plan.proofs.memory.Memory.set_node.Goals as goal

pub put-requires-clause-within : goal.put-requires-clause-within
put-requires-clause-within c = omega (arith, c.self.invariant.1)

pub put-requires-clause-in_span : goal.put-requires-clause-in_span
put-requires-clause-in_span c =
    let m = c.self.inside in
    omega (arith, c.requires, ap (λ (x : Stored). length x.nodes) c.self.view_is, span_length m.region m.nodes (omega (arith, c.self.invariant.1)) (omega (arith, c.self.invariant.1)))

pub invariant_of-self : goal.invariant_of-self
invariant_of-self c =
    let m = c.self.inside in
    let r = front m.region m.nodes in
    let g = first_span m.reg_count in
    let i = c.args.i in
    let v = c.args.value in
    let ws = set m.region.words (m.nodes.start + i) v in
    let P : Words → Type 0 = λ x. Laid (front x m.nodes) g m.files.items m.whole m.slots.items × IsLast m.nodes x in
    subst P (sym c.put.ensures.written) (
      laid_past r g m.files.items m.whole m.slots.items c.self.invariant.0 ws (take-set-le m.nodes.start m.region.words (m.nodes.start + i) v (omega arith)) (length-set m.region.words (m.nodes.start + i) v),
      written_last m.region m.nodes m.nodes i v c.self.invariant.1,
    )

pub returns : goal.returns
returns c =
    let m = c.self.inside in
    let r = front m.region m.nodes in
    let g = first_span m.reg_count in
    let i = c.args.i in
    let v = c.args.value in
    let ws = set m.region.words (m.nodes.start + i) v in
    ap (λ (x : Words). stored_in (span_words x m.nodes) g m.files.items (map (held x g m.files.items) m.slots.items) x) c.put.ensures.written
    ∙ ap (λ (n : List ℕ). stored_in n g m.files.items (map (held (record r { words = ws }) g m.files.items) m.slots.items) (record r { words = ws })) (span_lands m.region m.nodes i v (omega (arith, c.requires, ap (λ (x : Stored). length x.nodes) c.self.view_is, span_length m.region m.nodes (omega (arith, c.self.invariant.1)) (omega (arith, c.self.invariant.1)))))
    ∙ view_past r g m.files.items m.whole m.slots.items c.self.invariant.0 ws (take-set-le m.nodes.start m.region.words (m.nodes.start + i) v (omega arith)) (set (span_words m.region m.nodes) i v)
    ∙ ap (λ (x : Stored). record x { nodes = set x.nodes i v }) c.self.view_is

use Rattle.std.proofs.Common.{◌<◌, ◌∷◌, List, ℕ, Option, length, map, set, sym, subst, ap, ◌∙◌, arith, inr}
use Rattle.kp_region.{specs.Words.Words, specs.Words.span_words, specs.Words.written, proofs.Spans.span_length, proofs.Spans.span_stays, proofs.Spans.write_one}
use Rattle.kp_cycle_plan.specs.{inner.Spans.first_span, inner.Spans.front, inner.Spans.IsLast, inner.Spans.Laid, inner.Spans.held, Storage.Stored}
use Rattle.kp_cycle_plan.proofs.{Spans.stored, Spans.stored_in, Copies.laid_written, Copies.part_written, Copies.written_last}
use Rattle.kp_net.specs.Netlist.{State}
use Rattle.kp_cycle_plan.proofs.memory.Memory.set_reg.Goals as goal

pub put-requires-clause-within : goal.put-requires-clause-within
put-requires-clause-within c =
    let regs = c.self.invariant.0.apart.within 0 (omega arith) in
    omega (arith, regs, c.self.invariant.1)

pub invariant_of-self : goal.invariant_of-self
invariant_of-self c =
    let m = c.self.inside in
    let g = first_span m.reg_count in
    let P : Words → Type 0 = λ r. Laid (front r m.nodes) g m.files.items m.whole m.slots.items × IsLast m.nodes r in
    subst P (sym c.put.ensures.written)
    (laid_written (front m.region m.nodes) g m.files.items m.whole m.slots.items c.self.invariant.0 g c.args.i c.args.value, written_last m.region m.nodes g c.args.i c.args.value c.self.invariant.1)

pub returns : goal.returns
returns c =
    let m = c.self.inside in
    let g = first_span m.reg_count in
    let r = front m.region m.nodes in
    let h = c.self.invariant.0 in
    let values : List ℕ = span_words m.region m.nodes in
    let slots : Words → List (Option State) = λ x. map (held x g m.files.items) m.slots.items in
    let l : c.args.i < g.len = omega (arith, c.requires, ap (λ (x : Stored). length x.regs) c.self.view_is, span_length r g h.apart.sound (h.apart.within 0 (omega arith))) in
    ap (λ (x : Words). stored_in (span_words x m.nodes) g m.files.items (slots x) x) c.put.ensures.written
    ∙ ap (λ (v : List ℕ). stored_in v g m.files.items (slots (written r g c.args.i c.args.value)) (written r g c.args.i c.args.value)) (span_stays m.region m.nodes g c.args.i c.args.value (inr (h.apart.within 0 (omega arith))) l)
    ∙ ap (λ (s : List (Option State)). stored_in values g m.files.items s (written r g c.args.i c.args.value))
    (part_written r g m.files.items m.whole m.slots.items h 0 c.args.i c.args.value (omega arith) l)
    ∙ ap (stored values (slots r)) (write_one r (g ∷ m.files.items) 0 c.args.i c.args.value h.apart (omega arith) l)
    ∙ ap (λ (x : Stored). record x { regs = set x.regs c.args.i c.args.value }) c.self.view_is

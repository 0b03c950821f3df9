use Rattle.std.proofs.Common.{◌<◌, ℕ, List, Option, get_or, map, set, suc, [], sym, subst, ap, ◌∙◌, arith, inr}
use Rattle.kp_region.{specs.declared.span.Span.Span, specs.Words.Words, specs.Words.span_words, specs.Words.written, specs.Spans.no_span, proofs.Spans.span_stays}
use Rattle.kp_cycle_plan.specs.{inner.Spans.first_span, inner.Spans.front, inner.Spans.IsLast, inner.Spans.Laid, inner.Spans.held, Storage.Stored}
use Rattle.kp_cycle_plan.proofs.{Spans.file_span, Spans.write_file, Spans.stored_in, Copies.laid_written, Copies.part_written, Copies.written_last}
use Rattle.kp_net.specs.Netlist.{State}
use Rattle.kp_cycle_plan.proofs.memory.Memory.set_word.Goals as goal

pub overflow_cast-address : goal.overflow_cast-address
overflow_cast-address c =
    let m = c.self.inside in
    let r = front m.region m.nodes in
    let g = first_span m.reg_count in
    let h = c.self.invariant.0 in
    let p = file_span (span_words m.region m.nodes) r g m.files.items (map (held r g m.files.items) m.slots.items) c.args.self.now c.args.file c.args.address c.index-span.result.now h.apart c.self.view_is c.requires.file c.requires.address c.index-span.ensures in
    omega (arith, p.0, p.1, h.apart.few)

pub put-requires-clause-within : goal.put-requires-clause-within
put-requires-clause-within c =
    let m = c.self.inside in
    let r = front m.region m.nodes in
    let g = first_span m.reg_count in
    let h = c.self.invariant.0 in
    let p = file_span (span_words m.region m.nodes) r g m.files.items (map (held r g m.files.items) m.slots.items) c.args.self.now c.args.file c.args.address c.index-span.result.now h.apart c.self.view_is c.requires.file c.requires.address c.index-span.ensures in
    omega (arith, p.0, c.self.invariant.1)

pub invariant_of-self : goal.invariant_of-self
invariant_of-self c =
    let m = c.self.inside in
    let s = c.index-span.result.now in
    let P : Words → Type 0 = λ r. Laid (front r m.nodes) (first_span m.reg_count) m.files.items m.whole m.slots.items × IsLast m.nodes r in
    subst P (sym c.put.ensures.written)
    (laid_written (front m.region m.nodes) (first_span m.reg_count) m.files.items m.whole m.slots.items c.self.invariant.0 s c.args.address c.args.value, written_last m.region m.nodes s c.args.address c.args.value c.self.invariant.1)

pub returns : goal.returns
returns c =
    let m = c.self.inside in
    let r = front m.region m.nodes in
    let g = first_span m.reg_count in
    let h = c.self.invariant.0 in
    let values : List ℕ = span_words m.region m.nodes in
    let slots : Words → List (Option State) = λ x. map (held x g m.files.items) m.slots.items in
    let p = file_span values r g m.files.items (slots r) c.args.self.now c.args.file c.args.address c.index-span.result.now h.apart c.self.view_is c.requires.file c.requires.address c.index-span.ensures in
    let t : Span = get_or m.files.items c.args.file no_span in
    let l : c.args.address < t.len = omega (arith, p.1, ap (λ (s : Span). s.len) p.2) in
    ap (λ (x : Words). stored_in (span_words x m.nodes) g m.files.items (slots x) x) (c.put.ensures.written ∙ ap (λ (s : Span). written m.region s c.args.address c.args.value) p.2)
    ∙ ap (λ (v : List ℕ). stored_in v g m.files.items (slots (written r t c.args.address c.args.value)) (written r t c.args.address c.args.value))
    (span_stays m.region m.nodes t c.args.address c.args.value (inr (h.apart.within (suc c.args.file) (omega (arith, p.3)))) l)
    ∙ ap (λ (s : List (Option State)). stored_in values g m.files.items s (written r t c.args.address c.args.value))
    (part_written r g m.files.items m.whole m.slots.items h (suc c.args.file) c.args.address c.args.value (omega (arith, p.3)) l)
    ∙ write_file values r g m.files.items (slots r) c.args.file c.args.address c.args.value h.apart p.3 l
    ∙ ap (λ (x : Stored). record x { files = set x.files c.args.file (set (get_or x.files c.args.file []) c.args.address c.args.value) }) c.self.view_is

use Rattle.std.proofs.Common.{map, arith}
use Rattle.kp_region.specs.Words.{span_words}
use Rattle.kp_cycle_plan.{specs.inner.Spans.first_span, specs.inner.Spans.front, specs.inner.Spans.held, proofs.Spans.file_span}
use Rattle.kp_cycle_plan.proofs.memory.Memory.word.Goals as goal

pub overflow_cast-address : goal.overflow_cast-address
overflow_cast-address c =
    let m = c.self.inside in
    let r = front m.region m.nodes in
    let g = first_span m.reg_count in
    let h = c.self.invariant.0 in
    let p = file_span (span_words m.region m.nodes) r g m.files.items (map (held r g m.files.items) m.slots.items) c.args.self.now c.args.file c.args.address c.index.result.now h.apart c.self.view_is c.requires.file c.requires.address c.index.ensures in
    omega (arith, p.0, p.1, h.apart.few)

pub get-requires-clause-within : goal.get-requires-clause-within
get-requires-clause-within c =
    let m = c.self.inside in
    let r = front m.region m.nodes in
    let g = first_span m.reg_count in
    let h = c.self.invariant.0 in
    let p = file_span (span_words m.region m.nodes) r g m.files.items (map (held r g m.files.items) m.slots.items) c.args.self.now c.args.file c.args.address c.index.result.now h.apart c.self.view_is c.requires.file c.requires.address c.index.ensures in
    omega (arith, p.0, c.self.invariant.1)

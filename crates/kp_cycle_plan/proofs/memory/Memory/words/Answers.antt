use Rattle.std.proofs.Common.{◌<◌, length, suc, sym, subst, ap, ◌∙◌, arith}
use Rattle.std.proofs.lemmas.List.{get_or_default, length-map}
use Rattle.kp_region.specs.{declared.span.Span.Span, Words.IsWithin, Words.span_words, Spans.no_span}
use Rattle.kp_cycle_plan.specs.{inner.Spans.front, Storage.Stored}
use Rattle.kp_cycle_plan.proofs.memory.Memory.words.Goals as goal

pub words-requires : goal.words-requires
words-requires c =
    let m = c.self.inside in
    let there : c.args.file < length m.files.items = omega (arith, c.requires, ap (λ (x : Stored). length x.files) c.self.view_is, length-map m.files.items (span_words m.region)) in
    let is = c.index.ensures ∙ get_or_default m.files.items c.args.file c.index.result.now no_span there in
    let P : Span → Type 0 = λ s. IsWithin s (front m.region m.nodes) in
    let before = subst P (sym is) (c.self.invariant.0.apart.within (suc c.args.file) (omega (arith, there))) in
    record { within = omega (arith, before, c.self.invariant.1) }

use Rattle.std.proofs.Common.{◌≡◌, ◌+◌, ◌^◌, ◌<◌, ◌≤◌, ℕ, List, ◌∷◌, length, get_or, map, take, zero, suc, refl, All, subst, sym, ap, ◌∙◌, replicate, arith, Result}
use Rattle.std.proofs.lemmas.{List.Elements.All-get_or, List.Elements.All-push, List.Sums.sum_by_more, List.Sums.sum_by_more_le, Nat.pow_pos}
use Rattle.std.{proofs.lemmas.List.get_or-replicate, proofs.Math.Seq.take-length, specs.Prelude.IfOk, specs.Prelude.OnOk}
use Rattle.std.specs.List.{sum_by}
use Rattle.kp_net.specs.{declared.netlist.NetFile.NetFile, declared.netlist.Parts.Parts, Widths.wide}
use Rattle.kp_region.specs.{declared.span.Span.Span, declared.region.Full.Full, Words.Words, Words.IsSound, Words.span_words, Words.next_span, Words.carved, Spans.no_span}
use Rattle.kp_region.proofs.{Laid.take-laid_over, Spans.apart_carved, Spans.length_carved, Spans.carved_zeros, Spans.ok_unless, Spans.region_is, Spans.span_is, Spans.span_length}
use Rattle.kp_cycle_plan.specs.{declared.slots.Slot.Slot, inner.Spans.IsLast, inner.Spans.Laid, inner.Spans.first_span, inner.Spans.front}
use Rattle.kp_cycle_plan.proofs.{Spans.lens_more, Spans.fits_laid, Copies.laid_out, Copies.laid_past, Copies.unsaved}
use Rattle.kp_cycle_plan.proofs.memory.Memory.lay_out.Goals as goal

abbrev none : ℕ
none = 0

-- the first of some spans and those after it start no earlier than it does
all_behind : (g : Span) (fs : List Span) → All (λ s. g.start ≤ s.start) fs → (k : ℕ) → k < length (g ∷ fs) → g.start ≤ (get_or (g ∷ fs) k no_span).start
all_behind g fs h zero l = omega arith
all_behind g fs h (suc k) l = All-get_or (λ (s : Span). g.start ≤ s.start) fs k no_span (omega arith) h

-- after the last file, the words of all are laid out
filled : (files : List NetFile) (i : ℕ) → i ≡ length files → sum_by (λ (f : NetFile). length f.words) (take i files) ≡ sum_by (λ (f : NetFile). length f.words) files
filled files i end = ap (λ (n : ℕ). sum_by (λ (f : NetFile). length f.words) (take n files)) end ∙ ap (sum_by (λ (f : NetFile). length f.words)) (take-length files)

pub loop-file-preserved : goal.loop-file-preserved
loop-file-preserved c =
    let net = c.args.net.now in
    let files = c.as_slice-files.result.now in
    let i = c.loop-file.file-index in
    let x = c.file-item.result in
    let size : NetFile → ℕ = λ f. length f.words in
    let k = length c.as_slice-in-loop-file.result.now in
    let r = c.loop-file.region in
    let s = c.unwrap-span.result in
    let a = c.carve-in-loop-file.ensures in
    let inv = c.loop-file.invariant in
    let is : s ≡ next_span r k = (let P : Result Span Full → Type 0 = λ o. IfOk o (λ t. t ≡ next_span r k) in subst P c.unwrap-span.ensures a.span) in
    let new : c.carve-in-loop-file.new.self ≡ carved r k = (let P : Result Span Full → Type 0 = λ o. OnOk o (c.carve-in-loop-file.new.self ≡ carved r k) in subst P c.unwrap-span.ensures a.carved) in
    let regs : length c.as_slice.result.now ≡ length net.parts.regs = ap length (c.as_slice.ensures ∙ ap (λ (p : Parts). p.regs) c.parts-2.ensures.parts) in
    let ks : k ≡ size x = ap length c.as_slice-in-loop-file.ensures in
    let fit : sum_by size (take i files) + k ≤ sum_by size files = omega (arith, sum_by_more_le size files i x c.loop-file-test.true, ap size c.file-item.is, ks) in
    let few : r.used + k < 2 ^ 32 = omega (arith, fit, inv.2, c.words_of-file_words.ensures.sum, c.words_of-file_words.ensures.at_most, regs, c.nodes.ensures.right.parts.reg_count) in
    let room : r.used + k ≤ length r.words = omega (arith, fit, inv.2, inv.3, c.words_of-file_words.ensures.sum) in
    let apart = apart_carved r (c.unwrap-regs.result ∷ c.loop-file.spans.items) k inv.0 (subst IsSound new a.sound) few in
    let first = inv.0.within 0 (omega arith) in
    let behind : c.unwrap-regs.result.start ≤ s.start = omega (arith, first, ap (λ (t : Span). t.start) is) in (
      rw (new, c.in_ok-push.ensures.items, is) apart,
      ap (map (λ (t : Span). t.len)) c.in_ok-push.ensures.items ∙ lens_more files c.loop-file.spans.items i s x c.loop-file-test.true (ap (λ (t : Span). t.len) is ∙ ks) c.file-item.is inv.1,
      omega (arith, ap (λ (w : Words). w.used) new, inv.2, sum_by_more size files i x c.loop-file-test.true, ap size c.file-item.is, ks),
      ap (λ (w : Words). length w.words) new ∙ length_carved r k room ∙ inv.3,
      inv.4,
      (let P : List Span → Type 0 = All (λ (t : Span). c.unwrap-regs.result.start ≤ t.start) in subst P (sym c.in_ok-push.ensures.items) (All-push (λ (t : Span). c.unwrap-regs.result.start ≤ t.start) c.loop-file.spans.items s inv.5 behind)),
      inv.6,
    )

pub unwrap-nodes-requires : goal.unwrap-nodes-requires
unwrap-nodes-requires c =
    let files = c.as_slice-files.result.now in
    let inv = c.loop-file.invariant in
    let all = filled files c.loop-file.file-index (omega (arith, c.loop-file.auto.file-index-end, c.loop-file-test.false)) in
    ok_unless _ (λ e. absurd (let f = c.carve-2.ensures.full.0 e in omega (arith, f, all, inv.2, inv.3, c.words_of-file_words.ensures.sum, c.in_ok-copies.ensures.used, c.carve_slots.ensures.words)))

-- the slots are laid out, and then the nodes
module _ (r : Words) (g : Span) (fs : List Span) (w : Span) (slots : List Slot) (h : Laid r g fs w slots) (n : ℕ) (full : r.used + n ≡ length r.words) where
  sound : r.used ≤ length r.words
  sound = omega arith

  laid_nodes : Laid (front (carved r n) (next_span r n)) g fs w slots × IsLast (next_span r n) (carved r n)
  laid_nodes =
      let zero : ℕ = 0 in
      let many : length (carved r n).words ≡ length r.words = length_carved r n (omega arith) in
      (laid_past r g fs w slots h (carved r n).words (take-laid_over r.words (replicate n zero) r.used sound r.used (omega arith)) many, (refl, full ∙ sym many))

pub invariant_of-result : goal.invariant_of-result
invariant_of-result c =
    let files = c.as_slice-files.result.now in
    let inv = c.loop-file.invariant in
    let all = filled files c.loop-file.file-index (omega (arith, c.loop-file.auto.file-index-end, c.loop-file-test.false)) in
    let slots = c.in_ok-copies.ensures in
    let regs = c.unwrap-regs.result in
    let spans = c.loop-file.spans.items in
    let copies = c.in_ok-copies.copies.items in
    let r = c.carve_slots.new.region in
    let n = length c.nodes.result.now in
    let new = c.carve-2.new.self in
    let s = c.unwrap-nodes.result in
    let whole : Span = record { start = regs.start; len = length c.as_slice.result.now + c.words_of-file_words.result } in
    let start : regs.start ≡ 0 = inv.6 in
    let first : regs ≡ first_span regs.len = λ i. record { start = start i; len = regs.len } in
    let laid : Laid r regs spans whole copies =
    laid_out c.loop-file.region r regs spans whole copies c.args.slots
    inv.0 (all_behind regs spans inv.5) inv.6 refl (omega (arith, inv.2, inv.6, all, c.words_of-file_words.ensures.sum)) slots.apart (omega (arith, slots.used)) slots.count slots.sizes in
    let full : r.used + n ≡ length r.words = omega (arith, inv.2, inv.3, all, c.words_of-file_words.ensures.sum, slots.used, c.carve_slots.ensures.words) in
    let P : Span → Type 0 = λ t. Laid r t spans whole copies in
    let both = laid_nodes r (first_span regs.len) spans whole copies (subst P first laid) n full in
    let Q : Span → Type 0 = λ t. Laid (front (carved r n) t) (first_span regs.len) spans whole copies × IsLast t (carved r n) in
    let R : Words → Type 0 = λ x. Laid (front x s) (first_span regs.len) spans whole copies × IsLast s x in
    subst R (sym (region_is r new n c.carve-2.result s c.unwrap-nodes.ensures c.carve-2.ensures.carved))
    (subst Q (sym (span_is r n c.carve-2.result s c.unwrap-nodes.ensures c.carve-2.ensures.span)) both)

pub returns-clause-fits : goal.returns-clause-fits
returns-clause-fits c =
    let net = c.args.net.now in
    let files = c.as_slice-files.result.now in
    let inv = c.loop-file.invariant in
    let size : NetFile → ℕ = λ f. length f.words in
    let end : c.loop-file.file-index ≡ length files = omega (arith, c.loop-file.auto.file-index-end, c.loop-file-test.false) in
    let all : take c.loop-file.file-index files ≡ net.parts.files = ap (λ (n : ℕ). take n files) end ∙ take-length files ∙ c.as_slice-files.ensures ∙ ap (λ (p : Parts). p.files) c.parts.ensures.parts in
    let new = c.carve-2.new.self in
    let s = c.unwrap-nodes.result in
    let memory = invariant_of-result c in
    let many : s.len ≡ length c.nodes.result.now = ap (λ (t : Span). t.len) (span_is c.carve_slots.new.region (length c.nodes.result.now) c.carve-2.result s c.unwrap-nodes.ensures c.carve-2.ensures.span) in
    fits_laid net (span_words new s) (front new s) (first_span c.unwrap-regs.result.len) c.loop-file.spans.items _ c.nodes.ensures.right
    (span_length new s (omega (arith, memory.1)) (omega (arith, memory.1)) ∙ many ∙ ap length c.nodes.ensures.nodes)
    memory.0.apart
    (inv.4 ∙ ap length (c.as_slice.ensures ∙ ap (λ (p : Parts). p.regs) c.parts-2.ensures.parts))
    (inv.1 ∙ ap (map size) all)

pub returns-clause-nodes : goal.returns-clause-nodes
returns-clause-nodes c i l =
    let net = c.args.net.now in
    let r = c.carve_slots.new.region in
    let n = length c.nodes.result.now in
    let s = c.unwrap-nodes.result in
    let there : i < n = omega (arith, l, ap length c.nodes.ensures.nodes) in
    let inv = c.loop-file.invariant in
    let all = filled c.as_slice-files.result.now c.loop-file.file-index (omega (arith, c.loop-file.auto.file-index-end, c.loop-file-test.false)) in
    let sound : r.used ≤ length r.words = omega (arith, inv.2, inv.3, all, c.words_of-file_words.ensures.sum, c.in_ok-copies.ensures.used, c.carve_slots.ensures.words) in
    let zeros : span_words c.carve-2.new.self s ≡ replicate n none =
    ap (λ (x : Words). span_words x s) (region_is r c.carve-2.new.self n c.carve-2.result s c.unwrap-nodes.ensures c.carve-2.ensures.carved)
    ∙ ap (span_words (carved r n)) (span_is r n c.carve-2.result s c.unwrap-nodes.ensures c.carve-2.ensures.span) ∙ carved_zeros r n sound in
    let is : get_or (span_words c.carve-2.new.self s) i 0 ≡ none = ap (λ (v : List ℕ). get_or v i 0) zeros ∙ get_or-replicate n i none none there in
    let P : ℕ → Type 0 = λ x. x < 2 ^ wide net.nodes i in
    subst P (sym is) (pow_pos (wide net.nodes i))

pub returns-clause-slots : goal.returns-clause-slots
returns-clause-slots c =
    unsaved c.carve-2.new.self (first_span c.unwrap-regs.result.len) c.loop-file.spans.items c.in_ok-copies.copies.items c.args.slots c.in_ok-copies.ensures.count c.in_ok-copies.ensures.unsaved

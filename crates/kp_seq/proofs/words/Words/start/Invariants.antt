use Rattle.std.proofs.Common.{◌≡◌, ◌+◌, ◌++◌, length, map, drop}
use Rattle.std.specs.List.{sum_by}
use Rattle.kp_region.specs.{Words.span_words, Spans.Apart}
use Rattle.kp_stage.specs.Start.{AreRegs, AreFiles}
use Rattle.kp_seq.specs.inner.Ready.{words_of_start}
use Rattle.kp_seq.proofs.words.Words.start.Given as goal

abbrev pub invariant-loop-decl : goal.invariant-loop-decl
invariant-loop-decl l =
    (map (span_words l.region) l.targets.items ++ words_of_start (drop l.decl-index l.decls) (drop l.regs l.start.regs) (drop l.files l.start.files) ≡ words_of_start l.decls l.start.regs l.start.files)
    × AreRegs (drop l.decl-index l.decls) (drop l.regs l.start.regs)
    × AreFiles (drop l.decl-index l.decls) (drop l.files l.start.files)
    × Apart l.region l.targets.items
    × (l.region.used + length (drop l.regs l.start.regs) + sum_by length (drop l.files l.start.files) ≡ l.size)
    × (length l.region.words ≡ l.size)

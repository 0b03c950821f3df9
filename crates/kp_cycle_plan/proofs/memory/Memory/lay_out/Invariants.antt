use Rattle.std.proofs.Common.{◌≡◌, ◌+◌, ◌*◌, ◌≤◌, ◌∷◌, All, map, length, take}
use Rattle.std.specs.List.{sum_by}
use Rattle.kp_region.specs.Spans.{Apart}
use Rattle.kp_cycle_plan.proofs.memory.Memory.lay_out.Given as goal

abbrev pub invariant-loop-file : goal.invariant-loop-file
invariant-loop-file l = Apart l.region (l.regs ∷ l.spans.items)
    × (map (λ s. s.len) l.spans.items ≡ map (λ f. length f.words) (take l.file-index l.files))
    × (l.region.used ≡ l.reg_count + sum_by (λ f. length f.words) (take l.file-index l.files))
    × (length l.region.words ≡ l.size + l.slots * l.size + l.node_count)
    × (l.regs.len ≡ l.reg_count)
    × All (λ s. l.regs.start ≤ s.start) l.spans.items
    × (l.regs.start ≡ 0)

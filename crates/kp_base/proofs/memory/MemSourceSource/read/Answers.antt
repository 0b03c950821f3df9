use Rattle.std.proofs.Common.{rules, min, ◌≡◌, ℕ, List, [], ◌+◌, ◌≤◌, ◌++◌, length, take, drop, ap, ◌∙◌, arith}
use Rattle.std.proofs.lemmas.List.{take-append-drop, drop-drop, length-take-le, length-drop, take_at, take_rest}
use Rattle.std.proofs.Math.ListN.{drop_of_length-le}
use Rattle.kp_base.proofs.memory.MemSourceSource.read.Goals as goal

-- what was copied to the front of a buffer, and what is left
moved : (bytes front rest : List ℕ) (from count : ℕ) → count ≤ length (drop from bytes) → front ≡ take count (drop from bytes) → drop from bytes ≡ take count (front ++ rest) ++ drop (from + count) bytes
moved bytes front rest from count within copied =
    let whole = take-append-drop count (drop from bytes) in
    let later = drop-drop count from bytes in
    let kept = take_at front rest count (ap length copied ∙ length-take-le count (drop from bytes) within) in
    cc

-- nothing was copied though bytes were allowed: nothing is left
ended : (bytes : List ℕ) (from count most : ℕ) → 1 ≤ most → count ≡ min most (length (drop from bytes)) → count ≡ 0 → drop (from + count) bytes ≡ []
ended bytes from count most positive least none =
    drop_of_length-le bytes (omega (arith, length-drop from bytes))

pub returns-clause-bytes : goal.returns-clause-bytes
returns-clause-bytes c =
    let s = c.self.inside in
    let count = c.min-count.result in
    let left : c.args.self.now.left ≡ drop s.taken s.bytes.items = search rules in
    let copied = simp take_rest at c.copy_from_slice.ensures.after in
    let front : c.copy_from_slice.new.self ≡ take count (drop s.taken s.bytes.items) = cc (copied, c.deref-2.ensures.value) in
    let found = simp take_rest at c.min-count.ensures in
    let least : count ≡ min c.min.result (length (drop s.taken s.bytes.items)) = cc (found, c.deref-2.ensures.value) in (
      left ∙ moved s.bytes.items c.copy_from_slice.new.self (drop count c.args.buf.now) s.taken count (omega arith) front,
      λ none some. ended s.bytes.items s.taken count c.min.result (omega (arith, c.requires)) least none,
    )

use Rattle.std.proofs.Common.{◌≡◌, ◌+◌, [], drop, vec_len}
use Rattle.kp_asm.specs.{inner.Listing.instructions_in, Program.words_from}
use Rattle.kp_asm.proofs.words.words_of.Given as goal

abbrev pub invariant-loop-item : goal.invariant-loop-item
invariant-loop-item l = record {
  left : words_from l.text l.labels l.words.items (drop l.item-index l.items) ≡ words_from l.text l.labels [] l.items;
  count : vec_len l.words + instructions_in (drop l.item-index l.items) ≡ instructions_in l.items;
}

-- What a region lends.
use Rattle.std.specs.{Prelude.ℕ, Prelude.List, Borrow.Lends, Borrow.MutBor, Borrow.Fml, Borrow.Array, Borrow.u64}
use Rattle.kp_region.specs.{declared.span.Span.Span, Words.Words, Words.overwritten, Words.replaced, contracts.region.Region.the_row}

-- the region ends with the last values of the words of the span
abbrev pub LendsWords : MutBor Words → Span → MutBor (List ℕ) → Fml
LendsWords r s x = Lends the_row (Array u64 0) r x (overwritten r.now s)

-- and with those of all words
abbrev pub LendsAll : MutBor Words → MutBor (List ℕ) → Fml
LendsAll r x = Lends the_row (Array u64 0) r x (replaced r.now)

-- A region: a list of words, a prefix of which is used, and spans of it.
use Rattle.std.specs.Prelude.{ℕ, ◌+◌, ◌≤◌, ◌⊎◌, List, ◌++◌, length, take, drop, replicate, slice_set, slice_range}
use Rattle.std.specs.List.{refill}
use Rattle.kp_region.specs.declared.span.Span.{Span}

-- all words of a region, and how many of them, from the first one, are used
pub record Words : Type 0 where
  pub words : List ℕ
  pub used : ℕ

-- no more words are used than there are
abbrev pub IsSound : Words → Type 0
IsSound r = r.used ≤ length r.words

-- the span ends within the used words
abbrev pub IsWithin : Span → Words → Type 0
IsWithin s r = s.start + s.len ≤ r.used

-- one of the two spans ends before the other starts
abbrev pub IsDisjoint : Span → Span → Type 0
IsDisjoint s t = (s.start + s.len ≤ t.start) ⊎ (t.start + t.len ≤ s.start)

-- the contents of a span
abbrev pub span_words : Words → Span → List ℕ
span_words r s = slice_range r.words s.start (s.start + s.len)

-- these words, overwritten with others from an index on
abbrev pub laid_over : List ℕ → ℕ → List ℕ → List ℕ
laid_over ws at others = take at ws ++ (others ++ drop (at + length others) ws)

-- a new region: zeros, and none of them used
abbrev pub fresh : ℕ → Words
fresh size = record { words = replicate size 0; used = 0 }

-- the span of the next n words
abbrev pub next_span : Words → ℕ → Span
next_span r n = record { start = r.used; len = n }

-- the next n words are used too, and they are zeros
abbrev pub carved : Words → ℕ → Words
carved r n = record { words = laid_over r.words r.used (replicate n 0); used = r.used + n }

-- one word of a span is written
abbrev pub written : Words → Span → ℕ → ℕ → Words
written r s i v = record r { words = slice_set r.words (s.start + i) v }

-- all words of a span are written
abbrev pub filled : Words → Span → List ℕ → Words
filled r s ws = record r { words = laid_over r.words s.start ws }

-- a span is copied over another of its length
abbrev pub copied : Words → Span → Span → Words
copied r from to = filled r to (span_words r from)

-- words are written over as many from the start of a span on, and over none past the last
abbrev pub overwritten : Words → Span → List ℕ → Words
overwritten r s ws = record r { words = refill (length r.words) r.words (take s.start r.words ++ (ws ++ drop (length ws) (drop s.start r.words))) }

-- all words are written over, as far as there are others
abbrev pub replaced : Words → List ℕ → Words
replaced r ws = record r { words = refill (length r.words) r.words ws }

-- only this many words are used, and all words are unchanged
abbrev pub released : Words → ℕ → Words
released r mark = record r { used = mark }

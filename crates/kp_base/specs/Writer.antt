-- A text on its way to a sink, through the buffer of a writer (`Writer`).
use Rattle.std.specs.Prelude.{◌≡◌, ℕ, ◌≤◌, Bool, true, false, List, ◌++◌, Option, IsErr}
use Rattle.std.specs.{Bool.MatchBool, declared.result.Result.Result, Io.KnownBytes.Appends}
use Rattle.kp_base.specs.{Bytes.AppendsPart, Bytes.Writes, Causes.HasCause, Causes.Rose}
use Rattle.kp_base.specs.declared.writer.Writer.{Writer}

-- The sink and the buffer together contain the complete text, after what they contained before: `old` and `new` are the bytes in the sink, `page` and
-- `kept` those in the buffer, before and after.
pub record Passes (old : Option (List ℕ)) (page : List ℕ) (new : Option (List ℕ)) (kept text : List ℕ) : Type 0 where
  pub sent : List ℕ
  pub appended : Appends old new sent
  pub split : page ++ text ≡ sent ++ kept

-- What became of a text, by whether the sink had failed before, and has failed now. After a fault nothing more is written: the sink has a prefix of what
-- the buffer contained and of the text. n and m are the faults of the sink before and after.
abbrev pub Passed : Option (List ℕ) → ℕ → Bool → List ℕ → Option (List ℕ) → ℕ → Bool → List ℕ → List ℕ → Type 0
Passed old n true page new m true kept text = (new ≡ old) × (m ≡ n)
Passed old n true page new m false kept text = ⊥
Passed old n false page new m true kept text = AppendsPart old new (page ++ text) × ((n ≤ m) × Rose n m)
Passed old n false page new m false kept text = Passes old page new kept text × (n ≤ m)

-- `held` and `faults` are those of the sink (`Sink`).
module _ {K : Type 0} (held : K → Option (List ℕ)) (faults : K → ℕ) where
  -- THE WRITER WROTE A TEXT to its sink and its buffer, unless the sink has failed. It still has the same sink.
  pub record Wrote (old new : Writer K) (text : List ℕ) : Type 0 where
    pub sink : new.sink.ghost_name ≡ old.sink.ghost_name
    pub passed : Passed (held old.sink.now) (faults old.sink.now) old.failed old.page (held new.sink.now) (faults new.sink.now) new.failed new.page text

  -- THE END OF A TEXT: what the buffer of a writer contained was written to its sink, unless that had failed before. `sink` is the sink afterwards.
  pub record Ended {T E : Type 0} (w : Writer K) (sink : K) (result : Result T E) : Type 0 where
    pub flushed : MatchBool w.failed
        (IsErr result × ((held sink ≡ held w.sink.now) × (faults sink ≡ faults w.sink.now)))
        (Writes (held w.sink.now) (held sink) w.page result × HasCause (faults w.sink.now) (faults sink) result)

-- THE VALUES OF THE SIGNALS in a dump.
use Rattle.std.specs.Prelude.{◌≢◌, ℕ, ◌==◌, nat_le, List, [], ◌∷◌, ◌++◌, Option, None, Some, if◌then◌else◌, ⊤}
use Rattle.kp_bits.specs.Word.{Word}
use Rattle.kp_vcd.specs.declared.dump.{Change.Change, Moment.Moment, Dump.Dump}

-- the value of each signal, if it has one
abbrev pub Holding : Type 0
Holding = ℕ → Option Word

abbrev pub nothing : Holding
nothing s = None

-- after a change, and after changes in order
abbrev pub after_change : Holding → Change → Holding
after_change before c s = if c.signal == s then Some c.value else before s

abbrev pub after : Holding → List Change → Holding
after before [] = before
after before (c ∷ cs) = after (after_change before c) cs

-- the changes at a time up to T
abbrev pub changes_to : ℕ → List Moment → List Change
changes_to T [] = []
changes_to T (m ∷ ms) = (if nat_le m.at T then m.changes else []) ++ changes_to T ms

-- HELD: the value of the last change of signal s at a time up to T
abbrev pub held : Dump → ℕ → ℕ → Option Word
held dump s T = after nothing (changes_to T dump.moments) s

-- no change repeats the value that its signal had just before
abbrev pub EachIsNew : Holding → List Change → Type 0
EachIsNew before [] = ⊤
EachIsNew before (c ∷ cs) = (before c.signal ≢ Some c.value) × EachIsNew (after_change before c) cs

abbrev pub all_changes : List Moment → List Change
all_changes [] = []
all_changes (m ∷ ms) = m.changes ++ all_changes ms

-- CHANGES: each change of the dump changes the value of its signal
abbrev pub Changes : Dump → Type 0
Changes dump = EachIsNew nothing (all_changes dump.moments)

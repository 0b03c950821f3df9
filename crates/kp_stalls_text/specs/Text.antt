-- THE TEXT of the lines of a run, with the names of the stages, if there are some.
use Rattle.std.specs.Prelude.{ℕ, zero, suc, ◌+◌, ◌==◌, List, [], ◌∷◌, ◌++◌, Option, Some, None, Bool, true, false, cond, if◌then◌else◌, ltb, codes, decimal, get_or, length, count_by}
use Rattle.kp_base.specs.Texts.{filled}
use Rattle.kp_bits.specs.{Word.Word, Spelling.spelling}
use Rattle.kp_stalls.specs.declared.cause.Cause.{Cause}
use Rattle.kp_stalls.specs.declared.cause.Cause.TheVariants.{Value, Unsure, Ahead, Held, Later, Squashed}
use Rattle.kp_stalls.specs.declared.cause.{Wait.Wait, Had.Had, Had.TheVariants.Known, Had.TheVariants.Set, Had.TheVariants.Moved, Wrong.Wrong, Guess.Guess}
use Rattle.kp_stalls.specs.declared.cause.{Producer.Producer, Line.Line}
use Rattle.kp_stalls_text.specs.Labels.{Labelled, label_at}

-- `cycle 18: instruction 13 `
abbrev pub head_text : ℕ → ℕ → List ℕ
head_text T i = filled (codes "cycle @: instruction @ ") (decimal T ∷ decimal i ∷ [])

-- what is read, and where: `R[4] (line 31): `, or `X (line 31): ` for a register
abbrev pub place_text : Labelled → ℕ → List ℕ
place_text l a =
    if l.file
    then filled (codes "@[@] (line @): ") (l.name ∷ decimal a ∷ decimal l.line ∷ [])
    else filled (codes "@ (line @): ") (l.name ∷ decimal l.line ∷ [])

-- A ROLLBACK: the guess that is wrong, with its value where it is known
abbrev pub guessed_text : Labelled → Option Word → List ℕ
guessed_text l None = filled (codes "guessed @ wrong (line @): ") (l.name ∷ decimal l.line ∷ [])
guessed_text l (Some v) = filled (codes "guessed @ = ") (l.name ∷ []) ++ (spelling v ++ (codes " (line " ++ (decimal l.line ++ codes "): ")))

abbrev pub squashed_text : ℕ → ℕ → List ℕ
squashed_text i last = filled (codes "; instructions @ to @ are squashed\n") (decimal i ∷ decimal last ∷ [])

module _ (names : List (List ℕ)) where
  -- A STAGE: its name, or `stage 1` where it has none
  abbrev pub stage_text : ℕ → List ℕ
  stage_text k = cond (ltb k (length names)) (get_or names k []) (codes "stage " ++ decimal k)

  -- it between two texts
  abbrev pub staged_text : List ℕ → ℕ → List ℕ → List ℕ
  staged_text before k after = before ++ (stage_text k ++ after)

  -- `waits in stage 1`, and why
  abbrev pub waits_text : ℕ → List ℕ → List ℕ
  waits_text k why = staged_text (codes "waits in ") k why

  -- `instruction 12, in stage 2, `
  abbrev pub instruction_text : ℕ → ℕ → List ℕ
  instruction_text number stage = filled (codes "instruction @") (decimal number ∷ []) ++ staged_text (codes ", in ") stage (codes ", ")

  -- when its value can be had
  abbrev pub had_text : Had → List ℕ
  had_text (Known n) = staged_text (codes "may write it, which is known in ") n (codes "\n")
  had_text (Set n) = staged_text (codes "writes it and has the value in ") n (codes "\n")
  had_text Moved = codes "writes it and has the value as soon as it moves on\n"

  -- A WAIT for a value: what is read, and the instruction that writes it or may
  abbrev pub writer_text : Wait → List ℕ
  writer_text w = instruction_text w.writer w.stage ++ had_text w.had

  abbrev pub value_text : List Labelled → ℕ → Wait → List ℕ
  value_text labels k w = waits_text k (codes " for ") ++ (place_text (label_at labels w.read) w.address ++ writer_text w)

  -- A WRONG GUESS: what makes the value of the register, if it isn't there already
  abbrev pub producer_text : Option Producer → List ℕ
  producer_text None = codes "it is "
  producer_text (Some p) = instruction_text p.number p.stage ++ codes "makes it "

  abbrev pub guess_text : List Labelled → Guess → List ℕ
  guess_text labels g = guessed_text (label_at labels g.read) g.guessed ++ (producer_text g.producer ++ spelling g.value)

  abbrev pub guess_part : List Labelled → Option Guess → List ℕ
  guess_part labels None = codes "made a wrong guess"
  guess_part labels (Some g) = guess_text labels g

  -- THE LINE of a cause.
  abbrev pub cause_text : List Labelled → ℕ → ℕ → Cause → List ℕ
  cause_text labels i k (Value w) = value_text labels k w
  cause_text labels i k Unsure = waits_text k (codes " for a value\n")
  cause_text labels i k Ahead = waits_text k (codes " for the stage ahead\n")
  cause_text labels i k Held = staged_text (codes "is held in ") k (codes " from outside\n")
  cause_text labels i k Later = waits_text k (codes " and is squashed later\n")
  cause_text labels i k (Squashed w) = guess_part labels w.guess ++ squashed_text i w.last

  abbrev pub line_text : List Labelled → Line → List ℕ
  line_text labels l = head_text l.cycle l.number ++ cause_text labels l.number l.stage l.cause

  abbrev pub lines_text : List Labelled → List Line → List ℕ
  lines_text labels [] = []
  lines_text labels (l ∷ lines) = line_text labels l ++ lines_text labels lines

-- THE SUMS. By cause:
abbrev pub is_value : Cause → Bool
is_value (Value w) = true
is_value Unsure = true
is_value _ = false

abbrev pub is_ahead : Cause → Bool
is_ahead Ahead = true
is_ahead _ = false

abbrev pub is_held : Cause → Bool
is_held Held = true
is_held _ = false

abbrev pub is_later : Cause → Bool
is_later Later = true
is_later _ = false

abbrev pub is_squash : Cause → Bool
is_squash (Squashed w) = true
is_squash _ = false

-- and by the number of the read
abbrev pub is_wait_for : ℕ → Cause → Bool
is_wait_for i (Value w) = w.read == i
is_wait_for i _ = false

-- how many lines have such a cause
abbrev pub count_of : (Cause → Bool) → List Line → ℕ
count_of test lines = count_by (λ (l : Line). test l.cause) lines

-- `    R[..] in line 31: 10`
abbrev pub brackets : Labelled → List ℕ
brackets l = if l.file then codes "[..]" else []

abbrev pub read_text : Labelled → ℕ → List ℕ
read_text l n = filled (codes "    @@ in line @: @\n") (l.name ∷ brackets l ∷ decimal l.line ∷ decimal n ∷ [])

-- nothing for a read for which nothing waits
abbrev pub read_sum : Labelled → ℕ → List ℕ
read_sum l n = if n == 0 then [] else read_text l n

-- the sums of d reads from number i on
abbrev pub reads_text : List Labelled → List Line → ℕ → ℕ → List ℕ
reads_text labels lines i zero = []
reads_text labels lines i (suc d) = read_sum (label_at labels i) (count_of (is_wait_for i) lines) ++ reads_text labels lines (i + 1) d

abbrev pub values_text : ℕ → List ℕ
values_text values = filled (codes "\nwaits for a value: @\n") (decimal values ∷ [])

abbrev pub others_text : (aheads helds laters squashes : ℕ) → List ℕ
others_text aheads helds laters squashes =
    filled (codes "waits for the stage ahead: @\nwaits held from outside: @\nwaits of instructions that are squashed later: @\nwrong guesses: @\n")
    (decimal aheads ∷ decimal helds ∷ decimal laters ∷ decimal squashes ∷ [])

abbrev pub sums_text : List Labelled → List Line → List ℕ
sums_text labels lines =
    values_text (count_of is_value lines)
    ++ (reads_text labels lines 0 (length labels)
    ++ others_text (count_of is_ahead lines) (count_of is_held lines) (count_of is_later lines) (count_of is_squash lines))

-- THE TEXT.
abbrev pub stalls_text : List (List ℕ) → List Labelled → List Line → List ℕ
stalls_text names labels lines = lines_text names labels lines ++ sums_text labels lines

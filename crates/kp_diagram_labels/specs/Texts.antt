-- THE TEXT BESIDE A LINE: for each label its value in hexadecimal, in a column that has room for its name too, or `-`, and the text of a listing that has the
-- value of the first label as its address; and the heading above them.
use Rattle.std.specs.Prelude.{ℕ, ◌-◌, ◌==◌, if◌then◌else◌, max, cond, List, [], ◌∷◌, ◌++◌, flat_map, map, replicate, length, codes, Option, Some, None}
use Rattle.kp_base.specs.{Lines.piece_of}
use Rattle.kp_bits.specs.{Word.Word, Word.word, Spelling.hex_digits, Spelling.quarters}
use Rattle.kp_ast.specs.declared.tree.Job.{Job}
use Rattle.kp_pipeline.specs.{Machine.Samples, Machine.State, Rows.taken}
use Rattle.kp_machine.specs.{Machine.inputs_from, Machine.machine_of, Machine.sequential, Slots.Slot, Words.target}
use Rattle.kp_seq.specs.Computed.{computed, slot_for}
use Rattle.kp_diagram.specs.Diagram.{Fetch, retires}
use Rattle.kp_diagram_text.specs.Text.{spaces}
use Rattle.kp_until_run.specs.Ending.{own_rows}
use Rattle.kp_listing.specs.Listings.{Entry, text_at, widest}
use Rattle.kp_diagram_labels.specs.declared.label.{Label.Label, Shown.Shown}
use Rattle.kp_diagram_labels.specs.declared.label.Shown.TheVariants as shows

-- a text at the left end of a column, and a space
abbrev pub column_text : ℕ → List ℕ → List ℕ
column_text width text = text ++ (spaces (width - length text) ++ codes " ")

-- the target, or the pipe
abbrev pub slot_of : Job → Shown → Slot
slot_of job (shows.Word t a) = target job t
slot_of job (shows.Computed what) = slot_for job what

-- how many hexadecimal digits a value has
abbrev pub digits_of : Job → Label → ℕ
digits_of job l = quarters (slot_of job l.shown).width

abbrev pub name_of : List ℕ → Label → List ℕ
name_of text l = (piece_of text l.name).bytes

abbrev pub wide : Job → List ℕ → Label → ℕ
wide job text l = max (length (name_of text l)) (digits_of job l)

-- a text of a listing, in a column that has room for each: there is no column where all are empty
abbrev pub listed_text : List Entry → List ℕ → List ℕ
listed_text entries text = if widest entries == 0 then [] else codes " " ++ column_text (widest entries) text

abbrev pub names_text : Job → List ℕ → List Label → List ℕ
names_text job text labels = flat_map (λ l. column_text (wide job text l) (name_of text l)) labels

-- THE HEADING: the names of the labels
abbrev pub heading : Job → List ℕ → List Label → List Entry → List ℕ
heading job text labels entries = names_text job text labels ++ listed_text entries []

-- THE TEXT with these values of the labels
abbrev pub value_text : Option Word → List ℕ
value_text None = codes "-"
value_text (Some w) = hex_digits (quarters w.width) w.value

abbrev pub values_text : Job → List ℕ → List Label → List (Option Word) → List ℕ
values_text job text [] values = []
values_text job text (l ∷ labels) [] = []
values_text job text (l ∷ labels) (v ∷ values) = column_text (wide job text l) (value_text v) ++ values_text job text labels values

-- the text of the address that the first of them is
abbrev pub text_with : List Entry → Option Word → List ℕ
text_with entries None = []
text_with entries (Some w) = text_at w.value entries

abbrev pub text_for : List Entry → List (Option Word) → List ℕ
text_for entries [] = []
text_for entries (v ∷ values) = text_with entries v

abbrev pub text_beside : Job → List ℕ → List Label → List Entry → List (Option Word) → List ℕ
text_beside job text labels entries values = values_text job text labels values ++ listed_text entries (text_for entries values)

-- THE VALUE of what is shown, in the instruction on the state s with the sample values q: of a word before it, and of a pipe or a result in it
abbrev pub value_in : Job → State → (ℕ → ℕ) → Shown → ℕ
value_in job s q (shows.Word t a) = s t a
value_in job s q (shows.Computed what) = computed job s q what

abbrev pub word_in : Job → State → (ℕ → ℕ) → Shown → Word
word_in job s q shown = word (slot_of job shown).width (value_in job s q shown)

-- the samples that the instructions take in a run of n cycles
abbrev pub taken_in : Job → (cycles : ℕ) → Samples
taken_in job n = taken (machine_of job) (inputs_from job 0 n) (own_rows job n)

-- THE VALUES OF THE LABELS in a line: those in the instruction of the sequential machine, if the line is of one that retires. The instructions have these sample
-- values.
abbrev pub words_in : Job → State → (ℕ → ℕ) → List Label → List (Option Word)
words_in job s q labels = map (λ (l : Label). Some (word_in job s q l.shown)) labels

abbrev pub no_words : List Label → List (Option Word)
no_words labels = replicate (length labels) None

abbrev pub label_values : Job → Samples → List Label → Fetch → List (Option Word)
label_values job given labels f =
    cond (retires job.stages.value f.cells) (words_in job (sequential job given f.number) (given f.number) labels) (no_words labels)

-- THE LABELS of a line in a run of n cycles
abbrev pub label_text : Job → List ℕ → List Label → List Entry → ℕ → Fetch → List ℕ
label_text job text labels entries n f = text_beside job text labels entries (label_values job (taken_in job n) labels f)

-- What is stored of the entries of the stalls and the inputs section.
use Rattle.std.specs.Prelude.{◌≡◌, true, ℕ, ◌≤◌, List, [], ◌∷◌, Option, if◌then◌else◌, map}
use Rattle.std.specs.List.{All}
use Rattle.kp_ast.specs.{Expressions.is_same_name, declared.tree.Num.Num, declared.tree.Decl.Decl, declared.tree.Stalls.Stalls, declared.tree.Inputs.Inputs}
use Rattle.kp_ast.specs.declared.tree.Decl.TheVariants as decls
use Rattle.kp_stage.specs.Start.{number_or}
use Rattle.kp_image.specs.{declared.cycles.Cycles.Cycles, declared.stalls.Span.Span, declared.inputs.Given.Given, Spans.Pattern, Feeds.Fed, Feeds.FitsFeed}

-- the cycles of an entry, in steps of 1 if it specifies none
abbrev pub cycles_of : Num → Num → Option Num → Cycles
cycles_of first last step = record { first = first.value; last = last.value; step = number_or step 1 }

-- an entry of the stalls section
abbrev pub span_of : Stalls → Span
span_of e = record { stage = e.stage.value; cycles = cycles_of e.from e.to e.step }

-- the pattern of the entries of a section
abbrev pub pattern_of : ℕ → List Stalls → Pattern
pattern_of stages es = record { stages = stages; spans = map span_of es }

-- an entry of the inputs section
abbrev pub kept_by : Inputs → Given
kept_by e = record { value = e.value.literal.value; cycles = cycles_of e.from e.to e.step }

-- those of a name
abbrev pub givens_of : List Inputs → List ℕ → List Given
givens_of [] name = []
givens_of (e ∷ es) name = if is_same_name e.name.name name then kept_by e ∷ givens_of es name else givens_of es name

-- the samples in the order of declaration
abbrev pub feeds_of : List Inputs → List Decl → List Fed
feeds_of es [] = []
feeds_of es (decls.Sample n width stage ∷ ds) = record { width = width.value; givens = givens_of es n.name } ∷ feeds_of es ds
feeds_of es (_ ∷ ds) = feeds_of es ds

-- an entry for this name has a value that fits in this many bits, and its step isn't 0
abbrev pub FitsSample : List ℕ → ℕ → Inputs → Type 0
FitsSample name width e = is_same_name e.name.name name ≡ true → FitsFeed width (kept_by e)

-- the entries fit a declared sample
abbrev pub InputsFit : List Inputs → Decl → Type 0
InputsFit es (decls.Sample n width stage) = (1 ≤ width.value) × (width.value ≤ 64) × All (FitsSample n.name width.value) es
InputsFit es _ = Unit {0}

-- What is said of an input and what is shown of it, for one rule that it violates first, or none.
use Rattle.std.specs.Prelude.{ℕ, Bool, List, Option, IfSome}
use Rattle.kp_base.specs.declared.refusal.Refusal.{Refusal}
use Rattle.kp_ast.specs.declared.tree.{Decl.Decl, Job.Job}
use Rattle.kp_debug_script.specs.Scripts.{script_of}
use Rattle.kp_view_verilog.specs.Marks.{Marks}
use Rattle.kp_view_texts.specs.Marks.{script_mark}
use Rattle.kp_view_explain.specs.Explaining.{FindsIn, FindsInModule, Says, rule_of}
use Rattle.kp_view_explain.specs.{Showing.MarksModule, Showing.Shows, Showing.ShowsPlace, declared.words.Subject.Subject}
use Rattle.kp_view_explain.specs.declared.words.Subject.TheVariants as subjects

abbrev pub ExplainsShown : Subject → Bool → List ℕ → List ℕ → ℕ → List ℕ → Type 0
ExplainsShown subject strict file input status text =
    (found : Option Refusal) × FindsIn subject input found × Says subject strict file input found status text × IfSome found (λ r. Shows subject file input r text)

-- the place of a violation in the Verilog text from an offset on
abbrev pub ShowsMarked : List ℕ → List ℕ → ℕ → Refusal → List ℕ → Type 0
ShowsMarked file input from refusal text = (count : ℕ) × Marks input from refusal.place count × ShowsPlace file input refusal count text

-- the same for a Verilog text after a job
abbrev pub ShowsModule : List ℕ → List ℕ → ℕ → Refusal → List ℕ → Type 0
ShowsModule file input from refusal text = (count : ℕ) × MarksModule input from refusal count × ShowsPlace file input refusal count text

-- the Verilog text after a job
abbrev pub ExplainsModule : Job → List ℕ → List ℕ → (from status : ℕ) → List ℕ → Type 0
ExplainsModule job file input from status text =
    (found : Option Refusal) × FindsInModule job input from found × ((strict : Bool) → Says subjects.Watched strict file input found status text)
    × IfSome found (λ r. ShowsModule file input from r text)

-- the script after a job
abbrev pub ExplainsScript : List Decl → List ℕ → List ℕ → (from status : ℕ) → List ℕ → Type 0
ExplainsScript decls file input from status text =
    let found = rule_of (script_of decls input from) in
    ((strict : Bool) → Says subjects.Debugged strict file input found status text)
    × IfSome found (λ r. ShowsPlace file input r (script_mark input r.place) text)

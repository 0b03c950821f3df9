-- The input vectors of the inputs section are computed from what is stored for each sample.
use Rattle.std.proofs.Common.{◌≡◌, ◌∙◌, ℕ, zero, suc, List, [], ◌∷◌, Some, Bool, true, false, refl, ap, sym}
use Rattle.std.{proofs.Math.Path.fun_ext, specs.Prelude.◌&&◌, specs.Prelude.if◌then◌else◌, specs.Prelude.slice_get}
use Rattle.std.proofs.lemmas.List.Elements.{All-nil, All-cons, All-head, All-tail}
use Rattle.std.specs.List.{All}
use Rattle.kp_bits.specs.Word.{word}
use Rattle.kp_ast.specs.{Expressions.is_same_name, declared.tree.Decl.Decl, declared.tree.Inputs.Inputs, declared.tree.Job.Job}
use Rattle.kp_ast.specs.declared.tree.Decl.TheVariants as decls
use Rattle.kp_stage.specs.Start.{gives_at, input_over, input_row, inputs_of, input}
use Rattle.kp_image.specs.{declared.inputs.Given.Given, Cycles.is_in, Feeds.Fed, Feeds.FitsFeed, Feeds.given_over, Feeds.row_in, Feeds.word_fed}
use Rattle.kp_image.specs.inner.Kept.{kept_by, givens_of, feeds_of, FitsSample}

by_name : (b c : Bool) (g : Given) (gs : List Given) (cycle v : ℕ) → c ≡ is_in g.cycles cycle
    → given_over (if b then g ∷ gs else gs) cycle v ≡ given_over gs cycle (if b && c then g.value else v)
by_name true c g gs cycle v e = ap (λ x. given_over gs cycle (if x then g.value else v)) (sym e)
by_name false c g gs cycle v e = refl

given_same : (es : List Inputs) (name : List ℕ) (cycle v : ℕ) → given_over (givens_of es name) cycle v ≡ input_over es name cycle v
given_same [] name cycle v = refl
given_same (e ∷ es) name cycle v =
    by_name (is_same_name e.name.name name) (gives_at e cycle) (kept_by e) (givens_of es name) cycle v refl ∙ given_same es name cycle _

row_same : (es : List Inputs) (ds : List Decl) (cycle : ℕ) → row_in (feeds_of es ds) cycle ≡ input_row es ds cycle
row_same es [] cycle = refl
row_same es (decls.Sample n width stage ∷ ds) cycle = λ i. word width.value (given_same es n.name cycle 0 i) ∷ row_same es ds cycle i
row_same es (x ∷ ds) cycle = row_same es ds cycle

-- the entries for a name that fit are kept as values that fit
one_more : (w : ℕ) (b : Bool) (g : Given) (gs : List Given) → (b ≡ true → FitsFeed w g) → All (FitsFeed w) gs → All (FitsFeed w) (if b then g ∷ gs else gs)
one_more w true g gs h all = All-cons (FitsFeed w) g gs (h refl) all
one_more w false g gs h all = all

pub givens_fit : (es : List Inputs) (name : List ℕ) (w : ℕ) → All (FitsSample name w) es → All (FitsFeed w) (givens_of es name)
givens_fit [] name w all = All-nil (FitsFeed w)
givens_fit (e ∷ es) name w all =
    one_more w (is_same_name e.name.name name) (kept_by e) (givens_of es name) (All-head (FitsSample name w) e es all) (givens_fit es name w (All-tail (FitsSample name w) e es all))

-- the rows of a job
pub rows_of_feeds : (job : Job) → row_in (feeds_of (inputs_of job) job.decls) ≡ input job
unfolding input
rows_of_feeds job = fun_ext (row_same (inputs_of job) job.decls)

-- the value at an index of an input vector
pub row_at : (feeds : List Fed) (cycle i : ℕ) (f : Fed) → slice_get feeds i ≡ Some f → slice_get (row_in feeds cycle) i ≡ Some (word_fed f cycle)
row_at [] cycle i f e = cc
row_at (x ∷ feeds) cycle zero f e = let same : x ≡ f = cc in ap (λ (y : Fed). Some (word_fed y cycle)) same
row_at (x ∷ feeds) cycle (suc i) f e = row_at feeds cycle i f e

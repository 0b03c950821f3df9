-- The passes over a job ask what is specified.
use Rattle.std.proofs.Common.{◌≡◌, ◌∙◌, ◌<◌, ◌+◌, ℕ, List, [], ◌∷◌, ◌++◌, length, drop, get_or, take, ap, sym, subst}
use Rattle.kp_base.specs.{Findings.Collected, Findings.findings, Findings.with_answers, declared.finding.Finding.Finding}
use Rattle.kp_base.proofs.Collecting.{append, first_of_all, step}
use Rattle.kp_ast.specs.declared.tree.Job.{Job}
use Rattle.kp_lint.specs.Lints.{Answer, Facts, facts_of, of_blocks, of_decls, warned_in}
use Rattle.kp_lint.specs.declared.lint.Lint.{Lint}

abbrev Notes : Type 0
Notes = Collected (Finding Lint)

-- the step of a loop: the answers for item i are noted, and those for the items after it remain; the items are those of a list
pub more : {X : Type 0} (one : X → List Answer) (rest : List X → List Answer) (old new : Notes) (items xs : List X) (i : ℕ) (x : X) → items ≡ xs → i < length items
    → x ≡ get_or items i x → new ≡ with_answers old (one x)
    → with_answers new (rest (drop (i + 1) xs)) ≡ with_answers old (one x ++ rest (drop (i + 1) xs))
more one rest old new items xs i x same within is e = ap (λ n. with_answers n (rest (drop (i + 1) xs))) e ∙ sym (append old (one x) (rest (drop (i + 1) xs)))

pub here : {X : Type 0} (f : List X → List Answer) (old : Notes) (items xs : List X) (i : ℕ) (x : X) → items ≡ xs → i < length items → x ≡ get_or items i x
    → with_answers old (f (x ∷ drop (i + 1) xs)) ≡ with_answers old (f (drop i xs))
here f old items xs i x same within is =
    step (λ l. with_answers old (f l)) xs i x (subst (λ l. i < length l) same within) (is ∙ ap (λ l. get_or l i x) same)

-- all answers, of the facts of the job
pub all_found : (job j : Job) (facts : Facts) (most : ℕ) (a b c : Notes) → j ≡ job → facts ≡ facts_of job → a ≡ record { most = most; found = [] }
    → b ≡ with_answers a (of_decls facts j 0 j.decls) → c ≡ with_answers b (of_blocks facts j 0 j.blocks) → c.found ≡ take most (findings (warned_in job))
unfolding warned_in
all_found job j facts most a b c e f start decls blocks =
    let none : Notes = record { most = most; found = [] } in
    ap (λ (n : Notes). n.found)
    (blocks
    ∙ ap (λ n. with_answers n (of_blocks facts j 0 j.blocks)) (decls ∙ ap (λ n. with_answers n (of_decls facts j 0 j.decls)) start)
    ∙ sym (append none (of_decls facts j 0 j.decls) (of_blocks facts j 0 j.blocks)))
    ∙ (λ i. (with_answers none (of_decls (f i) (e i) 0 (e i).decls ++ of_blocks (f i) (e i) 0 (e i).blocks)).found)
    ∙ first_of_all most (warned_in job)

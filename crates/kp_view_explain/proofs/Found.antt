-- The first finding of the passes is the verdict on the tree.
use Rattle.std.proofs.Common.{◌≡◌, ◌∙◌, ◌<◌, ◌≤◌, ◌+◌, ℕ, suc, List, [], ◌∷◌, ◌++◌, length, get_or, map, take, Option, Some, None, refl, ap, sym}
use Rattle.std.proofs.lemmas.List.{map-append, take_all, take_more}
use Rattle.std.specs.Option.{option_map}
use Rattle.kp_base.specs.{First.first, Findings.findings, declared.finding.Finding.Finding, declared.refusal.Refusal.Refusal}
use Rattle.kp_ast.specs.declared.tree.Job.{Job}
use Rattle.kp_width.specs.{Widths.width_answers, Widths.width_broken, Faults.refusal_of as width_refusal}
use Rattle.kp_width.proofs.Listed.{verdict as width_verdict}
use Rattle.kp_stage.specs.{Stages.answers_of, Stages.broken_of, Findings.refusal_of as stage_refusal}
use Rattle.kp_image.specs.{Sections.asked_by, Sections.sections_of, Faults.refusal_of as section_refusal}
use Rattle.kp_image.proofs.Unbroken.{asked_first as section_verdict}
use Rattle.kp_view_explain.specs.declared.passes.Finding.{Finding as Message}
use Rattle.kp_view_explain.specs.inner.Found.{first_rule, head_of}

-- what is said of the first findings of a list has its first one as the first
firsts : {F : Type 0} (refusal_of : Finding F → Refusal) (all : List Message) (n : ℕ) (xs : List (Option (Finding F)))
    → map head_of all ≡ map refusal_of (take (suc n) (findings xs)) → first_rule all ≡ option_map refusal_of (first xs)
firsts refusal_of [] n [] e = refl
firsts refusal_of (a ∷ all) n [] e = cc
firsts refusal_of all n (None ∷ xs) e = firsts refusal_of all n xs e
firsts refusal_of [] n (Some f ∷ xs) e = cc
firsts refusal_of (a ∷ all) n (Some f ∷ xs) e = let same : head_of a ≡ refusal_of f = cc in ap Some same

-- the step of a loop over findings
pub next_head : {F : Type 0} (refusal_of : Finding F → Refusal) (all : List Message) (xs : List (Finding F)) (i : ℕ) (m : Message) (x : Finding F) → i < length xs
    → x ≡ get_or xs i x → map head_of all ≡ map refusal_of (take i xs) → head_of m ≡ refusal_of x → map head_of (all ++ m ∷ []) ≡ map refusal_of (take (i + 1) xs)
next_head refusal_of all xs i m x within is e same =
    map-append head_of all (m ∷ []) ∙ ap (λ l. l ++ head_of m ∷ []) e ∙ ap (λ r. map refusal_of (take i xs) ++ r ∷ []) same
    ∙ sym (ap (map refusal_of) (take_more xs i x within ∙ ap (λ y. take i xs ++ y ∷ []) (sym is)) ∙ map-append refusal_of (take i xs) (x ∷ []))

-- and its end
pub all_heads : {F : Type 0} (refusal_of : Finding F → Refusal) (all : List Message) (xs found : List (Finding F)) (i : ℕ) → length xs ≤ i → xs ≡ found
    → map head_of all ≡ map refusal_of (take i xs) → map head_of all ≡ map refusal_of found
all_heads refusal_of all xs found i past same e = e ∙ ap (map refusal_of) (take_all i xs past ∙ same)

pub of_widths : (job : Job) (all : List Message) → map head_of all ≡ map width_refusal (take 20 (findings (width_answers job))) → first_rule all ≡ width_broken job
of_widths job all e = firsts width_refusal all 19 (width_answers job) e ∙ ap (option_map width_refusal) (width_verdict job)

pub of_stages : (job : Job) (all : List Message) → map head_of all ≡ map stage_refusal (take 20 (findings (answers_of job))) → first_rule all ≡ broken_of job
unfolding broken_of
of_stages job all e = firsts stage_refusal all 19 (answers_of job) e

pub of_sections : (job : Job) (all : List Message) → map head_of all ≡ map section_refusal (take 20 (findings (asked_by job))) → first_rule all ≡ first (sections_of job).asked
of_sections job all e = firsts section_refusal all 19 (asked_by job) e ∙ sym (section_verdict job)

-- a pass that finds something gives the verdict, and else the next one does
pub chosen : (all : List Message) (a : Option Refusal) (rest : List (Option Refusal)) → first_rule all ≡ a → (all ≡ [] → ⊥) → first_rule all ≡ first (a ∷ rest)
chosen [] a rest e some = absurd (some refl)
chosen (f ∷ all) a rest e some = ap (λ o. first (o ∷ rest)) e

pub passed : (all : List Message) (a : Option Refusal) (rest : List (Option Refusal)) → first_rule all ≡ a → all ≡ [] → first rest ≡ first (a ∷ rest)
passed [] a rest e none = ap (λ o. first (o ∷ rest)) e
passed (f ∷ all) a rest e none = cc

-- Going on to the next name.
use Rattle.std.proofs.Common.{◌≡◌, ◌∙◌, ℕ, ◌+◌, ◌<◌, List, [], ◌∷◌, length, get_or, drop, refl, ap, map}
use Rattle.std.specs.Prelude.{◌||◌, option_map}
use Rattle.kp_base.{specs.Findings.Collected, specs.Findings.with_answer, specs.Findings.with_answers, specs.declared.finding.Finding.Finding, proofs.Collecting.step}
use Rattle.kp_net.specs.Names.{same}
use Rattle.kp_vlog.specs.{Rules.name_fits, Rules.learns, declared.tree.Named.Named}
use Rattle.kp_vlog.specs.Occurrences.{Occurrence, Role, names_module, declares_port, declares_sample, declares_reg, declares_file, declares_integer, declares_wire, gives, uses_wire, uses_source, uses_file, uses_integer, uses_port, starts_reg, starts_word, fills_file, resets_reg, updates_reg, updates_file, gives_no_wire, is_given, needs}
use Rattle.kp_vread_rules.specs.inner.{Sets.Alike, Sets.Adds, Roles.role_of, Listed.occurrence_of}
use Rattle.kp_vread_rules.specs.{Faults.in_text, Faults.placed, Firsts.declares, Firsts.first_that}
use Rattle.kp_vread_rules.specs.NameFaults.{port_of, wrong_use, wrong_use_of, name_fault, name_answer, names_asked}
use Rattle.kp_vread_rules.specs.declared.{names.Occurrence.Occurrence as Listed, fault.ModuleFault.ModuleFault, fault.Wanted.Wanted}
use Rattle.kp_vread_rules.specs.declared.fault.Wanted.TheVariants as wanted

alike_fits : (ks js : List (List ℕ)) (r : Role) (n : List ℕ) → Alike ks js → name_fits ks r n ≡ name_fits js r n
alike_fits ks js names_module n a = refl
alike_fits ks js gives_no_wire n a = refl
alike_fits ks js is_given n a = refl
alike_fits ks js (needs holds) n a = refl
alike_fits ks js _ n a = rw (a.same_names n) refl

alike_use : (all : List Occurrence) (ks js : List (List ℕ)) (n : Named) (place : Wanted) → Alike ks js → wrong_use_of all ks n place ≡ wrong_use_of all js n place
alike_use all ks js n place a = ap (λ b. wrong_use place n.name b (first_that declares n.name all)) (a.same_names n.name)

alike_fault : (all : List Occurrence) (ks js : List (List ℕ)) (r : Role) (n : Named) → Alike ks js → name_fault all ks r n ≡ name_fault all js r n
alike_fault all ks js gives n a = alike_use all ks js n wanted.WireOrOutput a
alike_fault all ks js uses_wire n a = alike_use all ks js n wanted.Wire a
alike_fault all ks js uses_source n a = alike_use all ks js n wanted.Source a
alike_fault all ks js uses_file n a = alike_use all ks js n wanted.File a
alike_fault all ks js uses_integer n a = alike_use all ks js n wanted.Integer a
alike_fault all ks js (uses_port k) n a = alike_use all ks js n (wanted.Port (port_of k)) a
alike_fault all ks js starts_reg n a = alike_use all ks js n wanted.Register a
alike_fault all ks js starts_word n a = alike_use all ks js n wanted.File a
alike_fault all ks js fills_file n a = alike_use all ks js n wanted.File a
alike_fault all ks js resets_reg n a = alike_use all ks js n wanted.Register a
alike_fault all ks js updates_reg n a = alike_use all ks js n wanted.Register a
alike_fault all ks js updates_file n a = alike_use all ks js n wanted.File a
alike_fault all ks js _ n a = refl

pub one_more : (ks js : List (List ℕ)) (n : List ℕ) → Alike ks js → Alike (n ∷ ks) (n ∷ js)
one_more ks js n a = record { same_names = λ q. ap (λ b. same q n || b) (a.same_names q) }

alike_learns : (ks js : List (List ℕ)) (r : Role) (n : List ℕ) → Alike ks js → Alike (learns ks r n) (learns js r n)
alike_learns ks js (declares_port k) n a = one_more ks js n a
alike_learns ks js declares_sample n a = one_more ks js n a
alike_learns ks js declares_reg n a = one_more ks js n a
alike_learns ks js declares_file n a = one_more ks js n a
alike_learns ks js declares_integer n a = one_more ks js n a
alike_learns ks js declares_wire n a = one_more ks js n a
alike_learns ks js _ n a = a

alike_answer : (all : List Occurrence) (ks js : List (List ℕ)) (o : Occurrence) → Alike ks js → name_answer all ks o ≡ name_answer all js o
alike_answer all ks js o a = rw (alike_fits ks js o.role o.named.name a, alike_fault all ks js o.role o.named a) refl

alike_asked : (all : List Occurrence) (ks js : List (List ℕ)) (os : List Occurrence) → Alike ks js → names_asked all ks os ≡ names_asked all js os
alike_asked all ks js [] a = refl
alike_asked all ks js (o ∷ os) a =
    ap (λ x. x ∷ names_asked all (learns ks o.role o.named.name) os) (alike_answer all ks js o a)
    ∙ ap (λ xs. name_answer all js o ∷ xs) (alike_asked all (learns ks o.role o.named.name) (learns js o.role o.named.name) os (alike_learns ks js o.role o.named.name a))

pub alike_added : (ks js : List (List ℕ)) (n : List ℕ) → Adds ks js n → Alike js (n ∷ ks)
alike_added ks js n a = record { same_names = a.names }

pub alike_itself : (ks : List (List ℕ)) → Alike ks ks
alike_itself ks = record { same_names = λ q. refl }

-- past a name
pub turn : (text : List ℕ) (all : List Occurrence) (names : List Listed) (i : ℕ) (o : Listed) (known known' : List (List ℕ)) (n n' : Collected (Finding ModuleFault)) → i < length names → o ≡ get_or names i o
    → n' ≡ with_answer n (option_map (placed text) (name_answer all known (occurrence_of o))) → Alike known' (learns known (role_of o.role) o.named.now.name)
    → with_answers n' (in_text text (names_asked all known' (map occurrence_of (drop (i + 1) names)))) ≡ with_answers n (in_text text (names_asked all known (map occurrence_of (drop i names))))
turn text all names i o known known' n n' h e noted a =
    let rest = map occurrence_of (drop (i + 1) names) in
    ap (λ xs. with_answers n' (in_text text xs)) (alike_asked all known' (learns known (role_of o.role) o.named.now.name) rest a)
    ∙ ap (λ k. with_answers k (in_text text (names_asked all (learns known (role_of o.role) o.named.now.name) rest))) noted
    ∙ step (λ xs. with_answers n (in_text text (names_asked all known (map occurrence_of xs)))) names i o h e

-- Going on to the next name, and what is driven so far.
use Rattle.std.proofs.Common.{◌≡◌, ◌∙◌, ℕ, ◌+◌, ◌<◌, List, [], ◌∷◌, length, get_or, drop, Bool, refl, ap, map}
use Rattle.std.specs.Prelude.{not, option_map}
use Rattle.kp_base.{specs.Check.answer, specs.Findings.Collected, specs.Findings.with_answer, specs.Findings.with_answers, specs.declared.finding.Finding.Finding, proofs.Collecting.step}
use Rattle.kp_vlog.specs.Occurrences.{Occurrence, Role, gives, uses_wire, starts_reg, starts_word, fills_file, resets_reg, updates_reg, updates_file, is_given}
use Rattle.kp_vlog.specs.Rules.{Driven, drives, driver_fits}
use Rattle.kp_vread_rules.specs.{inner.Sets.Adds, inner.Sets.AlikeDriven, inner.Roles.role_of, inner.Listed.occurrence_of}
use Rattle.kp_vread_rules.specs.{DriverFaults.driver_answer, DriverFaults.driver_fault, DriverFaults.drivers_asked, Faults.found, Faults.in_text, Faults.placed}
use Rattle.kp_vread_rules.specs.declared.{names.Occurrence.Occurrence as Listed, fault.ModuleFault.ModuleFault}
use Rattle.kp_vread_rules.proofs.Turns.{alike_itself, alike_added, one_more}
use Rattle.kp_vread_rules.specs.declared.fault.ModuleFault.TheVariants as modules

pub as_before : (d : Driven) → AlikeDriven d d
as_before d = record {
  given = alike_itself d.given;
  started = alike_itself d.started;
  filled = alike_itself d.filled;
  reset = alike_itself d.reset;
  updated = alike_itself d.updated;
  written = alike_itself d.written;
}

module _ (d : Driven) (names : List (List ℕ)) (n : List ℕ) where
  pub given_more : Adds d.given names n → AlikeDriven (record d { given = names }) (record d { given = n ∷ d.given })
  given_more a = record { given = alike_added d.given names n a; started = alike_itself d.started; filled = alike_itself d.filled; reset = alike_itself d.reset; updated = alike_itself d.updated; written = alike_itself d.written }

  pub started_more : Adds d.started names n → AlikeDriven (record d { started = names }) (record d { started = n ∷ d.started })
  started_more a = record { given = alike_itself d.given; started = alike_added d.started names n a; filled = alike_itself d.filled; reset = alike_itself d.reset; updated = alike_itself d.updated; written = alike_itself d.written }

  pub filled_more : Adds d.filled names n → AlikeDriven (record d { filled = names }) (record d { filled = n ∷ d.filled })
  filled_more a = record { given = alike_itself d.given; started = alike_itself d.started; filled = alike_added d.filled names n a; reset = alike_itself d.reset; updated = alike_itself d.updated; written = alike_itself d.written }

  pub reset_more : Adds d.reset names n → AlikeDriven (record d { reset = names }) (record d { reset = n ∷ d.reset })
  reset_more a = record { given = alike_itself d.given; started = alike_itself d.started; filled = alike_itself d.filled; reset = alike_added d.reset names n a; updated = alike_itself d.updated; written = alike_itself d.written }

  pub updated_more : Adds d.updated names n → AlikeDriven (record d { updated = names }) (record d { updated = n ∷ d.updated })
  updated_more a = record { given = alike_itself d.given; started = alike_itself d.started; filled = alike_itself d.filled; reset = alike_itself d.reset; updated = alike_added d.updated names n a; written = alike_itself d.written }

  pub written_more : Adds d.written names n → AlikeDriven (record d { written = names }) (record d { written = n ∷ d.written })
  written_more a = record { given = alike_itself d.given; started = alike_itself d.started; filled = alike_itself d.filled; reset = alike_itself d.reset; updated = alike_itself d.updated; written = alike_added d.written names n a }

module _ (os : List Occurrence) (resets : Bool) (all : Driven) where
  same_fit : (d e : Driven) (r : Role) (n : List ℕ) → AlikeDriven d e → driver_fits resets all d r n ≡ driver_fits resets all e r n
  same_fit d e gives n a = ap not (a.given.same_names n)
  same_fit d e uses_wire n a = a.given.same_names n
  same_fit d e starts_reg n a = ap not (a.started.same_names n)
  same_fit d e starts_word n a = a.filled.same_names n
  same_fit d e fills_file n a = ap not (a.filled.same_names n)
  same_fit d e resets_reg n a = ap not (a.reset.same_names n)
  same_fit d e updates_reg n a = ap not (a.updated.same_names n)
  same_fit d e updates_file n a = ap not (a.written.same_names n)
  same_fit d e _ n a = refl

  pub same_drives : (d e : Driven) (r : Role) (n : List ℕ) → AlikeDriven d e → AlikeDriven (drives d r n) (drives e r n)
  same_drives d e is_given n a = record { given = one_more d.given e.given n a.given; started = a.started; filled = a.filled; reset = a.reset; updated = a.updated; written = a.written }
  same_drives d e starts_reg n a = record { given = a.given; started = one_more d.started e.started n a.started; filled = a.filled; reset = a.reset; updated = a.updated; written = a.written }
  same_drives d e fills_file n a = record { given = a.given; started = a.started; filled = one_more d.filled e.filled n a.filled; reset = a.reset; updated = a.updated; written = a.written }
  same_drives d e resets_reg n a = record { given = a.given; started = a.started; filled = a.filled; reset = one_more d.reset e.reset n a.reset; updated = a.updated; written = a.written }
  same_drives d e updates_reg n a = record { given = a.given; started = a.started; filled = a.filled; reset = a.reset; updated = one_more d.updated e.updated n a.updated; written = a.written }
  same_drives d e updates_file n a = record { given = a.given; started = a.started; filled = a.filled; reset = a.reset; updated = a.updated; written = one_more d.written e.written n a.written }
  same_drives d e _ n a = a

  same_answer : (d e : Driven) (o : Occurrence) → AlikeDriven d e → driver_answer os resets all d o ≡ driver_answer os resets all e o
  same_answer d e o a = ap (λ b. answer b (found o.named.at (modules.Driver (driver_fault os all o.role o.named)))) (same_fit d e o.role o.named.name a)

  same_asked : (d e : Driven) (xs : List Occurrence) → AlikeDriven d e → drivers_asked os resets all d xs ≡ drivers_asked os resets all e xs
  same_asked d e [] a = refl
  same_asked d e (o ∷ xs) a =
      ap (λ x. x ∷ drivers_asked os resets all (drives d o.role o.named.name) xs) (same_answer d e o a)
      ∙ ap (λ ys. driver_answer os resets all e o ∷ ys) (same_asked (drives d o.role o.named.name) (drives e o.role o.named.name) xs (same_drives d e o.role o.named.name a))

  -- past a name
  pub turn : (text : List ℕ) (whole : List Listed) (i : ℕ) (o : Listed) (d e : Driven) (n n' : Collected (Finding ModuleFault)) → i < length whole → o ≡ get_or whole i o
      → n' ≡ with_answer n (option_map (placed text) (driver_answer os resets all d (occurrence_of o))) → AlikeDriven e (drives d (role_of o.role) o.named.now.name)
      → with_answers n' (in_text text (drivers_asked os resets all e (map occurrence_of (drop (i + 1) whole)))) ≡ with_answers n (in_text text (drivers_asked os resets all d (map occurrence_of (drop i whole))))
  turn text whole i o d e n n' h at noted a =
      let rest = map occurrence_of (drop (i + 1) whole) in
      ap (λ xs. with_answers n' (in_text text xs)) (same_asked e (drives d (role_of o.role) o.named.now.name) rest a)
      ∙ ap (λ k. with_answers k (in_text text (drivers_asked os resets all (drives d (role_of o.role) o.named.now.name) rest))) noted
      ∙ step (λ xs. with_answers n (in_text text (drivers_asked os resets all d (map occurrence_of xs)))) whole i o h at

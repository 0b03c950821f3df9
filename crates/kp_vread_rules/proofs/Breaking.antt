-- The first finding in a module is its first violated rule.
use Rattle.std.proofs.Common.{◌≡◌, ◌∙◌, ℕ, zero, suc, ◌<◌, ◌≤◌, List, [], ◌∷◌, ◌++◌, length, take, get_or, Bool, true, false, Option, Some, None, refl, sym, ap, arith}
use Rattle.std.{specs.Prelude.◌||◌, specs.Prelude.◌&&◌, specs.Prelude.◌==◌, specs.Prelude.nat_lt, specs.Prelude.if◌then◌else◌, specs.Prelude.nat_le, specs.Prelude.option_map, specs.Option.is_some, proofs.lemmas.Bool.leb-true, proofs.lemmas.Bool.le-leb}
use Rattle.kp_base.specs.{First.first, Findings.findings, declared.finding.Finding.Finding, declared.refusal.Refusal.Refusal}
use Rattle.kp_vlog.specs.{declared.tree.VModule.VModule, Occurrences.Occurrence, Occurrences.names, Scope.Scope, Scope.scope_of}
use Rattle.kp_vlog.specs.Scope.{width_in, address_in}
use Rattle.kp_vlog.specs.declared.tree.{Lit.Lit, Named.Named, Init.Init, Item.Item, ResetValue.ResetValue, Right.Right, Update.Update, VPort.VPort}
use Rattle.kp_vlog.specs.Rules.{Driven, Fault, broken, breaks, want, name_fits, bad_name, learns, driver_fits, bad_driver, drives, all_driven, nothing}
use Rattle.kp_vlog.specs.Rules.{right_answers, item_answers, items_answers, start_answers, init_answers, inits_answers, values_answers, updates_answers, ports_answers, header_answers, reset_values, width_answers, range_fits, stall_fits, four_bits, words_fit, literal_fits, right_fits, file_fits, loop_fits}
use Rattle.kp_vlog.specs.Verdict.{fault, refusal_of as verdict_of}
use Rattle.kp_vread_rules.specs.{Faults.found, Faults.in_text, Faults.placed, Faults.refusal_of, Faults.rule_of, Findings.or_else, Findings.name_findings, Findings.width_findings, Findings.driver_findings, Findings.module_findings}
use Rattle.kp_vread_rules.specs.{NameFaults.name_fault, NameFaults.names_asked, DriverFaults.driver_fault, DriverFaults.drivers_asked}
use Rattle.kp_vread_rules.specs.WidthFaults.{wrong, file_fault, literal_fault, value_fault, right_fault, start_fault, update_fault, words_in, outputs_asked, literal_asked, item_asked, start_asked, init_asked, value_asked, items_asked, inits_asked, values_asked, updates_asked, samples_asked, header_asked, widths_asked}
use Rattle.kp_vread_rules.specs.declared.fault.{Found.Found, ModuleFault.ModuleFault, WidthFault.WidthFault}
use Rattle.kp_vlog.specs.declared.tree.Item.TheVariants as lines
use Rattle.kp_vlog.specs.declared.tree.Init.TheVariants as starts
use Rattle.kp_vlog.specs.declared.tree.Right.TheVariants as sides
use Rattle.kp_vlog.specs.declared.tree.Update.TheVariants as edges
use Rattle.kp_vread_rules.specs.declared.fault.ModuleFault.TheVariants as modules
use Rattle.kp_vread_rules.specs.declared.fault.WidthFault.TheVariants as faults

-- the rule that is violated by what is found, and the offset
abbrev fault_of : Found → Fault
fault_of f = fault (rule_of f.fault) f.at

abbrev ruled : Option Found → Option Fault
ruled answer = option_map fault_of answer

-- V3
names_at : (all : List Occurrence) (known : List (List ℕ)) (os : List Occurrence) → ruled (first (names_asked all known os)) ≡ option_map (fault 3) (bad_name known os)
names_at all known [] = refl
names_at all known (o ∷ os) = step (name_fits known o.role o.named.name) (names_at all (learns known o.role o.named.name) os)
  where
    rest : List (Option Found)
    rest = names_asked all (learns known o.role o.named.name) os

    bad : Option ℕ
    bad = bad_name (learns known o.role o.named.name) os

    step : (b : Bool) → ruled (first rest) ≡ option_map (fault 3) bad
        → ruled (first ((if b then None else Some (found o.named.at (modules.Name (name_fault all known o.role o.named)))) ∷ rest)) ≡ option_map (fault 3) (if b then bad else Some o.named.at)
    step true e = e
    step false e = refl

-- V5
drivers_at : (os : List Occurrence) (resets : Bool) (all so_far : Driven) (xs : List Occurrence) → ruled (first (drivers_asked os resets all so_far xs)) ≡ option_map (fault 5) (bad_driver resets all so_far xs)
drivers_at os resets all so_far [] = refl
drivers_at os resets all so_far (o ∷ xs) = step (driver_fits resets all so_far o.role o.named.name) (drivers_at os resets all (drives so_far o.role o.named.name) xs)
  where
    rest : List (Option Found)
    rest = drivers_asked os resets all (drives so_far o.role o.named.name) xs

    bad : Option ℕ
    bad = bad_driver resets all (drives so_far o.role o.named.name) xs

    step : (b : Bool) → ruled (first rest) ≡ option_map (fault 5) bad
        → ruled (first ((if b then None else Some (found o.named.at (modules.Driver (driver_fault os all o.role o.named)))) ∷ rest)) ≡ option_map (fault 5) (if b then bad else Some o.named.at)
    step true e = e
    step false e = refl

-- V4: what is found at the first of some checks, by the checks of the rule
record Same (xs : List (Option Found)) (ys : List (Option ℕ)) : Type 0 where
  first_same : ruled (first xs) ≡ option_map (fault 4) (first ys)

want_same : (b : Bool) (at : ℕ) (fault : WidthFault) (xs : List (Option Found)) (ys : List (Option ℕ)) → Same xs ys → Same (wrong b at fault ∷ xs) (want b at ∷ ys)
want_same true at fault xs ys e = record { first_same = e.first_same }
want_same false at fault xs ys e = record { first_same = refl }

none_same : Same [] []
none_same = record { first_same = refl }

last_same : (b : Bool) (at : ℕ) (fault : WidthFault) → Same (wrong b at fault ∷ []) (want b at ∷ [])
last_same b at fault = want_same b at fault [] [] none_same

append_same : (xs zs : List (Option Found)) (ys ws : List (Option ℕ)) → Same xs ys → Same zs ws → Same (xs ++ zs) (ys ++ ws)
append_same xs zs ys ws e f = record { first_same = both xs ys e.first_same }
  where
    both : (xs : List (Option Found)) (ys : List (Option ℕ)) → ruled (first xs) ≡ option_map (fault 4) (first ys) → ruled (first (xs ++ zs)) ≡ option_map (fault 4) (first (ys ++ ws))
    both (Some x ∷ xs) [] e = cc
    both (Some x ∷ xs) (Some y ∷ ys) e = e
    both (Some x ∷ xs) (None ∷ ys) e = both (Some x ∷ xs) ys e
    both (None ∷ xs) ys e = both xs ys e
    both [] [] e = f.first_same
    both [] (None ∷ ys) e = both [] ys e
    both [] (Some y ∷ ys) e = cc

-- the first of the checks of a part stands for all of them
part_same : (xs zs : List (Option Found)) (ys ws : List (Option ℕ)) → Same xs ys → Same zs ws → Same (first xs ∷ zs) (ys ++ ws)
part_same [] zs ys ws e f = append_same (None ∷ []) zs ys ws (record { first_same = e.first_same }) f
part_same (None ∷ xs) zs ys ws e f = part_same xs zs ys ws (record { first_same = e.first_same }) f
part_same (Some x ∷ xs) zs ys ws e f = append_same (Some x ∷ []) zs ys ws (record { first_same = e.first_same }) f

literal_same : (r : Right) → Same (literal_asked r) (right_answers r)
literal_same (sides.Literal l) = last_same (literal_fits l.literal) l.at (literal_fault l.literal)
literal_same _ = none_same

item_same : (s : Scope) (os : List Occurrence) (x : Item) → Same (item_asked s os x) (item_answers s x)
item_same s os (lines.Reg r n) = last_same (range_fits r) n.at faults.Range
item_same s os (lines.File r n w) = last_same (range_fits r && (words_fit w && file_fits s n.name)) n.at (file_fault r w)
item_same s os (lines.Integer n) = none_same
item_same s os (lines.Wire r n) = last_same (range_fits r) n.at faults.Range
item_same s os (lines.Assign t r) =
    want_same (right_fits s.sizes (width_in s.sizes t.name) r) t.at (right_fault s.sizes os t r) (literal_asked r) (right_answers r) (literal_same r)

items_same : (s : Scope) (os : List Occurrence) (xs : List Item) → Same (items_asked s os xs) (items_answers s xs)
items_same s os [] = none_same
items_same s os (x ∷ xs) = part_same (item_asked s os x) (items_asked s os xs) (item_answers s x) (items_answers s xs) (item_same s os x) (items_same s os xs)

start_same : (s : Scope) (os : List Occurrence) (n : Named) (l : Lit) (holds : Bool) (other : WidthFault) → Same (start_asked s os n l holds other) (start_answers s n l holds)
start_same s os n l holds other =
    want_same (l.literal.width == width_in s.sizes n.name && holds) n.at (start_fault s.sizes os n l other) (wrong (literal_fits l.literal) l.at (literal_fault l.literal) ∷ [])
    (want (literal_fits l.literal) l.at ∷ []) (last_same (literal_fits l.literal) l.at (literal_fault l.literal))

init_same : (s : Scope) (os : List Occurrence) (x : Init) → Same (init_asked s os x) (init_answers s x)
init_same s os (starts.Reg n l) = start_same s os n l true (value_fault s.sizes os n l.literal.width)
init_same s os (starts.Word f i l) = start_same s os f l (nat_lt i.value (words_in s os f)) (faults.Index (words_in s os f) i.value)
init_same s os (starts.Fill f) = start_same s os f.file f.value (loop_fits s f) (faults.Loop (words_in s os f.file))

inits_same : (s : Scope) (os : List Occurrence) (xs : List Init) → Same (inits_asked s os xs) (inits_answers s xs)
inits_same s os [] = none_same
inits_same s os (x ∷ xs) = part_same (init_asked s os x) (inits_asked s os xs) (init_answers s x) (inits_answers s xs) (init_same s os x) (inits_same s os xs)

values_same : (s : Scope) (os : List Occurrence) (xs : List ResetValue) → Same (values_asked s os xs) (values_answers s xs)
values_same s os [] = none_same
values_same s os (x ∷ xs) =
    part_same (value_asked s os x) (values_asked s os xs) (start_answers s x.name x.value true) (values_answers s xs)
    (start_same s os x.name x.value true (value_fault s.sizes os x.name x.value.literal.width)) (values_same s os xs)

updates_same : (s : Scope) (os : List Occurrence) (xs : List Update) → Same (updates_asked s os xs) (updates_answers s xs)
updates_same s os [] = none_same
updates_same s os (edges.Reg n v ∷ xs) =
    want_same (width_in s.sizes v.name == width_in s.sizes n.name) n.at (update_fault s.sizes os (edges.Reg n v)) (updates_asked s os xs) (updates_answers s xs) (updates_same s os xs)
updates_same s os (edges.File t f a v ∷ xs) =
    want_same (width_in s.sizes t.name == 1 && (width_in s.sizes a.name == address_in s.sizes f.name && width_in s.sizes v.name == width_in s.sizes f.name)) f.at
    (update_fault s.sizes os (edges.File t f a v)) (updates_asked s os xs) (updates_answers s xs) (updates_same s os xs)

samples_same : (ps : List VPort) → Same (samples_asked ps) (ports_answers ps)
samples_same [] = none_same
samples_same (p ∷ ps) = want_same (range_fits p.range) p.port.at faults.Range (samples_asked ps) (ports_answers ps) (samples_same ps)

outputs_same : (m : VModule) → Same (outputs_asked m) (want (stall_fits m.full.range) m.full.port.at ∷ want (stall_fits m.ue.range) m.ue.port.at ∷ want (four_bits m.back.range) m.back.port.at ∷ [])
outputs_same m =
    let back = last_same (four_bits m.back.range) m.back.port.at faults.BackRange in
    let ue = want_same (stall_fits m.ue.range) m.ue.port.at faults.StallRange (wrong (four_bits m.back.range) m.back.port.at faults.BackRange ∷ []) (want (four_bits m.back.range) m.back.port.at ∷ []) back in
    want_same (stall_fits m.full.range) m.full.port.at faults.StallRange
    (wrong (stall_fits m.ue.range) m.ue.port.at faults.StallRange ∷ wrong (four_bits m.back.range) m.back.port.at faults.BackRange ∷ [])
    (want (stall_fits m.ue.range) m.ue.port.at ∷ want (four_bits m.back.range) m.back.port.at ∷ []) ue

header_same : (m : VModule) → Same (header_asked m) (header_answers m)
header_same m =
    want_same (stall_fits m.ext.range) m.ext.port.at faults.StallRange (samples_asked m.samples ++ outputs_asked m)
    (ports_answers m.samples ++ (want (stall_fits m.full.range) m.full.port.at ∷ want (stall_fits m.ue.range) m.ue.port.at ∷ want (four_bits m.back.range) m.back.port.at ∷ []))
    (append_same (samples_asked m.samples) (outputs_asked m) (ports_answers m.samples) _ (samples_same m.samples) (outputs_same m))

widths_at : (m : VModule) → Same (widths_asked m) (width_answers m)
widths_at m =
    let s = scope_of m in
    let os = names m in
    let edge = append_same (values_asked s os (reset_values m.reset)) (updates_asked s os m.updates) (values_answers s (reset_values m.reset)) (updates_answers s m.updates) (values_same s os (reset_values m.reset)) (updates_same s os m.updates) in
    let body = append_same (inits_asked s os m.inits) _ (inits_answers s m.inits) _ (inits_same s os m.inits) edge in
    let rest = append_same (items_asked s os m.items) _ (items_answers s m.items) _ (items_same s os m.items) body in
    append_same (header_asked m) _ (header_answers m) _ (header_same m) rest

-- The verdict.

-- what is found, by the first answer
by_first : {G : Type 0} (text : List ℕ) (xs : List (Option Found)) → (first xs ≡ None → findings (in_text text xs) ≡ [] → G)
    → ((x : Found) (rest : List (Finding ModuleFault)) → first xs ≡ Some x → findings (in_text text xs) ≡ placed text x ∷ rest → G) → G
by_first text [] none some = none refl refl
by_first text (None ∷ xs) none some = by_first text xs none some
by_first text (Some x ∷ xs) none some = some x (findings (in_text text xs)) refl refl

breaks_some : (k : ℕ) (o : Option ℕ) (rest : Option Fault) (x : Found) (f : Option Found) → f ≡ Some x → ruled f ≡ option_map (fault k) o → breaks k o rest ≡ Some (fault_of x)
breaks_some k None rest x f e is = cc
breaks_some k (Some at) rest x f e is = sym (ap ruled (sym e) ∙ is)

breaks_none : (k : ℕ) (o : Option ℕ) (rest : Option Fault) (f : Option Found) → f ≡ None → ruled f ≡ option_map (fault k) o → breaks k o rest ≡ rest
breaks_none k None rest f e is = refl
breaks_none k (Some at) rest f e is = cc

-- the first of these findings is the verdict
abbrev pub IsVerdict : List ℕ → List (Finding ModuleFault) → Option Fault → Type 0
IsVerdict text [] v = v ≡ None
IsVerdict text (f ∷ fs) v = (w : Fault) × (v ≡ Some w) × (refusal_of f ≡ verdict_of text w)

module _ (text : List ℕ) (m : VModule) where
  pub verdict : IsVerdict text (module_findings text m) (broken m)
  unfolding broken module_findings
  verdict =
      let a = names_asked (names m) [] (names m) in
      let b = widths_asked m in
      let c = drivers_asked (names m) (is_some m.reset) (all_driven m) nothing (names m) in
      let names_is = names_at (names m) [] (names m) in
      let widths_is = (widths_at m).first_same in
      let drivers_is = drivers_at (names m) (is_some m.reset) (all_driven m) nothing (names m) in
      by_first text a
      (λ none fs. by_first text b
      (λ none_b fs_b. by_first text c
      (λ none_c fs_c.
      rw (fs, fs_b, fs_c)
      (breaks_none 3 _ _ _ none names_is ∙ breaks_none 4 _ _ _ none_b widths_is ∙ breaks_none 5 _ _ _ none_c drivers_is))
      (λ x rest is fs_c.
      rw (fs, fs_b, fs_c)
      (fault_of x, breaks_none 3 _ _ _ none names_is ∙ breaks_none 4 _ _ _ none_b widths_is ∙ breaks_some 5 _ _ x _ is drivers_is, refl)))
      (λ x rest is fs_b.
      rw (fs, fs_b)
      (fault_of x, breaks_none 3 _ _ _ none names_is ∙ breaks_some 4 _ _ x _ is widths_is, refl)))
      (λ x rest is fs.
      rw fs
      (fault_of x, breaks_some 3 _ _ x _ is names_is, refl))

  first_of : (fs : List (Finding ModuleFault)) (v : Option Fault) (f : Finding ModuleFault) (rest : List (Finding ModuleFault)) → IsVerdict text fs v → f ∷ rest ≡ take 1 fs → (w : Fault) × (v ≡ Some w) × (refusal_of f ≡ verdict_of text w)
  first_of [] v f rest is e = cc
  first_of (g ∷ fs) v f rest (w, is, same) e = let h : g ≡ f = cc e in (w, is, ap refusal_of (sym h) ∙ same)

  none_of : (fs : List (Finding ModuleFault)) (v : Option Fault) → IsVerdict text fs v → [] ≡ take 1 fs → v ≡ None
  none_of [] v is e = is
  none_of (g ∷ fs) v is e = cc

  pub broken_head : (fs : List (Finding ModuleFault)) (d : Finding ModuleFault) (r : Refusal) → r ≡ refusal_of (get_or fs 0 d) → fs ≡ take 1 (module_findings text m) → 1 ≤ length fs
      → (w : Fault) × (broken m ≡ Some w) × (r ≡ verdict_of text w)
  broken_head [] d r is e h = absurd (omega arith)
  broken_head (f ∷ fs) d r is e h = let p = first_of (module_findings text m) (broken m) f fs verdict e in (p.0, p.1, is ∙ p.2)

  pub none_broken : (fs : List (Finding ModuleFault)) → fs ≡ take 1 (module_findings text m) → length fs < 1 → broken m ≡ None
  none_broken [] e h = none_of (module_findings text m) (broken m) verdict e
  none_broken (f ∷ fs) e h = absurd (omega arith)

  -- where no name violates V3
  pub names_fit : name_findings text m ≡ [] → bad_name [] (names m) ≡ None
  names_fit e =
      by_first text (names_asked (names m) [] (names m))
      (λ none fs. no_offset (bad_name [] (names m)) (sym (ap ruled (sym none) ∙ names_at (names m) [] (names m))))
      (λ x rest is fs. cc)
    where
      no_offset : (o : Option ℕ) → option_map (fault 3) o ≡ None → o ≡ None
      no_offset None e = refl
      no_offset (Some at) e = cc

-- Where these findings are the last, the others aren't taken.
pub ended : (most : ℕ) (xs ys some : List (Finding ModuleFault)) → some ≡ take most xs → (nat_le most (length some) || nat_le 1 (length some)) ≡ true → some ≡ take most (or_else xs ys)
ended zero xs ys some e t = e
ended (suc n) (x ∷ xs) ys some e t = e
ended (suc n) [] ys [] e t = absurd (omega (arith, leb-true (suc n) 0 (left_is (nat_le (suc n) 0) t)))
  where
    left_is : (b : Bool) → (b || nat_le 1 0) ≡ true → b ≡ true
    left_is true e = refl
    left_is false e = e
ended (suc n) [] ys (y ∷ some) e t = cc

pub none_yet : (most : ℕ) (xs some : List (Finding ModuleFault)) → some ≡ take most xs → (nat_le most (length some) || nat_le 1 (length some)) ≡ false → xs ≡ []
none_yet zero xs some e t = cc
none_yet (suc n) [] some e t = refl
none_yet (suc n) (x ∷ xs) [] e t = cc
none_yet (suc n) (x ∷ xs) (y ∷ some) e t = both (nat_le (suc n) (length (y ∷ some))) (nat_le 1 (length (y ∷ some))) (le-leb 1 (length (y ∷ some)) (omega arith)) t
  where
    both : (b c : Bool) → c ≡ true → (b || c) ≡ false → x ∷ xs ≡ []
    both true c f g = cc
    both false c f g = cc

module _ (text : List ℕ) (m : VModule) (most : ℕ) (some : List (Finding ModuleFault)) where
  pub names_end : some ≡ take most (name_findings text m) → (nat_le most (length some) || nat_le 1 (length some)) ≡ true → some ≡ take most (module_findings text m)
  unfolding module_findings
  names_end e t = ended most (name_findings text m) (or_else (width_findings text m) (driver_findings text m)) some e t

  pub widths_end : name_findings text m ≡ [] → some ≡ take most (width_findings text m) → (nat_le most (length some) || nat_le 1 (length some)) ≡ true → some ≡ take most (module_findings text m)
  unfolding module_findings
  widths_end none e t =
      ended most (width_findings text m) (driver_findings text m) some e t
      ∙ ap (λ xs. take most (or_else xs (or_else (width_findings text m) (driver_findings text m)))) (sym none)

  pub drivers_end : name_findings text m ≡ [] → width_findings text m ≡ [] → some ≡ take most (driver_findings text m) → some ≡ take most (module_findings text m)
  unfolding module_findings
  drivers_end none none_w e =
      e ∙ ap (λ xs. take most (or_else xs (driver_findings text m))) (sym none_w)
      ∙ ap (λ xs. take most (or_else xs (or_else (width_findings text m) (driver_findings text m)))) (sym none)

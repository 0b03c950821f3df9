-- The names of a module drive what the module drives.
use Rattle.std.proofs.Common.{◌≡◌, ◌∙◌, ℕ, ◌+◌, ◌<◌, List, [], ◌∷◌, ◌++◌, length, get_or, drop, Bool, true, false, Option, Some, None, refl, sym, ap, subst, map}
use Rattle.std.{proofs.lemmas.List.drop_more, specs.Prelude.not, specs.Prelude.◌||◌, specs.Prelude.codes, specs.Prelude.if◌then◌else◌, specs.Option.is_some}
use Rattle.kp_vlog.specs.Occurrences.{Occurrence, Role, occurs, declares_port, declares_wire, declares_reg, declares_file, uses_wire, uses_source, gives_no_wire, is_given, wires_used, operands, right_names, items_names, inits_names, values_names, reset_names, updates_names, samples_names, reset_port_names, wide_port_names, header_names, body_names, names}
use Rattle.kp_vlog.specs.Rules.{Driven, drives, driver_fits, nothing, items_given, inits_started, inits_filled, updates_updated, updates_written, reset_values, all_driven}
use Rattle.kp_vread_rules.specs.DriverFaults.{driver_answer, driver_fault, drivers_asked}
use Rattle.kp_vlog.specs.declared.tree.{Named.Named, VPort.VPort, Right.Right, Item.Item, Init.Init, ResetValue.ResetValue, ResetList.ResetList, Update.Update}
use Rattle.kp_vlog.specs.{declared.tree.VModule.VModule, Scope.is_output_name}
use Rattle.kp_vlog.specs.declared.tree.Right.TheVariants as sides
use Rattle.kp_vlog.specs.declared.tree.Item.TheVariants as lines
use Rattle.kp_vlog.specs.declared.tree.Init.TheVariants as starts
use Rattle.kp_vlog.specs.declared.tree.Update.TheVariants as edges
use Rattle.kp_vread_rules.specs.inner.{Sets.Alike, Sets.AlikeDriven, Sets.all_by, Listed.occurrence_of}
use Rattle.kp_vread_rules.{specs.declared.names.Occurrence.Occurrence as Listed, proofs.Drives.same_drives}

-- one name more, from the end
pub one_before : (all : List Listed) (i : ℕ) (o : Listed) (d e z : Driven) → i < length all → o ≡ get_or all i o
    → AlikeDriven d (all_by (map occurrence_of (drop (i + 1) all)) z) → AlikeDriven e (drives d (occurrence_of o).role o.named.now.name)
    → AlikeDriven e (all_by (map occurrence_of (drop i all)) z)
one_before all i o d e z h w a b =
    let first : drop i all ≡ o ∷ drop (i + 1) all = drop_more all i o h ∙ ap (λ x. x ∷ drop (i + 1) all) (sym w) in
    subst (λ xs. AlikeDriven e (all_by (map occurrence_of xs) z)) (sym first)
    (joined e (drives d (occurrence_of o).role o.named.now.name) (drives (all_by (map occurrence_of (drop (i + 1) all)) z) (occurrence_of o).role o.named.now.name) b
    (same_drives [] false nothing d (all_by (map occurrence_of (drop (i + 1) all)) z) (occurrence_of o).role o.named.now.name a))
  where
    both : (xs ys zs : List (List ℕ)) → Alike xs ys → Alike ys zs → Alike xs zs
    both xs ys zs p q = record { same_names = λ n. p.same_names n ∙ q.same_names n }

    joined : (x y z : Driven) → AlikeDriven x y → AlikeDriven y z → AlikeDriven x z
    joined x y z p q = record {
      given = both x.given y.given z.given p.given q.given;
      started = both x.started y.started z.started p.started q.started;
      filled = both x.filled y.filled z.filled p.filled q.filled;
      reset = both x.reset y.reset z.reset p.reset q.reset;
      updated = both x.updated y.updated z.updated p.updated q.updated;
      written = both x.written y.written z.written p.written q.written;
    }

-- the order of what the module drives doesn't matter
fit_of_all : (resets : Bool) (d e so_far : Driven) (r : Role) (n : List ℕ) → AlikeDriven d e → driver_fits resets d so_far r n ≡ driver_fits resets e so_far r n
fit_of_all resets d e so_far (declares_port k) n a = ap (λ b. not (is_output_name n) || b) (a.given.same_names n)
fit_of_all resets d e so_far declares_wire n a = a.given.same_names n
fit_of_all resets d e so_far declares_reg n a = rw (a.started.same_names n, a.updated.same_names n, a.reset.same_names n) refl
fit_of_all resets d e so_far declares_file n a = a.filled.same_names n
fit_of_all resets d e so_far _ n a = refl

fault_of_all : (os : List Occurrence) (d e : Driven) (r : Role) (n : Named) → AlikeDriven d e → driver_fault os d r n ≡ driver_fault os e r n
fault_of_all os d e declares_reg n a = rw (a.started.same_names n.name, a.updated.same_names n.name) refl
fault_of_all os d e _ n a = refl

answer_of_all : (os : List Occurrence) (resets : Bool) (d e so_far : Driven) (o : Occurrence) → AlikeDriven d e → driver_answer os resets d so_far o ≡ driver_answer os resets e so_far o
answer_of_all os resets d e so_far o a = rw (fit_of_all resets d e so_far o.role o.named.name a, fault_of_all os d e o.role o.named a) refl

asked_of_all : (os : List Occurrence) (resets : Bool) (d e so_far : Driven) (xs : List Occurrence) → AlikeDriven d e → drivers_asked os resets d so_far xs ≡ drivers_asked os resets e so_far xs
asked_of_all os resets d e so_far [] a = refl
asked_of_all os resets d e so_far (o ∷ xs) a =
    ap (λ x. x ∷ drivers_asked os resets d (drives so_far o.role o.named.name) xs) (answer_of_all os resets d e so_far o a)
    ∙ ap (λ ys. driver_answer os resets e so_far o ∷ ys) (asked_of_all os resets d e (drives so_far o.role o.named.name) xs a)

-- What the parts of a module drive.
append : (xs ys : List Occurrence) (d : Driven) → all_by (xs ++ ys) d ≡ all_by xs (all_by ys d)
append [] ys d = refl
append (x ∷ xs) ys d = ap (λ e. drives e x.role x.named.name) (append xs ys d)

wires_drive : (parts : List Named) (d : Driven) → all_by (wires_used parts) d ≡ d
wires_drive [] d = refl
wires_drive (a ∷ parts) d = wires_drive parts d

operands_drive : (r : Right) (d : Driven) → all_by (operands r) d ≡ d
operands_drive (sides.Concat parts) d = wires_drive parts d
operands_drive _ d = refl

name_drives : (b : Bool) (n : Named) (d : Driven) → all_by ((if b then occurs uses_wire n else occurs uses_source n) ∷ []) d ≡ d
name_drives true n d = refl
name_drives false n d = refl

others_drive : (b : Bool) (t : Named) (r : Right) (d : Driven) → all_by ((if b then occurs gives_no_wire t ∷ [] else []) ++ operands r) d ≡ d
others_drive true t r d = operands_drive r d
others_drive false t r d = operands_drive r d

right_drives : (t : Named) (r : Right) (d : Driven) → all_by (right_names t r) d ≡ d
right_drives t (sides.Name n) d = name_drives (is_output_name t.name) n d
right_drives t r d = others_drive (is_output_name t.name) t r d

items_drive : (xs : List Item) (d : Driven) → all_by (items_names xs) d ≡ record d { given = items_given xs ++ d.given }
items_drive [] d = refl
items_drive (lines.Reg r n ∷ xs) d = items_drive xs d
items_drive (lines.File r n w ∷ xs) d = items_drive xs d
items_drive (lines.Integer n ∷ xs) d = items_drive xs d
items_drive (lines.Wire r n ∷ xs) d = items_drive xs d
items_drive (lines.Assign t r ∷ xs) d =
    append (right_names t r ++ (occurs is_given t ∷ [])) (items_names xs) d
    ∙ append (right_names t r) (occurs is_given t ∷ []) (all_by (items_names xs) d)
    ∙ right_drives t r (drives (all_by (items_names xs) d) is_given t.name)
    ∙ ap (λ e. drives e is_given t.name) (items_drive xs d)

inits_drive : (xs : List Init) (d : Driven) → all_by (inits_names xs) d ≡ record d { started = inits_started xs ++ d.started; filled = inits_filled xs ++ d.filled }
inits_drive [] d = refl
inits_drive (starts.Reg n l ∷ xs) d = ap {A = Driven} (λ e. record e { started = n.name ∷ e.started }) (inits_drive xs d)
inits_drive (starts.Word n i l ∷ xs) d = inits_drive xs d
inits_drive (starts.Fill f ∷ xs) d = ap {A = Driven} (λ e. record e { filled = f.file.name ∷ e.filled }) (inits_drive xs d)

values_drive : (is : List Init) (xs : List ResetValue) (d : Driven) → all_by (values_names is xs) d ≡ record d { reset = map (λ x. x.name.name) xs ++ d.reset }
values_drive is [] d = refl
values_drive is (x ∷ xs) d = ap {A = Driven} (λ e. record e { reset = x.name.name ∷ e.reset }) (values_drive is xs d)

reset_drives : (is : List Init) (r : Option ResetList) (d : Driven) → all_by (reset_names is r) d ≡ record d { reset = map (λ x. x.name.name) (reset_values r) ++ d.reset }
reset_drives is None d = refl
reset_drives is (Some r) d = values_drive is r.values d

updates_drive : (xs : List Update) (d : Driven) → all_by (updates_names xs) d ≡ record d { updated = updates_updated xs ++ d.updated; written = updates_written xs ++ d.written }
updates_drive [] d = refl
updates_drive (edges.Reg n v ∷ xs) d = ap {A = Driven} (λ e. record e { updated = n.name ∷ e.updated }) (updates_drive xs d)
updates_drive (edges.File t f a v ∷ xs) d = ap {A = Driven} (λ e. record e { written = f.name ∷ e.written }) (updates_drive xs d)

samples_drive : (ps : List VPort) (d : Driven) → all_by (samples_names ps) d ≡ d
samples_drive [] d = refl
samples_drive (p ∷ ps) d = samples_drive ps d

reset_port_drives : (p : Option Named) (b : Bool) (d : Driven) → all_by (reset_port_names p b) d ≡ d
reset_port_drives None b d = refl
reset_port_drives (Some n) b d = refl

header_drives : (m : VModule) (d : Driven) → all_by (header_names m) d ≡ d
header_drives m d =
    let outputs = wide_port_names (codes "full") m.ext m.full ++ (wide_port_names (codes "ue") m.ext m.ue ++ (occurs (declares_port (codes "back")) m.back.port ∷ [])) in
    let inputs = occurs (declares_port (codes "ext")) m.ext.port ∷ (samples_names m.samples ++ outputs) in
    append (reset_port_names m.rst (is_some m.reset)) inputs d
    ∙ reset_port_drives m.rst (is_some m.reset) (all_by inputs d)
    ∙ append (samples_names m.samples) outputs d
    ∙ samples_drive m.samples (all_by outputs d)

whole_list : (xs : List (List ℕ)) → xs ++ [] ≡ xs
whole_list [] = refl
whole_list (x ∷ xs) = ap (λ ys. x ∷ ys) (whole_list xs)

body_drives : (m : VModule) → all_by (body_names m) nothing ≡ record (all_driven m) { given = [] }
body_drives m =
    append (inits_names m.inits) _ nothing
    ∙ ap (all_by (inits_names m.inits)) (append (reset_names m.inits m.reset) (updates_names m.updates) nothing
    ∙ ap (all_by (reset_names m.inits m.reset)) (updates_drive m.updates nothing)
    ∙ reset_drives m.inits m.reset (record nothing { updated = updates_updated m.updates ++ []; written = updates_written m.updates ++ [] }))
    ∙ inits_drive m.inits _
    ∙ rw (whole_list (inits_started m.inits), whole_list (inits_filled m.inits), whole_list (map (λ x. x.name.name) (reset_values m.reset)), whole_list (updates_updated m.updates), whole_list (updates_written m.updates)) refl

pub names_drive : (m : VModule) → all_by (names m) nothing ≡ all_driven m
names_drive m =
    append (header_names m) (items_names m.items ++ body_names m) nothing
    ∙ header_drives m (all_by (items_names m.items ++ body_names m) nothing)
    ∙ append (items_names m.items) (body_names m) nothing
    ∙ ap (all_by (items_names m.items)) (body_drives m)
    ∙ items_drive m.items (record (all_driven m) { given = [] })
    ∙ rw (whole_list (items_given m.items)) refl

-- the drivers of a module, by what its names drive
pub module_asked : (m : VModule) (d : Driven) (os : List Occurrence) → os ≡ names m → AlikeDriven d (all_by os nothing)
    → drivers_asked os (is_some m.reset) d nothing os ≡ drivers_asked (names m) (is_some m.reset) (all_driven m) nothing (names m)
module_asked m d os e a =
    ap (λ xs. drivers_asked xs (is_some m.reset) d nothing xs) e
    ∙ asked_of_all (names m) (is_some m.reset) d (all_driven m) nothing (names m) (subst (λ x. AlikeDriven d x) (ap (λ xs. all_by xs nothing) e ∙ names_drive m) a)

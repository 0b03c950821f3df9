-- How a target is written, from the tables of its design.
use Rattle.std.proofs.Common.{◌≡◌, ◌∙◌, ℕ, ◌+◌, List, [], ◌∷◌, Option, Some, None, Bool, true, false, cond, eqb, refl, ap, sym}
use Rattle.std.proofs.lemmas.Option.{same_Some}
use Rattle.kp_ast.specs.declared.tree.{ResultDecl.ResultDecl, Decl.Decl, Block.Block, Job.Job}
use Rattle.kp_ast.specs.declared.tree.Decl.TheVariants as decls
use Rattle.kp_machine.specs.{Slots.Slot, Slots.targets_of, Slots.number_of, Slots.result_to, Machine.machine_of, Machine.result_for, Machine.write_stage_of}
use Rattle.kp_design.specs.{declared.layout.Port.Port, Fits.port_for, Fits.port_at}
use Rattle.kp_sites.specs.{declared.sites.Site.Site, declared.sites.Writer.Writer, Sites.result_number, Sites.sites_from, Sites.writer_at, Sites.writer_by}
use Rattle.kp_sites.specs.inner.Ported.{writer_with}

-- a target without a port has no result
unported : (job : Job) (t : ℕ) (o : Option ResultDecl) → port_for job t o ≡ None → o ≡ None
unported job t None e = refl
unported job t (Some r) e = cc

none_by : (b : Bool) (i : ℕ) (q : ResultDecl) (o : Option ℕ) (r : Option ResultDecl) → (r ≡ None → o ≡ None) → cond b (Some q) r ≡ None → cond b (Some i) o ≡ None
none_by true i q o r h e = cc
none_by false i q o r h e = h e

unresulted : (targets : List Slot) (ds : List Decl) (i t : ℕ) → result_to targets ds t ≡ None → result_number targets ds i t ≡ None
unresulted targets [] i t e = refl
unresulted targets (decls.Target q ∷ ds) i t e =
    none_by (eqb (number_of targets q.target.name) t) i q (result_number targets ds (i + 1) t) (result_to targets ds t) (unresulted targets ds (i + 1) t) e
unresulted targets (_ ∷ ds) i t e = unresulted targets ds i t e

no_writer : (job : Job) (t : ℕ) → None ≡ port_at job t → None ≡ writer_at job t
unfolding result_for
no_writer job t e = sym (ap (writer_by job t) (unresulted (targets_of job.decls) job.decls 0 t (unported job t (result_for job t) (sym e))))

-- a port has the write stage and the first stage in which the intent is known
port_parts : (job : Job) (t : ℕ) (p : Port) (o : Option ResultDecl) → port_for job t o ≡ Some p → (p.write ≡ write_stage_of o) × (p.known ≡ (machine_of job).known_from t)
port_parts job t p None e = cc
port_parts job t p (Some r) e =
    let h = same_Some _ p e in
    (sym (ap (λ (x : Port). x.write) h), sym (ap (λ (x : Port). x.known) h))

abbrev made : ℕ → ℕ → ℕ → Option Writer
made i w k = Some (record { result = i; write = w; known = k })

one_writer : (job : Job) (t i : ℕ) (p : Port) → Some p ≡ port_at job t → Some i ≡ result_number (targets_of job.decls) job.decls 0 t
    → Some (record { result = i; write = p.write; known = p.known }) ≡ writer_at job t
unfolding machine_of
one_writer job t i p e n =
    let q = port_parts job t p (result_for job t) (sym e) in
    ap (λ w. made i w p.known) q.0 ∙ ap (made i ((machine_of job).write_stage t)) q.1 ∙ ap (writer_by job t) n

pub written : (job : Job) (t : ℕ) (port : Option Port) (n : Option ℕ) → port ≡ port_at job t → n ≡ result_number (targets_of job.decls) job.decls 0 t → writer_with port n ≡ writer_at job t
written job t None n e m = no_writer job t e
written job t (Some p) None e m = ap (writer_by job t) m
written job t (Some p) (Some i) e m = one_writer job t i p e m

-- the reads of two equal jobs
pub same_sites : (ds es : List Decl) (bs cs : List Block) (sites : List Site) → sites ≡ sites_from (targets_of ds) 0 bs → ds ≡ es → bs ≡ cs → sites ≡ sites_from (targets_of es) 0 cs
same_sites ds es bs cs sites h d b = h ∙ ap (λ x. sites_from (targets_of x) 0 bs) d ∙ ap (sites_from (targets_of es) 0) b

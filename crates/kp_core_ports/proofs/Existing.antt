-- What a port shows or takes exists.
use Rattle.std.proofs.Common.{◌≡◌, ℕ, suc, ◌+◌, ◌<◌, ◌≤◌, Bool, true, false, cond, ◌&&◌, ◌==◌, List, [], ◌∷◌, length, get_or, Option, Some, None, Result, Ok, Err, refl, sym, ap, subst, ◌∙◌, arith}
use Rattle.std.{proofs.lemmas.Bool.and_parts, proofs.lemmas.Bool.not-true, specs.Prelude.IfOk, specs.Prelude.IfSome, specs.Str.bytes_eq}
use Rattle.kp_ast.specs.declared.tree.{Decl.Decl, Job.Job}
use Rattle.kp_machine.specs.Slots.{Slot, targets_of, pipes_of}
use Rattle.kp_synth_registers.specs.Keys.{HasKey}
use Rattle.kp_design.specs.Numbers.{no_slot, target_at}
use Rattle.kp_synth_registers.specs.declared.key.Key.TheVariants as keys
use Rattle.kp_core_ports.specs.Ports.{asks_register, is_of, target_from, pipe_from, target_ask, pipe_ask, Exists}
use Rattle.kp_core_ports.specs.declared.port.{TargetVerb.TargetVerb, PipeVerb.PipeVerb, Ask.Ask, Port.Port, PortsRefused.PortsRefused}
use Rattle.kp_core_ports.specs.declared.port.TargetVerb.TheVariants as targets
use Rattle.kp_core_ports.specs.declared.port.PipeVerb.TheVariants as pipes

either : {A : Type 0} (b : Bool) → (b ≡ true → A) → (b ≡ false → A) → A
either true f g = f refl
either false f g = g refl

some_is : (a b : ℕ) → Some a ≡ Some b → a ≡ b
some_is a b e = cc e

-- the target that is found, counted from the first of these
pub record FoundAt (register : Bool) (n t : ℕ) (ss : List Slot) : Type 0 where
  pub index : ℕ
  pub number : t ≡ n + index
  pub there : index < length ss
  pub kind : is_of register (get_or ss index no_slot).address ≡ true

target_found : (register : Bool) (n t : ℕ) (ss : List Slot) (name : List ℕ) → target_from register n ss name ≡ Some t → FoundAt register n t ss
target_found register n t [] name e = absurd (cc e)
target_found register n t (s ∷ ss) name e =
    let b : Bool = bytes_eq s.name name && is_of register s.address in
    let rest : Option ℕ = target_from register (n + 1) ss name in
    either b
    (λ on. let is = some_is n t (ap (λ (c : Bool). cond c (Some n) rest) (sym on) ∙ e) in
    record { index = 0; number = omega (arith, is); there = omega arith; kind = (and_parts (bytes_eq s.name name) (is_of register s.address) on).1 })
    (λ off. let f = target_found register (n + 1) t ss name (ap (λ (c : Bool). cond c (Some n) rest) (sym off) ∙ e) in let a = f.number in let b = f.there in
    record { index = suc f.index; number = omega (arith, a); there = omega (arith, b); kind = f.kind })

found_exists : (job : Job) (register : Bool) (name : List ℕ) (t : ℕ) → target_from register 0 (targets_of job.decls) name ≡ Some t
    → (t < length (targets_of job.decls)) × (is_of register (target_at job t).address ≡ true)
found_exists job register name t e =
    let f = target_found register 0 t (targets_of job.decls) name e in
    let same : f.index ≡ t = let a = f.number in omega (arith, a) in
    subst (λ (u : ℕ). (u < length (targets_of job.decls)) × (is_of register (target_at job u).address ≡ true)) same (f.there, f.kind)

pub target_exists : (job : Job) (verb : TargetVerb) (name : List ℕ) (t : ℕ) → target_from (asks_register verb) 0 (targets_of job.decls) name ≡ Some t
    → Exists job (target_ask verb t)
target_exists job targets.Show name t e = found_exists job true name t e
target_exists job targets.Peek name t e = let p = found_exists job false name t e in (p.0, not-true ((target_at job t).address == 0) p.1)
target_exists job targets.Load name t e = let p = found_exists job false name t e in (p.0, not-true ((target_at job t).address == 0) p.1)

-- what a line asks for, whose target is found
pub named_exists : (job : Job) (verb : TargetVerb) (register : Bool) (ds : List Decl) (name : List ℕ) (target : Option ℕ) (result : Result Port PortsRefused)
    → register ≡ asks_register verb → ds ≡ job.decls → target ≡ target_from register 0 (targets_of ds) name
    → IfOk result (λ port. (t : ℕ) × (target ≡ Some t) × (port.ask ≡ target_ask verb t)) → IfOk result (λ port. Exists job port.ask)
named_exists job verb register ds name target (Ok port) kind same is (t, found, asks) =
    let here : target_from (asks_register verb) 0 (targets_of job.decls) name ≡ Some t =
    ap (λ (b : Bool). target_from b 0 (targets_of job.decls) name) (sym kind) ∙ ap (λ (l : List Decl). target_from register 0 (targets_of l) name) (sym same) ∙ sym is ∙ found in
    subst (λ (a : Ask). Exists job a) (sym asks) (target_exists job verb name t here)
named_exists job verb register ds name target (Err e) kind same is asks = tt

-- the pipe that is found
pipe_found : (n x : ℕ) (ss : List Slot) (name : List ℕ) → pipe_from n ss name ≡ Some x → (n ≤ x) × (x < n + length ss)
pipe_found n x [] name e = absurd (cc e)
pipe_found n x (s ∷ ss) name e =
    let b : Bool = bytes_eq s.name name in
    let rest : Option ℕ = pipe_from (n + 1) ss name in
    either b
    (λ on. let is = some_is n x (ap (λ (c : Bool). cond c (Some n) rest) (sym on) ∙ e) in (omega (arith, is), omega (arith, is)))
    (λ off. let f = pipe_found (n + 1) x ss name (ap (λ (c : Bool). cond c (Some n) rest) (sym off) ∙ e) in
    let a = f.0 in let b = f.1 in (omega (arith, a), omega (arith, b)))

pub pipe_there : (job : Job) (ds : List Decl) (name : List ℕ) (pipe : Option ℕ) → ds ≡ job.decls → pipe ≡ pipe_from 0 (pipes_of ds) name
    → IfSome pipe (λ x. x < length (pipes_of job.decls))
pipe_there job ds name None same is = tt
pipe_there job ds name (Some x) same is =
    let f = pipe_found 0 x (pipes_of job.decls) name (ap (λ (l : List Decl). pipe_from 0 (pipes_of l) name) (sym same) ∙ sym is) in
    let a = f.1 in omega (arith, a)

pub pipe_exists : (job : Job) (verb : PipeVerb) (x k : ℕ) → HasKey job (keys.Pipe x k) → Exists job (pipe_ask verb x k)
pipe_exists job pipes.Probe x k h = h
pipe_exists job pipes.Next x k h = h

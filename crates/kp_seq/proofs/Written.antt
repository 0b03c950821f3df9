-- What an instruction writes: the words of the targets after it are the state after it in the abstract machine, and they fit.
use Rattle.std.proofs.Common.{◌≡◌, ◌≢◌, ◌∙◌, ℕ, zero, suc, ◌+◌, ◌^◌, ◌<◌, ◌≤◌, List, [], ◌∷◌, Option, Some, None, Bool, true, false, cond, eqb, ◌&&◌, length, get_or, set, replicate, refl, ap, sym, subst, arith, ⊎_elim}
use Rattle.std.proofs.lemmas.{Bool.cases_lt, Bool.cond_both, List.length-set, List.get_or-set_other, Nat.pow_pos}
use Rattle.std.proofs.Math.Dec.{eqb-suc-zero, eqb-zero-suc, eqb-suc-suc}
use Rattle.std.specs.Prelude.{is_some, slice_get, slice_index, unwrap_or, ◌==◌}
use Rattle.kp_bits.specs.Word.{Word}
use Rattle.kp_ast.specs.declared.tree.{Named.Named, ResultDecl.ResultDecl, Decl.Decl, Job.Job}
use Rattle.kp_width.{specs.Declarations.address_width, specs.Widths.widths_of, proofs.Unbroken.Unbroken}
use Rattle.kp_pipeline.specs.Sequential.{Instruction, StageOutcome, first_value, fresh_instruction, after_stage, before_stage, is_written}
use Rattle.kp_machine.specs.{Slots.Slot, Slots.targets_of, Slots.pipes_of, Slots.number_of, Slots.result_to, Trees.Progress}
use Rattle.kp_machine.specs.Machine.{machine_of, values_in, result_for, is_enabled_by, enabled_of, address_in}
use Rattle.kp_machine.proofs.{Scopes.PipeFits, Scopes.slot_of, Cases.by_option, Text.text, Text.placed, Text.fits_text, Text.target_slot}
use Rattle.kp_machine.specs.Words.{state_in, after_one}
use Rattle.kp_machine.specs.Machine as machines
use Rattle.kp_seq.specs.{declared.tables.Port.Port, inner.Tables.Laid, inner.Tables.pipe_number, inner.Tables.port_of, inner.Tables.ports_from}
use Rattle.kp_seq.specs.inner.Steps.{Under, begun, is_enabled, address_by, with_word, written_by, written_from}
use Rattle.kp_seq.{specs.inner.Fits.FitsSlot, specs.inner.Fits.FitSlots, specs.inner.Ready.AreTables, proofs.Changes.set_seen, proofs.Gives.Lists}
use Rattle.kp_seq.proofs.Plain.{after_next, next_first, none_after, none_before}

-- the words of one target after its port has written
abbrev pub row_by : Under → List ℕ → ℕ → Option Port → List ℕ
row_by u row x None = row
row_by u row x (Some p) = cond (is_enabled u p.enable) (set row (address_by u p.address) (unwrap_or (get_or u.results x None) 0)) row

same_word : (words : List (List ℕ)) (t a v : ℕ) → get_or (with_word words t a v) t [] ≡ set (get_or words t []) a v
same_word [] t a v = refl
same_word (w ∷ words) zero a v = refl
same_word (w ∷ words) (suc t) a v = same_word words t a v

same_row : (b : Bool) (words : List (List ℕ)) (t a v : ℕ) → get_or (cond b (with_word words t a v) words) t [] ≡ cond b (set (get_or words t []) a v) (get_or words t [])
same_row true words t a v = same_word words t a v
same_row false words t a v = refl

other_row : (b : Bool) (words : List (List ℕ)) (t a v x : ℕ) → x ≢ t → get_or (cond b (with_word words t a v) words) x [] ≡ get_or words x []
other_row true words t a v x n = get_or-set_other words t x (set (get_or words t []) a v) [] n
other_row false words t a v x n = refl

same_count : (b : Bool) (words : List (List ℕ)) (t a v : ℕ) → length (cond b (with_word words t a v) words) ≡ length words
same_count true words t a v = length-set words t (set (get_or words t []) a v)
same_count false words t a v = refl

row_count : (b : Bool) (row : List ℕ) (a v : ℕ) → length (cond b (set row a v) row) ≡ length row
row_count true row a v = length-set row a v
row_count false row a v = refl

module _ (u : Under) where
  at_port : (words : List (List ℕ)) (t : ℕ) (p : Option Port) → get_or (written_by u words t p) t [] ≡ row_by u (get_or words t []) t p
  at_port words t None = refl
  at_port words t (Some p) = same_row (is_enabled u p.enable) words t (address_by u p.address) (unwrap_or (get_or u.results t None) 0)

  other_port : (words : List (List ℕ)) (t : ℕ) (p : Option Port) (x : ℕ) → x ≢ t → get_or (written_by u words t p) x [] ≡ get_or words x []
  other_port words t None x n = refl
  other_port words t (Some p) x n = other_row (is_enabled u p.enable) words t (address_by u p.address) (unwrap_or (get_or u.results t None) 0) x n

  count_port : (words : List (List ℕ)) (t : ℕ) (p : Option Port) → length (written_by u words t p) ≡ length words
  count_port words t None = refl
  count_port words t (Some p) = same_count (is_enabled u p.enable) words t (address_by u p.address) (unwrap_or (get_or u.results t None) 0)

  count_row : (row : List ℕ) (x : ℕ) (p : Option Port) → length (row_by u row x p) ≡ length row
  count_row row x None = refl
  count_row row x (Some p) = row_count (is_enabled u p.enable) row (address_by u p.address) (unwrap_or (get_or u.results x None) 0)

  -- ports change no target before theirs
  before_ports : (words : List (List ℕ)) (j : ℕ) (ps : List (Option Port)) (x : ℕ) → x < j → get_or (written_from u words j ps) x [] ≡ get_or words x []
  before_ports words j [] x l = refl
  before_ports words j (p ∷ ps) x l = before_ports (written_by u words j p) (j + 1) ps x (omega arith) ∙ other_port words j p x (λ e. omega arith)

  -- and each writes its own target
  at_ports : (words : List (List ℕ)) (ps : List (Option Port)) (j i : ℕ) → get_or (written_from u words j ps) (j + i) [] ≡ row_by u (get_or words (j + i) []) (j + i) (get_or ps i None)
  at_ports words [] j i = refl
  at_ports words (p ∷ ps) j zero =
      let z : j + 0 ≡ j = none_after j in
      rw z (before_ports (written_by u words j p) (j + 1) ps j (omega arith) ∙ at_port words j p)
  at_ports words (p ∷ ps) j (suc i) =
      let z : j + suc i ≡ (j + 1) + i = after_next j i in
      rw z (at_ports (written_by u words j p) ps (j + 1) i
      ∙ ap (λ row. row_by u row ((j + 1) + i) (get_or ps i None)) (other_port words j p ((j + 1) + i) (λ e. omega arith)))

  pub written_row : (words : List (List ℕ)) (ps : List (Option Port)) (x : ℕ) → get_or (written_from u words 0 ps) x [] ≡ row_by u (get_or words x []) x (get_or ps x None)
  written_row words ps x =
      let z : 0 + x ≡ x = none_before x in
      subst (λ y. get_or (written_from u words 0 ps) y [] ≡ row_by u (get_or words y []) y (get_or ps x None)) z (at_ports words ps 0 x)

  pub written_count : (words : List (List ℕ)) (j : ℕ) (ps : List (Option Port)) → length (written_from u words j ps) ≡ length words
  written_count words j [] = refl
  written_count words j (p ∷ ps) = written_count (written_by u words j p) (j + 1) ps ∙ count_port words j p

-- the port of a target, and none past the last
port_there : (ds : List Decl) (targets pipes : List Slot) (n t i : ℕ) → i < n → get_or (ports_from ds targets pipes t n) i None ≡ port_of pipes (result_to targets ds (t + i))
port_there ds targets pipes zero t i l = absurd (omega arith)
port_there ds targets pipes (suc n) t zero l = let z : t ≡ t + 0 = sym (none_after t) in ap (λ x. port_of pipes (result_to targets ds x)) z
port_there ds targets pipes (suc n) t (suc i) l =
    let z : suc t + i ≡ t + suc i = sym (next_first t i) in
    port_there ds targets pipes n (suc t) i (omega arith) ∙ ap (λ x. port_of pipes (result_to targets ds x)) z

port_past : (ds : List Decl) (targets pipes : List Slot) (n t i : ℕ) → n ≤ i → get_or (ports_from ds targets pipes t n) i None ≡ None
port_past ds targets pipes zero t i l = refl
port_past ds targets pipes (suc n) t zero l = absurd (omega arith)
port_past ds targets pipes (suc n) t (suc i) l = port_past ds targets pipes n (suc t) i (omega arith)

-- the words of a target fit it if those of all targets do, and conversely
slot_fits : (ss : List Slot) (words : List (List ℕ)) (x : ℕ) (s : Slot) → FitSlots ss words → slice_get ss x ≡ Some s → FitsSlot s (get_or words x [])
slot_fits [] words x s h e = cc
slot_fits (y ∷ ss) [] x s h e = absurd h
slot_fits (y ∷ ss) (w ∷ words) zero s h e = let is : y ≡ s = cc in subst (λ z. FitsSlot z w) is h.0
slot_fits (y ∷ ss) (w ∷ words) (suc x) s h e = slot_fits ss words x s h.1 e

slots_fit : (ss : List Slot) (words : List (List ℕ)) → length words ≡ length ss → ((x : ℕ) (s : Slot) → slice_get ss x ≡ Some s → FitsSlot s (get_or words x [])) → FitSlots ss words
slots_fit [] [] e h = refl
slots_fit (s ∷ ss) (w ∷ words) e h = (h 0 s refl, slots_fit ss words (omega arith) (λ x y is. h (suc x) y is))
slots_fit _ _ e h = absurd (omega arith)

slots_count : (ss : List Slot) (words : List (List ℕ)) → FitSlots ss words → length words ≡ length ss
slots_count [] words h = ap length h
slots_count (s ∷ ss) [] h = absurd h
slots_count (s ∷ ss) (w ∷ words) h = ap (λ n. suc n) (slots_count ss words h.1)

eqb_turned : (a b : ℕ) → eqb a b ≡ eqb b a
eqb_turned zero zero = refl
eqb_turned zero (suc b) = eqb-zero-suc b ∙ sym (eqb-suc-zero b)
eqb_turned (suc a) zero = eqb-suc-zero a ∙ sym (eqb-zero-suc a)
eqb_turned (suc a) (suc b) = eqb-suc-suc a b ∙ eqb_turned a b ∙ sym (eqb-suc-suc b a)

one_value : (b : Bool) (row : List ℕ) (p v a : ℕ) → p < length row → slice_index (cond b (set row p v) row) a ≡ cond (b && eqb p a) v (slice_index row a)
one_value true row p v a h = set_seen row p v 0 a h ∙ ap (λ b. cond b v (slice_index row a)) (eqb_turned a p)
one_value false row p v a h = refl

pub or_zero_fits : (o : Option ℕ) (w : ℕ) → ((v : ℕ) → o ≡ Some v → v < 2 ^ w) → unwrap_or o 0 < 2 ^ w
or_zero_fits None w h = pow_pos w
or_zero_fits (Some v) w h = h v refl

-- An instruction that is done: the lists of its pipes and results have the values of the abstract instruction, and these fit.
pub record Ended (ds : List Decl) (c : Instruction) (u : Under) : Type 0 where
  pub pipes : (p : ℕ) → slice_index u.pipes p ≡ c.pipes p
  pub results : (r : ℕ) → get_or u.results r None ≡ c.results r
  pub pipe_fits : (p : ℕ) (x : Slot) → slice_get (pipes_of ds) p ≡ Some x → slice_index u.pipes p < 2 ^ x.width
  pub result_fits : (r : ℕ) (x : Slot) (v : ℕ) → slice_get (targets_of ds) r ≡ Some x → get_or u.results r None ≡ Some v → v < 2 ^ x.width

-- what holds after the statements of a stage is that
pub stage_ended : (ds : List Decl) (c : Instruction) (done : Progress) (r : StageOutcome) (u : Under) → r.puts ≡ done.puts → r.sets ≡ done.sets
    → Lists ds c done u → Ended ds (after_stage c r) u
stage_ended ds c done r u puts sets h = record {
  pipes = λ p. h.pipes p ∙ ap (λ f. unwrap_or (f p) (c.pipes p)) (sym puts);
  results = λ x. h.results x ∙ ap (λ f. first_value (c.results x) (f x)) (sym sets);
  pipe_fits = h.pipe_fits;
  result_fits = h.result_fits;
}

pub all_default : {X : Type 0} (n i : ℕ) (d : X) → get_or (replicate n d) i d ≡ d
all_default zero i d = refl
all_default (suc n) zero d = refl
all_default (suc n) (suc i) d = all_default n i d

-- and an instruction at its start has done nothing
pub begun_ended : (ds : List Decl) (u : Under) → Ended ds fresh_instruction (begun u)
begun_ended ds u = record {
  pipes = λ p. all_default (length u.pipes) p 0;
  results = λ x. all_default (length u.results) x None;
  pipe_fits = λ p x e. subst (λ v. v < 2 ^ x.width) (sym (all_default (length u.pipes) p 0)) (pow_pos x.width);
  result_fits = λ r x v e is. let none : None ≡ Some v = sym (all_default (length u.results) r None) ∙ is in cc;
}

module _ (job : Job) (unbroken : Unbroken (widths_of job)) (t : Laid) (tables : AreTables job t) where
  -- a target past the last has no result
  no_result : (x : ℕ) → length (targets_of job.decls) ≤ x → result_to (targets_of job.decls) job.decls x ≡ None
  no_result x l = by_option (result_to (targets_of job.decls) job.decls x) (λ e. e)
      (λ r e.
      let f = fits_text job unbroken x r e in
      let i : number_of (targets_of job.decls) r.target.name < length (targets_of job.decls) = (target_slot job unbroken r f.0).inside in
      let n = f.1 in
      absurd (omega (arith, i, n, l)))

  port_is : (x : ℕ) → get_or t.ports x None ≡ port_of (pipes_of job.decls) (result_to (targets_of job.decls) job.decls x)
  port_is x =
      ap (λ (ps : List (Option Port)). get_or ps x None) tables.ports
      ∙ ⊎_elim
      (λ (l : x < length (targets_of job.decls)).
      let z : 0 + x ≡ x = none_before x in
      port_there job.decls (targets_of job.decls) (pipes_of job.decls) (length (targets_of job.decls)) 0 x l
      ∙ ap (λ y. port_of (pipes_of job.decls) (result_to (targets_of job.decls) job.decls y)) z)
      (λ (l : length (targets_of job.decls) ≤ x).
      port_past job.decls (targets_of job.decls) (pipes_of job.decls) (length (targets_of job.decls)) 0 x l
      ∙ sym (ap (port_of (pipes_of job.decls)) (no_result x l)))
      (cases_lt x (length (targets_of job.decls)))

  module _ (c : Instruction) (u : Under) (done : Ended job.decls c u) where
    pub enabled_same : (o : Option Named) → is_enabled u (pipe_number (pipes_of job.decls) o) ≡ is_enabled_by (pipes_of job.decls) c.pipes o
    enabled_same None = refl
    enabled_same (Some n) = ap (λ v. v == 1) (done.pipes (number_of (pipes_of job.decls) n.name))

    pub address_same : (o : Option Named) → address_by u (pipe_number (pipes_of job.decls) o) ≡ machines.address_by (pipes_of job.decls) c.pipes o
    address_same None = refl
    address_same (Some n) = done.pipes (number_of (pipes_of job.decls) n.name)

    -- a value of an address pipe is an address
    pub address_fits : (w : ℕ) (o : Option Named) → PipeFits (text job unbroken) w o → address_by u (pipe_number (pipes_of job.decls) o) < 2 ^ w
    address_fits w None h = pow_pos w
    address_fits w (Some n) h =
        let at = (placed job unbroken n.name h.0 h.1).pipe h.2 in
        let s = slot_of (pipes_of job.decls) n.name at.inside in
        let e : s.0.width ≡ w = s.2 ∙ at.width ∙ h.3 in
        subst (λ y. slice_index u.pipes (number_of (pipes_of job.decls) n.name) < 2 ^ y) e (done.pipe_fits (number_of (pipes_of job.decls) n.name) s.0 s.1)

    -- what a target's result writes
    row_value : (row : List ℕ) (x a : ℕ) (o : Option ResultDecl) → ((r : ResultDecl) → o ≡ Some r → address_by u (pipe_number (pipes_of job.decls) r.address) < length row)
        → slice_index (row_by u row x (port_of (pipes_of job.decls) o)) a
        ≡ cond (is_some o && (enabled_of (pipes_of job.decls) c.pipes o && eqb (address_in (pipes_of job.decls) c.pipes o) a)) (unwrap_or (c.results x) 0) (slice_index row a)
    row_value row x a None h = refl
    row_value row x a (Some r) h =
        let p = address_by u (pipe_number (pipes_of job.decls) r.address) in
        let v = unwrap_or (get_or u.results x None) 0 in
        one_value (is_enabled u (pipe_number (pipes_of job.decls) r.enable)) row p v a (h r refl)
        ∙ ap (λ b. cond (b && eqb p a) v (slice_index row a)) (enabled_same r.enable)
        ∙ ap (λ y. cond (is_enabled_by (pipes_of job.decls) c.pipes r.enable && eqb y a) v (slice_index row a)) (address_same r.address)
        ∙ ap (λ y. cond (is_enabled_by (pipes_of job.decls) c.pipes r.enable && eqb (machines.address_by (pipes_of job.decls) c.pipes r.address) a) (unwrap_or y 0) (slice_index row a)) (done.results x)

    module _ (words : List (List ℕ)) (fits : FitSlots (targets_of job.decls) words) where
      inside : (x : ℕ) (r : ResultDecl) → result_to (targets_of job.decls) job.decls x ≡ Some r
          → address_by u (pipe_number (pipes_of job.decls) r.address) < length (get_or words x [])
      inside x r e =
          let f = fits_text job unbroken x r e in
          let at = target_slot job unbroken r f.0 in
          let s = slot_of (targets_of job.decls) r.target.name at.inside in
          let there : slice_get (targets_of job.decls) x ≡ Some s.0 = ap (slice_get (targets_of job.decls)) (sym f.1) ∙ s.1 in
          let n : length (get_or words x []) ≡ 2 ^ address_width f.0.sense.kind =
          (slot_fits (targets_of job.decls) words x s.0 fits there).count ∙ ap (λ y. 2 ^ y) (s.3 ∙ at.address) in
          subst (λ y. address_by u (pipe_number (pipes_of job.decls) r.address) < y) (sym n) (address_fits (address_width f.0.sense.kind) r.address f.0.address)

      -- each word is the one that the abstract instruction writes, or it stays
      pub written_at : (x a : ℕ) → state_in (written_from u words 0 t.ports) x a
          ≡ cond (is_written (machine_of job) c x a) (unwrap_or (c.results x) 0) (state_in words x a)
      unfolding machine_of result_for
      written_at x a =
          ap (λ row. slice_index row a) (written_row u words t.ports x)
          ∙ ap (λ o. slice_index (row_by u (get_or words x []) x o) a) (port_is x)
          ∙ row_value (get_or words x []) x a (result_to (targets_of job.decls) job.decls x) (inside x)

      -- so the words are the state after the instruction
      pub written_state : state_in (written_from u words 0 t.ports)
          ≡ (λ x a. cond (is_written (machine_of job) c x a) (unwrap_or (c.results x) 0) (state_in words x a))
      written_state = λ i x a. written_at x a i

      -- and they fit their targets
      pub written_fits : FitSlots (targets_of job.decls) (written_from u words 0 t.ports)
      written_fits =
          slots_fit (targets_of job.decls) (written_from u words 0 t.ports)
          (written_count u words 0 t.ports ∙ slots_count (targets_of job.decls) words fits)
          (λ x s e.
          let old = slot_fits (targets_of job.decls) words x s fits e in
          record {
            count = ap length (written_row u words t.ports x) ∙ count_row u (get_or words x []) x (get_or t.ports x None) ∙ old.count;
            fits = λ a. subst (λ y. y < 2 ^ s.width) (sym (written_at x a))
                (cond_both (is_written (machine_of job) c x a) (unwrap_or (c.results x) 0) (state_in words x a) (λ y. y < 2 ^ s.width)
                (λ _. or_zero_fits (c.results x) s.width (λ v is. done.result_fits x s v e (done.results x ∙ is)))
                (λ _. old.fits a));
          })

  -- After the last stage the words that are written are the state after one instruction.
  pub written_after : (words : List (List ℕ)) (row : List Word) (u : Under) → FitSlots (targets_of job.decls) words
      → Ended job.decls (before_stage (machine_of job) (state_in words) (values_in row) (machine_of job).stages) u
      → state_in (written_from u words 0 t.ports) ≡ after_one job (state_in words) row
  written_after words row u fits done = written_state (before_stage (machine_of job) (state_in words) (values_in row) (machine_of job).stages) u done words fits

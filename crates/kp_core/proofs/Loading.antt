-- A cycle that raises the reset and puts words into files leaves what a reset leaves of a state with these words.
use Rattle.std.proofs.Common.{◌≡◌, ◌∙◌, ℕ, suc, ◌<◌, ◌≤◌, ⊎_elim, Bool, true, false, cond, ◌==◌, ◌&&◌, List, [], ◌∷◌, length, get_or, drop, ◌^◌, refl, sym, ap, subst, arith}
use Rattle.std.proofs.lemmas.{Bool.cases_lt, Bool.cond-true, Bool.cond-false, Bool.eqb-true, Bool.eqb-false, Bool.false≢true, Grind.get_or-set_at}
use Rattle.std.proofs.lemmas.List.{length-map, length-set, get_or-set_other, Elements.All-head, Elements.All-tail}
use Rattle.std.specs.{Prelude.All, Prelude.set, Prelude.fold, Prelude.if◌then◌else◌, Cmp.Lexicographic.bytes_decides}
use Rattle.kp_ast.specs.declared.tree.Job.{Job}
use Rattle.kp_width.{specs.Widths.widths_of, proofs.Unbroken.Unbroken}
use Rattle.kp_machine.specs.{Slots.targets_of, Slots.is_register, Words.target}
use Rattle.kp_net.specs.Names.{same}
use Rattle.kp_net.specs.Netlist.{Net, Input, State, start_regs, cells_of, regs_after, files_after, state_after}
use Rattle.kp_net.specs.Parts.{NetOk, no_file}
use Rattle.kp_design.proofs.Apart.{targets_apart}
use Rattle.kp_implements.specs.{Naming.file_name, Naming.file_names, Naming.file_of, Naming.place_among, Naming.value_shown, Shows.Shows}
use Rattle.kp_implements.specs.Anew.{HasMemory, left_by_reset}
use Rattle.kp_implements.proofs.Anew.{left_alike}
use Rattle.kp_core.specs.Loading.{Load, IsLoad, Cycle, LoadsIn, put_in, after_cycle, after_cycles, with_load, with_loads, all_loaded}
use Rattle.kp_core.proofs.Memory.{at_set, same_memory, memory_after}

-- the entry at the index that a name has is this name
placed_at : (ns : List (List ℕ)) (n : List ℕ) → place_among ns n < length ns → get_or ns (place_among ns n) [] ≡ n
placed_at [] n l = absurd (omega (arith, l))
placed_at (m ∷ ns) n l = by (same m n) refl (placed_at ns n) l
  where
    by : (b : Bool) → same m n ≡ b → (place_among ns n < length ns → get_or ns (place_among ns n) [] ≡ n) → cond b 0 (suc (place_among ns n)) < suc (length ns) → get_or (m ∷ ns) (cond b 0 (suc (place_among ns n))) [] ≡ n
    by true e rest k = (bytes_decides m n).0 e
    by false e rest k = rest (omega (arith, k))

-- the number of a target's file in the netlist, and whether the target is a file of the job
abbrev number : Net → Job → ℕ → ℕ
number net job t = file_of net (target job t)

abbrev IsFile : Job → ℕ → Type 0
IsFile job t = (t < length (targets_of job.decls)) × (is_register (target job t) ≡ false)

module _ (net : Net) (job : Job) (shows : Shows net job) where
  there : (t : ℕ) → IsFile job t → number net job t < length net.parts.files
  there t (l, e) = (shows.of_job.files t l e).there

  -- ---- a word that is put in

  loaded_file : (l : Load) → IsLoad job l → IsFile job l.target
  loaded_file l h = (h.there, h.file)

  put_memory : (st : State) (l : Load) → IsLoad job l → HasMemory net st → HasMemory net (put_in net job st l)
  put_memory st l h m =
      let n : ℕ = number net job l.target in
      let old : List ℕ = get_or st.files n [] in
      let new : List ℕ = set old l.address l.value in
      let within : n < length net.parts.files = there l.target (loaded_file l h) in
      let inside : n < length st.files = let c = m.count in omega (arith, within, c) in
      let file = shows.of_job.files l.target h.there h.file in
      let long : length old ≡ 2 ^ (get_or net.parts.files n no_file).address_width = m.sizes n within in
      let small : l.address < length old = subst (λ (k : ℕ). l.address < k) (sym (long ∙ ap (λ (k : ℕ). 2 ^ k) file.address)) h.address in
      record {
        count = length-set st.files n new ∙ m.count;
        sizes = λ f lf. at_set st.files n f new [] (λ ws. length ws ≡ 2 ^ (get_or net.parts.files f no_file).address_width) inside
            (λ e. length-set old l.address l.value ∙ long ∙ ap (λ (k : ℕ). 2 ^ (get_or net.parts.files k no_file).address_width) (sym e))
            (m.sizes f lf);
        words = λ f a lf la. at_set st.files n f new [] (λ ws. get_or ws a 0 < 2 ^ (get_or net.parts.files f no_file).width) inside
            (λ e. at_set old l.address a l.value 0 (λ w. w < 2 ^ (get_or net.parts.files f no_file).width) small
            (λ _. subst (λ (k : ℕ). l.value < 2 ^ k) (sym (ap (λ (k : ℕ). (get_or net.parts.files k no_file).width) e ∙ file.width)) h.value)
            (subst (λ (k : ℕ). get_or (get_or st.files k []) a 0 < 2 ^ (get_or net.parts.files f no_file).width) e (m.words f a lf la)))
            (m.words f a lf la);
      }

  pub puts_memory : (st : State) (ls : List Load) → All (IsLoad job) ls → HasMemory net st → HasMemory net (fold (put_in net job) st ls)
  puts_memory st [] h m = m
  puts_memory st (l ∷ ls) h m =
      puts_memory (put_in net job st l) ls (All-tail (IsLoad job) l ls h) (put_memory st l (All-head (IsLoad job) l ls h) m)

  -- a cycle keeps files complete, whether it raises the reset or not
  pub cycle_memory : NetOk net → (st : State) (c : Cycle) → All (IsLoad job) c.loads → HasMemory net st → HasMemory net (after_cycle net job st c)
  cycle_memory ok st c fit m = by c.input.reset
    where
      by : (b : Bool) → HasMemory net (fold (put_in net job) (state_after net c.input st) (if b then c.loads else []))
      by true = puts_memory (state_after net c.input st) c.loads fit (memory_after net ok c.input st m)
      by false = memory_after net ok c.input st m

module _ (net : Net) (job : Job) (shows : Shows net job) (names : Unbroken (widths_of job)) where
  named : (t : ℕ) → IsFile job t → get_or (file_names net) (number net job t) [] ≡ file_name (target job t)
  named t h = placed_at (file_names net) (file_name (target job t)) (let l = there net job shows t h in let n = length-map net.parts.files (λ f. f.name) in omega (arith, l, n))

  same_names : (t v : ℕ) → IsFile job t → IsFile job v → number net job t ≡ number net job v → (target job t).name ≡ (target job v).name
  same_names t v h k e = ap (drop 2) (sym (named t h) ∙ ap (λ (n : ℕ). get_or (file_names net) n []) e ∙ named v k)

  apart : (t v : ℕ) → t < v → v < length (targets_of job.decls) → (target job t).name ≡ (target job v).name → ⊥
  apart t v m l e = false≢true (sym (targets_apart job names t v m l) ∙ (bytes_decides (target job t).name (target job v).name).1 e)

  own : (t v : ℕ) → IsFile job t → IsFile job v → number net job t ≡ number net job v → t ≡ v
  own t v h k e = ⊎_elim
      (λ (m : t < v). absurd (apart t v m k.0 (same_names t v h k e)))
      (λ (m : v ≤ t). ⊎_elim
      (λ (n : v < t). absurd (apart v t n h.0 (sym (same_names t v h k e))))
      (λ (n : t ≤ v). omega (arith, m, n))
      (cases_lt v t))
      (cases_lt t v)

  -- the values of files in a state are these
  abbrev pub Agrees : State → (ℕ → ℕ → ℕ) → Type 0
  Agrees st v = (t a : ℕ) → t < length (targets_of job.decls) → is_register (target job t) ≡ false → value_shown job net st t a ≡ v t a

  word_there : (st : State) (t a : ℕ) → is_register (target job t) ≡ false → value_shown job net st t a ≡ get_or (get_or st.files (number net job t) []) a 0
  unfolding value_shown
  word_there st t a e = cond-false (is_register (target job t)) (get_or st.regs _ 0) (get_or (get_or st.files (number net job t) []) a 0) e

  chosen : (b c : Bool) (x y w : ℕ) → (b ≡ true → c ≡ true → w ≡ x) → (b ≡ false → w ≡ y) → (c ≡ false → w ≡ y) → w ≡ (if b && c then x else y)
  chosen true true x y w h k n = h refl refl
  chosen true false x y w h k n = n refl
  chosen false c x y w h k n = k refl

  put_agrees : (st : State) (l : Load) (v : ℕ → ℕ → ℕ) → IsLoad job l → HasMemory net st → Agrees st v → Agrees (put_in net job st l) (with_load v l)
  put_agrees st l v h m g t a lt e =
      let n : ℕ = number net job l.target in
      let old : List ℕ = get_or st.files n [] in
      let within : n < length net.parts.files = there net job shows l.target (loaded_file net job shows l h) in
      let inside : n < length st.files = let c = m.count in omega (arith, within, c) in
      let file = shows.of_job.files l.target h.there h.file in
      let small : l.address < length old = subst (λ (k : ℕ). l.address < k) (sym (m.sizes n within ∙ ap (λ (k : ℕ). 2 ^ k) file.address)) h.address in
      let before : get_or (get_or st.files (number net job t) []) a 0 ≡ v t a = sym (word_there st t a e) ∙ g t a lt e in
      word_there (put_in net job st l) t a e
      ∙ chosen (l.target == t) (l.address == a) l.value (v t a) (get_or (get_or (set st.files n (set old l.address l.value)) (number net job t) []) a 0)
      (λ x y.
      let is : number net job t ≡ n = ap (number net job) (sym (eqb-true l.target t x)) in
      ap (λ (ws : List ℕ). get_or ws a 0) (get_or-set_at st.files n (number net job t) (set old l.address l.value) [] is inside)
      ∙ get_or-set_at old l.address a l.value 0 (sym (eqb-true l.address a y)) small)
      (λ x.
      ap (λ (ws : List ℕ). get_or ws a 0)
      (get_or-set_other st.files n (number net job t) (set old l.address l.value) [] (λ is. eqb-false l.target t x (sym (own t l.target (lt, e) (loaded_file net job shows l h) is)))) ∙ before)
      (λ y. at_set st.files n (number net job t) (set old l.address l.value) [] (λ ws. get_or ws a 0 ≡ v t a) inside
      (λ is. get_or-set_other old l.address a l.value 0 (λ k. eqb-false l.address a y (sym k)) ∙ ap (λ (k : ℕ). get_or (get_or st.files k []) a 0) (sym is) ∙ before) before)

  -- some words
  puts_agree : (st : State) (ls : List Load) (v : ℕ → ℕ → ℕ) → All (IsLoad job) ls → HasMemory net st → Agrees st v → Agrees (fold (put_in net job) st ls) (with_loads v ls)
  puts_agree st [] v h m g = g
  puts_agree st (l ∷ ls) v h m g =
      let first : IsLoad job l = All-head (IsLoad job) l ls h in
      puts_agree (put_in net job st l) ls (with_load v l) (All-tail (IsLoad job) l ls h) (put_memory net job shows st l first m) (put_agrees st l v first m g)

  -- ---- a cycle that raises the reset

  abbrev over : State → State
  over st = record { regs = start_regs net; files = st.files }

  reset_is : (i : Input) (st : State) → i.reset ≡ true → state_after net i st ≡ over st
  reset_is i st e = cond-true (net.parts.reset && i.reset) (over st) (record { regs = regs_after net (cells_of i st); files = files_after net (cells_of i st) st.files })
      (ap (λ (b : Bool). b && i.reset) shows.reset ∙ e)

  puts_over : (st : State) (ls : List Load) → fold (put_in net job) (over st) ls ≡ over (fold (put_in net job) st ls)
  puts_over st [] = refl
  puts_over st (l ∷ ls) = puts_over (put_in net job st l) ls

  -- a state that a reset leaves of one with these values
  pub record Left (st : State) (v : ℕ → ℕ → ℕ) : Type 0 where
    pub from : State
    pub input : Input
    pub is : st ≡ state_after net input from
    pub raised : input.reset ≡ true
    pub memory : HasMemory net from
    pub values : Agrees from v

  one : (st : State) (c : Cycle) (v : ℕ → ℕ → ℕ) → LoadsIn job c → HasMemory net st → Agrees st v → Left (after_cycle net job st c) (with_loads v c.loads)
  one st c v h m g = record {
    from = fold (put_in net job) st c.loads;
    input = c.input;
    is = ap (λ (ls : List Load). fold (put_in net job) (state_after net c.input st) ls) (cond-true c.input.reset c.loads [] h.raised)
        ∙ ap (λ (s : State). fold (put_in net job) s c.loads) (reset_is c.input st h.raised)
        ∙ puts_over st c.loads
        ∙ sym (reset_is c.input (fold (put_in net job) st c.loads) h.raised);
    raised = h.raised;
    memory = puts_memory net job shows st c.loads h.loads m;
    values = puts_agree st c.loads v h.loads m g;
  }

  -- it has the same files
  files_kept : (st : State) (v : ℕ → ℕ → ℕ) (p : Left st v) → st.files ≡ p.from.files
  files_kept st v p = ap (λ (s : State). s.files) (p.is ∙ reset_is p.input p.from p.raised)

  agrees_too : (a b : State) (v : ℕ → ℕ → ℕ) → a.files ≡ b.files → Agrees b v → Agrees a v
  agrees_too a b v e g t x l f =
      word_there a t x f ∙ ap (λ (fs : List (List ℕ)). get_or (get_or fs (number net job t) []) x 0) e ∙ sym (word_there b t x f) ∙ g t x l f

  many : (st : State) (c : Cycle) (cs : List Cycle) (v : ℕ → ℕ → ℕ) → All (LoadsIn job) (c ∷ cs) → HasMemory net st → Agrees st v
      → Left (after_cycles net job st (c ∷ cs)) (all_loaded v (c ∷ cs))
  many st c [] v h m g = one st c v (All-head (LoadsIn job) c [] h) m g
  many st c (d ∷ cs) v h m g =
      let p = one st c v (All-head (LoadsIn job) c (d ∷ cs) h) m g in
      let e = files_kept (after_cycle net job st c) (with_loads v c.loads) p in
      many (after_cycle net job st c) d cs (with_loads v c.loads) (All-tail (LoadsIn job) c (d ∷ cs) h)
      (same_memory net (after_cycle net job st c) p.from e p.memory) (agrees_too (after_cycle net job st c) p.from (with_loads v c.loads) e p.values)

  -- WHAT HOLDS AFTER EACH RESET holds after cycles that raise it and load files
  pub after_loading : (P : (ℕ → ℕ → ℕ) → State → Type 0)
      → ((s : State) (i : Input) → HasMemory net s → i.reset ≡ true → P (left_by_reset job (value_shown job net s)) (state_after net i s))
      → (st : State) (c : Cycle) (cs : List Cycle) → All (LoadsIn job) (c ∷ cs) → HasMemory net st
      → P (left_by_reset job (all_loaded (value_shown job net st) (c ∷ cs))) (after_cycles net job st (c ∷ cs))
  after_loading P anew st c cs h m =
      let p = many st c cs (value_shown job net st) h m (λ t a l e. refl) in
      subst (λ (v : ℕ → ℕ → ℕ). P v (after_cycles net job st (c ∷ cs))) (left_alike job (value_shown job net p.from) (all_loaded (value_shown job net st) (c ∷ cs)) p.values)
      (subst (P (left_by_reset job (value_shown job net p.from))) (sym p.is) (anew p.from p.input p.memory p.raised))

-- The first root that does not agree, section by section.
use Rattle.std.proofs.Common.{◌≡◌, ◌∙◌, ℕ, zero, suc, ◌+◌, ◌-◌, ◌<◌, ◌≤◌, ◌++◌, ◌||◌, Bool, true, false, cond, not, List, [], ◌∷◌, length, map, get_or, refl, sym, ap, subst, arith, ⊎_elim, Option, None, Some, length-append}
use Rattle.std.proofs.{Math.ListN.get_or-append, Math.Seq.get_or-append_right, lemmas.Bool.cases_lt, lemmas.Bool.false≢true}
use Rattle.std.{proofs.lemmas.List.length-map, proofs.lemmas.List.get_or-map, specs.Bool.Decides, specs.List.filter}
use Rattle.kp_net.specs.{declared.netlist.Parts.Parts, Names.same, Names.among, Names.Differ, Netlist.Net, Parts.no_reg, Parts.no_file}
use Rattle.kp_equiv.specs.Agreement.{Root, Ports, Register, File, Full, Ue, Back, names_of_second, roots, RegsAlike, FilesAlike, PortsAgree, RegisterAgrees, FileAgrees, Agrees, AllAgree, IsFirstDifference}
use Rattle.kp_equiv.specs.{Alike.reg_name, Alike.file_name, Named.reg_names, Named.file_names, Classes.place}
use Rattle.kp_equiv.specs.Sections.{AgreeUpTo, Differing, FirstOf, behind_ports, joined}
use Rattle.kp_equiv.proofs.NamedAlike.{among_at}
use Rattle.kp_equiv.proofs.Places.{Things, registers, memories, name_is, namesake, missing, related, at_place, reg_names_are, reg_count, file_count}

-- one list of roots after another
before_joins : (a b : Net) (xs ys : List Root) (m : ℕ) → AgreeUpTo a b xs (length xs) → AgreeUpTo a b ys m → AgreeUpTo a b (xs ++ ys) (length xs + m)
before_joins a b xs ys m p q k l = ⊎_elim
    (λ (h : k < length xs). subst (Agrees a b) (sym (get_or-append xs ys Ports k h)) (p k h))
    (λ (h : length xs ≤ k). subst (Agrees a b) (sym (get_or-append_right xs ys k Ports h)) (q (k - length xs) (omega arith)))
    (cases_lt k (length xs))

here : (a b : Net) (xs ys : List Root) (n : ℕ) → Differing a b xs n → Differing a b (xs ++ ys) n
here a b xs ys n d = record {
  there = (let t = d.there in omega (arith, length-append xs ys));
  before = λ k l. subst (Agrees a b) (sym (get_or-append xs ys Ports k (let t = d.there in omega arith))) (d.before k l);
  differs = λ h. d.differs (subst (Agrees a b) (get_or-append xs ys Ports n d.there) h);
}

there : (a b : Net) (xs ys : List Root) (n : ℕ) → AgreeUpTo a b xs (length xs) → Differing a b ys n → Differing a b (xs ++ ys) (length xs + n)
there a b xs ys n p d = record {
  there = (let t = d.there in omega (arith, length-append xs ys));
  before = before_joins a b xs ys n p d.before;
  differs = λ h. d.differs (subst (Agrees a b) (get_or-append_right xs ys (length xs + n) Ports (omega arith) ∙ ap (λ (k : ℕ). get_or ys k Ports) (omega arith)) h);
}

pub joins : (a b : Net) (xs ys : List Root) (count : ℕ) (h r : Option ℕ) → (h ≡ None → length xs ≡ count) → FirstOf a b xs h → FirstOf a b ys r → FirstOf a b (xs ++ ys) (joined count h r)
joins a b xs ys count (Some n) r e p q = here a b xs ys n p
joins a b xs ys count None None e p q = subst (AgreeUpTo a b (xs ++ ys)) (sym (length-append xs ys)) (before_joins a b xs ys (length ys) p q)
joins a b xs ys count None (Some n) e p q = subst (λ (k : ℕ). Differing a b (xs ++ ys) (k + n)) (e refl) (there a b xs ys n p q)

pub all_behind : (a b : Net) (regs more files outputs whole : Option ℕ)
    → FirstOf a b (map Register (reg_names a)) regs → FirstOf a b (map Register (names_of_second a b)) more → (more ≡ None → length (names_of_second a b) ≡ 0)
    → FirstOf a b (map File (file_names a)) files → FirstOf a b (Full ∷ Ue ∷ Back ∷ []) outputs
    → whole ≡ joined (length a.parts.regs) regs (joined 0 more (joined (length a.parts.files) files outputs)) → FirstOf a b (behind_ports a b) whole
all_behind a b regs more files outputs whole hr hm none hf ho ew =
    let s3 : List Root = map File (file_names a) ++ (Full ∷ Ue ∷ Back ∷ []) in
    let s2 : List Root = map Register (names_of_second a b) ++ s3 in
    let rc : ℕ = length a.parts.regs in
    let fc : ℕ = length a.parts.files in
    let back : Option ℕ = joined fc files outputs in
    let front : Option ℕ = joined 0 more back in
    let h3 : FirstOf a b s3 back = joins a b (map File (file_names a)) (Full ∷ Ue ∷ Back ∷ []) fc files outputs (λ _. length-map (file_names a) File ∙ file_count a) hf ho in
    let h2 : FirstOf a b s2 front = joins a b (map Register (names_of_second a b)) s3 0 more back (λ e. length-map (names_of_second a b) Register ∙ none e) hm h3 in
    subst (FirstOf a b (behind_ports a b)) (sym ew) (joins a b (map Register (reg_names a)) s2 rc regs front (λ _. length-map (reg_names a) Register ∙ reg_count a) hr h2)

-- the roots of registers, and of files
module _ {X : Type 0} (T : Things X) (C : List ℕ → Root) (xs : List X) where
  pub root_is : (k : ℕ) → k < length xs → get_or (map C (map T.name xs)) k Ports ≡ C (T.name (get_or xs k T.none))
  root_is k l = get_or-map C (map T.name xs) k [] Ports (omega (arith, length-map xs T.name)) ∙ ap C (name_is T xs k)

  pub roots_count : length (map C (map T.name xs)) ≡ length xs
  roots_count = length-map (map T.name xs) C ∙ length-map xs T.name

  roots_upto : (a b : Net) (n : ℕ) → n ≤ length xs → ((k : ℕ) → k < n → Agrees a b (C (T.name (get_or xs k T.none)))) → AgreeUpTo a b (map C (map T.name xs)) n
  roots_upto a b n h agree k l = subst (Agrees a b) (sym (root_is k (omega arith))) (agree k l)

  pub roots_all : (a b : Net) (n : ℕ) → length xs ≡ n → ((k : ℕ) → k < n → Agrees a b (C (T.name (get_or xs k T.none)))) → AgreeUpTo a b (map C (map T.name xs)) (length (map C (map T.name xs)))
  roots_all a b n e agree = subst (AgreeUpTo a b (map C (map T.name xs))) (sym (roots_count ∙ e)) (roots_upto a b n (omega (arith, e)) agree)

  pub roots_differ : (a b : Net) (n : ℕ) → n < length xs → ((k : ℕ) → k < n → Agrees a b (C (T.name (get_or xs k T.none)))) → (Agrees a b (C (T.name (get_or xs n T.none))) → ⊥)
      → Differing a b (map C (map T.name xs)) n
  roots_differ a b n l agree never = record {
    there = omega (arith, roots_count);
    before = roots_upto a b n (omega arith) agree;
    differs = λ h. never (subst (Agrees a b) (root_is n l) h);
  }

-- a register, or a file, agrees if its namesake is equivalent
pub register_found : (a b : Net) (r q : ℕ) → Differ (reg_names a) → Differ (reg_names b) → r < length a.parts.regs → q < length b.parts.regs → reg_name b q ≡ reg_name a r → (t : Bool)
    → Decides t (RegsAlike a b (get_or a.parts.regs r no_reg) (get_or b.parts.regs q no_reg)) → Decides t (RegisterAgrees a b (reg_name a r))
register_found a b r q da db lr lq e t d = (
  λ x. record { first = r; second = q; in_first = lr; in_second = lq; named_first = refl; named_second = e; alike = d.0 x },
  λ h. d.1 (related registers (RegsAlike a b) a.parts.regs b.parts.regs da db h.first h.second r q h.in_first h.in_second lr lq h.named_first (h.named_second ∙ sym e) h.alike),
)

pub file_found : (a b : Net) (f g : ℕ) → Differ (file_names a) → Differ (file_names b) → f < length a.parts.files → g < length b.parts.files → file_name b g ≡ file_name a f → (t : Bool)
    → Decides t (FilesAlike a b (get_or a.parts.files f no_file) (get_or b.parts.files g no_file)) → Decides t (FileAgrees a b (file_name a f))
file_found a b f g da db lf lg e t d = (
  λ x. record { first = f; second = g; in_first = lf; in_second = lg; named_first = refl; named_second = e; alike = d.0 x },
  λ h. d.1 (related memories (FilesAlike a b) a.parts.files b.parts.files da db h.first h.second f g h.in_first h.in_second lf lg h.named_first (h.named_second ∙ sym e) h.alike),
)

-- what a look-up among the names of the second determines
pub looked_up : {X : Type 0} (T : Things X) (R : X → X → Type 0) (Q : List ℕ → Type 0) (xs ys : List X) (i q : ℕ) (r s : X) (ns : List (List ℕ))
    → ((j : ℕ) → j < length ys → T.name (get_or ys j T.none) ≡ T.name (get_or xs i T.none) → (t : Bool) → Decides t (R (get_or xs i T.none) (get_or ys j T.none)) → Decides t (Q (T.name (get_or xs i T.none))))
    → r ≡ get_or xs i T.none → s ≡ get_or ys q T.none → ns ≡ map T.name ys → (q < length ns) × (place ns (T.name r) ≡ q) → (t : Bool) → Decides t (R r s) → Decides t (Q (T.name (get_or xs i T.none)))
looked_up {X = X} T R Q xs ys i q r s ns to is at_q names found t d =
    let lq : q < length ys = let l = subst (λ (ks : List (List ℕ)). q < length ks) names found.0 in omega (arith, length-map ys T.name) in
    let e : place (map T.name ys) (T.name (get_or xs i T.none)) ≡ q = subst (λ (x : X). place (map T.name ys) (T.name x) ≡ q) is (subst (λ (ks : List (List ℕ)). place ks (T.name r) ≡ q) names found.1) in
    to q lq (ap (λ (k : ℕ). T.name (get_or ys k T.none)) (sym e) ∙ namesake T ys (T.name (get_or xs i T.none)) (omega (arith, e))) t
    (subst (λ (x : X). Decides t (R x (get_or ys q T.none))) is (subst (λ (x : X). Decides t (R r x)) at_q d))

pub not_found : {X : Type 0} (T : Things X) (ys : List X) (n : List ℕ) (r : X) (ns : List (List ℕ)) (Q : Type 0) → (Q → (j : ℕ) × (j < length ys) × (T.name (get_or ys j T.none) ≡ n))
    → T.name r ≡ n → ns ≡ map T.name ys → place ns (T.name r) ≡ length ns → Decides false Q
not_found T ys n r ns Q some is names e =
    let f : place (map T.name ys) n ≡ length (map T.name ys) = subst (λ (m : List ℕ). place (map T.name ys) m ≡ length (map T.name ys)) is (subst (λ (ks : List (List ℕ)). place ks (T.name r) ≡ length ks) names e) in
    (λ t. absurd (false≢true t), λ h. let g = some h in absurd (missing T ys n g.0 (omega arith) g.1 g.2))

-- what a filter retains
filter_none : (test : List ℕ → Bool) (xs : List (List ℕ)) → ((k : ℕ) → k < length xs → test (get_or xs k []) ≡ false) → length (filter test xs) ≡ 0
filter_none test [] h = refl
filter_none test (x ∷ xs) h =
    ap (λ (b : Bool). length (cond b (x ∷ filter test xs) (filter test xs))) (h 0 (omega arith)) ∙ filter_none test xs (λ k l. h (suc k) (omega arith))

pub filter_some : (test : List ℕ → Bool) (xs : List (List ℕ)) (k : ℕ) → k < length xs → test (get_or xs k []) ≡ true → 0 < length (filter test xs)
filter_some test [] k l e = absurd (omega (arith, l))
filter_some test (x ∷ xs) zero l e = subst (λ (b : Bool). 0 < length (cond b (x ∷ filter test xs) (filter test xs))) (sym e) (omega arith)
filter_some test (x ∷ xs) (suc k) l e = by (test x) (filter_some test xs k (omega (arith, l)) e)
  where
    by : (b : Bool) → 0 < length (filter test xs) → 0 < length (cond b (x ∷ filter test xs) (filter test xs))
    by true h = omega arith
    by false h = h

filter_passes : (test : List ℕ → Bool) (xs : List (List ℕ)) → 0 < length (filter test xs) → test (get_or (filter test xs) 0 []) ≡ true
filter_passes test [] l = absurd (omega (arith, l))
filter_passes test (x ∷ xs) l = by (test x) refl (filter_passes test xs) l
  where
    by : (b : Bool) → test x ≡ b → (0 < length (filter test xs) → test (get_or (filter test xs) 0 []) ≡ true) → 0 < length (cond b (x ∷ filter test xs) (filter test xs)) → test (get_or (cond b (x ∷ filter test xs) (filter test xs)) 0 []) ≡ true
    by true e rest l = e
    by false e rest l = rest l

-- a register of the second whose name the first has, and one that it doesn't have
among_has : (ns : List (List ℕ)) (n : List ℕ) → among ns n ≡ true → place ns n < length ns
among_has [] n e = absurd (false≢true e)
among_has (m ∷ ns) n e = by (same n m) refl (among_has ns n) e
  where
    by : (b : Bool) → same n m ≡ b → (among ns n ≡ true → place ns n < length ns) → (b || among ns n) ≡ true → place (m ∷ ns) n < suc (length ns)
    by true f rest g = subst (λ (c : Bool). cond (not c) (1 + place ns n) 0 < suc (length ns)) (sym f) (omega arith)
    by false f rest g = let l = rest g in subst (λ (c : Bool). cond (not c) (1 + place ns n) 0 < suc (length ns)) (sym f) (omega arith)

abbrev pub is_new : Net → List ℕ → Bool
is_new a n = not (among (reg_names a) n)

pub among_reg : (a : Net) (name : List ℕ) → among (reg_names a) name ≡ true → (r : ℕ) × (r < length a.parts.regs) × (reg_name a r ≡ name)
among_reg a name e =
    let l : place (reg_names a) name < length (reg_names a) = among_has (reg_names a) name e in
    (place (reg_names a) name, omega (arith, reg_count a), sym (reg_names_are a (place (reg_names a) name)) ∙ sym (at_place (reg_names a) name l))

-- a register that only the second has never agrees
pub second_never : (a b : Net) → RegisterAgrees a b (get_or (names_of_second a b) 0 []) → 0 < length (names_of_second a b) → ⊥
second_never a b r some =
    let head : List ℕ = get_or (names_of_second a b) 0 [] in
    let passes : is_new a head ≡ true = filter_passes (is_new a) (reg_names b) some in
    let there : among (reg_names a) head ≡ true = among_at (reg_names a) r.first head (let q = r.in_first in omega (arith, reg_count a)) (reg_names_are a r.first ∙ r.named_first) in
    false≢true (ap not (sym there) ∙ passes)

pub none_of_second : (a b : Net) (n : ℕ) → length b.parts.regs ≤ n → ((k : ℕ) → k < n → k < length b.parts.regs → among (reg_names a) (reg_name b k) ≡ true) → length (names_of_second a b) ≡ 0
none_of_second a b n h known = filter_none (is_new a) (reg_names b) (λ k l.
    let m : k < length b.parts.regs = omega (arith, reg_count b) in
    ap (is_new a) (reg_names_are b k) ∙ ap not (known k (omega arith) m))

pub second_agrees : (a b : Net) → length (names_of_second a b) ≡ 0 → AgreeUpTo a b (map Register (names_of_second a b)) (length (map Register (names_of_second a b)))
second_agrees a b e = λ k l. absurd (omega (arith, e, length-map (names_of_second a b) Register))

pub second_differs : (a b : Net) (k : ℕ) → k < length b.parts.regs → among (reg_names a) (reg_name b k) ≡ false → Differing a b (map Register (names_of_second a b)) 0
second_differs a b k l e =
    let new : is_new a (get_or (reg_names b) k []) ≡ true = ap (is_new a) (reg_names_are b k) ∙ ap not e in
    let some : 0 < length (names_of_second a b) = filter_some (is_new a) (reg_names b) k (omega (arith, reg_count b)) new in
    record {
      there = omega (arith, length-map (names_of_second a b) Register);
      before = λ j m. absurd (omega (arith, m));
      differs = λ h. second_never a b (subst (Agrees a b) (get_or-map Register (names_of_second a b) 0 [] Ports some) h) some;
    }

-- one root more
pub agree_more : (a b : Net) (r : Root) (rs : List Root) (n : ℕ) → Agrees a b r → AgreeUpTo a b rs n → AgreeUpTo a b (r ∷ rs) (suc n)
agree_more a b r rs n p q zero l = p
agree_more a b r rs n p q (suc k) l = q k (omega (arith, l))

pub differ_more : (a b : Net) (r : Root) (rs : List Root) (n : ℕ) → Agrees a b r → Differing a b rs n → Differing a b (r ∷ rs) (suc n)
differ_more a b r rs n p d = record { there = (let t = d.there in omega arith); before = agree_more a b r rs n p d.before; differs = d.differs }

-- all of them
pub all_agree : (a b : Net) → PortsAgree a b → AgreeUpTo a b (behind_ports a b) (length (behind_ports a b)) → AllAgree a b
unfolding roots
all_agree a b p h = record { agree = agree_more a b Ports (behind_ports a b) (length (behind_ports a b)) p h }

pub ports_differ : (a b : Net) → (PortsAgree a b → ⊥) → IsFirstDifference a b 0
unfolding roots
ports_differ a b never = record { there = omega arith; before = λ k l. absurd (omega (arith, l)); differs = never }

pub later_differs : (a b : Net) (n : ℕ) → PortsAgree a b → Differing a b (behind_ports a b) n → IsFirstDifference a b (n + 1)
unfolding roots
later_differs a b n p d =
    let m = differ_more a b Ports (behind_ports a b) n p d in
    subst (IsFirstDifference a b) (omega arith) (record { there = m.there; before = m.before; differs = m.differs })

-- what a test of the inputs determines
abbrev SameInputs : Parts → Parts → Type 0
SameInputs p q = (p.reset ≡ q.reset) × (p.ext ≡ q.ext) × (p.samples ≡ q.samples)

pub ports_of : (a b : Net) (p q : Parts) → p ≡ a.parts → q ≡ b.parts → SameInputs p q → PortsAgree a b
ports_of a b p q e f h =
    let g : SameInputs a.parts b.parts = subst (λ (x : Parts). SameInputs x b.parts) e (subst (λ (x : Parts). SameInputs p x) f h) in
    record { reset = g.0; ext = g.1; samples = g.2 }

pub of_ports : (a b : Net) (p q : Parts) → p ≡ a.parts → q ≡ b.parts → PortsAgree a b → SameInputs p q
of_ports a b p q e f h =
    subst (λ (x : Parts). SameInputs x q) (sym e) (subst (λ (x : Parts). SameInputs a.parts x) (sym f) (h.reset, h.ext, h.samples))

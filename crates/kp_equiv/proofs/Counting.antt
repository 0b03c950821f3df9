-- Roots by their numbers, and their number.
use Rattle.std.proofs.Common.{◌≡◌, ◌∙◌, ℕ, zero, suc, ◌+◌, ◌-◌, ◌<◌, ◌≤◌, ◌++◌, Bool, true, false, cond, not, List, [], ◌∷◌, length, map, get_or, refl, sym, ap, subst, arith, ⊎_elim, Option, None, Some, length-append}
use Rattle.std.proofs.{Math.ListN.get_or-append, Math.Seq.get_or-append-add, lemmas.Bool.cases_lt, lemmas.List.length-map, lemmas.List.get_or-map}
use Rattle.std.specs.List.{filter}
use Rattle.kp_net.specs.{Names.among, Netlist.Net}
use Rattle.kp_equiv.specs.Agreement.{Root, Ports, Register, File, Full, Ue, Back, names_of_second, roots, root, Agrees, AllAgree, IsFirstDifference}
use Rattle.kp_equiv.specs.{Alike.reg_name, Alike.file_name, Named.reg_names, Named.file_names}
use Rattle.kp_equiv.specs.Sections.{Differing, FirstNew, IsFirstNew, behind_regs}
use Rattle.kp_equiv.proofs.Places.{registers, memories, reg_names_are, reg_count, file_count}
use Rattle.kp_equiv.proofs.Ordered.{root_is, roots_count, is_new, filter_some, second_never, second_differs, none_of_second}

-- what was found among the names of the first
pub new_of : (a b : Net) (names : List (List ℕ)) (i : ℕ) → names ≡ reg_names a → IsFirstNew names b i → IsFirstNew (reg_names a) b i
new_of a b names i e h = subst (λ (ns : List (List ℕ)). IsFirstNew ns b i) e h

pub none_new_of : (a b : Net) (names : List (List ℕ)) → names ≡ reg_names a → ((k : ℕ) → k < length b.parts.regs → among names (reg_name b k) ≡ true) → length (names_of_second a b) ≡ 0
none_new_of a b names e h = none_of_second a b (length b.parts.regs) (omega arith) (λ k l m. sym (ap (λ (ns : List (List ℕ)). among ns (reg_name b k)) e) ∙ h k m)

-- the first entry that a filter retains
filter_first : (test : List ℕ → Bool) (xs : List (List ℕ)) (i : ℕ) → i < length xs → test (get_or xs i []) ≡ true → ((k : ℕ) → k < i → test (get_or xs k []) ≡ false)
    → get_or (filter test xs) 0 [] ≡ get_or xs i []
filter_first test [] i l e before = absurd (omega (arith, l))
filter_first test (x ∷ xs) zero l e before = ap (λ (b : Bool). get_or (cond b (x ∷ filter test xs) (filter test xs)) 0 []) e
filter_first test (x ∷ xs) (suc i) l e before =
    ap (λ (b : Bool). get_or (cond b (x ∷ filter test xs) (filter test xs)) 0 []) (before 0 (omega arith))
    ∙ filter_first test xs i (omega (arith, l)) e (λ k m. before (suc k) (omega (arith, m)))

-- the registers that only the second has come after those of the first
after_regs : (a b : Net) (k : ℕ) → root a b (suc (length a.parts.regs + k)) ≡ get_or (map Register (names_of_second a b) ++ behind_regs a) k Ports
unfolding roots
after_regs a b k =
    ap (λ (i : ℕ). get_or (map Register (reg_names a) ++ (map Register (names_of_second a b) ++ behind_regs a)) (i + k) Ports) (sym (roots_count registers Register a.parts.regs))
    ∙ get_or-append-add (map Register (reg_names a)) (map Register (names_of_second a b) ++ behind_regs a) k Ports

second_root : (a b : Net) (k : ℕ) → k < length (names_of_second a b) → root a b (suc (length a.parts.regs + k)) ≡ Register (get_or (names_of_second a b) k [])
second_root a b k l =
    after_regs a b k ∙ get_or-append (map Register (names_of_second a b)) (behind_regs a) Ports k (omega (arith, length-map (names_of_second a b) Register))
    ∙ get_or-map Register (names_of_second a b) k [] Ports l

-- if there are none, the files and the outputs do
pub later_root : (a b : Net) (k : ℕ) → length (names_of_second a b) ≡ 0 → root a b (suc (length a.parts.regs + k)) ≡ get_or (behind_regs a) k Ports
later_root a b k none =
    let y : length (map Register (names_of_second a b)) ≡ 0 = length-map (names_of_second a b) Register ∙ none in
    after_regs a b k ∙ ap (λ (i : ℕ). get_or (map Register (names_of_second a b) ++ behind_regs a) i Ports) (omega (arith, y))
    ∙ get_or-append-add (map Register (names_of_second a b)) (behind_regs a) k Ports

-- the number of roots
behind_count : (a : Net) → length (behind_regs a) ≡ length a.parts.files + 3
behind_count a =
    omega (arith, roots_count memories File a.parts.files, length-append (map File (file_names a)) (Full ∷ Ue ∷ Back ∷ []))

pub root_count : (a b : Net) → length (roots a b) ≡ length a.parts.regs + length (names_of_second a b) + length a.parts.files + 4
unfolding roots
root_count a b =
    let xs : List Root = map Register (reg_names a) in
    let ys : List Root = map Register (names_of_second a b) in
    omega (arith, roots_count registers Register a.parts.regs, length-map (names_of_second a b) Register, behind_count a, length-append xs (ys ++ behind_regs a), length-append ys (behind_regs a))

-- the first of them never agrees
never_agrees : (a b : Net) → 0 < length (names_of_second a b) → Agrees a b (root a b (suc (length a.parts.regs))) → ⊥
never_agrees a b some h =
    let e : root a b (suc (length a.parts.regs)) ≡ Register (get_or (names_of_second a b) 0 []) = ap (λ (k : ℕ). root a b k) (omega arith) ∙ second_root a b 0 some in
    second_never a b (subst (Agrees a b) e h) some

pub none_second : (a b : Net) → AllAgree a b → length (names_of_second a b) ≡ 0
none_second a b h = ⊎_elim
    (λ (l : 0 < length (names_of_second a b)). absurd (never_agrees a b l (h.agree (suc (length a.parts.regs)) (omega (arith, root_count a b)))))
    (λ (l : length (names_of_second a b) ≤ 0). omega arith)
    (cases_lt 0 (length (names_of_second a b)))

pub count_of_all : (a b : Net) → AllAgree a b → length (roots a b) ≡ length a.parts.regs + length a.parts.files + 4
count_of_all a b h = omega (arith, root_count a b, none_second a b h)

-- the name of the first root that doesn't agree
pub root_of_ports : (a b : Net) → root a b 0 ≡ Ports
unfolding roots
root_of_ports a b = refl

pub root_of_reg : (a b : Net) (k : ℕ) → k < length a.parts.regs → root a b (suc k) ≡ Register (reg_name a k)
unfolding roots
root_of_reg a b k l =
    get_or-append (map Register (reg_names a)) (map Register (names_of_second a b) ++ behind_regs a) Ports k (omega (arith, length-map (reg_names a) Register, reg_count a))
    ∙ root_is registers Register a.parts.regs k l

pub root_of_new : (a b : Net) (n i : ℕ) → IsFirstDifference a b n → length a.parts.regs < n → IsFirstNew (reg_names a) b i → root a b n ≡ Register (reg_name b i)
root_of_new a b n i d l h =
    let new : (k : ℕ) → is_new a (get_or (reg_names b) k []) ≡ not (among (reg_names a) (reg_name b k)) = λ k. ap (is_new a) (reg_names_are b k) in
    let li : i < length (reg_names b) = (let t = h.there in omega (arith, reg_count b)) in
    let ni : is_new a (get_or (reg_names b) i []) ≡ true = new i ∙ ap not h.new in
    let some : 0 < length (names_of_second a b) = filter_some (is_new a) (reg_names b) i li ni in
    let head : get_or (names_of_second a b) 0 [] ≡ reg_name b i = filter_first (is_new a) (reg_names b) i li ni (λ k m. new k ∙ ap not (h.before k m)) ∙ reg_names_are b i in
    let z : n ≡ suc (length a.parts.regs + 0) = ⊎_elim
    (λ (m : suc (length a.parts.regs) < n). absurd (never_agrees a b some (d.before (suc (length a.parts.regs)) m)))
    (λ (m : n ≤ suc (length a.parts.regs)). omega arith)
    (cases_lt (suc (length a.parts.regs)) n) in
    ap (λ (k : ℕ). root a b k) z ∙ second_root a b 0 some ∙ ap Register head

pub root_of_rest : (a b : Net) (n : ℕ) → length a.parts.regs < n → length (names_of_second a b) ≡ 0 → root a b n ≡ get_or (behind_regs a) (n - 1 - length a.parts.regs) Ports
root_of_rest a b n l none =
    let k : ℕ = n - 1 - length a.parts.regs in
    let z : n ≡ suc (length a.parts.regs + k) = omega arith in
    ap (λ (i : ℕ). root a b i) z ∙ later_root a b k none

pub rest_within : (a b : Net) (n : ℕ) → IsFirstDifference a b n → length a.parts.regs < n → length (names_of_second a b) ≡ 0 → n - 1 - length a.parts.regs < length a.parts.files + 3
rest_within a b n d l none = let t = d.there in omega (arith, root_count a b)

-- a file and an output
pub behind_file : (a : Net) (k : ℕ) → k < length a.parts.files → get_or (behind_regs a) k Ports ≡ File (file_name a k)
behind_file a k l = get_or-append (map File (file_names a)) (Full ∷ Ue ∷ Back ∷ []) Ports k (omega (arith, length-map (file_names a) File, file_count a)) ∙ root_is memories File a.parts.files k l

pub behind_output : (a : Net) (k : ℕ) → get_or (behind_regs a) (length a.parts.files + k) Ports ≡ get_or (Full ∷ Ue ∷ Back ∷ []) k Ports
behind_output a k =
    ap (λ (i : ℕ). get_or (behind_regs a) (i + k) Ports) (sym (roots_count memories File a.parts.files)) ∙ get_or-append-add (map File (file_names a)) (Full ∷ Ue ∷ Back ∷ []) k Ports

-- a register that only the second has, if one was found, and if none was
pub new_differs : (a b : Net) (found : Option ℕ) (i : ℕ) → found ≡ Some i → FirstNew (reg_names a) b found → Differing a b (map Register (names_of_second a b)) 0
new_differs a b found i e h = let n = subst (FirstNew (reg_names a) b) e h in second_differs a b i n.there n.new

pub none_new : (a b : Net) (found : Option ℕ) → found ≡ None → FirstNew (reg_names a) b found → length (names_of_second a b) ≡ 0
none_new a b found e h = none_new_of a b (reg_names a) refl (subst (FirstNew (reg_names a) b) e h)

-- Names by their indices.
use Rattle.std.proofs.Common.{◌≡◌, ◌∙◌, ℕ, ◌<◌, ◌≤◌, List, [], length, get_or, map, refl, sym, ap, subst, arith, ⊎_elim}
use Rattle.std.proofs.{Math.ListN.get_or-map, lemmas.Bool.cases_lt, lemmas.Bool.false≢true, lemmas.List.length-map}
use Rattle.std.{proofs.lemmas.List.Sums.fails_before_first, proofs.lemmas.List.Sums.passes_at_first, specs.Cmp.Lexicographic.bytes_decides}
use Rattle.kp_net.specs.{declared.netlist.NetFile.NetFile, declared.netlist.NetReg.NetReg, declared.netlist.Port.Port, Names.same, Names.Differ, Netlist.Net}
use Rattle.kp_net.specs.Parts.{no_file, no_port, no_reg}
use Rattle.kp_equiv.specs.{Alike.reg_name, Alike.file_name, Named.reg_names, Named.file_names, Named.sample_names, Classes.place}
use Rattle.kp_equiv.proofs.NamedAlike.{one_number}

-- the name at the index of a name is this one
pub at_place : (names : List (List ℕ)) (n : List ℕ) → place names n < length names → n ≡ get_or names (place names n) []
at_place names n l = (bytes_decides n (get_or names (place names n) [])).0 (passes_at_first (same n) names [] l)

-- a name in the list has an index within it
pub has_place : (names : List (List ℕ)) (r : ℕ) (n : List ℕ) → r < length names → get_or names r [] ≡ n → place names n < length names
has_place names r n l e = ⊎_elim
    (λ (h : place names n < length names). h)
    (λ (h : length names ≤ place names n). absurd (false≢true (sym (fails_before_first (same n) names r [] (omega arith)) ∙ (bytes_decides n (get_or names r [])).1 (sym e))))
    (cases_lt (place names n) (length names))

-- a name in the list shares its index with no other one
pub one_place : (names : List (List ℕ)) (r : ℕ) (n m : List ℕ) → r < length names → get_or names r [] ≡ n → place names n ≡ place names m → n ≡ m
one_place names r n m l e same_place =
    let h : place names n < length names = has_place names r n l e in
    at_place names n h ∙ ap (λ (k : ℕ). get_or names k []) same_place ∙ sym (at_place names m (omega (arith, h)))

-- things that have names: registers, files, and sample ports
pub record Things (X : Type 0) : Type 0 where
  pub name : X → List ℕ
  pub none : X
  pub nameless : name none ≡ []

abbrev pub registers : Things NetReg
registers = record { name = λ x. x.name; none = no_reg; nameless = refl }

abbrev pub memories : Things NetFile
memories = record { name = λ x. x.name; none = no_file; nameless = refl }

abbrev pub ports : Things Port
ports = record { name = λ x. x.name; none = no_port; nameless = refl }

-- the names of a list of things
module _ {X : Type 0} (T : Things X) (xs : List X) where
  pub name_is : (i : ℕ) → get_or (map T.name xs) i [] ≡ T.name (get_or xs i T.none)
  name_is i = ap (get_or (map T.name xs) i) (sym T.nameless) ∙ get_or-map T.name xs i T.none

  pub one_index : Differ (map T.name xs) → (i j : ℕ) → i < length xs → j < length xs → T.name (get_or xs i T.none) ≡ T.name (get_or xs j T.none) → i ≡ j
  one_index d i j li lj e = one_number (map T.name xs) d i j (omega (arith, length-map xs T.name)) (omega (arith, length-map xs T.name)) (name_is i ∙ e ∙ sym (name_is j))

  pub one_name : (ys : List X) (i j : ℕ) → i < length xs → place (map T.name xs) (T.name (get_or xs i T.none)) ≡ place (map T.name xs) (T.name (get_or ys j T.none))
      → T.name (get_or xs i T.none) ≡ T.name (get_or ys j T.none)
  one_name ys i j l = one_place (map T.name xs) i _ _ (omega (arith, length-map xs T.name)) (name_is i)

  -- one of them has a name, or none has
  pub namesake : (n : List ℕ) → place (map T.name xs) n < length xs → T.name (get_or xs (place (map T.name xs) n) T.none) ≡ n
  namesake n l = sym (at_place (map T.name xs) n (omega (arith, length-map xs T.name)) ∙ name_is (place (map T.name xs) n))

  pub missing : (n : List ℕ) (i : ℕ) → length (map T.name xs) ≤ place (map T.name xs) n → i < length xs → T.name (get_or xs i T.none) ≡ n → ⊥
  missing n i h l e = let p = has_place (map T.name xs) i n (omega (arith, length-map xs T.name)) (name_is i ∙ e) in omega arith

-- what relates two of the same names relates those at other indices
pub related : {X : Type 0} (T : Things X) (R : X → X → Type 0) (xs ys : List X) → Differ (map T.name xs) → Differ (map T.name ys) → (f s i j : ℕ) → f < length xs → s < length ys → i < length xs → j < length ys
    → T.name (get_or xs f T.none) ≡ T.name (get_or xs i T.none) → T.name (get_or ys s T.none) ≡ T.name (get_or ys j T.none) → R (get_or xs f T.none) (get_or ys s T.none) → R (get_or xs i T.none) (get_or ys j T.none)
related T R xs ys da db f s i j lf ls li lj e g r =
    subst (λ (k : ℕ). R (get_or xs k T.none) (get_or ys j T.none)) (one_index T xs da f i lf li e)
    (subst (λ (k : ℕ). R (get_or xs f T.none) (get_or ys k T.none)) (one_index T ys db s j ls lj g) r)

-- the names of a netlist
pub reg_names_are : (net : Net) (r : ℕ) → get_or (reg_names net) r [] ≡ reg_name net r
reg_names_are net = name_is registers net.parts.regs

pub file_names_are : (net : Net) (f : ℕ) → get_or (file_names net) f [] ≡ file_name net f
file_names_are net = name_is memories net.parts.files

pub reg_count : (net : Net) → length (reg_names net) ≡ length net.parts.regs
reg_count net = length-map net.parts.regs (λ x. x.name)

pub file_count : (net : Net) → length (file_names net) ≡ length net.parts.files
file_count net = length-map net.parts.files (λ x. x.name)

pub sample_count : (net : Net) → length (sample_names net) ≡ length net.parts.samples
sample_count net = length-map net.parts.samples (λ x. x.name)

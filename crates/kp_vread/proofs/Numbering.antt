-- Names are numbered one by one.
use Rattle.std.proofs.Common.{◌≡◌, ◌∙◌, ℕ, ◌+◌, ◌<◌, List, [], ◌∷◌, ◌++◌, length, get_or, take, map, Bool, true, false, cond, Option, Some, None, refl, sym, ap, subst, arith}
use Rattle.std.{proofs.lemmas.List.take_more, specs.Prelude.nat_eq, specs.Prelude.◌||◌, specs.Prelude.if◌then◌else◌, specs.Option.is_some, specs.Map.lookup}
use Rattle.kp_net.specs.Names.{same, among}
use Rattle.kp_vlog.specs.{declared.tree.VPort.VPort, declared.tree.Item.Item, Scope.place_of, Scope.reg_names, Scope.file_names}
use Rattle.kp_vlog.proofs.Tests.{apart, same_eq}
use Rattle.kp_vlog.specs.declared.tree.Item.TheVariants as lines
use Rattle.kp_vread.specs.inner.Numbering.{Numbered, number_or, AreNumbered}
use Rattle.kp_vread_rules.proofs.StartValues.{turned}

pub none_numbered : AreNumbered (record { entries = []; count = 0 }) []
none_numbered = record { count = refl; known = λ n. refl; places = λ n. refl }

longer : (ks : List (List ℕ)) (n : List ℕ) → length (ks ++ n ∷ []) ≡ length ks + 1
longer [] n = refl
longer (k ∷ ks) n = omega (arith, longer ks n)

-- the names after one more
among_more : (ks : List (List ℕ)) (n q : List ℕ) → among (ks ++ n ∷ []) q ≡ (among ks q || same q n)
among_more [] n q = step (same q n)
  where
    step : (b : Bool) → (b || false) ≡ (false || b)
    step true = refl
    step false = refl
among_more (k ∷ ks) n q = ap (λ b. same q k || b) (among_more ks n q) ∙ step (same q k) (among ks q) (same q n)
  where
    step : (a b c : Bool) → (a || (b || c)) ≡ ((a || b) || c)
    step true b c = refl
    step false b c = refl

place_more : (ks : List (List ℕ)) (n q : List ℕ) → place_of (ks ++ n ∷ []) q ≡ (if among ks q then place_of ks q else if same q n then length ks else length ks + 1)
place_more [] n q = refl
place_more (k ∷ ks) n q = ap (λ p. if same q k then 0 else p + 1) (place_more ks n q) ∙ step (same q k) (among ks q) (same q n)
  where
    step : (a b c : Bool) → (if a then 0 else (if b then place_of ks q else if c then length ks else length ks + 1) + 1)
        ≡ (if a || b then (if a then 0 else place_of ks q + 1) else if c then length (k ∷ ks) else length (k ∷ ks) + 1)
    step true b c = refl
    step false true c = refl
    step false false true = omega arith
    step false false false = omega arith

module _ (t : Numbered) (ks : List (List ℕ)) (n : List ℕ) (a : AreNumbered t ks) where
  -- a name that came before
  pub numbered_again : (u : Numbered) → u.entries ≡ t.entries → u.count ≡ t.count + 1 → among ks n ≡ true → AreNumbered u (ks ++ n ∷ [])
  numbered_again u e k h = record {
    count = k ∙ ap (λ (i : ℕ). i + 1) a.count ∙ sym (longer ks n);
    known = λ q. ap (λ es. is_some (lookup (same q) es)) e ∙ a.known q ∙ there q (same q n) refl ∙ sym (among_more ks n q);
    places = λ q. ap (λ es. number_or u.count (lookup (same q) es)) e ∙ at q (lookup (same q) t.entries) refl ∙ sym (place_more ks n q);
  }
    where
      there : (q : List ℕ) (b : Bool) → same q n ≡ b → among ks q ≡ (among ks q || b)
      there q true s = subst (λ (z : List ℕ). among ks z ≡ (among ks z || true)) (sym (same_eq q n s)) (rw h refl)
      there q false s = step (among ks q)
        where
          step : (b : Bool) → b ≡ (b || false)
          step true = refl
          step false = refl

      new : (q : List ℕ) (b : Bool) → same q n ≡ b → among ks q ≡ false → u.count ≡ (if b then length ks else length ks + 1)
      new q true s g = absurd (apart (among ks n) h (subst (λ (z : List ℕ). among ks z ≡ false) (same_eq q n s) g))
      new q false s g = k ∙ ap (λ (i : ℕ). i + 1) a.count

      at : (q : List ℕ) (o : Option ℕ) → lookup (same q) t.entries ≡ o → number_or u.count (lookup (same q) t.entries) ≡ (if among ks q then place_of ks q else if same q n then length ks else length ks + 1)
      at q (Some p) o =
          let g : among ks q ≡ true = sym (a.known q) ∙ ap is_some o in
          let p' : place_of ks q ≡ p = sym (a.places q) ∙ ap (number_or t.count) o in
          rw (o, g, p') refl
      at q None o = let g : among ks q ≡ false = sym (a.known q) ∙ ap is_some o in rw (o, g) (new q (same q n) refl g)

  -- a name that is new
  pub numbered_new : (u : Numbered) → ((q : List ℕ) → lookup (same q) u.entries ≡ cond (same n q) (Some t.count) (lookup (same q) t.entries)) → u.count ≡ t.count + 1 → among ks n ≡ false
      → AreNumbered u (ks ++ n ∷ [])
  numbered_new u e k h = record {
    count = k ∙ ap (λ (i : ℕ). i + 1) a.count ∙ sym (longer ks n);
    known = λ q. ap is_some (looked q) ∙ found q (same q n) ∙ ap (λ b. b || same q n) (a.known q) ∙ sym (among_more ks n q);
    places = λ q. ap (number_or u.count) (looked q) ∙ at q (same q n) refl (lookup (same q) t.entries) refl ∙ sym (place_more ks n q);
  }
    where
      looked : (q : List ℕ) → lookup (same q) u.entries ≡ cond (same q n) (Some t.count) (lookup (same q) t.entries)
      looked q = e q ∙ ap (λ b. cond b (Some t.count) (lookup (same q) t.entries)) (turned n q)

      found : (q : List ℕ) (b : Bool) → is_some (cond b (Some t.count) (lookup (same q) t.entries)) ≡ (is_some (lookup (same q) t.entries) || b)
      found q true = step (is_some (lookup (same q) t.entries))
        where
          step : (b : Bool) → true ≡ (b || true)
          step true = refl
          step false = refl
      found q false = step (is_some (lookup (same q) t.entries))
        where
          step : (b : Bool) → b ≡ (b || false)
          step true = refl
          step false = refl

      at : (q : List ℕ) (b : Bool) → same q n ≡ b → (o : Option ℕ) → lookup (same q) t.entries ≡ o
          → number_or u.count (cond b (Some t.count) (lookup (same q) t.entries)) ≡ (if among ks q then place_of ks q else if b then length ks else length ks + 1)
      at q true s o l =
          let g : among ks q ≡ false = subst (λ (z : List ℕ). among ks z ≡ false) (sym (same_eq q n s)) h in
          rw g a.count
      at q false s (Some p) l =
          let g : among ks q ≡ true = sym (a.known q) ∙ ap is_some l in
          let p' : place_of ks q ≡ p = sym (a.places q) ∙ ap (number_or t.count) l in
          rw (l, g, p') refl
      at q false s None l = let g : among ks q ≡ false = sym (a.known q) ∙ ap is_some l in rw (l, g) (k ∙ ap (λ (i : ℕ). i + 1) a.count)

-- The names of ports and of declarations, one by one.

append-assoc : (xs ys zs : List (List ℕ)) → (xs ++ ys) ++ zs ≡ xs ++ (ys ++ zs)
append-assoc [] ys zs = refl
append-assoc (x ∷ xs) ys zs = ap (λ os. x ∷ os) (append-assoc xs ys zs)

regs_append : (xs ys : List Item) → reg_names (xs ++ ys) ≡ reg_names xs ++ reg_names ys
regs_append [] ys = refl
regs_append (lines.Reg r n ∷ xs) ys = ap (λ ks. n.name ∷ ks) (regs_append xs ys)
regs_append (_ ∷ xs) ys = regs_append xs ys

files_append : (xs ys : List Item) → file_names (xs ++ ys) ≡ file_names xs ++ file_names ys
files_append [] ys = refl
files_append (lines.File r n w ∷ xs) ys = ap (λ ks. n.name ∷ ks) (files_append xs ys)
files_append (_ ∷ xs) ys = files_append xs ys

ports_append : (xs ys : List VPort) → map (λ p. p.port.name) (xs ++ ys) ≡ map (λ p. p.port.name) xs ++ map (λ p. p.port.name) ys
ports_append [] ys = refl
ports_append (x ∷ xs) ys = ap (λ ks. x.port.name ∷ ks) (ports_append xs ys)

pub more_regs : (all : List Item) (i : ℕ) (x : Item) → i < length all → x ≡ get_or all i x → reg_names (take i all) ++ reg_names (x ∷ []) ≡ reg_names (take (i + 1) all)
more_regs all i x h w = sym (ap reg_names (take_more all i x h ∙ ap (λ y. take i all ++ y ∷ []) (sym w)) ∙ regs_append (take i all) (x ∷ []))

pub more_files : (all : List Item) (i : ℕ) (x : Item) → i < length all → x ≡ get_or all i x → file_names (take i all) ++ file_names (x ∷ []) ≡ file_names (take (i + 1) all)
more_files all i x h w = sym (ap file_names (take_more all i x h ∙ ap (λ y. take i all ++ y ∷ []) (sym w)) ∙ files_append (take i all) (x ∷ []))

pub more_ports : (all : List VPort) (i : ℕ) (x : VPort) → i < length all → x ≡ get_or all i x
    → map (λ p. p.port.name) (take i all) ++ x.port.name ∷ [] ≡ map (λ p. p.port.name) (take (i + 1) all)
more_ports all i x h w = sym (ap (map (λ p. p.port.name)) (take_more all i x h ∙ ap (λ y. take i all ++ y ∷ []) (sym w)) ∙ ports_append (take i all) (x ∷ []))

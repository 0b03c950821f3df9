-- Lists that are related element by element.
use Rattle.std.proofs.Common.{◌≡◌, ℕ, zero, suc, List, [], ◌∷◌, ◌++◌, map, take, drop, refl}
use Rattle.std.specs.List.{AllZip}

module _ {X Y : Type 0} (R : X → Y → Type 0) where
  pub zip_take : (n : ℕ) (xs : List X) (ys : List Y) → AllZip R xs ys → AllZip R (take n xs) (take n ys)
  zip_take zero xs ys h = tt
  zip_take (suc n) [] [] h = tt
  zip_take (suc n) (x ∷ xs) (y ∷ ys) h = (h.0, zip_take n xs ys h.1)
  zip_take (suc n) _ _ h = absurd h

  pub zip_drop : (n : ℕ) (xs : List X) (ys : List Y) → AllZip R xs ys → AllZip R (drop n xs) (drop n ys)
  zip_drop zero xs ys h = h
  zip_drop (suc n) [] [] h = tt
  zip_drop (suc n) (x ∷ xs) (y ∷ ys) h = zip_drop n xs ys h.1
  zip_drop (suc n) _ _ h = absurd h

  pub zip_append : (xs us : List X) (ys vs : List Y) → AllZip R xs ys → AllZip R us vs → AllZip R (xs ++ us) (ys ++ vs)
  zip_append [] us [] vs p q = q
  zip_append (x ∷ xs) us (y ∷ ys) vs p q = (p.0, zip_append xs us ys vs p.1 q)
  zip_append _ us _ vs p q = absurd p

  pub zip_each : (f : ℕ → X) (g : ℕ → Y) (ks : List ℕ) → ((k : ℕ) → R (f k) (g k)) → AllZip R (map f ks) (map g ks)
  zip_each f g [] h = tt
  zip_each f g (k ∷ ks) h = (h k, zip_each f g ks h)

  pub zip_turned : (S : Y → X → Type 0) (xs : List X) (ys : List Y) → ((x : X) (y : Y) → R x y → S y x) → AllZip R xs ys → AllZip S ys xs
  zip_turned S [] [] f h = tt
  zip_turned S (x ∷ xs) (y ∷ ys) f h = (f x y h.0, zip_turned S xs ys f h.1)
  zip_turned S _ _ f h = absurd h

-- what is true of each element
abbrev pub Each : {X : Type 0} → (X → Type 0) → List X → Type 0
Each P xs = AllZip (λ x y. P x) xs xs

module _ {X : Type 0} (P : X → Type 0) where
  pub each_weaker : (Q : X → Type 0) (xs : List X) → ((x : X) → P x → Q x) → Each P xs → Each Q xs
  each_weaker Q [] f h = tt
  each_weaker Q (x ∷ xs) f h = (f x h.0, each_weaker Q xs f h.1)

  pub zip_itself : (R : X → X → Type 0) (xs : List X) → ((x : X) → P x → R x x) → Each P xs → AllZip R xs xs
  zip_itself R [] f h = tt
  zip_itself R (x ∷ xs) f h = (f x h.0, zip_itself R xs f h.1)

  pub zip_weaker : {Y : Type 0} (R S : X → Y → Type 0) (xs : List X) (ys : List Y) → ((x : X) (y : Y) → P x → R x y → S x y) → Each P xs → AllZip R xs ys → AllZip S xs ys
  zip_weaker R S [] [] f p h = tt
  zip_weaker R S (x ∷ xs) (y ∷ ys) f p h = (f x y p.0 h.0, zip_weaker R S xs ys f p.1 h.1)
  zip_weaker R S _ _ f p h = absurd h

  -- two lists that are related to one
  pub zip_joined : {Y Z : Type 0} (Q : Y → Type 0) (R : X → Z → Type 0) (S : Y → Z → Type 0) (T : X → Y → Type 0) (xs : List X) (ys : List Y) (zs : List Z)
      → ((x : X) (y : Y) (z : Z) → P x → Q y → R x z → S y z → T x y) → Each P xs → Each Q ys → AllZip R xs zs → AllZip S ys zs → AllZip T xs ys
  zip_joined Q R S T [] [] [] f p q g h = tt
  zip_joined Q R S T (x ∷ xs) (y ∷ ys) (z ∷ zs) f p q g h = (f x y z p.0 q.0 g.0 h.0, zip_joined Q R S T xs ys zs f p.1 q.1 g.1 h.1)
  zip_joined Q R S T (x ∷ xs) [] (z ∷ zs) f p q g h = absurd h
  zip_joined Q R S T [] (y ∷ ys) [] f p q g h = absurd h
  zip_joined Q R S T (x ∷ xs) _ [] f p q g h = absurd g
  zip_joined Q R S T [] _ (z ∷ zs) f p q g h = absurd g

-- related lists, of which the others are functions
pub zip_same : {X Y Z : Type 0} (T : X → Y → Type 0) (R : X → Z → Type 0) (S : Y → Z → Type 0) (xs : List X) (ys : List Y) (us vs : List Z)
    → ((x : X) (y : Y) (u v : Z) → T x y → R x u → S y v → u ≡ v) → AllZip T xs ys → AllZip R xs us → AllZip S ys vs → us ≡ vs
zip_same T R S [] [] [] [] f t g h = refl
zip_same T R S (x ∷ xs) (y ∷ ys) (u ∷ us) (v ∷ vs) f t g h = let p = f x y u v t.0 g.0 h.0 in let q = zip_same T R S xs ys us vs f t.1 g.1 h.1 in λ i. p i ∷ q i
zip_same T R S [] [] (u ∷ us) _ f t g h = absurd g
zip_same T R S [] [] [] (v ∷ vs) f t g h = absurd h
zip_same T R S (x ∷ xs) (y ∷ ys) [] _ f t g h = absurd g
zip_same T R S (x ∷ xs) (y ∷ ys) (u ∷ us) [] f t g h = absurd h
zip_same T R S [] (y ∷ ys) _ _ f t g h = absurd t
zip_same T R S (x ∷ xs) [] _ _ f t g h = absurd t

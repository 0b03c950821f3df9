-- Concatenations of nodes: their widths, and a concatenation in steps.
use Rattle.std.proofs.Common.{◌≡◌, ◌∙◌, ℕ, ◌+◌, ◌<◌, ◌≤◌, Bool, true, false, cond, List, [], ◌∷◌, ◌++◌, fold, Option, Some, None, length, get_or, drop, refl, ap, sym, subst, arith}
use Rattle.std.proofs.lemmas.{Bool.leb-true, List.map-append}
use Rattle.std.proofs.lemmas.List.Elements.{All-head, All-tail, All-weaker, All-drop, All-same, All-cons}
use Rattle.std.{proofs.lemmas.Option.same_Some, proofs.Math.Seq.drop-append_seam, proofs.lemmas.List.Sums.sum_by-cons, specs.Prelude.is_some, specs.List.sum_by}
use Rattle.kp_bits.specs.{Word.Word, Word.concat_of, Operators.joined_of, Checked.checked_join, Checked.checked_joined}
use Rattle.kp_net.specs.{declared.node.NodeId.NodeId, Nodes.Cells, Nodes.word_at, Widths.wide, Widths.AllRight, Growth.Held, Growth.Grown}
use Rattle.kp_net.proofs.Values.{word_wide}
use Rattle.kp_build.specs.inner.Showing.{IsThere, Shows, AllInside, words_at}
use Rattle.kp_build.proofs.Fitting.{no_cells}

abbrev bits_of : List Word → ℕ
bits_of ws = sum_by (λ w. w.width) ws

under : (t : Bool) (o : Option Word) → is_some (cond t o None) ≡ true → (t ≡ true) × (is_some o ≡ true)
under true o h = (refl, h)
under false o h = cc

-- a concatenation of several parts has at most 64 bits
join_fits : (a : Word) (b : Word) (rest : List Word) → is_some (checked_join a (b ∷ rest)) ≡ true → a.width + bits_of (b ∷ rest) ≤ 64
join_fits a b [] h = let s : a.width + b.width ≤ 64 = leb-true _ _ (under _ _ h).0 in let n = sum_by-cons (λ (w : Word). w.width) b [] in omega arith
join_fits a b (d ∷ rest) h =
    let more = join_fits (concat_of a b) d rest (under _ _ h).1 in
    let n = sum_by-cons (λ (w : Word). w.width) b (d ∷ rest) in omega arith

pub joined_fits : (a b : Word) (rest : List Word) → is_some (checked_joined (a ∷ b ∷ rest)) ≡ true → bits_of (a ∷ b ∷ rest) ≤ 64
joined_fits a b rest h = let n = sum_by-cons (λ (w : Word). w.width) a (b ∷ rest) in let m = join_fits a b rest h in omega arith

join_value : (a : Word) (rest : List Word) → is_some (checked_join a rest) ≡ true → checked_join a rest ≡ Some (fold concat_of a rest)
join_value a [] h = refl
join_value a (b ∷ rest) h =
    let u = under _ _ h in
    ap (λ t. cond t (checked_join (concat_of a b) rest) None) u.0 ∙ join_value (concat_of a b) rest u.1

-- an existing concatenation is that of its parts, in order
pub joined_value : (ws : List Word) → is_some (checked_joined ws) ≡ true → checked_joined ws ≡ Some (joined_of ws)
joined_value [] h = cc
joined_value (a ∷ rest) h = join_value a rest h

-- a row in two steps
join_front : (a : Word) (xs ys : List Word) → is_some (checked_join a (xs ++ ys)) ≡ true
    → (is_some (checked_join a xs) ≡ true) × (checked_join a (xs ++ ys) ≡ checked_join (fold concat_of a xs) ys)
join_front a [] ys h = (refl, refl)
join_front a (b ∷ xs) ys h =
    let u = under _ _ h in
    let more = join_front (concat_of a b) xs ys u.1 in
    (ap (λ t. is_some (cond t (checked_join (concat_of a b) xs) None)) u.0 ∙ more.0, ap (λ t. cond t (checked_join (concat_of a b) (xs ++ ys)) None) u.0 ∙ more.1)

module _ (p : Held) where
  -- the words of nodes have the nodes' widths
  pub bits_at : (c : Cells) (ns : List NodeId) → AllInside p ns → bits_of (words_at c p ns) ≡ sum_by (λ n. wide p.nodes n.0) ns
  bits_at c [] h = refl
  bits_at c (n ∷ ns) h =
      let P : NodeId → Type 0 = λ n. n.0 < length p.nodes in
      let one = word_wide c p.nodes n.0 (All-head P n ns h) in
      let more = bits_at c ns (All-tail P n ns h) in
      let s = sum_by-cons (λ (w : Word). w.width) (word_at c p.nodes n.0) (words_at c p ns) in
      let t = sum_by-cons (λ (n : NodeId). wide p.nodes n.0) n ns in
      omega arith

  -- two or more nodes that can be concatenated have at most 64 bits
  pub row_fits : (ns : List NodeId) → AllInside p ns → IsThere (λ c. checked_joined (words_at c p ns)) → 2 ≤ length ns → sum_by (λ n. wide p.nodes n.0) ns ≤ 64
  unfolding IsThere
  row_fits [] h there l = absurd (omega arith)
  row_fits (a ∷ []) h there l = absurd (omega arith)
  row_fits (a ∷ b ∷ ns) h there l =
      let f = joined_fits (word_at no_cells p.nodes a.0) (word_at no_cells p.nodes b.0) (words_at no_cells p ns) (there no_cells) in
      let s = bits_at no_cells (a ∷ b ∷ ns) h in
      omega arith

  -- each node has a bit or more
  as_many : AllRight p.nodes → (ns : List NodeId) → AllInside p ns → length ns ≤ sum_by (λ n. wide p.nodes n.0) ns
  unfolding wide
  as_many right [] h = omega arith
  as_many right (n ∷ ns) h =
      let P : NodeId → Type 0 = λ n. n.0 < length p.nodes in
      let one = (right n.0 (All-head P n ns h)).positive in
      let more = as_many right ns (All-tail P n ns h) in
      let t = sum_by-cons (λ (n : NodeId). wide p.nodes n.0) n ns in
      omega arith

  -- there are at most 64
  pub row_count : (ns : List NodeId) → AllInside p ns → IsThere (λ c. checked_joined (words_at c p ns)) → AllRight p.nodes → length ns ≤ 64
  row_count [] h there right = omega arith
  row_count (a ∷ []) h there right = omega arith
  row_count (a ∷ b ∷ ns) h there right =
      let f = row_fits (a ∷ b ∷ ns) h there (omega arith) in
      let m = as_many right (a ∷ b ∷ ns) h in
      omega arith

  pub row_one : (ns : List NodeId) (d : NodeId) → length ns ≡ 1 → Shows p (get_or ns 0 d) (λ c. checked_joined (words_at c p ns))
  unfolding Shows
  row_one [] d e = absurd (omega arith)
  row_one (n ∷ []) d e = λ c. refl
  row_one (n ∷ m ∷ ns) d e = absurd (omega arith)

  pub row_some : (ns : List NodeId) → IsThere (λ c. checked_joined (words_at c p ns)) → length ns ≡ 0 → ⊥
  unfolding IsThere
  row_some [] there e = let f : false ≡ true = there no_cells in cc
  row_some (n ∷ ns) there e = absurd (omega arith)

  module _ (ns : List NodeId) (inside : AllInside p ns) (there : IsThere (λ c. checked_joined (words_at c p ns))) where
    pub row_shows : (q : Held) (n : NodeId) → ((c : Cells) → word_at c q.nodes n.0 ≡ joined_of (words_at c p ns)) → Shows q n (λ c. checked_joined (words_at c p ns))
    unfolding IsThere Shows
    row_shows q n h = λ c. joined_value (words_at c p ns) (there c) ∙ ap Some (sym (h c))

-- the same words in a pool that has grown
pub same_at : (p q : Held) (k : ℕ) → Grown p q k → (c : Cells) (ns : List NodeId) → AllInside p ns → words_at c q ns ≡ words_at c p ns
same_at p q k g c [] h = refl
same_at p q k g c (n ∷ ns) h =
    let P : NodeId → Type 0 = λ n. n.0 < length p.nodes in
    let one = g.kept.words c n.0 (All-head P n ns h) in
    let more = same_at p q k g c ns (All-tail P n ns h) in
    ap (λ w. w ∷ words_at c q ns) one ∙ ap (λ ws. word_at c p.nodes n.0 ∷ ws) more

pub still_inside : (p q : Held) (k : ℕ) → Grown p q k → (ns : List NodeId) → AllInside p ns → AllInside q ns
still_inside p q k g ns h = All-weaker (λ n. n.0 < length p.nodes) (λ n. n.0 < length q.nodes) (λ n l. let m = g.kept.longer in omega arith) ns h

-- a row in two steps: the first parts become one node
front_by : (p : Held) (xs ys ns : List NodeId) → ns ≡ xs ++ ys → 1 ≤ length xs → (c : Cells) → is_some (checked_joined (words_at c p ns)) ≡ true
    → (is_some (checked_joined (words_at c p xs)) ≡ true) × (checked_joined (words_at c p ns) ≡ checked_joined (joined_of (words_at c p xs) ∷ words_at c p ys))
front_by p [] ys ns e l c there = absurd (omega arith)
front_by p (x ∷ xs) ys ns e l c there =
    let s : words_at c p ns ≡ words_at c p (x ∷ xs) ++ words_at c p ys = ap (words_at c p) e ∙ map-append (λ (n : NodeId). word_at c p.nodes n.0) (x ∷ xs) ys in
    let f = join_front (word_at c p.nodes x.0) (words_at c p xs) (words_at c p ys) (sym (ap (λ ws. is_some (checked_joined ws)) s) ∙ there) in
    (f.0, ap checked_joined s ∙ f.1)

back_inside : (p : Held) (xs ys ns : List NodeId) → ns ≡ xs ++ ys → AllInside p ns → AllInside p ys
back_inside p xs ys ns split inside = subst (AllInside p) (ap (drop (length xs)) split ∙ drop-append_seam xs ys) (All-drop (λ n. n.0 < length p.nodes) (length xs) ns inside)

pub shorter_inside : (p q : Held) (k : ℕ) → Grown p q k → (xs ys ns : List NodeId) → ns ≡ xs ++ ys → AllInside p ns → (first : NodeId) → first.0 < length q.nodes
    → (zs : List NodeId) → zs ≡ first ∷ ys → AllInside q zs
shorter_inside p q k g xs ys ns split inside first h zs e =
    let P : NodeId → Type 0 = λ n. n.0 < length q.nodes in
    All-same P zs (first ∷ ys) e (All-cons P first ys h (still_inside p q k g ys (back_inside p xs ys ns split inside)))

module _ (p : Held) (xs ys ns : List NodeId) (split : ns ≡ xs ++ ys) (some : 1 ≤ length xs) (there : IsThere (λ c. checked_joined (words_at c p ns))) where
  pub front_there : IsThere (λ c. checked_joined (words_at c p xs))
  unfolding IsThere
  front_there = λ c. (front_by p xs ys ns split some c (there c)).0

module _ (p q : Held) (k : ℕ) (g : Grown p q k) (xs ys ns : List NodeId) (split : ns ≡ xs ++ ys) (some : 1 ≤ length xs) (inside : AllInside p ns)
    (there : IsThere (λ c. checked_joined (words_at c p ns))) where
  module _ (first : NodeId) (shows : Shows q first (λ c. checked_joined (words_at c p xs))) where
    shorter_same : (c : Cells) → checked_joined (words_at c q (first ∷ ys)) ≡ checked_joined (words_at c p ns)
    unfolding IsThere Shows
    shorter_same c =
        let f = front_by p xs ys ns split some c (there c) in
        let w : word_at c q.nodes first.0 ≡ joined_of (words_at c p xs) = same_Some _ _ (sym (shows c) ∙ joined_value (words_at c p xs) f.0) in
        ap (λ x. checked_joined (x ∷ words_at c q ys)) w
        ∙ ap (λ ws. checked_joined (joined_of (words_at c p xs) ∷ ws)) (same_at p q k g c ys (back_inside p xs ys ns split inside))
        ∙ sym f.1

    pub shorter_there : (zs : List NodeId) → zs ≡ first ∷ ys → IsThere (λ c. checked_joined (words_at c q zs))
    unfolding IsThere
    shorter_there zs e = λ c. ap (λ ws. is_some (checked_joined (words_at c q ws))) e ∙ ap is_some (shorter_same c) ∙ there c

    pub shorter_shows : (zs : List NodeId) → zs ≡ first ∷ ys → (r : Held) (n : NodeId) → Shows r n (λ c. checked_joined (words_at c q zs)) → Shows r n (λ c. checked_joined (words_at c p ns))
    unfolding Shows
    shorter_shows zs e r n h = λ c. sym (shorter_same c) ∙ sym (ap (λ ws. checked_joined (words_at c q ws)) e) ∙ h c

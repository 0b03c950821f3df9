-- The time of a node is computed from those of its operands, which are before it.
use Rattle.std.proofs.Common.{◌≡◌, ◌∙◌, ◌+◌, ◌<◌, ◌≤◌, ℕ, zero, suc, Bool, true, false, cond, List, [], ◌∷◌, ◌++◌, fold, take, drop, length, get_or, All, refl, sym, ap, subst, arith, length-append, ⊎_elim}
use Rattle.std.specs.Prelude.{flat_map}
use Rattle.std.proofs.Math.{ListN.get_or-append, Seq.get_or-append_seam, Seq.drop-cons}
use Rattle.std.proofs.lemmas.Bool.{cases_lt}
use Rattle.std.proofs.lemmas.List.{take-append-drop, length-take-le, get_or_past, Sums.fold-append, Concat.flat_map-cons}
use Rattle.std.proofs.lemmas.List.Elements.{All-nil, All-cons, All-append, All-same, All-head, All-tail}
use Rattle.kp_net.specs.declared.node.{NodeId.NodeId, Node.Node, Kind.Kind}
use Rattle.kp_net.specs.declared.node.Kind.TheVariants.{Const, Ext, Sample, Reg, Word, Not, Binary, Mux, Concat, Slice}
use Rattle.kp_net.specs.Widths.{no_node, KindOk, NodeOk, AllRight}
use Rattle.kp_depth.specs.declared.time.{Input.Input, Chain.Chain, Time.Time}
use Rattle.kp_depth.specs.{Delay.is_constant, Delay.is_choice, Delay.kind_of, Delay.delay_of, Paths.kind_at, Paths.inputs_at}
use Rattle.kp_depth.specs.Times.{continues, input, inputs_of, no_chain, no_time, joined_at, joined, chain_of, time_of, known_time, times_more, times_of, time_at}

-- the operands are before node m
abbrev pub Before : ℕ → List Input → Type 0
Before m xs = All (λ (x : Input). x.node.0 < m) xs

abbrev IsBefore : ℕ → Input → Type 0
IsBefore m x = x.node.0 < m

input_before : (ns : List Node) (within : Bool) (a : NodeId) (m : ℕ) → a.0 < m → Before m (input ns within a)
input_before ns within a m h = go (is_constant ns a)
  where
    x : Input
    x = record { node = a; within = within }

    go : (b : Bool) → Before m (cond b [] (x ∷ []))
    go true = All-nil (IsBefore m)
    go false = All-cons (IsBefore m) x [] h (All-nil (IsBefore m))

parts_before : (ns : List Node) (m : ℕ) (parts : List NodeId) → All (λ a. a.0 < m) parts → Before m (flat_map (input ns false) parts)
parts_before ns m [] h = All-nil (IsBefore m)
parts_before ns m (a ∷ parts) h =
    All-same (IsBefore m) (flat_map (input ns false) (a ∷ parts)) (input ns false a ++ flat_map (input ns false) parts) (flat_map-cons (input ns false) a parts)
    (All-append (IsBefore m) (input ns false a) (flat_map (input ns false) parts) (input_before ns false a m (All-head (λ b. b.0 < m) a parts h))
    (parts_before ns m parts (All-tail (λ b. b.0 < m) a parts h)))

pub inputs_before : (ns : List Node) (inside : Bool) (m k : ℕ) (kind : Kind) → KindOk ns m k kind → Before m (inputs_of ns inside kind)
inputs_before ns true m k (Word f a) h = input_before ns false a m h
inputs_before ns false m k (Word f a) h = All-nil (IsBefore m)
inputs_before ns inside m k (Not a) h = input_before ns false a m h.0
inputs_before ns inside m k (Binary op a b) h =
    All-append (IsBefore m) (input ns (continues op (kind_of ns a)) a) (input ns (continues op (kind_of ns b)) b)
    (input_before ns (continues op (kind_of ns a)) a m h.0) (input_before ns (continues op (kind_of ns b)) b m h.1)
inputs_before ns inside m k (Mux test a b) h =
    All-append (IsBefore m) (input ns false test) (input ns false a ++ input ns (is_choice (kind_of ns b)) b) (input_before ns false test m h.0)
    (All-append (IsBefore m) (input ns false a) (input ns (is_choice (kind_of ns b)) b) (input_before ns false a m h.1)
    (input_before ns (is_choice (kind_of ns b)) b m h.2))
inputs_before ns inside m k (Concat parts) h = parts_before ns m parts h.2
inputs_before ns inside m k (Slice a hi lo) h = input_before ns false a m h.0
inputs_before ns inside m k _ h = All-nil (IsBefore m)

-- a time depends on those of the operands alone
chain_agrees : (t u : ℕ → Time) (m : ℕ) (c : Chain) (xs : List Input) → Before m xs → ((j : ℕ) → j < m → t j ≡ u j) → fold (joined t) c xs ≡ fold (joined u) c xs
chain_agrees t u m c [] h s = refl
chain_agrees t u m c (x ∷ xs) h s =
    ap (λ (v : Time). fold (joined t) (joined_at v c x) xs) (s x.node.0 (All-head (IsBefore m) x xs h))
    ∙ chain_agrees t u m (joined_at (u x.node.0) c x) xs (All-tail (IsBefore m) x xs h) s

time_agrees : (ns : List Node) (inside : Bool) (t u : ℕ → Time) (m k : ℕ) (kind : Kind) → KindOk ns m k kind → ((j : ℕ) → j < m → t j ≡ u j)
    → time_of ns inside t kind ≡ time_of ns inside u kind
time_agrees ns inside t u m k kind h s =
    ap (λ (c : Chain). let v : Time = record { chain = c; arrival = c.latest + delay_of ns inside c.count kind } in v)
    (chain_agrees t u m no_chain (inputs_of ns inside kind) (inputs_before ns inside m k kind h) s)

module _ (ns : List Node) (inside : Bool) where
  abbrev more : List Time → Node → List Time
  more = times_more ns inside

  length_from : (known : List Time) (rest : List Node) → length (fold more known rest) ≡ length known + length rest
  length_from known [] = omega arith
  length_from known (n ∷ rest) =
      length_from (more known n) rest ∙ omega (arith, length-append known (time_of ns inside (known_time known) n.kind ∷ []))

  front_from : (known : List Time) (rest : List Node) (i : ℕ) → i < length known → get_or (fold more known rest) i no_time ≡ get_or known i no_time
  front_from known [] i h = refl
  front_from known (n ∷ rest) i h =
      let v : Time = time_of ns inside (known_time known) n.kind in
      front_from (more known n) rest i (omega (arith, h, length-append known (v ∷ []))) ∙ get_or-append known (v ∷ []) no_time i h

  abbrev before : ℕ → List Time
  before i = fold more [] (take i ns)

  length_before : (i : ℕ) → i ≤ length ns → length (before i) ≡ i
  length_before i l = let a = length_from [] (take i ns) in let b = length-take-le i ns l in omega (arith, a, b)

  split : (i : ℕ) → times_of ns inside ≡ fold more (before i) (drop i ns)
  split i = ap (λ (l : List Node). fold more [] l) (sym (take-append-drop i ns)) ∙ fold-append more [] (take i ns) (drop i ns)

  known_before : (i j : ℕ) → j < i → i ≤ length ns → known_time (before i) j ≡ time_at ns inside j
  unfolding time_at
  known_before i j l h =
      sym (ap (λ (ts : List Time). get_or ts j no_time) (split i) ∙ front_from (before i) (drop i ns) j (omega (arith, length_before i h, l)))

  time_inside : (i : ℕ) → i < length ns → NodeOk ns i (get_or ns i no_node) → time_at ns inside i ≡ time_of ns inside (time_at ns inside) (kind_at ns i)
  unfolding time_at
  time_inside i h ok =
      let known : List Time = before i in
      let v : Time = time_of ns inside (known_time known) (kind_at ns i) in
      let l : i ≤ length ns = omega (arith, h) in
      let count : length known ≡ i = length_before i l in
      let cut : drop i ns ≡ get_or ns i no_node ∷ drop (suc i) ns = drop-cons ns i no_node h in
      ap (λ (ts : List Time). get_or ts i no_time) (split i ∙ ap (λ (rest : List Node). fold more known rest) cut)
      ∙ front_from (known ++ v ∷ []) (drop (suc i) ns) i (omega (arith, length-append known (v ∷ []), count))
      ∙ ap (λ (k : ℕ). get_or (known ++ v ∷ []) k no_time) (sym count)
      ∙ get_or-append_seam known v [] no_time
      ∙ time_agrees ns inside (known_time known) (time_at ns inside) i (get_or ns i no_node).width (kind_at ns i) ok.kind (λ j m. known_before i j m l)

  none_past : (i : ℕ) → length ns ≤ i → kind_at ns i ≡ Const 0
  none_past i h = ap (λ (n : Node). n.kind) (get_or_past ns i no_node h)

  time_past : (i : ℕ) → length ns ≤ i → time_at ns inside i ≡ time_of ns inside (time_at ns inside) (kind_at ns i)
  unfolding time_at
  time_past i h =
      let count = length_from [] ns in
      get_or_past (times_of ns inside) i no_time (omega (arith, count, h)) ∙ ap (λ (kind : Kind). time_of ns inside (time_at ns inside) kind) (sym (none_past i h))

  pub time_there : AllRight ns → (i : ℕ) → time_at ns inside i ≡ time_of ns inside (time_at ns inside) (kind_at ns i)
  time_there right i = ⊎_elim (λ (l : i < length ns). time_inside i l (right i l)) (λ (l : length ns ≤ i). time_past i l) (cases_lt i (length ns))

  pub operands_before : AllRight ns → (i : ℕ) → Before i (inputs_at ns inside i)
  operands_before right i =
      ⊎_elim (λ (l : i < length ns). inputs_before ns inside i (get_or ns i no_node).width (kind_at ns i) (right i l).kind)
      (λ (l : length ns ≤ i). subst (λ (kind : Kind). Before i (inputs_of ns inside kind)) (sym (none_past i l)) (All-nil (IsBefore i))) (cases_lt i (length ns))

  pub chain_there : AllRight ns → (i : ℕ) → (time_at ns inside i).chain ≡ chain_of ns inside (time_at ns inside) (kind_at ns i)
  chain_there right i = ap (λ (v : Time). v.chain) (time_there right i)

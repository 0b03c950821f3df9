-- The operands of a chain, one after another, and how late they can be.
use Rattle.std.proofs.Common.{◌≡◌, ◌∙◌, ◌+◌, ◌*◌, ◌<◌, ◌≤◌, ℕ, false, List, [], ◌∷◌, ◌++◌, fold, take, length, get_or, All, sym, ap, subst, arith, length-append, ⊎_elim}
use Rattle.std.specs.Prelude.{flat_map}
use Rattle.std.proofs.lemmas.Bool.{cases_lt}
use Rattle.std.proofs.lemmas.List.{append-nil, take_more, get_or_past, Sums.fold-append, Concat.flat_map-append, Concat.flat_map-cons}
use Rattle.std.proofs.lemmas.List.Elements.{All-nil, All-push, All-weaker, All-get_or}
use Rattle.kp_net.specs.declared.node.{NodeId.NodeId, Node.Node}
use Rattle.kp_depth.specs.declared.time.{Input.Input, Time.Time}
use Rattle.kp_depth.specs.Times.{input, joined, known_time, no_chain, no_time}
use Rattle.kp_depth.specs.inner.Bounds.{IsEarly, Bounded}

pub fold_append : {A B : Type 0} (f : B → A → B) (a : B) (xs ys : List A) → fold f a (xs ++ ys) ≡ fold f (fold f a xs) ys
fold_append f a xs ys = fold-append f a xs ys

-- the operands of one more part
pub parts_more : (ns : List Node) (t : ℕ → Time) (parts : List NodeId) (i : ℕ) (d : NodeId) → i < length parts
    → fold (joined t) no_chain (flat_map (input ns false) (take (i + 1) parts))
    ≡ fold (joined t) (fold (joined t) no_chain (flat_map (input ns false) (take i parts))) (input ns false (get_or parts i d))
parts_more ns t parts i d h =
    let f : NodeId → List Input = input ns false in
    let p : NodeId = get_or parts i d in
    ap (λ (xs : List Input). fold (joined t) no_chain xs)
    (ap (flat_map f) (take_more parts i d h) ∙ flat_map-append f (take i parts) (p ∷ []) ∙ ap (λ (xs : List Input). flat_map f (take i parts) ++ xs) (flat_map-cons f p [] ∙ append-nil (f p)))
    ∙ fold-append (joined t) no_chain (flat_map f (take i parts)) (f p)

-- one more time is bounded too
pub bounded_none : Bounded []
bounded_none = record { each = All-nil (IsEarly 0) }

pub bounded_more : (known : List Time) (v : Time) → Bounded known → v.arrival ≤ 65536 * (length known + 1) → v.chain.latest ≤ 65536 * length known → Bounded (known ++ v ∷ [])
bounded_more known v b a l =
    let count : length known + 1 ≡ length (known ++ v ∷ []) = sym (length-append known (v ∷ [])) in
    record {
      each = subst (λ (n : ℕ). All (IsEarly n) (known ++ v ∷ [])) count
          (All-push (IsEarly (length known + 1)) known v
          (All-weaker (IsEarly (length known)) (IsEarly (length known + 1)) (λ w e. record { arrival = omega (arith, e.arrival); latest = omega (arith, e.latest) }) known b.each)
          (record { arrival = a; latest = omega (arith, l) }));
    }

early_at : (known : List Time) (i : ℕ) → Bounded known → IsEarly (length known) (known_time known i)
early_at known i b =
    ⊎_elim (λ (h : i < length known). All-get_or (IsEarly (length known)) known i no_time h b.each)
    (λ (h : length known ≤ i). subst (λ (v : Time). IsEarly (length known) v) (sym (get_or_past known i no_time h)) (record { arrival = omega arith; latest = omega arith }))
    (cases_lt i (length known))

pub arrival_bounded : (known : List Time) (i : ℕ) → Bounded known → (known_time known i).arrival ≤ 65536 * length known
arrival_bounded known i b = (early_at known i b).arrival

pub latest_bounded : (known : List Time) (i : ℕ) → Bounded known → (known_time known i).chain.latest ≤ 65536 * length known
latest_bounded known i b = (early_at known i b).latest

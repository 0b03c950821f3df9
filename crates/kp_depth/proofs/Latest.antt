-- The last end of a stage is found by going through all ends.
use Rattle.std.proofs.Common.{◌≡◌, ◌∙◌, ◌<◌, ◌≤◌, ℕ, Bool, true, false, ◌&&◌, cond, ◌+◌, List, [], ◌∷◌, ◌++◌, Option, Some, None, take, length, get_or, All, refl, sym, ap, subst, arith}
use Rattle.std.specs.Prelude.{nat_lt, Contains}
use Rattle.std.proofs.lemmas.Bool.{false≢true, ltb-true, ltb-false}
use Rattle.std.proofs.lemmas.List.Elements.{All-nil, All-push, All-weaker, Contains-push, Contains-append_left}
use Rattle.std.proofs.lemmas.List.{take_more, take_all}
use Rattle.kp_net.specs.declared.node.Node.{Node}
use Rattle.kp_net.specs.Widths.{AllRight}
use Rattle.kp_depth.specs.declared.{ends.End.End, ends.Sort.Sort, stages.Path.Path, time.Time.Time}
use Rattle.kp_depth.specs.{Depths.is_at, Depths.IsLongestPath, Paths.IsPath, Paths.NoneLonger, Paths.path_length, Times.known_time, Times.time_at, Times.times_of, inner.Latest.IsLast, inner.Latest.later, inner.Latest.Reaches}
use Rattle.kp_depth.proofs.Longest.{none_longer}

module _ (t : ℕ → Time) (k : ℕ) (sort : Sort) where
  abbrev Low : End → End → Type 0
  Low b e = is_at k sort e ≡ true → (t e.node.0).arrival ≤ (t b.node.0).arrival

  abbrev Never : End → Type 0
  Never e = is_at k sort e ≡ false

  -- one more end
  reaches_more : (ends : List End) (best : Option End) (e : End) → Reaches t k sort ends best → Reaches t k sort (ends ++ e ∷ []) (later t k sort best e)
  reaches_more ends None e h = go (is_at k sort e) refl
    where
      go : (a : Bool) → is_at k sort e ≡ a → Reaches t k sort (ends ++ e ∷ []) (cond (a && true) (Some e) None)
      go true is = record {
        there = Contains-push ends e;
        at_stage = is;
        last = All-push (Low e) ends e (All-weaker Never (Low e) (λ x never at. absurd (false≢true (sym never ∙ at))) ends h) (λ at. omega arith);
      }
      go false is = All-push Never ends e h is
  reaches_more ends (Some b) e h = go (is_at k sort e) refl (nat_lt (t b.node.0).arrival (t e.node.0).arrival) refl
    where
      stays : Low b e → IsLast t k sort (ends ++ e ∷ []) b
      stays l = record { there = Contains-append_left ends (e ∷ []) b h.there; at_stage = h.at_stage; last = All-push (Low b) ends e h.last l }

      go : (a : Bool) → is_at k sort e ≡ a → (l : Bool) → nat_lt (t b.node.0).arrival (t e.node.0).arrival ≡ l
          → Reaches t k sort (ends ++ e ∷ []) (cond (a && l) (Some e) (Some b))
      go true is true lt =
          let less : (t b.node.0).arrival < (t e.node.0).arrival = ltb-true (t b.node.0).arrival (t e.node.0).arrival lt in
          record {
            there = Contains-push ends e;
            at_stage = is;
            last = All-push (Low e) ends e (All-weaker (Low b) (Low e) (λ x f at. let g = f at in omega (arith, g, less)) ends h.last) (λ at. omega arith);
          }
      go true is false lt = let least : (t e.node.0).arrival ≤ (t b.node.0).arrival = ltb-false (t b.node.0).arrival (t e.node.0).arrival lt in stays (λ at. least)
      go false is l lt = stays (λ at. absurd (false≢true (sym is ∙ at)))

pub latest_none : (t : ℕ → Time) (k : ℕ) (sort : Sort) → Reaches t k sort [] None
latest_none t k sort = All-nil (λ (e : End). is_at k sort e ≡ false)

pub latest_more : (t : ℕ → Time) (k : ℕ) (sort : Sort) (ends : List End) (best : Option End) (i : ℕ) (d : End) → i < length ends
    → Reaches t k sort (take i ends) best → Reaches t k sort (take (i + 1) ends) (later t k sort best (get_or ends i d))
latest_more t k sort ends best i d h l =
    subst (λ (es : List End). Reaches t k sort es (later t k sort best (get_or ends i d))) (sym (take_more ends i d h))
    (reaches_more t k sort (take i ends) best (get_or ends i d) l)

pub latest_all : (t : ℕ → Time) (k : ℕ) (sort : Sort) (ends : List End) (best : Option End) (n : ℕ) → length ends ≤ n → Reaches t k sort (take n ends) best
    → Reaches t k sort ends best
latest_all t k sort ends best n h l = subst (λ (es : List End). Reaches t k sort es best) (take_all n ends h) l

-- a longest path to the last end
pub longest_of : (ns : List Node) (inside : Bool) (times : List Time) (k : ℕ) (sort : Sort) (ends : List End) (p : Path) → AllRight ns → times ≡ times_of ns inside
    → IsLast (known_time times) k sort ends p.end → IsPath ns inside p.end.node.0 p.steps.items
    → path_length ns inside p.end.node.0 p.steps.items ≡ (time_at ns inside p.end.node.0).arrival → p.length ≡ (known_time times p.end.node.0).arrival
    → IsLongestPath ns inside k sort ends p
unfolding time_at
longest_of ns inside times k sort ends p right same last path long is =
    let at : (i : ℕ) → known_time times i ≡ time_at ns inside i = λ i. ap (λ (ts : List Time). known_time ts i) same in
    let here : p.length ≡ (time_at ns inside p.end.node.0).arrival = is ∙ ap (λ (v : Time). v.arrival) (at p.end.node.0) in
    record {
      there = last.there;
      at_stage = last.at_stage;
      path = path;
      length = long ∙ sym here;
      none_longer = All-weaker (λ (e : End). is_at k sort e ≡ true → (known_time times e.node.0).arrival ≤ (known_time times p.end.node.0).arrival)
          (λ (e : End). is_at k sort e ≡ true → NoneLonger ns inside e.node.0 p.length)
          (λ e low is_there.
          let l : (known_time times e.node.0).arrival ≤ (known_time times p.end.node.0).arrival = low is_there in
          let a : (known_time times e.node.0).arrival ≡ (time_at ns inside e.node.0).arrival = ap (λ (v : Time). v.arrival) (at e.node.0) in
          let none = none_longer ns inside right e.node.0 in
          record { bound = λ q h. let b = none.bound q h in omega (arith, b, l, a, is) })
          ends last.last;
    }

-- Texts that a writer writes in order.
use Rattle.std.proofs.Common.{◌≡◌, ◌∙◌, ℕ, suc, ◌+◌, ◌≤◌, ◌<◌, Bool, true, false, List, [], ◌∷◌, ◌++◌, length, get_or, take, refl, sym, ap, subst, append_assoc, append-nil, arith, Ok, Err}
use Rattle.std.proofs.{lemmas.List.take_all, lemmas.List.take_more, lemmas.List.length-take-le, KnownBytes.Appends-nil, KnownBytes.Appends-trans}
use Rattle.std.specs.{Bool.MatchBool, Io.KnownBytes.Appends, Prelude.IsErr, Prelude.flat_map, Prelude.is_err, declared.option.Option.Option, declared.result.Result.Result}
use Rattle.kp_base.specs.{Bytes.AppendsPart, Bytes.Writes, Causes.HasCause, Causes.Rose, Writer.Passes, Writer.Passed, Writer.Wrote, Writer.Ended, inner.Writing.Sends, inner.Writing.WroteUpTo}
use Rattle.kp_base.specs.declared.writer.Writer.{Writer}
use Rattle.kp_base.proofs.Bytes.{part_more, writes_next}

-- the sink failed before it had the contents of the buffer
pub stops_flushed : (a b : Option (List ℕ)) (page text : List ℕ) → AppendsPart a b page → AppendsPart a b (page ++ text)
stops_flushed a b page text part = part_more a b page text part

-- the buffer was written to the sink, and then the text without it
pub sends_flushed : {T E : Type 0} (a b c : Option (List ℕ)) (page kept text : List ℕ) (result : Result T E) → Appends a b page → kept ≡ [] → Writes b c text result → Sends a page c kept text result
sends_flushed a b c page kept text (Ok value) flushed empty written = record {
  sent = page ++ text;
  appended = Appends-trans a b c page text flushed written;
  split = sym (append-nil (page ++ text)) ∙ ap (λ (t : List ℕ). (page ++ text) ++ t) (sym empty);
}
sends_flushed a b c page kept text (Err error) flushed empty (front, rest, split, part) =
    (page ++ front, rest, ap (λ (t : List ℕ). page ++ t) split ∙ sym (append_assoc page front rest), Appends-trans a b c page front flushed part)

-- a piece that was put into the buffer
pub passed_piece : {T E : Type 0} (a b : Option (List ℕ)) (n m : ℕ) (p q text : List ℕ) (result : Result T E) → Sends a p b q text result → HasCause n m result
    → Passed a n false p b m (is_err result) q text
passed_piece a b n m p q text (Ok value) sent cause = (sent, cause.later)
passed_piece a b n m p q text (Err error) sent cause = (sent, (cause.later, cause.failed))

join : (p q r s1 s2 t1 t2 : List ℕ) → p ++ t1 ≡ s1 ++ q → q ++ t2 ≡ s2 ++ r → p ++ (t1 ++ t2) ≡ (s1 ++ s2) ++ r
join p q r s1 s2 t1 t2 e f =
    sym (append_assoc p t1 t2) ∙ ap (λ (t : List ℕ). t ++ t2) e ∙ append_assoc s1 q t2 ∙ ap (λ (t : List ℕ). s1 ++ t) f ∙ sym (append_assoc s1 s2 r)

passed_none : (a : Option (List ℕ)) (n : ℕ) (f : Bool) (p : List ℕ) → Passed a n f p a n f p []
passed_none a n true p = (refl, refl)
passed_none a n false p = (record { sent = []; appended = Appends-nil a; split = append-nil p }, omega arith)

passed_next : (a b c : Option (List ℕ)) (n m k : ℕ) (f g h : Bool) (p q r t u : List ℕ) → Passed a n f p b m g q t → Passed b m g q c k h r u → Passed a n f p c k h r (t ++ u)
passed_next a b c n m k true true true p q r t u x y = (y.0 ∙ x.0, y.1 ∙ x.1)
passed_next a b c n m k true true false p q r t u x y = absurd y
passed_next a b c n m k true false h p q r t u x y = absurd x
passed_next a b c n m k false true false p q r t u x y = absurd y
passed_next a b c n m k false true true p q r t u x y = (
  subst (λ (new : Option (List ℕ)). AppendsPart a new (p ++ (t ++ u))) (sym y.0) (subst (AppendsPart a b) (append_assoc p t u) (part_more a b (p ++ t) u x.0)),
  subst (λ (j : ℕ). (n ≤ j) × Rose n j) (sym y.1) x.1,
)
passed_next a b c n m k false false true p q r t u (x, later) ((front, rest, split, part), stopped) = (
  (x.sent ++ front, rest, join p q rest x.sent front t u x.split split, Appends-trans a b c x.sent front x.appended part),
  (omega (arith, later, stopped.0), omega (arith, later, stopped.1)),
)
passed_next a b c n m k false false false p q r t u (x, earlier) (y, later) = (
  record {
    sent = x.sent ++ y.sent;
    appended = Appends-trans a b c x.sent y.sent x.appended y.appended;
    split = join p q r x.sent y.sent t u x.split y.split;
  },
  omega (arith, earlier, later),
)

-- what is known of the sink in the end: the text, and the cause of a fault
ended_by : {T E : Type 0} (a b c : Option (List ℕ)) (n m k : ℕ) (q text : List ℕ) (result : Result T E) → Passes a [] b q text → n ≤ m → Writes b c q result → HasCause m k result
    → Writes a c text result × HasCause n k result
ended_by a b c n m k q text (Ok value) x later written cause =
    (subst (Appends a c) (sym x.split) (Appends-trans a b c x.sent q x.appended written), record { later = omega (arith, later, cause.later); failed = cause.failed })
ended_by a b c n m k q text (Err error) x later written cause =
    (subst (AppendsPart a c) (sym x.split) (writes_next {T = ℕ} {E = ℕ} a b c x.sent q (Err 0) x.appended written), record { later = omega (arith, later, cause.later); failed = omega (arith, later, cause.failed) })

ended_in : {T E : Type 0} (a b c : Option (List ℕ)) (n m k : ℕ) (f g : Bool) (p q text : List ℕ) (result : Result T E) → p ≡ [] → f ≡ false → Passed a n f p b m g q text
    → MatchBool g (IsErr result × ((c ≡ b) × (k ≡ m))) (Writes b c q result × HasCause m k result) → Writes a c text result × HasCause n k result
ended_in a b c n m k true g p q text result empty fine x y = cc
ended_in a b c n m k false true p q text (Ok value) empty fine x y = cc y.0
ended_in a b c n m k false true p q text (Err error) empty fine x y = (
  subst (λ (new : Option (List ℕ)). AppendsPart a new text) (sym y.1.0) (subst (λ (page : List ℕ). AppendsPart a b (page ++ text)) empty x.0),
  rw y.1.1 (record { later = x.1.0; failed = x.1.1 }),
)
ended_in a b c n m k false false p q text result empty fine x y =
    ended_by a b c n m k q text result (subst (λ (page : List ℕ). Passes a page b q text) empty x.0) x.1 y.0 y.1

-- The texts of the items of a list, and of one more.
module _ {X : Type 0} (f : ℕ → List X → List ℕ) (line : ℕ → X → List ℕ) (more : (j : ℕ) (x : X) (xs : List X) → f j (x ∷ xs) ≡ line j x ++ f (j + 1) xs) (none : (j : ℕ) → f j [] ≡ []) where
  push : (j : ℕ) (xs : List X) (x : X) → f j (xs ++ x ∷ []) ≡ f j xs ++ line (j + length xs) x
  push j [] x =
      let e : j + 0 ≡ j = omega arith in
      rw (none j, e) (more j x [] ∙ ap (λ t. line j x ++ t) (none (j + 1)) ∙ append-nil (line j x))
  push j (y ∷ xs) x =
      let e : j + 1 + length xs ≡ j + suc (length xs) = omega arith in
      more j y (xs ++ x ∷ []) ∙ ap (λ t. line j y ++ t) (push (j + 1) xs x ∙ ap (λ i. f (j + 1) xs ++ line i x) e)
      ∙ sym (append_assoc (line j y) (f (j + 1) xs) (line (j + suc (length xs)) x)) ∙ ap (λ t. t ++ line (j + suc (length xs)) x) (sym (more j y xs))

module _ {K : Type 0} {held : K → Option (List ℕ)} {faults : K → ℕ} where
  -- The first text may be empty.
  pub wrote_none : (w : Writer K) → Wrote held faults w w []
  wrote_none w = record { sink = refl; passed = passed_none (held w.sink.now) (faults w.sink.now) w.failed w.page }

  -- nothing is written to a sink that has failed
  pub wrote_failed : (w : Writer K) (text : List ℕ) → w.failed ≡ true → Wrote held faults w w text
  wrote_failed w text e = record { sink = refl; passed = subst (λ (f : Bool). Passed (held w.sink.now) (faults w.sink.now) f w.page (held w.sink.now) (faults w.sink.now) f w.page text) (sym e) (refl, refl) }

  -- one text, and then another
  pub wrote_next : (u v w : Writer K) (s t : List ℕ) → Wrote held faults u v s → Wrote held faults v w t → Wrote held faults u w (s ++ t)
  wrote_next u v w s t x y = record {
    sink = y.sink ∙ x.sink;
    passed = passed_next (held u.sink.now) (held v.sink.now) (held w.sink.now) (faults u.sink.now) (faults v.sink.now) (faults w.sink.now) u.failed v.failed w.failed u.page v.page w.page s t x.passed y.passed;
  }

  infixr 10 ◌▷◌
  pub ◌▷◌ : {u v w : Writer K} {s t : List ℕ} → Wrote held faults u v s → Wrote held faults v w t → Wrote held faults u w (s ++ t)
  x ▷ y = wrote_next _ _ _ _ _ x y

  -- the same text, as another term
  pub wrote_as : (u v : Writer K) (text same : List ℕ) → text ≡ same → Wrote held faults u v text → Wrote held faults u v same
  wrote_as u v text same e x = subst (λ (t : List ℕ). Wrote held faults u v t) e x

  -- the end of a text that a new writer wrote
  ended : {T E : Type 0} (u v : Writer K) (sink : K) (text : List ℕ) (result : Result T E) → u.page ≡ [] → u.failed ≡ false → Wrote held faults u v text → Ended held faults v sink result
      → Writes (held u.sink.now) (held sink) text result × HasCause (faults u.sink.now) (faults sink) result
  ended u v sink text result empty fine x y = ended_in (held u.sink.now) (held v.sink.now) (held sink) (faults u.sink.now) (faults v.sink.now) (faults sink) u.failed v.failed u.page v.page text result empty fine x.passed y.flushed

  pub ended_text : {T E : Type 0} (u v : Writer K) (sink : K) (text : List ℕ) (result : Result T E) → u.page ≡ [] → u.failed ≡ false → Wrote held faults u v text → Ended held faults v sink result
      → Writes (held u.sink.now) (held sink) text result
  ended_text u v sink text result empty fine x y = (ended u v sink text result empty fine x y).0

  pub ended_cause : {T E : Type 0} (u v : Writer K) (sink : K) (text : List ℕ) (result : Result T E) → u.page ≡ [] → u.failed ≡ false → Wrote held faults u v text → Ended held faults v sink result
      → HasCause (faults u.sink.now) (faults sink) result
  ended_cause u v sink text result empty fine x y = (ended u v sink text result empty fine x y).1

  -- A text that is written up to a rest.
  pub up_none : (whole : List ℕ) (w : Writer K) → WroteUpTo held faults whole whole w w
  up_none whole w = record { done = []; split = refl; wrote = wrote_none w }

  pub up_next : (whole rest piece more : List ℕ) (u v w : Writer K) → rest ≡ piece ++ more → WroteUpTo held faults whole rest u v → Wrote held faults v w piece → WroteUpTo held faults whole more u w
  up_next whole rest piece more u v w e so_far now = record {
    done = so_far.done ++ piece;
    split = so_far.split ∙ ap (λ (t : List ℕ). so_far.done ++ t) e ∙ sym (append_assoc so_far.done piece more);
    wrote = wrote_next u v w so_far.done piece so_far.wrote now;
  }

  -- and then the rest
  pub up_rest : (whole rest last : List ℕ) (u v w : Writer K) → rest ≡ last → WroteUpTo held faults whole rest u v → Wrote held faults v w last → Wrote held faults u w whole
  up_rest whole rest last u v w e so_far now =
      wrote_as u w (so_far.done ++ last) whole (sym (so_far.split ∙ ap (λ (t : List ℕ). so_far.done ++ t) e)) (wrote_next u v w so_far.done last so_far.wrote now)

  pub up_end : (whole rest : List ℕ) (u v : Writer K) → rest ≡ [] → WroteUpTo held faults whole rest u v → Wrote held faults u v whole
  up_end whole rest u v e so_far = up_rest whole rest [] u v v e so_far (wrote_none v)

  -- The texts of the items of a list, up to one of them.
  module _ {X : Type 0} (f : ℕ → List X → List ℕ) (line : ℕ → X → List ℕ) (more : (j : ℕ) (x : X) (xs : List X) → f j (x ∷ xs) ≡ line j x ++ f (j + 1) xs) (none : (j : ℕ) → f j [] ≡ []) where
    pub each_at : (xs : List X) (i : ℕ) (x : X) (u v w : Writer K) → i < length xs → x ≡ get_or xs i x
        → Wrote held faults u v (f 0 (take i xs)) → Wrote held faults v w (line i x) → Wrote held faults u w (f 0 (take (i + 1) xs))
    each_at xs i x u v w h is before now =
        let long : length (take i xs) ≡ i = length-take-le i xs (omega arith) in
        let from_0 : 0 + i ≡ i = omega arith in
        rw (take_more xs i x h, ← is, push f line more none 0 (take i xs) x, long, from_0) (wrote_next u v w _ _ before now)

  pub each_more : {X : Type 0} (f : X → List ℕ) (xs : List X) (i : ℕ) (x : X) (u v w : Writer K) → i < length xs → x ≡ get_or xs i x
      → Wrote held faults u v (flat_map f (take i xs)) → Wrote held faults v w (f x) → Wrote held faults u w (flat_map f (take (i + 1) xs))
  each_more f = each_at (λ _. flat_map f) (λ _. f) (λ _ _ _. refl) (λ _. refl)

  pub each_all : {X : Type 0} (f : X → List ℕ) (xs : List X) (i : ℕ) (u v : Writer K) → length xs ≤ i → Wrote held faults u v (flat_map f (take i xs)) → Wrote held faults u v (flat_map f xs)
  each_all f xs i u v h written = rw (take_all i xs h) at written

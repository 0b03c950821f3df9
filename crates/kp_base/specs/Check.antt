-- A check in two forms: the list of answers to its questions, which a reader has to trust, and the same check step by
-- step, as a program runs it. A field says that the two agree, so each rule is written once.
use Rattle.std.specs.Prelude.{◌≡◌, List, [], ◌∷◌, ◌++◌, Option, Some, None, Result, Ok, Err, Bool, true, false, if◌then◌else◌, ⊤}
use Rattle.std.proofs.Common.{refl, ap, sym, ◌∙◌}
use Rattle.kp_base.specs.{First.first, declared.refusal.Refusal.Refusal, declared.refusal.Refused.Refused}
use Rattle.kp_base.specs.declared.refusal.Refused.TheVariants.{Rule, NoMemory}

-- a violated rule, or none
abbrev pub Answer : Type 0
Answer = Option Refusal

-- the outcome that follows if no rule is violated, or what was found
abbrev pub after : {F X : Type 0} → Option F → Result X F → Result X F
after None next = next
after (Some finding) next = Err finding

-- a step, and then the step computed from its value
abbrev pub bind : {F X Y : Type 0} → Result X F → (X → Result Y F) → Result Y F
bind (Ok x) next = next x
bind (Err finding) next = Err finding

-- `F` says what is found: a violated rule, or a finding with its facts. `asked` has the answers in order, `value` is the result if none of them is a violated rule (later answers after a
-- violated rule don't matter), and `found` is the outcome step by step
pub record Check (F X : Type 0) : Type 0 where
  pub value : X
  pub asked : List (Option F)
  pub found : Result X F
  pub same : found ≡ after (first asked) (Ok value)

-- no question
abbrev pub ok : {F X : Type 0} → X → Check F X
ok x = record { value = x; asked = []; found = Ok x; same = refl }

-- the rule is violated if the test fails
abbrev pub answer : {F : Type 0} → Bool → F → Option F
answer holds finding = if holds then None else Some finding

abbrev pub unless : {F X : Type 0} → Bool → F → Result X F → Result X F
unless holds finding next = if holds then next else Err finding

pub unless_same : {F X : Type 0} (holds : Bool) (finding : F) (c : Check F X) → unless holds finding c.found ≡ after (first (answer holds finding ∷ c.asked)) (Ok c.value)
unless_same true finding c = c.same
unless_same false finding c = refl

-- a rule that must hold, and the check that follows
abbrev pub wants : {F X : Type 0} → Bool → F → Check F X → Check F X
wants holds finding c = record {
  value = c.value;
  asked = answer holds finding ∷ c.asked;
  found = unless holds finding c.found;
  same = unless_same holds finding c;
}

after_append : {F X : Type 0} (xs ys : List (Option F)) (next : Result X F) → after (first (xs ++ ys)) next ≡ after (first xs) (after (first ys) next)
after_append [] ys next = refl
after_append (None ∷ xs) ys next = after_append xs ys next
after_append (Some finding ∷ xs) ys next = refl

bind_after : {F X Y : Type 0} (broken : Option F) (x : X) (next : X → Result Y F) → bind (after broken (Ok x)) next ≡ after broken (next x)
bind_after None x next = refl
bind_after (Some finding) x next = refl

pub bind_same : {F X Y : Type 0} (c : Check F X) (next : X → Check F Y) → bind c.found (λ x. (next x).found) ≡ after (first (c.asked ++ (next c.value).asked)) (Ok (next c.value).value)
bind_same c next =
    ap (λ r. bind r (λ x. (next x).found)) c.same
    ∙ bind_after (first c.asked) c.value (λ x. (next x).found)
    ∙ ap (after (first c.asked)) (next c.value).same
    ∙ sym (after_append c.asked (next c.value).asked (Ok (next c.value).value))

-- a check, and then one computed from its value: the questions of the first come before those of the second
infixl 10 ◌>>=◌
abbrev pub ◌>>=◌ : {F X Y : Type 0} → Check F X → (X → Check F Y) → Check F Y
c >>= next = record {
  value = (next c.value).value;
  asked = c.asked ++ (next c.value).asked;
  found = bind c.found (λ x. (next x).found);
  same = bind_same c next;
}

-- what a call that runs step by step returns: the outcome of the steps, where `value` maps its result to what is specified; or out of memory
abbrev pub Gives : {T X : Type 0} → Result T Refused → Result X Refusal → (T → X) → Type 0
Gives (Ok t) found value = found ≡ Ok (value t)
Gives (Err (Rule refusal)) found value = found ≡ Err refusal
Gives (Err NoMemory) found value = ⊤

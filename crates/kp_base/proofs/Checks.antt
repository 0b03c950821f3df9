-- The outcome step by step is the first answer.
use Rattle.std.proofs.Common.{◌≡◌, ◌∙◌, Option, Some, None, Result, Ok, Err, refl, sym}
use Rattle.kp_base.specs.{First.first, First.Answers, Check.Check, Check.Gives, Check.after, declared.refusal.Refusal.Refusal}
use Rattle.kp_base.specs.declared.refusal.Refused.{Refused, TheVariants.Rule, TheVariants.NoMemory}

ok_of : {F X : Type 0} (broken : Option F) (x y : X) → after broken (Ok x) ≡ Ok y → (broken ≡ None) × (y ≡ x)
ok_of None x y e = (refl, cc)
ok_of (Some refusal) x y e = cc

err_of : {F X : Type 0} (broken : Option F) (x : X) (refusal : F) → after broken (Ok x) ≡ Err refusal → broken ≡ Some refusal
err_of None x refusal e = cc
err_of (Some other) x refusal e = cc

-- a call that runs step by step returns what the list of answers specifies
pub answers_from_steps : {T X : Type 0} (result : Result T Refused) (c : Check Refusal X) (value : T → X) → Gives result c.found value → Answers result (first c.asked) (λ t. value t ≡ c.value)
answers_from_steps (Ok t) c value gives = ok_of (first c.asked) c.value (value t) (sym c.same ∙ gives)
answers_from_steps (Err (Rule refusal)) c value gives = err_of (first c.asked) c.value refusal (sym c.same ∙ gives)
answers_from_steps (Err NoMemory) c value gives = gives

-- Stepping through a text to the end of its first module.
use Rattle.std.proofs.Common.{ℕ, ◌+◌, ◌≤◌, ◌<◌, ◌≡◌, ◌∙◌, Bool, true, false, cond, List, length, length-drop, drop, refl, sym, ap, subst, arith}
use Rattle.kp_vlog.specs.Tokens.{Word, Front, front, finish, skips, takes, broken}
use Rattle.kp_vlog.specs.Splitting.{FirstEnds, closes, over, faulty, past_gap, past_token}
use Rattle.kp_vlog.specs.{declared.lead.Lead.Lead, inner.Leads.is_endmodule, inner.Leads.lead_of}
use Rattle.kp_vlog.proofs.Ends.{endmodule_is, endmodule_not, skips_fit, takes_fit}
use Rattle.kp_vlog.specs.declared.lead.Lead.TheVariants as leads

-- What ends the first module from here ends it from the offset where the call started.
pub record Parting (text : List ℕ) (from start : ℕ) (rest : List ℕ) : Type 0 where
  pub leads : (to : ℕ) → FirstEnds start rest to → FirstEnds from (drop from text) to
  pub within : start + length rest ≡ length text
  pub after : from ≤ start

-- what the code computes of the front
pub data Reported (text : List ℕ) : Lead → Type 0 where
  ended : front text ≡ finish → Reported text leads.Stops
  stuck : front text ≡ broken → Reported text leads.Stops
  gap : (n : ℕ) → front text ≡ skips n → Reported text (leads.Past n)
  closing : (w : Word) (n : ℕ) → front text ≡ takes w n → is_endmodule w ≡ true → Reported text (leads.Closes n)
  other : (w : Word) (n : ℕ) → front text ≡ takes w n → is_endmodule w ≡ false → Reported text (leads.Past n)

report_of : (text : List ℕ) → Reported text (lead_of (front text))
report_of text = by (front text) refl
  where
    token : (w : Word) (n : ℕ) → front text ≡ takes w n → (b : Bool) → is_endmodule w ≡ b → Reported text (cond b (leads.Closes n) (leads.Past n))
    token w n e true is = closing w n e is
    token w n e false is = other w n e is

    by : (f : Front) → front text ≡ f → Reported text (lead_of f)
    by finish e = ended e
    by broken e = stuck e
    by (skips n) e = gap n e
    by (takes w n) e = token w n e (is_endmodule w) refl

pub reported : (text : List ℕ) (l : Lead) → l ≡ lead_of (front text) → Reported text l
reported text l e = subst (Reported text) (sym e) (report_of text)

pub past_fits : (text : List ℕ) (n : ℕ) → Reported text (leads.Past n) → (0 < n) × (n ≤ length text)
past_fits text n (gap m e) = skips_fit text m e
past_fits text n (other w m e is) = takes_fit text w m e

pub closes_fits : (text : List ℕ) (n : ℕ) → Reported text (leads.Closes n) → (0 < n) × (n ≤ length text)
closes_fits text n (closing w m e is) = takes_fit text w m e

module _ (text : List ℕ) (from start : ℕ) (rest : List ℕ) (h : Parting text from start rest) where
  pub stopped : Reported rest leads.Stops → FirstEnds from (drop from text) (length text)
  stopped (ended e) = h.leads (length text) (subst (FirstEnds start rest) h.within (over e))
  stopped (stuck e) = h.leads (length text) (subst (FirstEnds start rest) h.within (faulty e))

  pub closed : (n : ℕ) → Reported rest (leads.Closes n) → FirstEnds from (drop from text) (start + n)
  closed n (closing w m e is) = h.leads (start + m) (closes m (e ∙ ap (λ (v : Word). takes v m) (endmodule_is w is)))

  pub passed : (n : ℕ) → Reported rest (leads.Past n) → Parting text from (start + n) (drop n rest)
  passed n t = record {
    leads = λ to l. h.leads to (goes n t to l);
    within = (let w = h.within in let l = (past_fits rest n t).1 in omega (arith, length-drop n rest));
    after = (let a = h.after in omega arith);
  }
    where
      goes : (n : ℕ) → Reported rest (leads.Past n) → (to : ℕ) → FirstEnds (start + n) (drop n rest) to → FirstEnds start rest to
      goes n (gap m e) to l = past_gap m e l
      goes n (other w m e is) to l = past_token w m e (endmodule_not w is) l

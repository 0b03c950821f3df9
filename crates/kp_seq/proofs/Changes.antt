-- What a put and a set change in the lists, and what they change in functions.
use Rattle.std.proofs.Common.{◌≡◌, ◌∙◌, ℕ, zero, suc, ◌<◌, List, [], ◌∷◌, Option, Some, None, Bool, true, false, cond, get_or, set, length, refl, ap, sym, arith}
use Rattle.std.proofs.{Math.Dec.eqb-suc-zero, Math.Dec.eqb-zero-suc, Math.Dec.eqb-suc-suc, lemmas.Bool.eqb-true}
use Rattle.std.specs.Prelude.{slice_index, unwrap_or, ◌==◌}
use Rattle.kp_pipeline.specs.Sequential.{first_value}
use Rattle.kp_machine.specs.Trees.{with_value}

-- a list that is changed at an index
pub set_seen : {X : Type 0} (xs : List X) (p : ℕ) (v d : X) (i : ℕ) → p < length xs → get_or (set xs p v) i d ≡ cond (i == p) v (get_or xs i d)
set_seen [] p v d i h = absurd (omega arith)
set_seen (x ∷ xs) zero v d zero h = refl
set_seen (x ∷ xs) zero v d (suc i) h = sym (ap (λ b. cond b v (get_or xs i d)) (eqb-suc-zero i))
set_seen (x ∷ xs) (suc p) v d zero h = sym (ap (λ b. cond b v x) (eqb-zero-suc p))
set_seen (x ∷ xs) (suc p) v d (suc i) h = set_seen xs p v d i (omega arith) ∙ sym (ap (λ b. cond b v (get_or xs i d)) (eqb-suc-suc i p))

pub first_assoc : (a b c : Option ℕ) → first_value (first_value a b) c ≡ first_value a (first_value b c)
first_assoc None b c = refl
first_assoc (Some x) b c = refl

pub first_none : (a : Option ℕ) → first_value a None ≡ a
first_none None = refl
first_none (Some x) = refl

put_by : (b : Bool) (v x c : ℕ) (o : Option ℕ) → x ≡ unwrap_or o c → cond b v x ≡ unwrap_or (cond b (Some v) o) c
put_by true v x c o e = refl
put_by false v x c o e = e

-- a pipe that is put
pub put_same : (pipes : List ℕ) (puts : ℕ → Option ℕ) (before : ℕ → ℕ) (p v : ℕ) → p < length pipes → ((i : ℕ) → slice_index pipes i ≡ unwrap_or (puts i) (before i))
    → (i : ℕ) → slice_index (set pipes p v) i ≡ unwrap_or (with_value p v puts i) (before i)
put_same pipes puts before p v h same i = set_seen pipes p v 0 i h ∙ put_by (i == p) v (slice_index pipes i) (before i) (puts i) (same i)

set_by : (b : Bool) (r : Option ℕ) (v : ℕ) (old sets : Option ℕ) → r ≡ first_value old sets
    → cond b (first_value r (Some v)) r ≡ first_value old (first_value sets (cond b (Some v) None))
set_by true r v old sets e = ap (λ x. first_value x (Some v)) e ∙ first_assoc old sets (Some v)
set_by false r v old sets e = e ∙ ap (first_value old) (sym (first_none sets))

at_same : (b : Bool) (i p : ℕ) (f : ℕ → Option ℕ) (r : Option ℕ) (v : ℕ) → (b ≡ true → i ≡ p) → cond b (first_value (f p) (Some v)) (f i) ≡ cond b (first_value (f i) (Some v)) (f i)
at_same true i p f r v h = ap (λ x. first_value (f x) (Some v)) (sym (h refl))
at_same false i p f r v h = refl

-- a result that is set; its first value counts
pub set_same : (results : List (Option ℕ)) (sets : ℕ → Option ℕ) (before : ℕ → Option ℕ) (p v : ℕ) → p < length results
    → ((i : ℕ) → get_or results i None ≡ first_value (before i) (sets i))
    → (i : ℕ) → get_or (set results p (first_value (get_or results p None) (Some v))) i None ≡ first_value (before i) (first_value (sets i) (with_value p v (λ u. None) i))
set_same results sets before p v h same i =
    set_seen results p (first_value (get_or results p None) (Some v)) None i h
    ∙ at_same (i == p) i p (λ x. get_or results x None) None v (λ e. eqb-true i p e)
    ∙ set_by (i == p) (get_or results i None) v (before i) (sets i) (same i)

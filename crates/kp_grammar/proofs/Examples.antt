-- The laws at the small grammar.
use Rattle.std.proofs.Common.{ℕ, ◌≡◌, [], ◌∷◌, true, false, refl, arith}
use Rattle.std.specs.Prelude.{nat_lt}
use Rattle.kp_grammar.specs.Sample.{round, Token, number, plus, opening, closing, State, Way, plainly, as_value, as_opening, as_closing, Step, add, SUM, tables, sums, start, is_over}
use Rattle.kp_grammar.specs.{Grammar.stay, Grammar.IsSentence, Grammar.IsWrongAt, Grammar.IsLimit, Grammar.IsOverAt, Tables.IsPredictive}
use Rattle.kp_grammar.specs.{Machine.goes, Machine.take, Machine.wrong, Machine.exceed, Ranks.Ranks, Ranks.ranks_fit}
use Rattle.kp_grammar.proofs.Derivations.{wrong_at, over_at, computed}

pub predictive : IsPredictive sums tables SUM
predictive = record { fits = refl; ends = refl }

stays_over : (way : Way) (t : Token) (v : State) → v.over ≡ true → (sums.reads way t v).over ≡ true
stays_over plainly t v h = h
stays_over as_value t v h = h
stays_over as_opening t v h = rw h refl
stays_over as_closing t v h = h

pub limit : IsLimit sums is_over
limit = record { keeps = λ a v. keep a v; stays = stays_over }
  where
    keep : (a : Step) (v : State) → (sums.builds a v).over ≡ v.over
    keep add v = refl

-- 1 + (2 + 3) is 6.
pub six : IsSentence sums SUM start (number 1 ∷ plus ∷ opening ∷ number 2 ∷ plus ∷ number 3 ∷ closing ∷ []) (record { depth = 0; over = false; sums = 6 ∷ [] })
six = computed sums tables 19 refl stay

-- In 1 + ) the last token is wrong.
pub wrong_third : IsWrongAt sums SUM start (number 1 ∷ plus ∷ closing ∷ []) 1
wrong_third = wrong_at sums tables SUM predictive {over = is_over}
    (goes _ refl (goes _ refl (take refl refl (goes _ refl (take refl refl (goes _ refl (wrong (λ h. cc))))))))

-- In ( ( ( the last token passes the limit.
pub over_third : IsOverAt sums is_over SUM start (opening ∷ opening ∷ opening ∷ []) 1
over_third = over_at sums tables SUM predictive is_over limit refl
    (goes _ refl (goes _ refl (take refl refl (goes _ refl (goes _ refl (take refl refl (goes _ refl (goes _ refl (exceed refl refl)))))))))

not_below_itself : (n : ℕ) → nat_lt n n ≡ false
not_below_itself n = grind arith

-- A name that leads back to itself would be of lower rank than itself.
pub unranked : (some : Ranks) → ranks_fit tables some round ≡ false
unranked some = rw (not_below_itself (some SUM)) refl

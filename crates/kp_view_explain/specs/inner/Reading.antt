-- What is read of a text before its tree is judged.
use Rattle.std.specs.Prelude.{ℕ, List}
use Rattle.kp_base.specs.declared.refusal.Refusal.{Refusal}
use Rattle.kp_frontend.specs.inner.Reading.{IsRead, IsUnread}
use Rattle.kp_view_explain.specs.{inner.Found.IsOfRule, inner.Naming.ListsAfter, Listing.ListsNext, declared.explanation.Explanation.Explanation, declared.reading.Reading.Reading}
use Rattle.kp_view_explain.specs.declared.reading.Reading.TheVariants as readings

abbrev pub IsReadAs : List ℕ → List ℕ → Reading → Type 0
IsReadAs file text (readings.Tree parsed) = IsRead text parsed
IsReadAs file text (readings.Refused e) = (refusal : Refusal) × IsUnread text refusal × IsOfRule file text refusal e × ListsAfter file text refusal e.text.items

-- the explanation of the first rule that the job at the head of a text violates
abbrev pub IsOfHead : List ℕ → List ℕ → Refusal → Explanation → Type 0
IsOfHead file text refusal e = IsOfRule file text refusal e × ListsNext file text e.text.items

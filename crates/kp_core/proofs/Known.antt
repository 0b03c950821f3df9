-- Where the bytes of a source are known, the outcome is the one for all of them.
use Rattle.std.proofs.Common.{true, ◌≡◌, ◌∙◌, ◌⊎◌, ℕ, List, [], ◌++◌, length, None, Some, Ok, Err, sym, ap, subst, inl, inr, arith, append-nil, length-append, IfSome}
use Rattle.std.specs.declared.{option.Option.Option}
use Rattle.kp_ast.specs.declared.tree.Job.{Job}
use Rattle.kp_frontend.specs.Judging.{JudgesHead, JudgesHead.head_over, JudgesHead.head_within}
use Rattle.kp_core.specs.{declared.request.Form.Form, Words.Asked, Words.write, Words.reads_input, Due.DueFor, Due.IsDue, Due.IsWhole, Due.Prints}

-- what is too long has no job
never_long : (taken : List ℕ) (job : Job) (at : ℕ) → length taken ≡ 16777217 → JudgesHead taken (Ok (job, at)) → ⊥
never_long taken job at count (head_within short judged) = omega (arith, short, count)

ends_or_long : (taken rest : List ℕ) → IsWhole true taken (Some rest) → (rest ≡ []) ⊎ (length taken ≡ 16777217)
ends_or_long taken rest (inl (end, short)) = inl end
ends_or_long taken rest (inr count) = inr count

-- what was read of an input that is too long has the outcome of all of it
over : (form : Form) (file : Option (List ℕ)) (taken rest : List ℕ) (status : ℕ) (text : List ℕ) → length taken ≡ 16777217 → DueFor (write form file) taken status text
    → DueFor (write form file) (taken ++ rest) status text
over form file taken rest status text count (Ok (job, at), judged, due) = absurd (never_long taken job at count judged)
over form file taken rest status text count (Err refusal, head_within short judged, due) = absurd (omega (arith, short, count))
over form file taken rest status text count (Err refusal, head_over long, due) =
    let more = length-append taken rest in
    (Err refusal, head_over (simp length-append (omega arith)), (due.0, (due.1.0, λ few. absurd (omega (arith, count, more, few)))))

due_all : (asked : Asked) (taken rest : List ℕ) (status : ℕ) (text : List ℕ) → IsWhole (reads_input asked) taken (Some rest) → DueFor asked taken status text
    → DueFor asked (taken ++ rest) status text
due_all (write form file) taken rest status text whole due = go (ends_or_long taken rest whole)
  where
    go : ((rest ≡ []) ⊎ (length taken ≡ 16777217)) → DueFor (write form file) (taken ++ rest) status text
    go (inl none) =
        let all : taken ++ rest ≡ taken = ap (λ (r : List ℕ). taken ++ r) none ∙ append-nil taken in
        subst (λ (bytes : List ℕ). DueFor (write form file) bytes status text) (sym all) due
    go (inr count) = over form file taken rest status text count due
due_all _ taken rest status text whole due = due

for_all_bytes : (asked : Asked) (left left_after : Option (List ℕ)) (status : ℕ) (text : List ℕ) → IsDue asked left left_after status text
    → IfSome left (λ input. DueFor asked input status text)
for_all_bytes asked None left_after status text due = tt
for_all_bytes asked (Some input) None status text due = absurd due.consumed
for_all_bytes asked (Some input) (Some rest) status text due =
    subst (λ (bytes : List ℕ). DueFor asked bytes status text) (sym due.consumed) (due_all asked due.taken rest status text due.whole due.due)

-- and it was printed
module _ {S T : Type 0} (held : S → Option (List ℕ)) (held_err : T → Option (List ℕ)) (old new : S) (old_err new_err : T) (asked : Asked) where
  pub complete : (left left_after : Option (List ℕ)) (status : ℕ) (text : List ℕ) → IsDue asked left left_after status text
      → Prints held held_err old new old_err new_err status text
      → IfSome left (λ input. (t : List ℕ) × DueFor asked input status t × Prints held held_err old new old_err new_err status t)
  complete None left_after status text due prints = tt
  complete (Some input) left_after status text due prints = (text, for_all_bytes asked (Some input) left_after status text due, prints)

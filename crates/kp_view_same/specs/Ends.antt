-- How a call ends: what is in the sinks after it, by its result.
use Rattle.std.specs.Prelude.{◌≡◌, ◌⊎◌, ℕ, ◌==◌, Bool, true, false, List, Option, Result, Ok, Err}
use Rattle.std.specs.Io.KnownBytes.{Appends}
use Rattle.kp_base.specs.{Bytes.AppendsPart, Causes.Rose}
use Rattle.kp_view_same.specs.declared.top.{Side.TheVariants.First, Side.TheVariants.Second, Stop.Stop}
use Rattle.kp_view_same.specs.declared.top.Stop.TheVariants.{Unread, Unwritten, NoMemory}

module _ {S T : Type 0} (held : S → Option (List ℕ)) (held_err : T → Option (List ℕ)) where
  -- a fact about standard error for status 2, or about standard output for any other; nothing was written to the other one
  abbrev pub WrittenTo : Bool → (Option (List ℕ) → Option (List ℕ) → Type 0) → (old new : S) (old_err new_err : T) → Type 0
  WrittenTo true Fact old new old_err new_err = (new ≡ old) × Fact (held_err old_err) (held_err new_err)
  WrittenTo false Fact old new old_err new_err = Fact (held old) (held new) × (new_err ≡ old_err)

  -- the complete text was appended, or a prefix of it
  abbrev pub Prints : (old new : S) (old_err new_err : T) → ℕ → List ℕ → Type 0
  Prints old new old_err new_err status text = WrittenTo (status == 2) (λ before after. Appends before after text) old new old_err new_err

  abbrev pub PrintsPart : (old new : S) (old_err new_err : T) → ℕ → List ℕ → Type 0
  PrintsPart old new old_err new_err status text = WrittenTo (status == 2) (λ before after. AppendsPart before after text) old new old_err new_err

  -- THE END. With a status an expected text was printed in full. A failure only if that source or a sink failed in this call, and a prefix of an expected text
  -- was printed if a sink did, and nothing else. Out of memory only with nothing written. `First` and `Second` are what a failed read shows of the sources.
  abbrev pub EndsAt : (S → ℕ) → (T → ℕ) → (FirstFailed SecondFailed : Type 0) → (ℕ → List ℕ → Type 0) → (old new : S) (old_err new_err : T) → Result ℕ Stop → Type 0
  EndsAt faults faults_err FirstFailed SecondFailed Due old new old_err new_err (Ok status) =
      (text : List ℕ) × Due status text × Prints old new old_err new_err status text
  EndsAt faults faults_err FirstFailed SecondFailed Due old new old_err new_err (Err (Unread First)) = FirstFailed × (new ≡ old) × (new_err ≡ old_err)
  EndsAt faults faults_err FirstFailed SecondFailed Due old new old_err new_err (Err (Unread Second)) = SecondFailed × (new ≡ old) × (new_err ≡ old_err)
  EndsAt faults faults_err FirstFailed SecondFailed Due old new old_err new_err (Err Unwritten) =
      (Rose (faults old) (faults new) ⊎ Rose (faults_err old_err) (faults_err new_err))
      × (status : ℕ) × (text : List ℕ) × Due status text × PrintsPart old new old_err new_err status text
  EndsAt faults faults_err FirstFailed SecondFailed Due old new old_err new_err (Err NoMemory) = (new ≡ old) × (new_err ≡ old_err)

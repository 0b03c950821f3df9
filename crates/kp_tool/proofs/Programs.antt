-- The ends of `asm`: from an assembler program to the specified outcome.
use Rattle.std.proofs.Common.{◌≡◌, ◌∙◌, ℕ, ◌≤◌, List, length, Ok, Err, Some, refl, sym, subst}
use Rattle.std.{proofs.lemmas.Bool.le-ltb, specs.declared.option.Option.Option, specs.declared.result.Result.Result}
use Rattle.kp_base.specs.{Check.Gives, declared.refusal.Refusal.Refusal, declared.refusal.Refused.Refused}
use Rattle.kp_base.specs.declared.refusal.Refused.TheVariants as refused
use Rattle.kp_asm.specs.{Image.image_text_of, Program.assembled}
use Rattle.kp_words.specs.declared.commands.Command.TheVariants.{Assemble}
use Rattle.kp_report.specs.Texts.{refusal_line}
use Rattle.kp_tool.specs.{Due.DueFor, Due.DueOfProgram, Due.program_of, Ends.Ends, inner.Failures.failure_of, declared.failure.Failure.Failure}

is_assembled : (input : List ℕ) → length input ≤ 16777216 → program_of input ≡ assembled input
unfolding program_of
is_assembled input short = rw (le-ltb 16777216 (length input) short) refl

-- the outcome for a program is that of what it assembles to
due_by : (input : List ℕ) (found : Result (List ℕ) Refusal) (status : ℕ) (text : List ℕ) → length input ≤ 16777216 → assembled input ≡ found
    → DueOfProgram found status text → DueFor (Some Assemble) input status text
due_by input found status text short is due =
    subst (λ (r : Result (List ℕ) Refusal). DueOfProgram r status text) (sym (is_assembled input short ∙ is)) due

-- the section with its words
pub program_is_due : (input words section : List ℕ) → length input ≤ 16777216 → assembled input ≡ Ok words → section ≡ image_text_of words
    → DueFor (Some Assemble) input 0 section
program_is_due input words section short is text = due_by input (Ok words) 0 section short is (refl, text)

-- or the first rule that it violates
pub refused_program : {S T : Type 0} (held : S → Option (List ℕ)) (faults : S → ℕ) (value : T → List ℕ) (input : List ℕ) → length input ≤ 16777216
    → (s : S) (e : Refused) (f : Failure) → f ≡ failure_of e → Gives (Err e) (assembled input) value → Ends held faults ⊥ (DueFor (Some Assemble) input) s s (Err f)
refused_program held faults value input short s (refused.Rule refusal) f is given =
    rw is (refl, due_by input (Err refusal) 2 (refusal_line refusal) short given (refl, refl))
refused_program held faults value input short s refused.NoMemory f is given = rw is refl

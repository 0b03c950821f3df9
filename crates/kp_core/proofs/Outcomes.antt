-- From the verdicts of the readers to what is specified.
use Rattle.std.proofs.Common.{◌≡◌, ◌≤◌, ◌∙◌, ℕ, List, [], length, None, Some, Err, ap, sym, subst, inl, inr, refl, arith}
use Rattle.std.specs.{declared.option.Option.Option, Io.KnownBytes.Consumes, Io.KnownBytes.IsAtEnd}
use Rattle.kp_ast.specs.declared.tree.Job.{Job}
use Rattle.kp_net.specs.Netlist.{Net}
use Rattle.kp_synth_registers.specs.Keys.{keys_of}
use Rattle.kp_synth.specs.Carrying.{Carries}
use Rattle.kp_frontend.specs.Judging.{too_long, JudgesHead.head_over, JudgesHead.head_within}
use Rattle.kp_view_texts.specs.Heads.{rule_head}
use Rattle.kp_core.specs.{Messages.BeginsWith, Messages.file_name, Words.Asked, Words.help, Words.write, declared.texts.TheConstants.HELP}
use Rattle.kp_core.specs.{declared.request.Form.Form, Due.DueOfHead, Due.DueOfVerdict, Due.IsDue}

-- a netlist whose registers hold the state of the pipeline has one for each key of the job
pub all_registers : (net : Net) (job other : Job) → Carries net job → other ≡ job → length net.parts.regs ≡ length (keys_of other)
all_registers net job other carries same = (carries.runs [] (λ k d l. absurd (omega (arith, l)))).keys ∙ ap (λ (j : Job). length (keys_of j)) (sym same)

-- the whole input of a source, which isn't too long
pub of_input : (form : Form) (name : Option (List ℕ)) (file : List ℕ) (old new : Option (List ℕ)) (input : List ℕ) (status : ℕ) (text : List ℕ) → file ≡ file_name name
    → Consumes old new input → IsAtEnd new → length input ≤ 16777216 → DueOfHead form file input status text → IsDue (write form name) old new status text
of_input form name file old new input status text is consumed end few (verdict, judged, due) = record {
  taken = input;
  consumed = consumed;
  whole = inl (end, few);
  due = (verdict, head_within few judged, subst (λ (f : List ℕ). DueOfVerdict form f input verdict status text) is due);
}

-- an input that is too long
pub of_excess : (form : Form) (name : Option (List ℕ)) (file : List ℕ) (old new : Option (List ℕ)) (input : List ℕ) (status : ℕ) (text : List ℕ) → file ≡ file_name name
    → Consumes old new input → length input ≡ 16777217 → (status ≡ 2) × BeginsWith (rule_head file too_long) text → IsDue (write form name) old new status text
of_excess form name file old new input status text is consumed count said = record {
  taken = input;
  consumed = consumed;
  whole = inr count;
  due = (Err too_long, head_over (omega (arith, count)), subst (λ (f : List ℕ). DueOfVerdict form f input (Err too_long) status text) is (said.0, (said.1, λ few. absurd (omega (arith, count, few)))));
}

nothing_taken : (left : Option (List ℕ)) → Consumes left left []
nothing_taken None = tt
nothing_taken (Some input) = refl

-- help, which reads nothing
pub helped : (asked : Asked) (left : Option (List ℕ)) (status : ℕ) (text : List ℕ) → asked ≡ help → status ≡ 0 → text ≡ HELP.now → IsDue asked left left status text
helped asked left status text is none same = subst (λ (a : Asked). IsDue a left left status text) (sym is) (record {
  taken = [];
  consumed = nothing_taken left;
  whole = refl;
  due = (none, same);
})

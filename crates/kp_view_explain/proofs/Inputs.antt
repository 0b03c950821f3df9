-- From what the readers find to what is said of the input of a source.
use Rattle.std.proofs.Common.{◌≡◌, ◌<◌, ◌≤◌, ℕ, Bool, List, [], ◌++◌, length, drop, Ok, Err, Some, None, inl, inr, refl, ap, sym, subst, arith}
use Rattle.std.proofs.lemmas.Option.{IfSome_then}
use Rattle.std.specs.{declared.option.Option.Option, Io.KnownBytes.Consumes, Io.KnownBytes.IsAtEnd}
use Rattle.kp_base.specs.declared.refusal.Refusal.{Refusal}
use Rattle.kp_ast.specs.declared.tree.{Decl.Decl, Job.Job}
use Rattle.kp_net.specs.Netlist.{Net}
use Rattle.kp_asm.specs.{Faults.ProgramFinding, Faults.refusal_of as program_refusal, Program.program_of, Program.verdict_of as program_verdict, Program.assembled}
use Rattle.kp_vlog.specs.{Denote.Denotes, Verdict.IsRefused}
use Rattle.kp_debug_script.specs.{Faults.ScriptFinding, Faults.refusal_of as script_refusal, Faults.verdict_of as script_verdict, Scripts.script_in, Scripts.script_of, declared.command.Command.Command}
use Rattle.kp_implements.specs.Shows.{IsOfJob}
use Rattle.kp_vread.specs.Matching.{not_of_job}
use Rattle.kp_frontend.specs.Judging.{JudgesText, JudgesHeadText, most_bytes, too_long}
use Rattle.kp_view_excerpt.specs.Notes.{AppendsNoteAt}
use Rattle.kp_view_texts.specs.{Heads.rule_head, Marks.program_mark, Marks.script_mark}
use Rattle.kp_view_explain.specs.Explaining.{ExplainsText, FindsIn, HasJob, ShowsFirst, IsExplained, Says, rule_of, warned, Finds.over, Finds.within}
use Rattle.kp_view_explain.specs.inner.Shown.{ExplainsModule, ExplainsScript, ExplainsShown, ShowsMarked}
use Rattle.kp_view_explain.{specs.Showing.MarksIn, specs.Showing.ShowsPlace, specs.Showing.job_mark, proofs.Places.begins, proofs.Places.noted}
use Rattle.kp_view_explain.{specs.Listing.ListsNext, specs.Printed.IsPrinted, specs.declared.words.Subject.Subject, proofs.Agree.one_finding}
use Rattle.kp_view_explain.specs.declared.words.Subject.TheVariants as subjects

-- an input that violates a rule
pub refused : (subject : Subject) (strict : Bool) (file input said : List ℕ) (refusal : Refusal) (status count : ℕ) → FindsIn subject input (Some refusal)
    → status ≡ 2 → MarksIn subject input refusal count → ShowsPlace file input refusal count said → ExplainsShown subject strict file input status said
refused subject strict file input said refusal status count finds is marks shown = (Some refusal, finds, (is, begins shown), (count, marks, shown))

-- a job
pub accepted_job : (strict : Bool) (file text : List ℕ) (job : Job) (status : ℕ) (said : List ℕ) → JudgesText text (Ok job) → IsPrinted file text job said → status ≡ warned strict said
    → ExplainsShown subjects.Job strict file text status said
accepted_job strict file text job status said judged printed is = (None, (Ok job, judged, refl), (job, judged, printed, is), tt)

-- a program
pub accepted_program : (file text words : List ℕ) (status : ℕ) (said : List ℕ) → program_of text ≡ Ok words → status ≡ 0 → said ≡ []
    → (strict : Bool) → ExplainsShown subjects.Program strict file text status said
unfolding assembled
accepted_program file text words status said is zero empty strict = (None, sym (ap (λ r. rule_of (program_verdict r)) is), (zero, empty), tt)

pub refused_program : (file text said : List ℕ) (f : ProgramFinding) (status : ℕ) → program_of text ≡ Err f → status ≡ 2
    → ShowsPlace file text (program_refusal f) (program_mark text f.place) said → (strict : Bool) → ExplainsShown subjects.Program strict file text status said
unfolding assembled
refused_program file text said f status is two shown strict =
    refused subjects.Program strict file text said (program_refusal f) status _ (sym (ap (λ r. rule_of (program_verdict r)) is)) two refl shown

-- a job with a script
pub of_script : (file text : List ℕ) (job : Job) (from status : ℕ) (said : List ℕ) → JudgesHeadText text (Ok (job, from))
    → ExplainsScript job.decls file text from status said → (strict : Bool) → ExplainsShown subjects.Debugged strict file text status said
of_script file text job from status said judged (says, shown) strict = (
  rule_of (script_of job.decls text from),
  (Ok (job, from), judged, refl),
  says strict,
  IfSome_then (rule_of (script_of job.decls text from)) shown (λ r place. (script_mark text r.place, (Ok (job, from), judged, refl), place)),
)

pub accepted_script : (file text : List ℕ) (from : ℕ) (ds decls : List Decl) (commands : List Command) (status : ℕ) (said : List ℕ) → ds ≡ decls
    → script_in ds text from ≡ Ok commands → status ≡ 0 → said ≡ [] → ExplainsScript decls file text from status said
accepted_script file text from ds decls commands status said same is zero empty =
    let verdict : script_of ds text from ≡ Ok commands = ap script_verdict is in rw (sym same, verdict) ((λ strict. (zero, empty)), tt)

pub refused_script : (file text facts : List ℕ) (from : ℕ) (ds decls : List Decl) (f : ScriptFinding) (status : ℕ) (said : List ℕ) → ds ≡ decls
    → script_in ds text from ≡ Err f → status ≡ 2 → AppendsNoteAt text f.place (script_mark text f.place) [] facts
    → said ≡ rule_head file (script_refusal f) ++ facts → ExplainsScript decls file text from status said
refused_script file text facts from ds decls f status said same is two note whole =
    let shown = noted file text facts said (script_refusal f) _ note whole in
    let verdict : script_of ds text from ≡ Err (script_refusal f) = ap script_verdict is in rw (sym same, verdict) ((λ strict. (two, begins shown)), shown)

-- a Verilog text
pub accepted_verilog : (file text : List ℕ) (net : Net) (status : ℕ) (said : List ℕ) → Denotes 0 text net → status ≡ 0 → said ≡ []
    → (strict : Bool) → ExplainsShown subjects.Verilog strict file text status said
accepted_verilog file text net status said denotes zero empty strict = (None, (net, denotes), (zero, empty), tt)

-- a job with a Verilog text
pub of_module : (file text : List ℕ) (job : Job) (from status : ℕ) (said : List ℕ) → JudgesHeadText text (Ok (job, from))
    → ExplainsModule job file text from status said → (strict : Bool) → ExplainsShown subjects.Watched strict file text status said
of_module file text job from status said judged (found, finds, says, shown) strict = (
  found,
  (Ok (job, from), judged, finds),
  says strict,
  IfSome_then found shown (λ r place. (place.0, (Ok (job, from), judged, place.1), place.2)),
)

pub misread_module : (file text : List ℕ) (job : Job) (from : ℕ) (refusal : Refusal) (status : ℕ) (said : List ℕ) → IsRefused text from refusal → status ≡ 2
    → ShowsMarked file text from refusal said → ExplainsModule job file text from status said
misread_module file text job from refusal status said is two (count, marks, shown) =
    (Some refusal, inl is, (λ strict. (two, begins shown)), (count, inl marks, shown))

pub own_netlist : (file text : List ℕ) (job : Job) (from : ℕ) (net : Net) (status : ℕ) (said : List ℕ) → Denotes from (drop from text) net → IsOfJob net job
    → status ≡ 0 → said ≡ [] → ExplainsModule job file text from status said
own_netlist file text job from net status said denotes own zero empty = (None, (net, denotes, own), (λ strict. (zero, empty)), tt)

pub other_netlist : (file text : List ℕ) (job : Job) (from : ℕ) (net : Net) (status : ℕ) (said : List ℕ) → Denotes from (drop from text) net
    → (IsOfJob net job → ⊥) → status ≡ 2 → ShowsPlace file text not_of_job (job_mark text not_of_job) said → ExplainsModule job file text from status said
other_netlist file text job from net status said denotes other two shown =
    (Some not_of_job, inr (net, denotes, other, refl), (λ strict. (two, begins shown)), (_, inr (refl, refl), shown))

-- what the rules find, and that its place is shown
pub explains : (subject : Subject) (strict : Bool) (file input : List ℕ) (status : ℕ) (said : List ℕ) → ExplainsShown subject strict file input status said
    → ExplainsText subject strict file input status said
explains subject strict file input status said (found, finds, says, shown) = (found, finds, says)

pub shows : (subject : Subject) (strict : Bool) (file input : List ℕ) (status : ℕ) (said : List ℕ) → ExplainsShown subject strict file input status said
    → ShowsFirst subject file input said
shows subject strict file input status said (found, finds, says, shown) = (found, finds, shown)

-- the whole input of a source, which isn't too long
pub of_input : (subject : Subject) (strict : Bool) (file : List ℕ) (old new : Option (List ℕ)) (input : List ℕ) (status : ℕ) (text : List ℕ)
    → Consumes old new input → IsAtEnd new → length input ≤ 16777216 → ExplainsText subject strict file input status text
    → (HasJob subject → ListsNext file input text) → ShowsFirst subject file input text
    → IsExplained subject strict file old new status text
of_input subject strict file old new input status text consumed end few (found, finds, says) next shown =
    record {
      input = input;
      consumed = consumed;
      whole = inl (end, few);
      explained = (found, within few finds, says);
      agrees = λ other is. subst (λ (f : Option Refusal). Says subject strict file input f status text) (one_finding subject input found other (within few finds) is) says;
      next = λ job few. next job;
      shown = λ few. shown;
    }

-- an input that is too long
pub of_excess : (subject : Subject) (strict : Bool) (file : List ℕ) (old new : Option (List ℕ)) (input : List ℕ) (status : ℕ) (text : List ℕ)
    → Consumes old new input → length input ≡ 16777217 → Says subject strict file input (Some too_long) status text
    → IsExplained subject strict file old new status text
of_excess subject strict file old new input status text consumed count says =
    let long : most_bytes < length input = omega (arith, count) in
    record {
      input = input;
      consumed = consumed;
      whole = inr count;
      explained = (Some too_long, over long, says);
      agrees = λ other is. subst (λ (f : Option Refusal). Says subject strict file input f status text) (one_finding subject input (Some too_long) other (over long) is) says;
      next = λ job few. absurd (omega (arith, count, few));
      shown = λ few. absurd (omega (arith, count, few));
    }

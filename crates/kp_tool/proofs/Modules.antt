-- The module of a job: how it is read, the properties of its netlist, and how a command ends that reads it.
use Rattle.std.proofs.Common.{◌≡◌, ℕ, List, drop, Ok, Err, refl}
use Rattle.std.specs.declared.option.Option.{Option}
use Rattle.kp_base.specs.declared.refusal.{Refusal.Refusal, Refused.Refused}
use Rattle.kp_base.specs.declared.refusal.Refused.TheVariants as refused
use Rattle.kp_ast.specs.declared.tree.Job.{Job}
use Rattle.kp_vread.specs.Matching.{not_of_job}
use Rattle.kp_net.specs.{Names.IsNamed, Netlist.Net}
use Rattle.kp_implements.specs.Shows.{HasOutputs, IsOfJob}
use Rattle.kp_vlog.{specs.Verdict.AnswersNet, proofs.Sound.denoted_named}
use Rattle.kp_tool.specs.{Compared.ReadsModule, Compared.misread, Compared.not_jobs, Compared.jobs, Ends.Ends, inner.Failures.misread_of}
use Rattle.kp_tool.specs.{inner.Modules.RefusesModule, inner.Modules.MisreadsModule, declared.failure.Failure.Failure}
use Rattle.kp_report.specs.Texts.{refusal_line}
use Rattle.kp_tool.specs.declared.failure.Failure.TheVariants as failure

-- a rule of V1 to V5 is an error
pub refused_misread : (job : Job) (text : List ℕ) (from : ℕ) (r : Refused) → AnswersNet text from (Err r) → RefusesModule job text from r
refused_misread job text from (refused.Rule r) broken = misread broken
refused_misread job text from refused.NoMemory broken = tt

-- and V6
pub refused_other : (job : Job) (text : List ℕ) (from : ℕ) (net : Net) → AnswersNet text from (Ok net) → (IsOfJob net job → ⊥)
    → RefusesModule job text from (refused.Rule not_of_job)
refused_other job text from net read other = not_jobs read other

pub module_named : (job : Job) (text : List ℕ) (from : ℕ) (net : Net) → ReadsModule job text from (Ok net) → IsNamed net
module_named job text from net (jobs read is) = denoted_named from (drop from text) net read

pub module_jobs : (job : Job) (text : List ℕ) (from : ℕ) (net : Net) → ReadsModule job text from (Ok net) → IsOfJob net job
module_jobs job text from net (jobs read is) = is

pub module_outputs : (job : Job) (text : List ℕ) (from : ℕ) (net : Net) → ReadsModule job text from (Ok net) → HasOutputs net
module_outputs job text from net (jobs read is) =
    let named = denoted_named from (drop from text) net read in
    record { few = named.at_most; full = named.full; ue = named.ue; back = named.back }

-- the failure of a call that reads it
pub misreads : (job : Job) (text : List ℕ) (from : ℕ) (e : Refused) (f : Failure) → f ≡ misread_of e → RefusesModule job text from e → MisreadsModule job text from f
misreads job text from (refused.Rule r) f is broken = rw is broken
misreads job text from refused.NoMemory f is broken = rw is refl

-- and how a command ends by it, where the violated rule is a specified outcome
pub misread_end : {S : Type 0} (held : S → Option (List ℕ)) (faults : S → ℕ) (Q : ℕ → List ℕ → Type 0) (job : Job) (text : List ℕ) (from : ℕ)
    → ((r : Refusal) → ReadsModule job text from (Err r) → Q 6 (refusal_line r)) → (s : S) (f : Failure) → MisreadsModule job text from f → Ends held faults ⊥ Q s s (Err f)
misread_end held faults Q job text from law s (failure.Misread r) broken = (refl, law r broken)
misread_end held faults Q job text from law s (failure.Refused r) never = absurd never
misread_end held faults Q job text from law s (failure.Stopped stop) is = rw is refl

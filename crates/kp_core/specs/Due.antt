-- What is specified: a status and a text for what is asked and the bytes of the source. The text of status 0 goes to standard output, and any other to
-- standard error.
use Rattle.std.specs.Prelude.{◌≡◌, ◌≢◌, ◌≤◌, ◌⊎◌, Bool, true, false, ℕ, zero, suc, List, [], length, Ok, Err, Option, Result}
use Rattle.std.specs.Io.KnownBytes.{Consumes, Appends, IsAtEnd}
use Rattle.kp_base.specs.{Bytes.AppendsPart, declared.refusal.Refusal.Refusal}
use Rattle.kp_ast.specs.declared.tree.Job.{Job}
use Rattle.kp_frontend.specs.Judging.{JudgesHead, JudgesHeadText}
use Rattle.kp_stage.specs.Counts.{summary_of}
use Rattle.kp_net.specs.{Netlist.Net, Names.IsNamed, Parts.NetOk, Widths.Distinct}
use Rattle.kp_build.specs.Names.{Scope}
use Rattle.kp_synth_registers.specs.declared.outcome.Outcome.{Outcome}
use Rattle.kp_vlog.specs.{Canon.canon, Denote.Denotes}
use Rattle.kp_implements.specs.{Shows.Shows, Shows.IsInOrder, Anew.BeginsAnew}
use Rattle.kp_synth_next.specs.Bound.{node_bound}
use Rattle.kp_synth.specs.{Carrying.Carries, Known.HasStages}
use Rattle.kp_view_texts.specs.Heads.{rule_head}
use Rattle.kp_core_ports.specs.{declared.port.Port.Port, declared.port.PortRefusal.PortRefusal, Ports.ports_of, Core.core_text, Names.names_text}
use Rattle.kp_view_explain.specs.{Listing.ListsNext, Showing.ShowsPlace, Showing.job_mark}
use Rattle.kp_wires.specs.{Comments.commented_text, Table.wires_of, Texts.named_lines, Texts.wires_text}
use Rattle.kp_core.specs.{declared.request.Form.Form, Messages.BeginsWith, Messages.IsMessage, Messages.file_name}
use Rattle.kp_core.specs.Words.{Asked, bad_words, help, version, write, reads_input}
use Rattle.kp_core.specs.declared.texts.TheConstants.{HELP, USAGE, VERSION}
use Rattle.kp_core.specs.declared.request.Form.TheVariants as forms

-- exactly this status and this text
abbrev pub Says : ℕ → List ℕ → ℕ → List ℕ → Type 0
Says s t status text = (status ≡ s) × (text ≡ t)

-- the text of a netlist with ports added, and with names for the registers and wires of its stages, or with comments on them, or the table of its registers, or
-- that of its wires. The nodes of what the stages do, and of their names, are `outs` and `names`.
abbrev pub text_for : Form → Net → Job → List Port → List Outcome → List Scope → List ℕ
text_for forms.Module net job ports outs names = core_text net job ports []
text_for forms.Names net job ports outs names = names_text net job
text_for forms.Wires net job ports outs names = wires_text job (wires_of net job outs names)
text_for forms.Named net job ports outs names = core_text net job ports (named_lines net job (wires_of net job outs names))
text_for forms.Comments net job ports outs names = commented_text net job ports (wires_of net job outs names)

-- THE MODULE of a job with ports, or a table of it: that of a netlist that shows the pipelined machine of the job, begins anew after each reset, and whose
-- registers hold the state of the pipeline. Its wires mean what the stages do, and the names in them. Its canonical text denotes it, so it violates no rule. No
-- two of its nodes are equal, and there are at most `node_bound` of them.
pub record IsCoreOf (form : Form) (job : Job) (ports : List Port) (text : List ℕ) : Type 0 where
  pub net : Net
  pub ok : NetOk net
  pub shows : Shows net job
  pub anew : BeginsAnew net job
  pub carries : Carries net job
  pub named : IsNamed net
  pub order : IsInOrder net job
  pub denotes : Denotes 0 (canon net) net
  pub distinct : Distinct net.nodes
  pub few : length net.nodes ≤ node_bound (summary_of job)
  pub outcomes : List Outcome
  pub names : List Scope
  pub stages : HasStages net job outcomes names
  pub whole : text ≡ text_for form net job ports outcomes names

-- the outcome for a job and the lines after it
abbrev pub DueOfLines : Form → List ℕ → List ℕ → Job → Result (List Port) PortRefusal → ℕ → List ℕ → Type 0
DueOfLines form file input job (Ok ports) status text = (status ≡ 0) × IsCoreOf form job ports text
DueOfLines form file input job (Err refusal) status text = (status ≡ 2) × IsMessage file input refusal text

-- why a job is refused: the head of the message on the first rule that it violates, and for an input that is not too long the line of its place, and further
-- violations
abbrev pub IsExplained : List ℕ → List ℕ → Refusal → List ℕ → Type 0
IsExplained file input refusal text = BeginsWith (rule_head file refusal) text
    × (length input ≤ 16777216 → ShowsPlace file input refusal (job_mark input refusal) text × ListsNext file input text)

-- the outcome for a verdict on the head of an input
abbrev pub DueOfVerdict : Form → List ℕ → List ℕ → Result (Job × ℕ) Refusal → ℕ → List ℕ → Type 0
DueOfVerdict form file input (Ok (job, rest)) status text = DueOfLines form file input job (ports_of job input rest) status text
DueOfVerdict form file input (Err refusal) status text = (status ≡ 2) × IsExplained file input refusal text

-- the outcome for an input that is not too long
abbrev pub DueOfHead : Form → List ℕ → List ℕ → ℕ → List ℕ → Type 0
DueOfHead form file input status text = (verdict : Result (Job × ℕ) Refusal) × JudgesHeadText input verdict × DueOfVerdict form file input verdict status text

-- the outcome for what is asked, on an input
abbrev pub DueFor : Asked → List ℕ → ℕ → List ℕ → Type 0
DueFor bad_words input status text = Says 1 USAGE.now status text
DueFor help input status text = Says 0 HELP.now status text
DueFor version input status text = Says 0 VERSION.now status text
DueFor (write form file) input status text = (verdict : Result (Job × ℕ) Refusal) × JudgesHead input verdict × DueOfVerdict form (file_name file) input verdict status text

-- a source was read as far as is specified: not at all; or to its end, where an input of at most 16,777,216 bytes ends; or one byte further
abbrev pub IsWhole : Bool → List ℕ → Option (List ℕ) → Type 0
IsWhole false taken left = taken ≡ []
IsWhole true taken left = (IsAtEnd left × (length taken ≤ 16777216)) ⊎ (length taken ≡ 16777217)

-- the status and the text are those specified for the bytes that were read from the source
pub record IsDue (asked : Asked) (old new : Option (List ℕ)) (status : ℕ) (text : List ℕ) : Type 0 where
  pub taken : List ℕ
  pub consumed : Consumes old new taken
  pub whole : IsWhole (reads_input asked) taken new
  pub due : DueFor asked taken status text

-- a status of a specified outcome: not that of a read fault (3), a write fault (4) or of out of memory (5)
abbrev pub IsFinal : ℕ → Type 0
IsFinal status = (status ≢ 3) × (status ≢ 4) × (status ≢ 5)

module _ {S T : Type 0} (held : S → Option (List ℕ)) (held_err : T → Option (List ℕ)) where
  -- the complete text was appended to standard output for status 0, and to standard error for any other; nothing was written to the other one
  abbrev pub Prints : (old new : S) (old_err new_err : T) → ℕ → List ℕ → Type 0
  Prints old new old_err new_err zero text = Appends (held old) (held new) text × (new_err ≡ old_err)
  Prints old new old_err new_err (suc status) text = (new ≡ old) × Appends (held_err old_err) (held_err new_err) text

  -- the same of a prefix of the text
  abbrev pub PrintsPart : (old new : S) (old_err new_err : T) → ℕ → List ℕ → Type 0
  PrintsPart old new old_err new_err zero text = AppendsPart (held old) (held new) text × (new_err ≡ old_err)
  PrintsPart old new old_err new_err (suc status) text = (new ≡ old) × AppendsPart (held_err old_err) (held_err new_err) text

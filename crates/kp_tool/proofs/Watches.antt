-- The outcome of `watch` on a job followed by its netlist.
use Rattle.std.proofs.Common.{◌≡◌, ℕ, ◌≤◌, List, ◌++◌, length, None, Some, Ok, refl, sym}
use Rattle.kp_ast.specs.declared.tree.Job.{Job}
use Rattle.kp_net.specs.Netlist.{Net}
use Rattle.kp_lex.specs.Text.{tail_of}
use Rattle.kp_implements.specs.Shows.{IsOfJob}
use Rattle.kp_watch.specs.Watching.{Agrees}
use Rattle.kp_equiv.specs.Showing.{ShowsButName}
use Rattle.kp_frontend.specs.Judging.{JudgesText, JudgesHead, JudgesHeadText, broken_in, most_bytes, JudgesHead.head_within}
use Rattle.kp_words.specs.declared.commands.Command.TheVariants.{Watch}
use Rattle.kp_report.specs.Runs.{sim_text}
use Rattle.kp_tool.specs.{Due.DueFor, Written.IsVerilogOf, Read.ReadsVerilog, Watched.own_text, Watched.of_job, Watched.agrees}
use Rattle.kp_tool.proofs.{Agreeing.agrees_if_shown, Headline.implements, Heads.EndsLine, Heads.head_of_both, Heads.tail_is_gap, OwnText.own_is_sim}
use Rattle.kp_tool.proofs.After.{reads_after}

-- the outcome for a netlist that agrees with the sequential machine
of_agreeing : (n : ℕ) (input : List ℕ) (job : Job) (rest : ℕ) (net : Net) (answer : List ℕ) → JudgesHead input (Ok (job, rest)) → ReadsVerilog input rest (Ok net)
    → IsOfJob net job → Agrees job net n → answer ≡ own_text n job net → DueFor (Some (Watch n)) input 0 answer
of_agreeing n input job rest net answer judged denotes is all said = (Ok (job, rest), judged, (Ok net, denotes, of_job is (agrees all (refl, said))))

module _ (input text : List ℕ) (job : Job) (verilog : IsVerilogOf job text) (ends : EndsLine input) (short : length (input ++ text) ≤ most_bytes) where
  shows : ShowsButName verilog.net job
  shows = (implements verilog.net job verilog.shows verilog.anew).0

  pub watched : (n : ℕ) → broken_in job ≡ None → JudgesText input (Ok job) → DueFor (Some (Watch n)) (input ++ text) 0 (sim_text n job)
  watched n none judged =
      let head : (rest : ℕ) × JudgesHeadText (input ++ text) (Ok (job, rest)) × (rest ≤ length input) × (tail_of input rest ≡ None) = head_of_both input text job ends judged in
      of_agreeing n (input ++ text) job head.0 verilog.net (sim_text n job) (head_within short head.1)
      (reads_after input text job verilog ends short head.0 head.2 (tail_is_gap input head.0 head.2 head.3)) verilog.shows.of_job
      (agrees_if_shown job none verilog.net n shows) (sym (own_is_sim job none verilog.net n shows))

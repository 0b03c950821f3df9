-- Without ports, names and comments a module is the canonical text of its netlist.
use Rattle.std.proofs.Common.{◌≡◌, ◌∙◌, ℕ, ◌+◌, ◌-◌, ◌≤◌, List, [], ◌∷◌, ◌++◌, take, drop, refl, sym, ap, subst, arith}
use Rattle.std.proofs.lemmas.List.{drop-drop, take-append-drop}
use Rattle.std.specs.Prelude.{slice_range}
use Rattle.kp_ast.specs.declared.tree.Job.{Job}
use Rattle.kp_net.specs.Netlist.{Net}
use Rattle.kp_vlog.specs.{Canon.canon, Denote.Denotes}
use Rattle.kp_core_ports.specs.{Core.core_text, Core.added_lines, Core.header_ports, Core.header_end, Core.last_line, Core.with_ports, Extended.IsExtended, declared.port.Port.Port}
use Rattle.kp_core_ports.proofs.Extending.{extended}
use Rattle.kp_wires.specs.{Comments.commented_text, Comments.note_at, Comments.with_comments, Table.wires_of, Texts.named_lines}
use Rattle.kp_tool.specs.Written.{IsVerilogOf}
use Rattle.kp_core.specs.{Bare.without_comments, Due.IsCoreOf, Waves.IsPipeWithComments, Waves.IsPipeWithLines, Promises.IsOfPipe, declared.request.Form.Form}
use Rattle.kp_core.specs.declared.request.Form.TheVariants.{Comments, Module, Named, Names, Wires}
use Rattle.kp_core.proofs.{Bare.bare, Outcomes.all_registers, Slashes.canon_free}

-- a text is what is before its first place, between its two places, and after its second one
in_three : (h n : ℕ) (text : List ℕ) → h ≤ n → take h text ++ (slice_range text h n ++ drop n text) ≡ text
in_three h n text low =
    let up : h + (n - h) ≡ n = omega (arith, low) in
    let end : drop n text ≡ drop (n - h) (drop h text) = sym (drop-drop (n - h) h text ∙ ap (λ (k : ℕ). drop k text) up) in
    ap (λ (x : List ℕ). take h text ++ (slice_range text h n ++ x)) end
    ∙ ap (λ (x : List ℕ). take h text ++ x) (take-append-drop (n - h) (drop h text))
    ∙ take-append-drop h text

unported : (net : Net) (job : Job) (text : List ℕ) → with_ports net job [] text [] ≡ text
unfolding header_ports
unported net job text = in_three (header_end text) (last_line text) text (omega arith)

plain : (net : Net) (job : Job) → core_text net job [] [] ≡ canon net
unfolding core_text
plain net job = unported net job (canon net)

-- the canonical text of its netlist
own : (form : Form) (job : Job) (ports : List Port) (text plain : List ℕ) → (core : IsCoreOf form job ports text) → plain ≡ canon core.net → IsVerilogOf job plain
own form job ports text plain core is = record {
  net = core.net;
  canonical = is;
  denotes = subst (λ (t : List ℕ). Denotes 0 t core.net) (sym is) core.denotes;
  shows = core.shows;
  anew = core.anew;
  order = core.order;
  distinct = core.distinct;
  few = core.few;
  regs = all_registers core.net job job core.carries refl;
}

-- with ports, and with more lines
extending : (form : Form) (job : Job) (ports : List Port) (text more : List ℕ) → (core : IsCoreOf form job ports text) → text ≡ core_text core.net job ports more
    → IsPipeWithLines job text
unfolding core_text
extending form job ports text more core is =
    let lines : List ℕ = added_lines core.net job ports ++ more in
    record {
      plain = canon core.net;
      ports = header_ports job ports;
      lines = lines;
      written = own form job ports text (canon core.net) core refl;
      extended = subst (λ (t : List ℕ). IsExtended (canon core.net) (header_ports job ports) lines t) (sym is)
          (extended core.net (header_ports job ports) lines core.ok core.named);
    }

-- with comments
abbrev commented_of : (form : Form) (job : Job) (ports : List Port) (text : List ℕ) → IsCoreOf form job ports text → List ℕ
commented_of form job ports text core = with_comments (note_at core.net job (wires_of core.net job core.outcomes core.names)) (canon core.net)

without : (form : Form) (job : Job) (ports : List Port) (text : List ℕ) → (core : IsCoreOf form job ports text) → without_comments (commented_of form job ports text core) ≡ canon core.net
without form job ports text core = bare (note_at core.net job (wires_of core.net job core.outcomes core.names)) (canon core.net) (canon_free core.net core.named)

with_notes : (job : Job) (ports : List Port) (text : List ℕ) → IsCoreOf Comments job ports text → IsPipeWithComments job text
unfolding commented_text
with_notes job ports text core = record {
  commented = commented_of Comments job ports text core;
  ports = header_ports job ports;
  lines = added_lines core.net job ports ++ [];
  written = own Comments job ports text (without_comments (commented_of Comments job ports text core)) core (without Comments job ports text core);
  added = core.whole;
}

uncommented : (job : Job) (text : List ℕ) → IsCoreOf Comments job [] text → IsVerilogOf job (without_comments text)
unfolding commented_text
uncommented job text core =
    own Comments job [] text (without_comments text) core
    (ap without_comments (core.whole ∙ unported core.net job (commented_of Comments job [] text core)) ∙ without Comments job [] text core)

-- ---- all forms

pub of_pipe : (form : Form) (job : Job) (ports : List Port) (text : List ℕ) → IsCoreOf form job ports text → IsOfPipe form job ports text
of_pipe Module job [] text core = own Module job [] text text core (core.whole ∙ plain core.net job)
of_pipe Module job (p ∷ ps) text core = extending Module job (p ∷ ps) text [] core core.whole
of_pipe Named job ports text core = extending Named job ports text (named_lines core.net job (wires_of core.net job core.outcomes core.names)) core core.whole
of_pipe Comments job [] text core = uncommented job text core
of_pipe Comments job (p ∷ ps) text core = with_notes job (p ∷ ps) text core
of_pipe Names job ports text core = tt
of_pipe Wires job ports text core = tt

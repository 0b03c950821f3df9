-- From one line to all lines.
use Rattle.std.proofs.Common.{◌≡◌, ℕ, ◌≤◌, ◌-◌, List, [], ◌∷◌, length, drop, map, Result, Ok, Err, sym, subst, ap, ◌∙◌, arith}
use Rattle.std.{proofs.lemmas.List.take_all, proofs.lemmas.List.length-drop, specs.Prelude.slice_range}
use Rattle.kp_ast.specs.declared.tree.Job.{Job}
use Rattle.kp_base.specs.{Lines.Piece, Lines.lines_of, Lines.piece_of, declared.run.Run.Run}
use Rattle.kp_core_ports.specs.{Ports.port_in, Ports.tokens_of, Ports.ports_from, Ports.ports_of, Rules.Yields, inner.Reading.IsAdded, declared.port.Port.Port}
use Rattle.kp_core_ports.specs.declared.port.{PortRefusal.PortRefusal, PortsRefused.PortsRefused}
use Rattle.kp_core_ports.specs.declared.port.PortsRefused.TheVariants.{Rule, NoMemory}

-- the lines that are left after one
pub next_line : (job : Job) (text : List ℕ) (old new : List Port) (line : Piece) (left left_more : List Piece) (all : Result (List Port) PortRefusal) → left ≡ line ∷ left_more
    → IsAdded (port_in job text old (tokens_of line)) old new → ports_from job text old left ≡ all → ports_from job text new left_more ≡ all
next_line job text old new line left left_more all is added inv =
    sym (added (λ (more : List Port). ports_from job text more left_more)) ∙ ap (ports_from job text old) (sym is) ∙ inv

-- the lines from an offset on are those of the run up to the end of the text
module _ (job : Job) (text : List ℕ) (from : ℕ) (lines runs : List Run) where
  whole : from ≤ length text → map (piece_of text) lines ≡ lines_of (piece_of text (record { at = from; end = length text })) → runs ≡ lines
      → ports_of job text from ≡ ports_from job text [] (map (piece_of text) runs)
  unfolding ports_of
  whole h same here =
      let cut : slice_range text from (length text) ≡ drop from text = take_all (length text - from) (drop from text) (omega (arith, length-drop from text)) in
      ap (λ (bytes : List ℕ). ports_from job text [] (lines_of (record { at = from; bytes = bytes }))) (sym cut)
      ∙ ap (ports_from job text []) (sym same)
      ∙ ap (λ (l : List Run). ports_from job text [] (map (piece_of text) l)) (sym here)

  -- they ask for these ports
  pub all_read : (ports : List Port) → from ≤ length text → map (piece_of text) lines ≡ lines_of (piece_of text (record { at = from; end = length text })) → runs ≡ lines
      → ports_from job text [] (map (piece_of text) runs) ≡ Ok ports → ports_of job text from ≡ Ok ports
  all_read ports h same here found = whole h same here ∙ found

stopped : {U : Type 0} (e : PortsRefused) (x y : Result (List Port) PortRefusal) (ports : List Port) (other : U → List Port) → y ≡ x → Yields {T = Unit {0}} (Err e) x (λ _. ports)
    → Yields (Err e) y other
stopped (Rule refusal) x y ports other is found = is ∙ found
stopped NoMemory x y ports other is found = tt

-- one of them violates a rule
pub not_read : {U : Type 0} (job : Job) (text : List ℕ) (from : ℕ) (lines runs : List Run) (e : PortsRefused) (ports : List Port) (r : Result U PortsRefused) (other : U → List Port) → r ≡ Err e
    → from ≤ length text → map (piece_of text) lines ≡ lines_of (piece_of text (record { at = from; end = length text })) → runs ≡ lines
    → Yields {T = Unit {0}} (Err e) (ports_from job text [] (map (piece_of text) runs)) (λ _. ports) → Yields r (ports_of job text from) other
not_read {U} job text from lines runs e ports r other is h same here found =
    subst (λ (q : Result U PortsRefused). Yields q (ports_of job text from) other) (sym is)
    (stopped e (ports_from job text [] (map (piece_of text) runs)) (ports_of job text from) ports other (whole job text from lines runs h same here) found)

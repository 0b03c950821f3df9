-- A cycle with a reset, and the run from there on.
use Rattle.std.proofs.Common.{◌≡◌, ℕ, true, cond, suc, List, [], ◌∷◌, length, map, refl, sym, ap, ◌∙◌, arith}
use Rattle.std.{proofs.lemmas.Bool.cond-true, proofs.lemmas.Bool.cond_both, proofs.lemmas.List.length-map, proofs.lemmas.Slice.Zip.length-zip, specs.List.zip}
use Rattle.kp_base.specs.declared.row.Row.{Row}
use Rattle.kp_net.specs.Netlist.{Net, Input, State, start_regs, start_of, regs_after, files_after, port_after, resets, cells_of, state_after, row_of, states_from, rows_from, run, last_from, last_of, restarted}
use Rattle.kp_net.specs.{declared.node.Node.Node, declared.netlist.NetFile.NetFile, Nodes.Cells}

pub reset_state : (net : Net) (i : Input) (st : State) → resets net i ≡ true → state_after net i st ≡ record { regs = start_regs net; files = st.files }
reset_state net i st e = ap (λ b. cond b (record { regs = start_regs net; files = st.files }) (record { regs = regs_after net (cells_of i st); files = files_after net (cells_of i st) st.files })) e

-- each state of a run has as many files as the netlist
files_after_length : (net : Net) (i : Input) (st : State) → length st.files ≡ length net.parts.files → length (state_after net i st).files ≡ length net.parts.files
files_after_length net i st e =
    cond_both (resets net i) (record { regs = start_regs net; files = st.files }) (record { regs = regs_after net (cells_of i st); files = files_after net (cells_of i st) st.files })
    (λ (s : State). length s.files ≡ length net.parts.files)
    (λ _. e)
    (λ _. length-map (zip net.parts.files st.files) _ ∙ omega (arith, length-zip net.parts.files st.files, e))

last_length : (net : Net) (st : State) (inputs : List Input) → length st.files ≡ length net.parts.files → length (last_from net st inputs).files ≡ length net.parts.files
last_length net st [] e = e
last_length net st (i ∷ inputs) e = last_length net (state_after net i st) inputs (files_after_length net i st e)

-- the words at the start count for nothing later
abbrev worded : NetFile × List ℕ → NetFile
worded p = record p.0 { words = p.1 }

ports_same : (c : Cells) (ns : List Node) (fs : List NetFile) (ws vs : List (List ℕ)) → length ws ≡ length fs
    → map (λ p. port_after c ns p.0.port p.1) (zip (map worded (zip fs ws)) vs) ≡ map (λ p. port_after c ns p.0.port p.1) (zip fs vs)
ports_same c ns [] ws vs e = refl
ports_same c ns (f ∷ fs) [] vs e = absurd (omega arith)
ports_same c ns (f ∷ fs) (w ∷ ws) [] e = refl
ports_same c ns (f ∷ fs) (w ∷ ws) (v ∷ vs) e = ap (λ (xs : List (List ℕ)). port_after c ns f.port v ∷ xs) (ports_same c ns fs ws vs (omega arith))

words_given : (fs : List NetFile) (ws : List (List ℕ)) → length ws ≡ length fs → map (λ f. f.words) (map worded (zip fs ws)) ≡ ws
words_given [] [] e = refl
words_given [] (w ∷ ws) e = absurd (omega arith)
words_given (f ∷ fs) [] e = absurd (omega arith)
words_given (f ∷ fs) (w ∷ ws) e = ap (λ (xs : List (List ℕ)). w ∷ xs) (words_given fs ws (omega arith))

module _ (net : Net) (ws : List (List ℕ)) (e : length ws ≡ length net.parts.files) where
  after_same : (i : Input) (st : State) → state_after (restarted net ws) i st ≡ state_after net i st
  after_same i st = ap (λ (fs : List (List ℕ)). cond (resets net i) (record { regs = start_regs net; files = st.files }) (record { regs = regs_after net (cells_of i st); files = fs }))
      (ports_same (cells_of i st) net.nodes net.parts.files ws st.files e)

  states_same : (st : State) (inputs : List Input) → states_from net st inputs ≡ states_from (restarted net ws) st inputs
  states_same st [] = refl
  states_same st (i ∷ inputs) = ap (λ (ss : List State). st ∷ ss) (states_same (state_after net i st) inputs ∙ ap (λ (s : State). states_from (restarted net ws) s inputs) (sym (after_same i st)))

  rows_same : (st : State) (inputs : List Input) → rows_from net st inputs ≡ rows_from (restarted net ws) st inputs
  rows_same st [] = refl
  rows_same st (i ∷ inputs) = ap (λ (rs : List Row). row_of net i st ∷ rs) (rows_same (state_after net i st) inputs ∙ ap (λ (s : State). rows_from (restarted net ws) s inputs) (sym (after_same i st)))

  start_given : record { regs = start_regs net; files = ws } ≡ start_of (restarted net ws)
  start_given = ap (λ (fs : List (List ℕ)). let s : State = record { regs = start_regs net; files = fs } in s) (sym (words_given net.parts.files ws e))

module _ (net : Net) (before : List Input) (i : Input) (inputs : List Input) (r : resets net i ≡ true) where
  abbrev ws : List (List ℕ)
  ws = (last_of net before).files

  whole : length ws ≡ length net.parts.files
  whole = last_length net (start_of net) before (length-map net.parts.files (λ (f : NetFile). f.words))

  anew : state_after net i (last_of net before) ≡ start_of (restarted net ws)
  anew = reset_state net i (last_of net before) r ∙ start_given net ws whole

  pub states_anew : states_from net (state_after net i (last_of net before)) inputs ≡ (run (restarted net (last_of net before).files) inputs).states
  states_anew = ap (λ (s : State). states_from net s inputs) anew ∙ states_same net ws whole (start_of (restarted net ws)) inputs

  pub rows_anew : rows_from net (state_after net i (last_of net before)) inputs ≡ (run (restarted net (last_of net before).files) inputs).rows
  rows_anew = ap (λ (s : State). rows_from net s inputs) anew ∙ rows_same net ws whole (start_of (restarted net ws)) inputs

-- The lines of a path from its first node on, and blanks.
use Rattle.std.{specs.List.flat_map}
use Rattle.std.proofs.Common.{◌≡◌, ◌∙◌, ◌+◌, ◌-◌, ◌<◌, ◌≤◌, ℕ, suc, List, [], ◌∷◌, ◌++◌, drop, length, get_or, replicate, sym, ap, arith, append_assoc, append-nil}
use Rattle.std.proofs.Math.Seq.{drop-cons}
use Rattle.std.proofs.lemmas.{Grind.flat_map-append, List.replicate_more}
use Rattle.kp_ast.specs.declared.tree.Job.{Job}
use Rattle.kp_net.specs.Netlist.{Net}
use Rattle.kp_wires.specs.declared.wire.Wire.{Wire}
use Rattle.kp_depth.specs.declared.time.{Input.Input, Time.Time}
use Rattle.kp_depth.specs.{Statements.if_at, Statements.named_at, Statements.or_before, Statements.origin, Statements.stage_at, Text.note, Text.notes, Text.step_text, Text.steps_text}

pub blank_more : (front : List ℕ) (n : ℕ) → (front ++ replicate n 32) ++ 32 ∷ [] ≡ front ++ replicate (n + 1) 32
blank_more front n = append_assoc front (replicate n 32) (32 ∷ []) ∙ ap (λ (l : List ℕ). front ++ l) (replicate_more n 32)

pub nothing_first : (xs ys : List ℕ) → xs ≡ [] ++ ys → xs ≡ ys
nothing_first xs ys h = h

-- the line of one more operand
module _ (job : Job) (net : Net) (wires : List Wire) (path : List Input) (i : ℕ) (d : Input) (h : i < length path) where
  from_next : drop (length path - (i + 1)) path ≡ get_or path (length path - 1 - i) d ∷ drop (length path - i) path
  from_next =
      let k : ℕ = length path - 1 - i in
      let l : k < length path = omega (arith, h) in
      let low : length path - (i + 1) ≡ k = omega (arith, h) in
      let high : suc k ≡ length path - i = omega (arith, h) in
      ap (λ (j : ℕ). drop j path) low ∙ drop-cons path k d l ∙ ap (λ (j : ℕ). get_or path k d ∷ drop j path) high

  pub steps_more : (times : List Time) (front : List ℕ)
      → (front ++ steps_text job net wires times (drop (length path - i) path))
      ++ step_text job net wires times (origin job net wires (drop (length path - i) path)) (get_or path (length path - 1 - i) d).within (get_or path (length path - 1 - i) d).node.0
      ≡ front ++ steps_text job net wires times (drop (length path - (i + 1)) path)
  steps_more times front =
      let rest : List Input = drop (length path - i) path in
      let x : Input = get_or path (length path - 1 - i) d in
      append_assoc front (steps_text job net wires times rest) (step_text job net wires times (origin job net wires rest) x.within x.node.0)
      ∙ ap (λ (p : List Input). front ++ steps_text job net wires times p) (sym from_next)

  pub origin_more : or_before (origin job net wires (drop (length path - i) path)) (stage_at job net wires (get_or path (length path - 1 - i) d).node.0)
      ≡ origin job net wires (drop (length path - (i + 1)) path)
  origin_more = ap (λ (p : List Input). origin job net wires p) (sym from_next)

-- the statements of one more wire
pub note_more : (job : Job) (ws : List Wire) (w : Wire) (from i : ℕ) → notes job ws from i ++ flat_map (note job from) (if_at i w) ≡ notes job (ws ++ w ∷ []) from i
note_more job ws w from i =
    sym
    (ap (flat_map (note job from)) (flat_map-append (if_at i) ws (w ∷ []) ∙ ap (λ (l : List Wire). named_at ws i ++ l) (append-nil (if_at i w)))
    ∙ flat_map-append (note job from) (named_at ws i) (if_at i w))

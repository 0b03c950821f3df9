-- The inputs of a cycle.
use Rattle.std.proofs.Common.{◌≡◌, ℕ, zero, suc, ◌+◌, ◌-◌, ◌*◌, ◌<◌, ◌≤◌, false, List, [], ◌∷◌, length, get_or, take, drop, refl, sym, ap, ◌∙◌, arith}
use Rattle.std.proofs.{Math.Nat.mul-le-mul_right, lemmas.List.drop-drop, lemmas.List.Edits.length-between, lemmas.List.Edits.get_or-between}
use Rattle.std.specs.Prelude.{slice_range}
use Rattle.kp_bits.specs.{Word.Word, Operators.no_word}
use Rattle.kp_net.specs.{Netlist.Net, Netlist.Input, Parts.no_port}
use Rattle.kp_cycle.specs.Steps.{SamplesFit, given}
use Rattle.kp_debug.specs.{Sessions.inputs_of, Sessions.SamplesFitCycles, inner.Kept.no_input}

pub inputs_many : (ports : ℕ) (exts : List ℕ) (samples : List Word) → length (inputs_of ports exts samples) ≡ length exts
inputs_many ports [] samples = refl
inputs_many ports (e ∷ exts) samples = ap (λ (n : ℕ). suc n) (inputs_many ports exts (drop ports samples))

-- the input of a cycle is its stall word and its part of the samples
pub input_there : (ports : ℕ) (exts : List ℕ) (samples : List Word) (k a b : ℕ) → k < length exts → a ≡ k * ports → b ≡ a + ports
    → get_or (inputs_of ports exts samples) k no_input ≡ given (get_or exts k 0) false (slice_range samples a b)
input_there ports [] samples k a b l e f = absurd (omega arith)
input_there ports (ext ∷ exts) samples zero a b l e f =
    let first : a ≡ 0 = omega arith in
    let size : ports ≡ b - a = omega arith in
    λ i. given ext false (take (size i) (drop (sym first i) samples))
input_there ports (ext ∷ exts) samples (suc k) a b l e f =
    let step : suc k * ports ≡ k * ports + ports = omega arith in
    let start : ports + k * ports ≡ a = omega (arith, step) in
    let size : k * ports + ports - k * ports ≡ b - a = omega (arith, step) in
    input_there ports exts (drop ports samples) k (k * ports) (k * ports + ports) (omega arith) refl refl
    ∙ ap (λ (ws : List Word). given (get_or exts k 0) false (take (k * ports + ports - k * ports) ws)) (drop-drop (k * ports) ports samples)
    ∙ (λ i. given (get_or exts k 0) false (take (size i) (drop (start i) samples)))

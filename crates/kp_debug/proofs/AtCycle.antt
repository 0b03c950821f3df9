-- A session is at a cycle of a run, and advances by one.
use Rattle.std.proofs.Common.{◌≡◌, ◌≢◌, ℕ, ◌+◌, ◌*◌, ◌<◌, ◌≤◌, List, [], length, get_or, set, take, Option, Some, None, refl, sym, subst, ap, ◌∙◌, arith, ⊎_elim}
use Rattle.std.proofs.lemmas.{Bool.cases_lt, List.get_or-set_other, List.length-set, Grind.get_or-set_at}
use Rattle.kp_bits.specs.Word.{Word}
use Rattle.kp_net.specs.Netlist.{Net, Input, State, state_after, last_of, run}
use Rattle.kp_cycle.specs.Steps.{Running, saved_in}
use Rattle.kp_debug.specs.Sessions.{inputs_of, SamplesFitCycles, no_state}
use Rattle.kp_debug.specs.inner.Kept.{no_input, HasRun, HasKept, IsSession}
use Rattle.kp_debug.proofs.{Feeding.inputs_many, Passing.state_at_cycle, Passing.run_more}

-- the inputs of all cycles
abbrev pub ins : Net → List ℕ → List Word → List Input
ins net exts samples = inputs_of (length net.parts.samples) exts samples

-- a simulator after one cycle more
abbrev pub gone_on : Running → List ℕ → List Word → ℕ → Running
gone_on sim exts samples cycle = record sim { state = state_after sim.net (get_or (ins sim.net exts samples) cycle no_input) sim.state }

pub cycle_there : (net : Net) (exts : List ℕ) (samples : List Word) (cycle : ℕ) → cycle < length exts → cycle < length (ins net exts samples)
cycle_there net exts samples cycle h = omega (arith, h, inputs_many (length net.parts.samples) exts samples)

-- one cycle more of a run
pub run_on : (net : Net) (sim new : Running) (exts : List ℕ) (samples : List Word) (cycle : ℕ) → cycle < length exts → sim.net ≡ net → HasRun sim (ins net exts samples) cycle
    → new ≡ gone_on sim exts samples cycle → HasRun new (ins net exts samples) (cycle + 1)
run_on net sim new exts samples cycle h e run on =
    let all : List Input = ins net exts samples in
    let state : sim.state ≡ last_of net (take cycle all) = run ∙ ap (λ (n : Net). last_of n (take cycle all)) e in
    let there : new.net ≡ net = ap (λ (s : Running). s.net) on ∙ e in
    ap (λ (s : Running). s.state) on
    ∙ (λ i. state_after (e i) (get_or (ins (e i) exts samples) cycle no_input) (state i))
    ∙ run_more net all cycle (cycle_there net exts samples cycle h)
    ∙ ap (λ (n : Net). last_of n (take (cycle + 1) all)) (sym there)

module _ (sim : Running) (exts : List ℕ) (samples : List Word) (cycle copies : ℕ) (h : IsSession sim exts samples cycle copies) where
  -- the state of the simulator is that of the run
  pub stands : sim.state ≡ get_or (run sim.net (ins sim.net exts samples)).states cycle no_state
  stands =
      let many = inputs_many (length sim.net.parts.samples) exts samples in
      h.run ∙ sym (state_at_cycle sim.net (ins sim.net exts samples) cycle (let l : cycle ≤ length (ins sim.net exts samples) = omega (arith, many, h.there) in l))

  next_run : cycle < length exts → HasRun (gone_on sim exts samples cycle) (ins sim.net exts samples) (cycle + 1)
  next_run below = run_on sim.net sim (gone_on sim exts samples cycle) exts samples cycle below refl h.run refl

  -- between two checkpoints
  pub session_more : (new : Running) → cycle < length exts → cycle + 1 ≢ copies * 2048 → new ≡ gone_on sim exts samples cycle → IsSession new exts samples (cycle + 1) copies
  session_more new below apart is =
      let P : Running → Type 0 = λ s. IsSession s exts samples (cycle + 1) copies in
      subst P (sym is)
      (record {
        few = h.few;
        fits = h.fits;
        there = omega (arith, below);
        run = next_run below;
        slots = h.slots;
        at_most = h.at_most;
        reached = omega (arith, h.reached, apart);
        kept = h.kept;
      })

  -- at the next checkpoint
  pub session_kept : (mid new : Running) → cycle < length exts → cycle + 1 ≡ copies * 2048 → mid ≡ gone_on sim exts samples cycle
      → new ≡ record mid { slots = set mid.slots copies (Some mid.state) } → IsSession new exts samples (cycle + 1) (copies + 1)
  session_kept mid new below due is saved =
      let P : Running → Type 0 = λ s. IsSession s exts samples (cycle + 1) (copies + 1) in
      let there : Running = gone_on sim exts samples cycle in
      let kept : Running = record there { slots = set sim.slots copies (Some there.state) } in
      let all : new ≡ kept = saved ∙ ap (λ (s : Running). record s { slots = set s.slots copies (Some s.state) }) is in
      let few : copies ≤ 48 = omega (arith, due, below, h.few) in
      let room : copies < length sim.slots = omega (arith, few, h.slots) in
      let run_there : there.state ≡ last_of sim.net (take (cycle + 1) (ins sim.net exts samples)) = next_run below in
      let copy : Some there.state ≡ Some (last_of sim.net (take (copies * 2048) (ins sim.net exts samples))) =
      ap (λ (s : State). Some s) (run_there ∙ ap (λ (n : ℕ). last_of sim.net (take n (ins sim.net exts samples))) due) in
      subst P (sym all)
      (record {
        few = h.few;
        fits = h.fits;
        there = omega (arith, below);
        run = run_there;
        slots = length-set sim.slots copies (Some there.state) ∙ h.slots;
        at_most = omega (arith, few);
        reached = omega (arith, due);
        kept = λ k l. ⊎_elim
            (λ (m : k < copies). get_or-set_other sim.slots copies k (Some there.state) None (λ z. omega arith) ∙ h.kept k m)
            (λ (m : copies ≤ k). let z : k ≡ copies = omega (arith, l, m) in
            get_or-set_at sim.slots copies k (Some there.state) None z room ∙ copy ∙ ap (λ (n : ℕ). Some (last_of sim.net (take (n * 2048) (ins sim.net exts samples)))) (sym z))
            (cases_lt k copies);
      })

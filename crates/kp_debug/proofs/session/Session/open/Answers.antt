use Rattle.std.proofs.Common.{◌≡◌, ◌*◌, ◌<◌, ℕ, List, [], take, length, set, replicate, Option, None, Some, ap, ◌∙◌, arith, subst, sym, refl}
use Rattle.kp_net.specs.Netlist.{Input, State, start_of, last_of}
use Rattle.kp_cycle.specs.Steps.{Running, saved_in}
use Rattle.kp_debug.specs.{Sessions.inputs_of, inner.Kept.IsSession}
use Rattle.kp_debug.proofs.session.Session.open.Goals as goal

pub invariant_of-result : goal.invariant_of-result
invariant_of-result c =
    let net = c.args.net.now in
    let st : State = start_of net in
    let free : List (Option State) = replicate 50 None in
    let opened : Running = record { net = net; state = st; slots = free } in
    let s : Running = record { net = net; state = st; slots = set free 0 (Some st) } in
    let e : c.save.new.self ≡ s = c.save.ensures ∙ ap (λ (r : Running). record r { slots = set r.slots 0 (Some r.state) }) c.in_ok-sim.ensures in
    let P : Running → Type 0 = λ r. IsSession r c.args.exts.items c.args.samples.items 0 1 in
    let first : (k : ℕ) → k < 1 → k ≡ 0 = λ k l. omega arith in
    let Q : ℕ → Type 0 = λ k. saved_in s k ≡ Some (last_of net (take (k * 2048) (inputs_of (length net.parts.samples) c.args.exts.items c.args.samples.items))) in
    subst P (sym e) (record { few = omega (arith, c.requires.few, c.args.exts.ok.0); fits = rw c.args.exts.ok.0 at c.requires.fits; there = omega arith; run = refl; slots = refl; at_most = omega arith; reached = omega arith; kept = λ k l. subst Q (sym (first k l)) refl })

use Rattle.std.proofs.Common.{◌≡◌, ◌∙◌, ℕ, suc, ◌-◌, ◌<◌, length, get_or, ap, sym, arith}
use Rattle.kp_net.specs.declared.netlist.NetReg.{NetReg}
use Rattle.kp_equiv.specs.{Agreement.root, Agreement.Ports, Sections.behind_regs, Texts.root_name}
use Rattle.kp_equiv.proofs.Counting.{root_of_ports, root_of_reg, root_of_new, root_of_rest, rest_within, new_of, none_new_of}
use Rattle.kp_equiv.proofs.Listed.{regs_listed}
use Rattle.kp_equiv.proofs.verdict_text.name_of.Goals as goal

pub returns-then-number-eq0 : goal.returns-then-number-eq0
returns-then-number-eq0 c =
    c.ports_name.ensures ∙ sym (ap root_name (ap (λ (n : ℕ). root c.args.a.now c.args.b.now n) c.if-number-eq0.true ∙ root_of_ports c.args.a.now c.args.b.now))

pub returns-then-place-regs : goal.returns-then-place-regs
returns-then-place-regs c =
    let l : c.args.number - 1 < length c.args.a.now.parts.regs = omega (arith, c.if-place-regs.true, c.reg_count-regs.ensures.value) in
    let z : c.args.number ≡ suc (c.args.number - 1) = omega (arith, c.if-number-eq0.false) in
    c.bytes.ensures.bytes ∙ ap (λ (r : NetReg). r.name) c.reg_at.ensures.value
    ∙ sym (ap root_name (ap (λ (n : ℕ). root c.args.a.now c.args.b.now n) z ∙ root_of_reg c.args.a.now c.args.b.now (c.args.number - 1) l))

pub returns-in-Some : goal.returns-in-Some
returns-in-Some c =
    let l : length c.args.a.now.parts.regs < c.args.number = omega (arith, c.if-place-regs.false, c.if-number-eq0.false, c.reg_count-regs.ensures.value) in
    let new = new_of c.args.a.now c.args.b.now c.in_ok-known.known c.in-Some.i (regs_listed c.args.a.now c.parts.result.now _ _ c.parts.ensures.parts c.as_slice.ensures c.in_ok-known.ensures) c.in-Some.ensures in
    c.bytes-in-Some.ensures.bytes ∙ ap (λ (r : NetReg). r.name) c.reg_at-in-Some.ensures.value
    ∙ sym (ap root_name (root_of_new c.args.a.now c.args.b.now c.args.number c.in-Some.i c.requires.first l new))

pub name_behind-requires : goal.name_behind-requires
name_behind-requires c =
    let l : length c.args.a.now.parts.regs < c.args.number = omega (arith, c.if-place-regs.false, c.if-number-eq0.false, c.reg_count-regs.ensures.value) in
    let none = none_new_of c.args.a.now c.args.b.now c.in_ok-known.known (regs_listed c.args.a.now c.parts.result.now _ _ c.parts.ensures.parts c.as_slice.ensures c.in_ok-known.ensures) c.in-None.ensures in
    omega (arith, rest_within c.args.a.now c.args.b.now c.args.number c.requires.first l none, c.reg_count-regs.ensures.value)

pub returns : goal.returns
returns c =
    let l : length c.args.a.now.parts.regs < c.args.number = omega (arith, c.if-place-regs.false, c.if-number-eq0.false, c.reg_count-regs.ensures.value) in
    let none = none_new_of c.args.a.now c.args.b.now c.in_ok-known.known (regs_listed c.args.a.now c.parts.result.now _ _ c.parts.ensures.parts c.as_slice.ensures c.in_ok-known.ensures) c.in-None.ensures in
    c.name_behind.ensures
    ∙ ap (λ (k : ℕ). root_name (get_or (behind_regs c.args.a.now) (c.args.number - 1 - k) Ports)) c.reg_count-regs.ensures.value
    ∙ sym (ap root_name (root_of_rest c.args.a.now c.args.b.now c.args.number l none))

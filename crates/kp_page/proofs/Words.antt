-- The words of the file of a target.
use Rattle.std.proofs.Common.{◌≡◌, ◌∙◌, ℕ, [], get_or, Bool, ap, sym}
use Rattle.std.specs.Prelude.{if◌then◌else◌}
use Rattle.kp_ast.specs.declared.tree.Job.{Job}
use Rattle.kp_net.specs.Netlist.{Net, State}
use Rattle.kp_machine.specs.Words.{target}
use Rattle.kp_implements.specs.Naming.{register_of, file_of, value_shown}
use Rattle.kp_debug.specs.inner.Standing.{IsFileOf}

pub file_words : (job : Job) (net : Net) (t number : ℕ) → IsFileOf job net t number → (st : State)
    → (λ (a : ℕ). get_or (get_or st.files number []) a 0) ≡ value_shown job net st t
unfolding value_shown
file_words job net t number f st =
    ap (λ (i : ℕ). λ (a : ℕ). get_or (get_or st.files i []) a 0) f.is
    ∙ ap (λ (b : Bool). λ (a : ℕ). if b then get_or st.regs (register_of net (target job t)) 0 else get_or (get_or st.files (file_of net (target job t)) []) a 0) (sym f.kind)

-- A legal run of the RISC-V descriptions is one by the table.
use Rattle.std.proofs.Common.{◌≡◌, ◌∙◌, ℕ, ◌*◌, ◌/◌, ◌%◌, ◌<◌, ◌^◌, List, [], Option, None, refl, ap, sym, subst, arith, Bool, true, false, cond, eqb}
use Rattle.std.proofs.lemmas.Bool.{ne_eqb}
use Rattle.std.specs.Prelude.{codes, unwrap_or}
use Rattle.kp_ast.specs.declared.tree.{Image.Image, Stalls.Stalls, Inputs.Inputs as Entries, Job.Job}
use Rattle.kp_pipeline.specs.{Machine.Machine, Pipeline.Inputs, Rows.Trace, Rows.passed, Rows.taken, Sequential.seq}
use Rattle.kp_stage.specs.Start.{start_of, image_of, laid_over}
use Rattle.kp_machine.specs.{Machine.state_of, Machine.machine_of, Machine.result_for, Slots.is_register, Words.HasWord, Words.target}
use Rattle.kp_implements.specs.{Legal.IsLegalFrom, Legal.value_from, Anew.left_by_reset}
use Rattle.kp_described.specs.Sections.{IsHead, HasSections, with_sections}
use Rattle.kp_described.proofs.Sections.{described}
use Rattle.kp_isa_rv.specs.{Text.rv32i_text, Rv32i.rv32i, Rv32ibText.rv32ib_text, Rv32ib.rv32ib, Rv32ipText.rv32ip_text, Rv32ip.rv32ip}
use Rattle.kp_isa_rv.specs.Isa.{Executes, Runs, IsState, Cpu, word_at, bits, cpu_of}
use Rattle.kp_isa_rvm.specs.{Text.rv32im_text, Rv32im.rv32im, Isa.Executes as ExecutesWithM, Isa.Runs as RunsWithM}
use Rattle.kp_isa_rvm.proofs.Running.{runs as runs_im, step as step_im}
use Rattle.kp_isa_rv.proofs.Running.{runs, runs_ib, runs_ip, step}
use Rattle.kp_isa.specs.Runs.{start_state, Fits, Leaves}
use Rattle.kp_isa.specs.RiscV.{rv32i_head, rv32ib_head, rv32ip_head, rv32im_head, IsReady, FollowsBy, Follows, FollowsWithM, IsRiscV, IsHeadOfRiscV}
use Rattle.kp_isa.proofs.Memory.{unless_set, same_machine, written_value, moving_retires}

-- x0 is 0, whatever its word of the file is
zero_or : (b : Bool) (x : ℕ) → x < 2 ^ 32 → cond b 0 x < 2 ^ 32
zero_or true x h = omega arith
zero_or false x h = h

unless_zero : (n x : ℕ) → 0 < n → cond (eqb n 0) 0 x ≡ x
unless_zero n x h = ap (λ (b : Bool). cond b 0 x) (ne_eqb n 0 (λ z. omega arith))

in_word : (a : ℕ) → word_at a < 2 ^ 16
in_word a = omega arith

-- what the descriptions have in common: where the program counter, the registers and the memory are, and the stages that write them
record HasLayout (last : ℕ) (base : Job) : Type 0 where
  pc_has : (machine_of base).has_result 0 ≡ true
  pc_at : (machine_of base).write_stage 0 ≡ 2
  pc_there : HasWord base 0 0
  pc_is : is_register (target base 0) ≡ true
  regs_have : (machine_of base).has_result 2 ≡ true
  regs_at : (machine_of base).write_stage 2 ≡ last
  regs_there : (n : ℕ) → n < 32 → HasWord base 2 n
  mem_has : (machine_of base).has_result 3 ≡ true
  mem_at : (machine_of base).write_stage 3 ≡ 3
  mem_there : (a : ℕ) → HasWord base 3 (word_at a)
  widths : (s : ℕ → ℕ → ℕ) → Fits base s → (s 0 0 < 2 ^ 32) × ((n : ℕ) → s 2 n < 2 ^ 32) × ((n : ℕ) → s 3 n < 2 ^ 32)
  starts : (image : Option (List Image)) (stalls : Option (List Stalls)) (inputs : Option (List Entries))
      → start_state (with_sections base image stalls inputs) 0 0 ≡ laid_over (unwrap_or image []) (codes "PC") 0 0x100000

module _ (Runs : Cpu → ℕ → Cpu → Type 0) (last : ℕ) (base : Job) (layout : HasLayout last base) where
  -- the program counter at the start, and after a reset
  address : (job : Job) → HasSections base job → Leaves (codes "PC") (image_of job) → start_state job 0 0 ≡ 0x100000
  address job (image, stalls, inputs, e) =
      subst (λ (job : Job). Leaves (codes "PC") (image_of job) → start_state job 0 0 ≡ 0x100000) (sym e)
      (λ h. layout.starts image stalls inputs ∙ unless_set (codes "PC") (unwrap_or image []) 0x100000 h)

  ready : (job : Job) (s : ℕ → ℕ → ℕ) → HasSections base job → Leaves (codes "PC") (image_of job) → IsReady (start_state job) × IsReady (left_by_reset job s)
  ready job s (image, stalls, inputs, e) leaves =
      let start = address job (image, stalls, inputs, e) leaves in
      let is : is_register (target job 0) ≡ true = ap (λ (job : Job). is_register (target job 0)) e ∙ layout.pc_is in
      let reset : left_by_reset job s 0 0 ≡ start_state job 0 0 = ap (λ (b : Bool). cond b (start_state job 0 0) (s 0 0)) is in
      (ap (λ (n : ℕ). n % 4) start, ap (λ (n : ℕ). n % 4) (reset ∙ start))

  module _ (runs : (given : ℕ → ℕ → ℕ) (s : ℕ → ℕ → ℕ) (n : ℕ) (c : Cpu) → IsState s → Runs (cpu_of s) n c → cpu_of (seq (machine_of base) s given n) ≡ c) where
    module _ (image : Option (List Image)) (stalls : Option (List Stalls)) (inputs : Option (List Entries)) (s : ℕ → ℕ → ℕ) (ins : List Inputs) (trace : Trace) where
      abbrev own : Job
      own = with_sections base image stalls inputs

      abbrev after : ℕ → ℕ → ℕ → ℕ
      after n = seq (machine_of own) s (taken (machine_of own) ins trace.rows) n

      shows : IsState s → (T k : ℕ) (c : Cpu) → Runs (cpu_of s) (passed trace.rows k T) c → cpu_of (after (passed trace.rows k T)) ≡ c
      shows ok T k c r =
          subst (λ (m : Machine). cpu_of (seq m s (taken (machine_of own) ins trace.rows) (passed trace.rows k T)) ≡ c) (sym (same_machine base image stalls inputs))
          (runs (taken (machine_of own) ins trace.rows) s (passed trace.rows k T) c ok r)

      value : (t k : ℕ) → (machine_of base).has_result t ≡ true → (machine_of base).write_stage t ≡ k → (T a : ℕ) → value_from own s ins trace.rows T t a ≡ after (passed trace.rows k T) t a
      value t k has at T a = written_value base image stalls inputs s ins trace.rows t k has at T a

      there : (t a : ℕ) → HasWord base t a → HasWord own t a
      there t a w = record { target = w.target; address = w.address }

      follows_own : IsLegalFrom own s ins trace → IsState s → FollowsBy Runs last s trace
      follows_own legal ok = record {
        pc = λ T c h r. legal T 0 0 h (there 0 0 layout.pc_there) ∙ value 0 2 layout.pc_has layout.pc_at T 0 ∙ ap (λ (c : Cpu). c.pc) (shows ok T 2 c r);
        regs = λ T n c h positive small r.
            legal T 2 n h (there 2 n (layout.regs_there n small)) ∙ value 2 last layout.regs_have layout.regs_at T n ∙ sym (unless_zero n _ positive)
            ∙ ap (λ (c : Cpu). c.regs n) (shows ok T last c r);
        mem = λ T a c h r.
            ap (λ (w : ℕ). w / 2 ^ (8 * bits a 1 0) % 2 ^ 8) (legal T 3 (word_at a) h (there 3 (word_at a) (layout.mem_there a)) ∙ value 3 3 layout.mem_has layout.mem_at T (word_at a))
            ∙ ap (λ (c : Cpu). c.mem a) (shows ok T 3 c r);
      }

    is_state : (job : Job) (s : ℕ → ℕ → ℕ) → HasSections base job → Fits job s → IsReady s → IsState s
    is_state job s (image, stalls, inputs, e) fits ready =
        let w = layout.widths s (subst (λ (job : Job). Fits job s) e fits) in
        record { pc = w.0; aligned = ready; regs = λ n. zero_or (eqb n 0) (s 2 n) (w.1 n); words = w.2 }

    follows : (job : Job) (s : ℕ → ℕ → ℕ) (ins : List Inputs) (trace : Trace) → HasSections base job → IsLegalFrom job s ins trace → IsState s → FollowsBy Runs last s trace
    follows job s ins trace (image, stalls, inputs, e) legal ok = follows_own image stalls inputs s ins trace (subst (λ (job : Job). IsLegalFrom job s ins trace) e legal) ok

    processor_of : (head : List ℕ) → IsHead head base → IsRiscV (FollowsBy Runs last) head base
    processor_of head read = record {
      processor = record {
        text = λ input lexed job is h. described head base read input is lexed job h.tokens h.tree;
        runs = λ job s ins trace has fits legal ready. follows job s ins trace has legal (is_state job s has fits ready);
        retires = λ job ins trace has moves. moving_retires base job ins trace has moves;
      };
      address = address;
      ready = ready;
    }

-- rv32i
read : IsHead rv32i_head (rv32i None)
unfolding rv32i_text
read = record { image = λ rest. refl; stalls = λ rest. refl; ends = λ rest. refl }

layout : HasLayout 4 (rv32i None)
unfolding machine_of result_for state_of start_of
layout = record {
  pc_has = refl;
  pc_at = refl;
  pc_there = record { target = omega arith; address = omega arith };
  pc_is = refl;
  regs_have = refl;
  regs_at = refl;
  regs_there = λ n small. record { target = omega arith; address = small };
  mem_has = refl;
  mem_at = refl;
  mem_there = λ a. record { target = omega arith; address = in_word a };
  widths = λ s fits. (fits 0 0 (omega arith), (λ n. fits 2 n (omega arith)), (λ n. fits 3 n (omega arith)));
  starts = λ image stalls inputs. refl;
}

pub rv32i_is : IsRiscV Follows rv32i_head (rv32i None)
rv32i_is = processor_of Runs 4 (rv32i None) layout (λ given s n c ok r. runs None given s n c ok r) rv32i_head read

-- rv32ib
read_ib : IsHead rv32ib_head (rv32ib None)
unfolding rv32ib_text
read_ib = record { image = λ rest. refl; stalls = λ rest. refl; ends = λ rest. refl }

layout_ib : HasLayout 4 (rv32ib None)
unfolding machine_of result_for state_of start_of
layout_ib = record {
  pc_has = refl;
  pc_at = refl;
  pc_there = record { target = omega arith; address = omega arith };
  pc_is = refl;
  regs_have = refl;
  regs_at = refl;
  regs_there = λ n small. record { target = omega arith; address = small };
  mem_has = refl;
  mem_at = refl;
  mem_there = λ a. record { target = omega arith; address = in_word a };
  widths = λ s fits. (fits 0 0 (omega arith), (λ n. fits 2 n (omega arith)), (λ n. fits 3 n (omega arith)));
  starts = λ image stalls inputs. refl;
}

pub rv32ib_is : IsRiscV Follows rv32ib_head (rv32ib None)
rv32ib_is = processor_of Runs 4 (rv32ib None) layout_ib (λ given s n c ok r. runs_ib None given s n c ok r) rv32ib_head read_ib

-- rv32ip
read_ip : IsHead rv32ip_head (rv32ip None)
unfolding rv32ip_text
read_ip = record { image = λ rest. refl; stalls = λ rest. refl; ends = λ rest. refl }

layout_ip : HasLayout 4 (rv32ip None)
unfolding machine_of result_for state_of start_of
layout_ip = record {
  pc_has = refl;
  pc_at = refl;
  pc_there = record { target = omega arith; address = omega arith };
  pc_is = refl;
  regs_have = refl;
  regs_at = refl;
  regs_there = λ n small. record { target = omega arith; address = small };
  mem_has = refl;
  mem_at = refl;
  mem_there = λ a. record { target = omega arith; address = in_word a };
  widths = λ s fits. (fits 0 0 (omega arith), (λ n. fits 2 n (omega arith)), (λ n. fits 3 n (omega arith)));
  starts = λ image stalls inputs. refl;
}

pub rv32ip_is : IsRiscV Follows rv32ip_head (rv32ip None)
rv32ip_is = processor_of Runs 4 (rv32ip None) layout_ip (λ given s n c ok r. runs_ip None given s n c ok r) rv32ip_head read_ip

-- rv32im
read_im : IsHead rv32im_head (rv32im None)
unfolding rv32im_text
read_im = record { image = λ rest. refl; stalls = λ rest. refl; ends = λ rest. refl }

layout_im : HasLayout 11 (rv32im None)
unfolding machine_of result_for state_of start_of
layout_im = record {
  pc_has = refl;
  pc_at = refl;
  pc_there = record { target = omega arith; address = omega arith };
  pc_is = refl;
  regs_have = refl;
  regs_at = refl;
  regs_there = λ n small. record { target = omega arith; address = small };
  mem_has = refl;
  mem_at = refl;
  mem_there = λ a. record { target = omega arith; address = in_word a };
  widths = λ s fits. (fits 0 0 (omega arith), (λ n. fits 2 n (omega arith)), (λ n. fits 3 n (omega arith)));
  starts = λ image stalls inputs. refl;
}

pub rv32im_is : IsRiscV FollowsWithM rv32im_head (rv32im None)
rv32im_is = processor_of RunsWithM 11 (rv32im None) layout_im (λ given s n c ok r. runs_im None given s n c ok r) rv32im_head read_im

-- the table gives one state
pub one : (s : ℕ → ℕ → ℕ) (c d : Cpu) → IsState s → Executes (cpu_of s) (s 1 (word_at (s 0 0))) c → Executes (cpu_of s) (s 1 (word_at (s 0 0))) d → c ≡ d
one s c d ok x y = sym (step None (λ q. 0) s c ok x) ∙ step None (λ q. 0) s d ok y

pub one_im : (s : ℕ → ℕ → ℕ) (c d : Cpu) → IsState s → ExecutesWithM (cpu_of s) (s 1 (word_at (s 0 0))) c → ExecutesWithM (cpu_of s) (s 1 (word_at (s 0 0))) d → c ≡ d
one_im s c d ok x y = sym (step_im None (λ q. 0) s c ok x) ∙ step_im None (λ q. 0) s d ok y

pub heads : (head : List ℕ) → IsHeadOfRiscV head → (base : Job) × IsRiscV Follows head base
heads _ IsHeadOfRiscV.of_rv32i = (rv32i None, rv32i_is)
heads _ IsHeadOfRiscV.of_rv32ib = (rv32ib None, rv32ib_is)
heads _ IsHeadOfRiscV.of_rv32ip = (rv32ip None, rv32ip_is)

pub ruleset laws = (heads, one)

pub ruleset laws_im = (rv32im_is, one_im)

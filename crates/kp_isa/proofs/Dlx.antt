-- A legal run of the sample processor without delay slots is one by the table.
use Rattle.std.proofs.Common.{◌≡◌, ◌∙◌, ℕ, List, [], Option, None, refl, ap, sym, subst, arith}
use Rattle.std.specs.Prelude.{codes, unwrap_or}
use Rattle.kp_ast.specs.declared.tree.{Image.Image, Stalls.Stalls, Inputs.Inputs as Entries, Job.Job}
use Rattle.kp_pipeline.specs.{Machine.Machine, Pipeline.Inputs, Rows.Trace, Rows.passed, Rows.taken, Sequential.seq}
use Rattle.kp_stage.specs.Start.{start_of, image_of}
use Rattle.kp_machine.specs.{Machine.state_of, Machine.machine_of, Machine.result_for}
use Rattle.kp_sched.specs.Runs.{passes}
use Rattle.kp_implements.specs.Legal.{IsLegalFrom, value_from}
use Rattle.kp_described.specs.Sections.{IsHead, HasSections, with_sections}
use Rattle.kp_described.proofs.Sections.{described}
use Rattle.kp_isa_dlx.specs.{Text.dlxs_head, Dlxs.dlxs}
use Rattle.kp_isa_dlx.specs.Isa.{Executes, Runs, IsState, Cpu, cpu_of}
use Rattle.kp_isa_dlx.specs.Words.{fields, word_at}
use Rattle.kp_isa_dlx.proofs.Running.{runs, step}
use Rattle.kp_isa.specs.Runs.{start_state, Fits, Leaves, IsProcessor}
use Rattle.kp_isa.specs.Dlx.{IsReady, Follows}
use Rattle.kp_isa.proofs.Memory.{unless_set, same_machine, moving_retires}

-- the text
head_read : IsHead dlxs_head (dlxs None)
unfolding dlxs_head
head_read = record { image = λ rest. refl; stalls = λ rest. refl; ends = λ rest. refl }

module _ (image : Option (List Image)) (stalls : Option (List Stalls)) (inputs : Option (List Entries)) where
  abbrev own : Job
  own = with_sections (dlxs None) image stalls inputs

  module _ (s : ℕ → ℕ → ℕ) (ins : List Inputs) (trace : Trace) (legal : IsLegalFrom own s ins trace) (ok : IsState s) where
    abbrev after : ℕ → ℕ → ℕ → ℕ
    after n = seq (machine_of own) s (taken (machine_of own) ins trace.rows) n

    shows : (T k : ℕ) (c : Cpu) → Runs (cpu_of s) (passed trace.rows k T) c → cpu_of (after (passed trace.rows k T)) ≡ c
    shows T k c r =
        subst (λ (m : Machine). cpu_of (seq m s (taken (machine_of own) ins trace.rows) (passed trace.rows k T)) ≡ c) (sym (same_machine (dlxs None) image stalls inputs))
        (runs None (taken (machine_of own) ins trace.rows) s (passed trace.rows k T) c ok r)

    value0 : (T : ℕ) → value_from own s ins trace.rows T 0 0 ≡ after (passed trace.rows 2 T) 0 0
    unfolding value_from passes machine_of result_for
    value0 T = refl

    value2 : (T r : ℕ) → value_from own s ins trace.rows T 2 r ≡ after (passed trace.rows 4 T) 2 r
    unfolding value_from passes machine_of result_for
    value2 T r = refl

    value3 : (T a : ℕ) → value_from own s ins trace.rows T 3 a ≡ after (passed trace.rows 3 T) 3 a
    unfolding value_from passes machine_of result_for
    value3 T a = refl

    follows_own : Follows s trace
    follows_own = record {
      pc = λ T c h r. legal T 0 0 h (record { target = omega arith; address = omega arith }) ∙ value0 T ∙ ap (λ (c : Cpu). c.pc) (shows T 2 c r);
      regs = λ T n c h small r. legal T 2 n h (record { target = omega arith; address = small }) ∙ value2 T n ∙ ap (λ (c : Cpu). c.regs n) (shows T 4 c r);
      mem = λ T n c h small r. legal T 3 n h (record { target = omega arith; address = small }) ∙ value3 T n ∙ ap (λ (c : Cpu). c.mem n) (shows T 3 c r);
    }

-- the program counter at the start
pub address : (j : Job) → HasSections (dlxs None) j → Leaves (codes "PC") (image_of j) → start_state j 0 0 ≡ 0
unfolding state_of start_of
address j (image, stalls, inputs, e) =
    subst (λ (j : Job). Leaves (codes "PC") (image_of j) → start_state j 0 0 ≡ 0) (sym e) (λ h. unless_set (codes "PC") (unwrap_or image []) 0 h)

-- the table gives one state
pub one : (s : ℕ → ℕ → ℕ) (c d : Cpu) → IsState s → Executes (cpu_of s) (fields (s 1 (word_at (s 0 0)))) c → Executes (cpu_of s) (fields (s 1 (word_at (s 0 0)))) d → c ≡ d
one s c d ok x y = sym (step None (λ q. 0) s c ok x) ∙ step None (λ q. 0) s d ok y

is_state : (job : Job) (s : ℕ → ℕ → ℕ) → HasSections (dlxs None) job → Fits job s → IsReady s → IsState s
is_state job s (image, stalls, inputs, e) fits ready =
    let values : Fits (with_sections (dlxs None) image stalls inputs) s = subst (λ (job : Job). Fits job s) e fits in
    record {
      pc = values 0 0 (omega arith);
      regs = λ n. values 2 n (omega arith);
      zero_reg = ready;
      words = λ n. values 3 n (omega arith);
    }

follows : (job : Job) (s : ℕ → ℕ → ℕ) (ins : List Inputs) (trace : Trace) → HasSections (dlxs None) job → IsLegalFrom job s ins trace → IsState s → Follows s trace
follows job s ins trace (image, stalls, inputs, e) legal ok = follows_own image stalls inputs s ins trace (subst (λ (job : Job). IsLegalFrom job s ins trace) e legal) ok

pub processor : IsProcessor dlxs_head (dlxs None) IsReady Follows
processor = record {
  text = λ input lexed job is h. described dlxs_head (dlxs None) head_read input is lexed job h.tokens h.tree;
  runs = λ job s ins trace has fits legal ready. follows job s ins trace has legal (is_state job s has fits ready);
  retires = λ job ins trace has moves. moving_retires (dlxs None) job ins trace has moves;
}

pub ruleset laws = (processor, address, one)

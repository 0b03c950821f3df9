-- A legal run of the accumulator machine is one by the table.
use Rattle.std.proofs.Common.{◌≡◌, ◌∙◌, ℕ, ◌<◌, ◌^◌, List, Option, None, refl, ap, sym, subst, arith}
use Rattle.kp_ast.specs.declared.tree.{Image.Image, Stalls.Stalls, Inputs.Inputs as Entries, Job.Job}
use Rattle.kp_pipeline.specs.{Machine.Machine, Pipeline.Inputs, Rows.Trace, Rows.passed, Rows.taken, Sequential.seq}
use Rattle.kp_machine.specs.Machine.{machine_of, result_for}
use Rattle.kp_sched.specs.Runs.{passes}
use Rattle.kp_implements.specs.Legal.{IsLegalFrom, value_from}
use Rattle.kp_described.{specs.Sections.IsHead, specs.Sections.HasSections, specs.Sections.with_sections, proofs.Sections.described}
use Rattle.kp_isa.{specs.Runs.IsProcessor, proofs.Memory.same_machine, proofs.Memory.moving_retires}
use Rattle.kp_isa_six.specs.{Text.six_head, Six.six, Isa.Runs, Isa.Cpu, Isa.cpu_of, Executing.IsReady, Executing.Follows}
use Rattle.kp_isa_six.proofs.Rows.{runs}

-- the text has the tree, by computation
head_read : IsHead six_head (six None)
unfolding six_head
head_read = record { image = λ rest. refl; stalls = λ rest. refl; ends = λ rest. refl }

module _ (image : Option (List Image)) (stalls : Option (List Stalls)) (inputs : Option (List Entries)) where
  abbrev own : Job
  own = with_sections (six None) image stalls inputs

  module _ (s : ℕ → ℕ → ℕ) (ins : List Inputs) (trace : Trace) (legal : IsLegalFrom own s ins trace) where
    abbrev after : ℕ → ℕ → ℕ → ℕ
    after n = seq (machine_of own) s (taken (machine_of own) ins trace.rows) n

    shows : (T k : ℕ) (c : Cpu) → Runs (cpu_of s) (passed trace.rows k T) c → cpu_of (after (passed trace.rows k T)) ≡ c
    shows T k c r =
        subst (λ (m : Machine). cpu_of (seq m s (taken (machine_of own) ins trace.rows) (passed trace.rows k T)) ≡ c) (sym (same_machine (six None) image stalls inputs))
        (runs None (taken (machine_of own) ins trace.rows) s (passed trace.rows k T) c r)

    pc_is : (T : ℕ) → value_from own s ins trace.rows T 0 0 ≡ after (passed trace.rows 2 T) 0 0
    unfolding value_from passes machine_of result_for
    pc_is T = refl

    acc_is : (T : ℕ) → value_from own s ins trace.rows T 1 0 ≡ after (passed trace.rows 3 T) 1 0
    unfolding value_from passes machine_of result_for
    acc_is T = refl

    mem_is : (T a : ℕ) → value_from own s ins trace.rows T 3 a ≡ after (passed trace.rows 3 T) 3 a
    unfolding value_from passes machine_of result_for
    mem_is T a = refl

    follows_own : Follows s trace
    follows_own = record {
      pc = λ T c h r. legal T 0 0 h (record { target = omega arith; address = omega arith }) ∙ pc_is T ∙ ap (λ (c : Cpu). c.pc) (shows T 2 c r);
      acc = λ T c h r. legal T 1 0 h (record { target = omega arith; address = omega arith }) ∙ acc_is T ∙ ap (λ (c : Cpu). c.acc) (shows T 3 c r);
      mem = λ T a c h small r. legal T 3 a h (record { target = omega arith; address = small }) ∙ mem_is T a ∙ ap (λ (c : Cpu). c.mem a) (shows T 3 c r);
    }

follows : (job : Job) (s : ℕ → ℕ → ℕ) (ins : List Inputs) (trace : Trace) → HasSections (six None) job → IsLegalFrom job s ins trace → Follows s trace
follows job s ins trace (image, stalls, inputs, e) legal = follows_own image stalls inputs s ins trace (subst (λ (job : Job). IsLegalFrom job s ins trace) e legal)

pub processor : IsProcessor six_head (six None) IsReady Follows
processor = record {
  text = λ input lexed job is h. described six_head (six None) head_read input is lexed job h.tokens h.tree;
  runs = λ job s ins trace has fits legal ready. follows job s ins trace has legal;
  retires = λ job ins trace has moves. moving_retires (six None) job ins trace has moves;
}

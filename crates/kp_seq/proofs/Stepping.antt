-- An executed instruction of a machine: the state after it, and what the machine preserves.
use Rattle.std.proofs.Common.{◌≡◌, ◌∙◌, ℕ, ◌≤◌, ◌<◌, ◌^◌, List, None, length, get_or, refl, ap, sym, subst, arith}
use Rattle.std.proofs.lemmas.Option.{slice_get-get_or}
use Rattle.std.specs.{Prelude.sum_by, Prelude.slice_index, Prelude.unwrap_or, List.All}
use Rattle.kp_bits.specs.Word.{Word}
use Rattle.kp_ast.specs.declared.tree.Job.{Job}
use Rattle.kp_stage.specs.{Sizes.size_of_block, Sizes.size_of_job, Start.AreSamples}
use Rattle.kp_pipeline.specs.Sequential.{Instruction, before_stage}
use Rattle.kp_machine.specs.{Machine.machine_of, Machine.values_in, Slots.pipes_of, Slots.targets_of, Words.no_slot, Words.state_in, Words.after_one}
use Rattle.kp_seq.specs.{declared.machine.Resolved.Resolved, Computed.HasComputed, Computed.computed, Computed.slot_for, Recorded.record_of, inner.Fits.FitSlots}
use Rattle.kp_seq.specs.declared.computed.Computed.{Computed, TheVariants.Pipe, TheVariants.Result}
use Rattle.kp_seq.specs.inner.Notes.{Noted, record_by, with_results, begun_notes, note_blocks}
use Rattle.kp_seq.specs.inner.Ready.{HasPlaces, HasRoom, IsNoted, IsReady}
use Rattle.kp_seq.specs.inner.Resolved.{Outline, Raw, entry_widths, steps_space, ran, after_stages, begun_at, noted, value_held}
use Rattle.kp_seq.specs.inner.{Steps.Under, Steps.begun, Steps.after_blocks, Steps.executed, Tables.Laid}
use Rattle.kp_seq.proofs.{Lengths.all_same, Resolved.enough, Written.Ended, Written.or_zero_fits}
use Rattle.kp_seq.proofs.Step.{Follows, as_under, as_placed, step_state, step_fits, all_ended, all_follow, ran_is, noted_is}
use Rattle.kp_seq.proofs.Recording.{still_noted, noted_is_recorded}

module _ (job : Job) (d : Resolved) (r : Raw) (space : ℕ) (words : List (List ℕ)) (n : Noted) (ready : IsReady job d.tables d.program r space words n) where
  abbrev t : Laid
  t = d.tables

  abbrev o : Outline
  o = d.program

  -- the resolved design as it was read
  module _ (x : Resolved) (read : x ≡ d) where
    -- the scratch space is enough for each stage
    pub room_is_enough : (room : ℕ) → room ≡ space → All (λ s. steps_space s ≤ room) x.program.stages
    room_is_enough room same =
        let e : sum_by (size_of_block t.decls) job.blocks ≡ size_of_job job = ap (λ ds. sum_by (size_of_block ds) job.blocks) ready.tables.decls in
        subst (λ (y : Resolved). All (λ s. steps_space s ≤ room) y.program.stages) (sym read)
        (enough t (entry_widths t) job.blocks o.stages room ready.program.stages (omega (arith, e, ready.room, same)))

    module _ (row : List Word) (fits : AreSamples job.decls row) where
      abbrev u : Under
      u = as_under r

      placed : HasPlaces t u
      placed = as_placed t r ready.places

      follows : Follows t u r
      follows = record { names = ready.places.names; pipes = refl; results = refl }

      -- what it has after the last stage
      module _ (under : Raw) (left : under ≡ after_stages x.program words row (begun_at r) x.program.stages) where
        abbrev ended_at : Under
        ended_at = after_blocks t words row (begun u) job.blocks

        left_is : under ≡ after_stages o words row (begun_at r) o.stages
        left_is = left ∙ ap (λ (y : Resolved). after_stages y.program words row (begun_at r) y.program.stages) read

        followed : Follows t ended_at (after_stages o words row (begun_at r) o.stages)
        followed = all_follow job ready.names ready.stages t ready.tables _ refl words ready.words row fits o ready.program u r placed follows

        abbrev last : Instruction
        last = before_stage (machine_of job) (state_in words) (values_in row) (machine_of job).stages

        ended : Ended job.decls last ended_at
        ended = all_ended job ready.names ready.stages t ready.tables _ refl words ready.words row fits u placed

        -- there is still an entry for each name, pipe and result
        pub room_after : HasRoom t under
        room_after =
            let kept = all_same t words row u job.blocks in
            subst (HasRoom t) (sym left_is) (record {
              names = followed.names;
              pipes = ap length followed.pipes ∙ kept.pipes ∙ ready.places.pipes;
              results = ap length followed.results ∙ kept.results ∙ ready.places.results;
            })

        -- its values are those that the instruction computes
        pub value_is : (what : Computed) → value_held under what ≡ computed job (state_in words) (values_in row) what
        value_is (Pipe p) = ap (λ (v : Raw). slice_index v.pipes p) left_is ∙ ap (λ xs. slice_index xs p) followed.pipes ∙ ended.pipes p
        value_is (Result k) =
            ap (λ (v : Raw). unwrap_or (get_or v.results k None) 0) left_is ∙ ap (λ xs. unwrap_or (get_or xs k None) 0) followed.results
            ∙ ap (λ o. unwrap_or o 0) (ended.results k)

        -- and they fit
        pub value_fits : (what : Computed) → HasComputed job what → value_held under what < 2 ^ (slot_for job what).width
        value_fits (Pipe p) there =
            subst (λ v. v < 2 ^ (slot_for job (Pipe p)).width) (ended.pipes p ∙ sym (value_is (Pipe p)))
            (ended.pipe_fits p _ (slice_get-get_or (pipes_of job.decls) p no_slot there))
        value_fits (Result k) there =
            subst (λ v. v < 2 ^ (slot_for job (Result k)).width) (sym (value_is (Result k)))
            (or_zero_fits (last.results k) (slot_for job (Result k)).width
            (λ v is. ended.result_fits k _ v (slice_get-get_or (targets_of job.decls) k no_slot there) (ended.results k ∙ is)))

        -- the machine is ready again, if its words and its record stay
        pub still_ready : (room : ℕ) → room ≡ space → IsReady job t o under room words n
        still_ready room same = record {
          names = ready.names;
          stages = ready.stages;
          tables = ready.tables;
          program = ready.program;
          places = room_after;
          room = omega (arith, ready.room, same);
          words = ready.words;
          notes = ready.notes;
        }

      -- what the words become
      module _ (after : List (List ℕ)) (ran_by : after ≡ ran x.program x.tables.ports row r words) where
        words_are : after ≡ executed t row u job.blocks words
        words_are =
            ran_by ∙ ap (λ (y : Resolved). ran y.program y.tables.ports row r words) read
            ∙ ran_is job ready.names ready.stages t ready.tables _ refl words ready.words row fits o ready.program u r placed follows

        -- the state is that after the instruction
        pub state_after : state_in after ≡ after_one job (state_in words) row
        state_after = ap state_in words_are ∙ step_state job ready.names ready.stages t ready.tables _ refl words ready.words row fits u placed

        -- the words still fit the targets, and there is still an entry for each name, pipe and result
        pub ready_after : (under : Raw) (room : ℕ) (notes : Noted) → under ≡ after_stages x.program words row (begun_at r) x.program.stages → room ≡ space → IsNoted job notes → IsReady job t o under room after notes
        ready_after under room notes left same noted =
            record {
              names = ready.names;
              stages = ready.stages;
              tables = ready.tables;
              program = ready.program;
              places = room_after under left;
              room = omega (arith, ready.room, same);
              words = subst (FitSlots (targets_of job.decls)) (sym words_are) (step_fits job ready.names ready.stages t ready.tables _ refl words ready.words row fits u placed);
              notes = noted;
            }

      -- the record is that of the instruction
      module _ (after : Noted) (noted_by : after ≡ noted x.program words row r n) where
        notes_are : after ≡ with_results (after_blocks t words row (begun u) job.blocks) (note_blocks t words row 0 (begun u) (begun_notes n) job.blocks)
        notes_are =
            noted_by ∙ ap (λ (y : Resolved). noted y.program words row r n) read
            ∙ noted_is job ready.names ready.stages t ready.tables _ refl words ready.words row fits o ready.program u r n placed follows

        pub record_kept : IsNoted job after
        record_kept = subst (IsNoted job) (sym notes_are) (still_noted job ready.names ready.stages t ready.tables _ refl words ready.words row fits u n placed ready.notes)

        pub record_after : record_by after ≡ record_of job (state_in words) (values_in row)
        record_after = ap record_by notes_are ∙ noted_is_recorded job ready.names ready.stages t ready.tables _ refl words ready.words row fits u n placed ready.notes

-- The tables that are laid out are those of the job.
use Rattle.std.proofs.Common.{◌≡◌, ◌∙◌, ℕ, zero, suc, ◌+◌, ◌-◌, ◌<◌, ◌≤◌, max, List, [], ◌∷◌, ◌++◌, map, Option, Some, None, Bool, true, false, cond, ◌&&◌, ◌||◌, length, get_or, refl, ap, sym, subst, ◌==◌, arith}
use Rattle.std.proofs.lemmas.{List.get_or-map, List.length-map, List.map-id, Option.slice_get-get_or, Bool.ltb-true}
use Rattle.std.specs.{Prelude.is_some, Prelude.nat_lt, Prelude.nat_le, Prelude.slice_get, List.list_any}
use Rattle.kp_base.specs.First.{first}
use Rattle.kp_stage.proofs.{Unbroken.answer_none, Kept.rules_kept, Kept.decl_kept}
use Rattle.kp_stage.specs.Facts.{At, Facts, facts_of, put_at, puts_in, puts_of, aim_at, aims_in, aims_of}
use Rattle.kp_stage.specs.{declared.rules.Rule.Rule, Stages.broken_of, Design.Plan, Design.IsSound, Uses.puts, Uses.aims}
use Rattle.kp_machine.proofs.{Cases.by_test, Stages.stages_inside}
use Rattle.kp_machine.specs.Slots.{Slot, targets_of, pipes_of, hints_of, samples_of}
use Rattle.kp_machine.specs.Machine.{machine_of, result_for, write_stage_of, after_put, stage_or_zero, known_after, known_from_of, aim_stage}
use Rattle.kp_ast.specs.declared.tree.{Named.Named, ResultDecl.ResultDecl, Decl.Decl, Stmt.Stmt, StmtKind.StmtKind, Block.Block, Job.Job}
use Rattle.kp_ast.specs.declared.tree.Decl.TheVariants as decls
use Rattle.kp_ast.specs.declared.tree.StmtKind.TheVariants as stmts
use Rattle.kp_width.{specs.Widths.widths_of, proofs.Unbroken.Unbroken}
use Rattle.kp_design.specs.{Numbers.no_slot, Numbers.pipe_at, Numbers.hint_at, Numbers.no_guess, Numbers.guesses_of, Numbers.guess_at}
use Rattle.kp_design.specs.inner.Tables.{byte, short, sized, bytes_of, has_aim, aimed_in, short_piped, short_aimed, IsDeclared, known_in, short_number, short_port, short_guess}
use Rattle.kp_design.specs.{declared.layout.Sized.Sized, declared.layout.Port.Port, declared.layout.Piped.Piped, declared.layout.Aimed.Aimed, declared.tables.Declared.Declared}
use Rattle.kp_design.specs.Spans.{has_put, put_after, has_set, set_after, uses_name, last_use_in, is_called, last_write, last_use}
use Rattle.kp_design.specs.Fits.{pipe_number, port_for, port_at, IsWidth, EnableFits, AddressFits, ResultFits, Fits}
use Rattle.kp_design.specs.inner.Laid.{no_size, no_aim, no_piped, piped_of, Vectors, IsLaid}
use Rattle.kp_design.proofs.{Fitting.guess_there, Fitting.fits, Limits.IsFew, Limits.few}

byte_is : (n : ℕ) → n ≤ 255 → byte n ≡ n
byte_is n l = omega arith

short_is : (n : ℕ) → n ≤ 65536 → short n ≡ n
short_is n l = omega arith

byte_at : (ss : List Slot) (x : ℕ) → x < length ss → IsWidth (get_or ss x no_slot).width → get_or (bytes_of ss) x 0 ≡ (get_or ss x no_slot).width
byte_at ss x l w = get_or-map (λ (s : Slot). byte s.width) ss x no_slot 0 l ∙ byte_is _ (omega (arith, w.at_most))

maps_same : {X Y : Type 0} (f g : X → Y) (xs : List X) (d : X) → ((i : ℕ) → i < length xs → f (get_or xs i d) ≡ g (get_or xs i d)) → map f xs ≡ map g xs
maps_same f g [] d h = refl
maps_same f g (x ∷ xs) d h =
    let here : f x ≡ g x = h 0 (omega arith) in
    let more = maps_same f g xs d (λ i l. h (suc i) (omega (arith, l))) in
    λ i. here i ∷ more i

-- PUTS AND AIMS. The stage of the first.
abbrev stage_of : Option At → Option ℕ
stage_of None = None
stage_of (Some at) = Some at.stage

first_stage : (k : ℕ) (b c : Bool) (at : At) (os : List (Option At)) → at.stage ≡ k → stage_of (first os) ≡ cond c (Some k) None
    → stage_of (first (cond b (Some at) None ∷ os)) ≡ cond (b || c) (Some k) None
first_stage k true c at os e h = ap Some e
first_stage k false c at os e h = h

module _ (test : StmtKind → Bool) (at : ℕ → ℕ → StmtKind → Option At) (is : (k j : ℕ) (s : StmtKind) → at k j s ≡ cond (test s) (Some (record { stage = k; index = j })) None)
    (all : ℕ → ℕ → List Stmt → List (Option At)) (none : (k j : ℕ) → all k j [] ≡ []) (more : (k j : ℕ) (s : Stmt) (ss : List Stmt) → all k j (s ∷ ss) ≡ at k j s.kind ∷ all k (j + 1) ss) where
  stage_in : (k j : ℕ) (ss : List Stmt) → stage_of (first (all k j ss)) ≡ cond (list_any (λ (s : Stmt). test s.kind) ss) (Some k) None
  stage_in k j [] = ap (λ (os : List (Option At)). stage_of (first os)) (none k j)
  stage_in k j (s ∷ ss) =
      ap (λ (os : List (Option At)). stage_of (first os)) (more k j s ss ∙ ap (λ (o : Option At). o ∷ all k (j + 1) ss) (is k j s.kind))
      ∙ first_stage k (test s.kind) (list_any (λ (x : Stmt). test x.kind) ss) (record { stage = k; index = j }) (all k (j + 1) ss) refl (stage_in k (j + 1) ss)

module _ (f : Option At → ℕ) (g : ℕ → ℕ) (some : (a : At) → f (Some a) ≡ g a.stage) where
  block_stage : (k m : ℕ) (b : Bool) (o : Option At) (os : List (Option At)) → stage_of o ≡ cond b (Some k) None → m ≡ f (first os) → cond b (g k) m ≡ f (first (o ∷ os))
  block_stage k m true None os e h = cc
  block_stage k m false None os e h = h
  block_stage k m true (Some at) os e h = let z : at.stage ≡ k = cc in ap g (sym z) ∙ sym (some at)
  block_stage k m false (Some at) os e h = cc

module _ (name : List ℕ) where
  put_here : (k j : ℕ) (s : StmtKind) → put_at name k j s ≡ cond (puts name s) (Some (record { stage = k; index = j })) None
  put_here k j (stmts.Put n e) = refl
  put_here k j s = refl

  aim_here : (k j : ℕ) (s : StmtKind) → aim_at name k j s ≡ cond (aims name s) (Some (record { stage = k; index = j })) None
  aim_here k j (stmts.Aim n e) = refl
  aim_here k j s = refl

  put_same : (k : ℕ) (bs : List Block) → put_after name k bs ≡ after_put (first (puts_of name k bs))
  put_same k [] = refl
  put_same k (b ∷ bs) =
      block_stage after_put (λ n. n + 1) (λ a. omega arith) k _ (has_put name b.stmts) (first (puts_in name k 0 b.stmts)) (puts_of name (k + 1) bs)
      (stage_in (puts name) (put_at name) put_here (puts_in name) (λ n j. refl) (λ n j s ss. refl) k 0 b.stmts) (put_same (k + 1) bs)

  put_few : (k : ℕ) (bs : List Block) → put_after name k bs ≤ k + length bs
  put_few k [] = omega arith
  put_few k (b ∷ bs) = let more = put_few (k + 1) bs in by_test (has_put name b.stmts) (λ y. rw y (omega arith)) (λ n. rw n (omega (arith, more)))

  set_few : (k : ℕ) (bs : List Block) → set_after name k bs ≤ k + length bs
  set_few k [] = omega arith
  set_few k (b ∷ bs) = let more = set_few (k + 1) bs in by_test (has_set name b.stmts) (λ y. rw y (omega arith)) (λ n. rw n (omega (arith, more)))

  use_few : (last k : ℕ) (bs : List Block) → last ≤ k → last_use_in name last k bs ≤ k + length bs
  use_few last k [] l = omega (arith, l)
  use_few last k (b ∷ bs) l =
      by_test (uses_name name b.stmts)
      (λ y. rw y (let more = use_few k (k + 1) bs (omega arith) in omega (arith, more)))
      (λ n. rw n (let more = use_few last (k + 1) bs (omega (arith, l)) in omega (arith, more)))

  aim_same : (k : ℕ) (bs : List Block) → aimed_in name k bs ≡ stage_or_zero (first (aims_of name k bs))
  aim_same k [] = refl
  aim_same k (b ∷ bs) =
      block_stage stage_or_zero (λ n. n) (λ a. refl) k _ (has_aim name b.stmts) (first (aims_in name k 0 b.stmts)) (aims_of name (k + 1) bs)
      (stage_in (aims name) (aim_at name) aim_here (aims_in name) (λ n j. refl) (λ n j s ss. refl) k 0 b.stmts) (aim_same (k + 1) bs)

module _ (job : Job) (right : Unbroken (widths_of job)) (kept : broken_of job ≡ None) where
  abbrev facts : Facts
  facts = facts_of job

  fit : Fits job
  fit = fits job right kept

  pub small : IsFew job
  small = few job kept

  known_is : (o : Option Named) → known_in job o ≡ known_after facts o
  known_is None = refl
  known_is (Some n) = put_same n.name 0 job.blocks

  known_few : (o : Option Named) → known_in job o ≤ 12
  known_few None = omega arith
  known_few (Some n) =
      let stages = stages_inside job kept in
      omega (arith, put_few n.name 0 job.blocks, stages, fit.at_most)

  enable_is : (o : Option Named) → EnableFits job (pipe_number job o) → short_number job o ≡ pipe_number job o
  enable_is None h = refl
  enable_is (Some n) h = ap Some (short_is _ (omega (arith, h.0, small.pipes)))

  address_is : (t : ℕ) (o : Option Named) → AddressFits job t (pipe_number job o) → short_number job o ≡ pipe_number job o
  address_is t None h = refl
  address_is t (Some n) h = ap Some (short_is _ (omega (arith, h.1, small.pipes)))

  known_same : (t : ℕ) (r : ResultDecl) → result_for job t ≡ Some r → (machine_of job).known_from t ≡ max (known_in job r.address) (known_in job r.enable)
  unfolding machine_of
  known_same t r e =
      let a = known_is r.address in
      let b = known_is r.enable in
      ap (known_from_of facts) e ∙ (λ i. max (sym a i) (sym b i))

  port_is : (t : ℕ) (o : Option ResultDecl) → result_for job t ≡ o → ResultFits job t (port_for job t o) → short_port job o ≡ port_for job t o
  port_is t None e h = refl
  port_is t (Some r) e h =
      let w : short r.stage.value ≡ r.stage.value = short_is r.stage.value (omega (arith, h.0, fit.at_most)) in
      let x = known_in job r.address in
      let y = known_in job r.enable in
      let most : max x y ≤ 12 = omega (arith, known_few r.address, known_few r.enable) in
      let k : short (max x y) ≡ (machine_of job).known_from t = short_is (max x y) (omega (arith, most)) ∙ sym (known_same t r e) in
      let a = enable_is r.enable h.1 in
      let b = address_is t r.address h.2 in
      let st : short (set_after r.name.name 0 job.blocks) ≡ set_after r.name.name 0 job.blocks = short_is _ (omega (arith, set_few r.name.name 0 job.blocks, stages_inside job kept, fit.at_most)) in
      λ i. Some (record { write = w i; known = k i; set = st i; enable = a i; address = b i })

  -- PIPES. Each result has a write stage among the stages.
  write_few : (name : List ℕ) (last : ℕ) (ds : List Decl) → last ≤ 12 → ((i : ℕ) (r : ResultDecl) → slice_get ds i ≡ Some (decls.Target r) → r.stage.value ≤ 12) → last_write name last ds ≤ 12
  write_few name last [] l h = l
  write_few name last (decls.Target r ∷ ds) l h =
      let own : r.stage.value ≤ 12 = h 0 r refl in
      let more = λ (x : ℕ) (m : x ≤ 12). write_few name x ds m (λ i q e. h (suc i) q e) in
      by_test (is_called name r.address || is_called name r.enable)
      (λ y. rw y (more (max last r.stage.value) (omega (arith, l, own))))
      (λ n. rw n (more last l))
  write_few name last (d ∷ ds) l h = write_few name last ds l (λ i q e. h (suc i) q e)

  results_early : (i : ℕ) (r : ResultDecl) → slice_get job.decls i ≡ Some (decls.Target r) → r.stage.value ≤ 12
  results_early i r e =
      let w : nat_lt r.stage.value facts.stages ≡ true = answer_none _ _ (decl_kept facts job (rules_kept job kept) Rule.E15 i (decls.Target r) e) in
      let l = ltb-true r.stage.value job.stages.value w in
      omega (arith, l, fit.at_most)

  use_is : (name : List ℕ) → short (last_use job name) ≡ last_use job name
  use_is name =
      let stages = stages_inside job kept in
      let a = use_few name 0 0 job.blocks (omega arith) in
      let w = write_few name (last_use_in name 0 0 job.blocks) job.decls (omega (arith, a, stages, fit.at_most)) results_early in
      short_is _ (omega (arith, w))

  pipe_short : (x : ℕ) → x < length (pipes_of job.decls) → short_piped job (pipe_at job x) ≡ piped_of job (pipe_at job x)
  pipe_short x l =
      let a : byte (pipe_at job x).width ≡ (pipe_at job x).width = byte_is _ (omega (arith, (fit.pipes x l).at_most)) in
      let b : short (put_after (pipe_at job x).name 0 job.blocks) ≡ put_after (pipe_at job x).name 0 job.blocks =
      short_is _ (omega (arith, put_few (pipe_at job x).name 0 job.blocks, stages_inside job kept, fit.at_most)) in
      let c = use_is (pipe_at job x).name in
      λ i. record { width = a i; from = b i; to = c i }

  aim_is : (h : ℕ) → h < length (hints_of job.decls) → short (aimed_in (hint_at job h).name 0 job.blocks) ≡ (machine_of job).hint_stage h
  unfolding machine_of
  aim_is h l =
      let s = aim_same (hint_at job h).name 0 job.blocks in
      let e : aimed_in (hint_at job h).name 0 job.blocks ≡ aim_stage facts (slice_get (hints_of job.decls) h) = s ∙ ap (aim_stage facts) (sym (slice_get-get_or (hints_of job.decls) h no_slot l)) in
      let f : aim_stage facts (slice_get (hints_of job.decls) h) < job.stages.value = fit.aims h l in
      short_is _ (omega (arith, e, f, fit.at_most)) ∙ e

  guess_is : (g : ℕ) → g < length (guesses_of job) → short_guess (guess_at job g) ≡ guess_at job g
  guess_is g l =
      let h = guess_there job right kept g l in
      let a : short (guess_at job g).stage ≡ (guess_at job g).stage = short_is _ (omega (arith, h.early, h.late, fit.at_most)) in
      let b : short (guess_at job g).index ≡ (guess_at job g).index = short_is _ (omega (arith, h.index, small.guesses)) in
      let d : short (guess_at job g).register ≡ (guess_at job g).register = short_is _ (omega (arith, h.register, small.targets)) in
      let e : byte (guess_at job g).width ≡ (guess_at job g).width = byte_is _ (omega (arith, h.width.at_most)) in
      let f : short (guess_at job g).write ≡ (guess_at job g).write = short_is _ (omega (arith, h.late, fit.at_most)) in
      λ i. record { stage = a i; index = b i; register = d i; width = e i; write = f i }

  module _ (v : Vectors) where
    -- what is laid out is laid
    pub laid : IsDeclared job v.all → length v.ports ≡ length (targets_of job.decls)
        → ((t : ℕ) → t < length (targets_of job.decls) → get_or v.ports t None ≡ short_port job (result_for job t))
        → v.guesses ≡ map short_guess (guesses_of job) → IsLaid job v
    laid d n b f =
        let ts = targets_of job.decls in
        let count : length v.all.targets.items ≡ length ts = ap length d.targets ∙ length-map ts sized in
        let ds : v.all.pipes.items ≡ map (piped_of job) (pipes_of job.decls) = d.pipes ∙ maps_same (short_piped job) (piped_of job) (pipes_of job.decls) no_slot pipe_short in
        let pipe_count : length v.all.pipes.items ≡ length (pipes_of job.decls) = ap length ds ∙ length-map (pipes_of job.decls) (piped_of job) in
        let sample_count : length v.all.samples.items ≡ length (samples_of job.decls) = ap length d.samples ∙ length-map (samples_of job.decls) (λ (s : Slot). byte s.width) in
        let hint_count : length v.all.hints.items ≡ length (hints_of job.decls) = ap length d.hints ∙ length-map (hints_of job.decls) (short_aimed job) in
        let is : (t : ℕ) → t < length ts → get_or v.ports t None ≡ port_at job t = λ t l. b t l ∙ port_is t (result_for job t) refl (fit.results t l) in
        let same : v.guesses ≡ guesses_of job = f ∙ maps_same short_guess (λ g. g) (guesses_of job) no_guess guess_is ∙ map-id (guesses_of job) in
        record {
          fits = fit;
          target_count = count;
          few_targets = omega (arith, count, small.targets);
          width = λ t l. let m : t < length ts = omega (arith, l, count) in
              ap (λ (xs : List Sized). (get_or xs t no_size).width) d.targets ∙ ap (λ (z : Sized). z.width) (get_or-map sized ts t no_slot no_size m) ∙ byte_is _ (omega (arith, (fit.targets t m).at_most));
          address = λ t l. let m : t < length ts = omega (arith, l, count) in
              ap (λ (xs : List Sized). (get_or xs t no_size).address) d.targets ∙ ap (λ (z : Sized). z.address) (get_or-map sized ts t no_slot no_size m) ∙ byte_is _ (omega (arith, fit.addresses t m));
          port_count = n;
          port = λ t l. is t (omega (arith, l, n));
          pipe_count = pipe_count;
          few_pipes = omega (arith, pipe_count, small.pipes);
          pipe = λ x l. let m : x < length (pipes_of job.decls) = omega (arith, l, pipe_count) in
              ap (λ (xs : List Piped). get_or xs x no_piped) ds ∙ get_or-map (piped_of job) (pipes_of job.decls) x no_slot no_piped m;
          hint_count = hint_count;
          few_hints = omega (arith, hint_count, small.hints);
          hint = λ h l. let m : h < length (hints_of job.decls) = omega (arith, l, hint_count) in
              ap (λ (xs : List Aimed). (get_or xs h no_aim).width) d.hints ∙ ap (λ (z : Aimed). z.width) (get_or-map (short_aimed job) (hints_of job.decls) h no_slot no_aim m) ∙ byte_is _ (omega (arith, (fit.hints h m).at_most));
          aim = λ h l. let m : h < length (hints_of job.decls) = omega (arith, l, hint_count) in
              ap (λ (xs : List Aimed). (get_or xs h no_aim).stage) d.hints ∙ ap (λ (z : Aimed). z.stage) (get_or-map (short_aimed job) (hints_of job.decls) h no_slot no_aim m) ∙ aim_is h m;
          sample_count = sample_count;
          few_samples = omega (arith, sample_count, small.samples);
          sample = λ x l. let m : x < length (samples_of job.decls) = omega (arith, l, sample_count) in
              ap (λ (xs : List ℕ). get_or xs x 0) d.samples ∙ byte_at (samples_of job.decls) x m (fit.samples x m);
          guesses = same;
        }

-- THE TABLES OF A DESIGN.
module _ (p : Plan) (sound : IsSound p) (job : Job) (same : job ≡ p.job) where
  pub opened : (v : Vectors) (n : ℕ) → IsDeclared job v.all → n ≡ length v.all.targets.items → length v.ports ≡ n
      → ((t : ℕ) → t < n → get_or v.ports t None ≡ short_port job (result_for job t)) → v.guesses ≡ map short_guess (guesses_of job) → IsLaid p.job v
  opened v n d e f b g =
      let count : length v.all.targets.items ≡ length (targets_of job.decls) = ap length d.targets ∙ length-map (targets_of job.decls) sized in
      subst (λ (j : Job). IsLaid j v) same
      (laid job (subst (λ (j : Job). Unbroken (widths_of j)) (sym same) sound.names) (subst (λ (j : Job). broken_of j ≡ None) (sym same) sound.stages) v d (f ∙ e ∙ count)
      (λ t l. b t (omega (arith, l, e, count))) g)

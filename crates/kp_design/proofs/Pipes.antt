-- A stage looks at no pipe that isn't alive there: its tree is one for values that agree on those that are.
use Rattle.std.proofs.Common.{◌≡◌, ◌∙◌, ℕ, zero, suc, ◌+◌, ◌<◌, ◌≤◌, max, List, [], ◌∷◌, Option, Some, Bool, true, cond, ◌||◌, length, get_or, refl, ap, sym, subst, arith}
use Rattle.std.specs.Prelude.{slice_get}
use Rattle.kp_bits.specs.Word.{Word, word}
use Rattle.kp_ast.specs.{Expressions.is_same_name, Expressions.look_up, declared.tree.Decl.Decl, declared.tree.Block.Block, declared.tree.Job.Job}
use Rattle.kp_ast.specs.declared.tree.Decl.TheVariants as decls
use Rattle.kp_stage.specs.Facts.{stmts_in}
use Rattle.kp_machine.specs.{Trees.entered, Slots.Slot, Slots.pipes_of, Slots.samples_of, Slots.words_from, Slots.words_of, Machine.stage_tree}
use Rattle.kp_machine.proofs.{Alike.alike_append, Alike.tree_same, Cases.by_test, Names.same_name}
use Rattle.kp_design.specs.{Spans.uses_name, Spans.last_use_in, Spans.is_called, Spans.last_write, Spans.last_use, Numbers.no_slot, Numbers.pipe_at}

-- THE LAST USE is no earlier than any use.
pub write_more : (n : List ℕ) (last : ℕ) (ds : List Decl) → last ≤ last_write n last ds
write_more n last [] = omega arith
write_more n last (decls.Target r ∷ ds) =
    by_test (is_called n r.address || is_called n r.enable)
    (λ y. rw y (let more = write_more n (max last r.stage.value) ds in omega (arith, more)))
    (λ y. rw y (write_more n last ds))
write_more n last (d ∷ ds) = write_more n last ds

use_more : (n : List ℕ) (last k : ℕ) (bs : List Block) → last ≤ k → last ≤ last_use_in n last k bs
use_more n last k [] l = omega arith
use_more n last k (b ∷ bs) l =
    by_test (uses_name n b.stmts)
    (λ y. rw y (let more = use_more n k (k + 1) bs (omega arith) in omega (arith, more, l)))
    (λ y. rw y (use_more n last (k + 1) bs (omega (arith, l))))

use_late : (n : List ℕ) (last k j : ℕ) (bs : List Block) → last ≤ k → uses_name n (stmts_in (slice_get bs j)) ≡ true → k + j ≤ last_use_in n last k bs
use_late n last k j [] l e = cc
use_late n last k zero (b ∷ bs) l e = rw e (let more = use_more n k (k + 1) bs (omega arith) in omega (arith, more))
use_late n last k (suc j) (b ∷ bs) l e =
    by_test (uses_name n b.stmts)
    (λ y. rw y (let more = use_late n k (k + 1) j bs (omega arith) e in omega (arith, more)))
    (λ y. rw y (let more = use_late n last (k + 1) j bs (omega (arith, l)) e in omega (arith, more)))

pub used_early : (job : Job) (n : List ℕ) (k : ℕ) → uses_name n (stmts_in (slice_get job.blocks k)) ≡ true → k ≤ last_use job n
used_early job n k e =
    let a = use_late n 0 0 k job.blocks (omega arith) e in
    let b = write_more n (last_use_in n 0 0 job.blocks) job.decls in
    omega (arith, a, b)

-- the pipes of a name that an instruction has when it enters
same_words : (i : ℕ) (q r : ℕ → ℕ) (n : List ℕ) (ss : List Slot) → ((j : ℕ) → j < length ss → is_same_name n (get_or ss j no_slot).name ≡ true → q (i + j) ≡ r (i + j))
    → look_up (words_from i q ss) n ≡ look_up (words_from i r ss) n
same_words i q r n [] agree = refl
same_words i q r n (s ∷ ss) agree =
    let z : i + 0 ≡ i = omega arith in
    let at : (ℕ → ℕ) → Bool → Option Word = λ f b. cond b (Some (word s.width (f i))) (look_up (words_from (suc i) f ss) n) in
    by_test (is_same_name n s.name)
    (λ y.
    let same : q i ≡ r i = subst (λ j. q j ≡ r j) z (agree 0 (omega arith) y) in
    ap (at q) y ∙ ap (λ v. Some (word s.width v)) same ∙ sym (ap (at r) y))
    (λ y.
    let more : look_up (words_from (suc i) q ss) n ≡ look_up (words_from (suc i) r ss) n =
    same_words (suc i) q r n ss (λ j l e. let x : i + suc j ≡ suc i + j = omega arith in subst (λ m. q m ≡ r m) x (agree (suc j) (omega (arith, l)) e)) in
    ap (at q) y ∙ more ∙ sym (ap (at r) y))

-- the tree of a stage is the same for pipes that agree where they are alive
pub own_pipes : (job : Job) (k : ℕ) (q p r : ℕ → ℕ) → ((x : ℕ) → x < length (pipes_of job.decls) → k ≤ last_use job (pipe_at job x).name → p x ≡ r x)
    → stage_tree job k q p ≡ stage_tree job k q r
unfolding stage_tree
own_pipes job k q p r agree =
    let ss = stmts_in (slice_get job.blocks k) in
    let test : List ℕ → Bool = λ n. uses_name n ss in
    let samples = words_of (samples_of job.decls) q in
    tree_same test job.decls (entered job.decls q p) (entered job.decls q r) ss
    (record {
      names = alike_append test (words_of (pipes_of job.decls) p) (words_of (pipes_of job.decls) r) samples samples
          (λ n own. same_words 0 p r n (pipes_of job.decls)
          (λ j l e. let z : 0 + j ≡ j = omega arith in
          subst (λ m. p m ≡ r m) (sym z) (agree j l (subst (λ m. k ≤ last_use job m) (same_name n (pipe_at job j).name e) (used_early job n k own)))))
          (λ n own. refl);
      puts = refl;
      sets = refl;
      aims = refl;
    })
    (λ n u. u)

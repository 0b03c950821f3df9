-- The reads that a stage's tree requests are those that are reported.
use Rattle.std.proofs.Common.{◌≡◌, ◌∙◌, ℕ, suc, ◌+◌, ◌<◌, ◌≤◌, List, [], ◌∷◌, ◌++◌, Option, Some, None, Bool, true, false, cond, eqb, not, ◌&&◌, ◌||◌, length, get_or, refl, ap, sym, subst, arith, ⊎_elim}
use Rattle.std.proofs.lemmas.{Bool.cases_lt, Bool.eq-eqb, Bool.eqb-true, Bool.false_from_ne_true, List.length-append}
use Rattle.std.specs.Prelude.{is_some, slice_get}
use Rattle.kp_ast.specs.declared.tree.{Expr.Expr, ReadStmt.ReadStmt, Decl.Decl, Stmt.Stmt, StmtKind.StmtKind, Block.Block, Job.Job}
use Rattle.kp_ast.specs.declared.tree.StmtKind.TheVariants as stmts
use Rattle.kp_stage.specs.Facts.{stmts_in}
use Rattle.kp_pipeline.specs.{Machine.Tree, Sequential.before_stage, Timeline.some_unmet}
use Rattle.kp_machine.specs.{Slots.Slot, Slots.targets_of, Slots.number_of, Slots.result_named, Machine.machine_of, Machine.stage_tree}
use Rattle.kp_machine.specs.Trees.{Progress, entered, holds, address_of, value_of, word_read, with_name, with_set, read_of, statement_of, tree_of}
use Rattle.kp_seq.specs.Recorded.{where_true, address_read, done_after, read_recorded, reads_recorded, stage_reads, reads_from}
use Rattle.kp_sites.specs.{declared.sites.Site.Site, Sites.site_of, Sites.sites_in, Sites.sites_from, Reports.some_unmet_from, Reports.unmet_by}

-- some read that is reported, and not guessed, isn't met
abbrev pub asks_unmet : (ℕ → ℕ → Bool) → List Site → List (Option ℕ) → Bool
asks_unmet ready [] os = false
asks_unmet ready (site ∷ sites) [] = false
asks_unmet ready (site ∷ sites) (None ∷ os) = asks_unmet ready sites os
asks_unmet ready (site ∷ sites) (Some a ∷ os) = (not site.guessed && not (ready site.target a)) || asks_unmet ready sites os

module _ (ready : ℕ → ℕ → Bool) (s : ℕ → ℕ → ℕ) (ds : List Decl) (k : ℕ) where
  chosen : (b : Bool) (x y : Progress) (rest : Progress → Tree) → some_unmet ready s (cond b (rest x) (rest y)) ≡ some_unmet ready s (rest (cond b x y))
  chosen true x y rest = refl
  chosen false x y rest = refl

  read_asks : (done : Progress) (r : ReadStmt) (guess : Option Expr) (b : Bool) (rest : ℕ → Tree) (sites : List Site) (os : ℕ → List (Option ℕ))
      → ((v : ℕ) → some_unmet ready s (rest v) ≡ asks_unmet ready sites (os v))
      → some_unmet ready s (cond b (read_of ds done r guess rest) (rest 0))
      ≡ asks_unmet ready (record { stage = k; target = number_of (targets_of ds) r.target.name; guessed = is_some guess } ∷ sites)
      (where_true b (address_of ds done r.address) ∷ os (cond b (s (number_of (targets_of ds) r.target.name) (address_read ds done r guess)) 0))
  read_asks done r (Some g) true rest sites os h = h (s (number_of (targets_of ds) r.target.name) 0)
  read_asks done r None true rest sites os h =
      ap (λ x. not (ready (number_of (targets_of ds) r.target.name) (address_of ds done r.address)) || x) (h (s (number_of (targets_of ds) r.target.name) (address_of ds done r.address)))
  read_asks done r _ false rest sites os h = h 0

  -- one statement, if the others are alike
  one_asks : (done : Progress) (x : StmtKind) (xs : List Stmt)
      → ((next : Progress) → some_unmet ready s (tree_of ds next xs) ≡ asks_unmet ready (sites_in (targets_of ds) k xs) (reads_recorded ds s next xs))
      → some_unmet ready s (statement_of ds done x (λ next. tree_of ds next xs))
      ≡ asks_unmet ready (site_of (targets_of ds) k x ++ sites_in (targets_of ds) k xs) (read_recorded ds done x ++ reads_recorded ds s (done_after ds s done x) xs)
  one_asks done (stmts.Read r) xs more =
      read_asks done r r.guess (holds ds done r.when) (λ v. tree_of ds (with_name done r.name.name (word_read ds r v)) xs) (sites_in (targets_of ds) k xs)
      (λ v. reads_recorded ds s (with_name done r.name.name (word_read ds r v)) xs) (λ v. more (with_name done r.name.name (word_read ds r v)))
  one_asks done (stmts.Set n e when) xs more =
      chosen (holds ds done when) (with_set ds done (result_named ds n.name) (value_of ds done e)) done (λ next. tree_of ds next xs)
      ∙ more (done_after ds s done (stmts.Set n e when))
  one_asks done x xs more = more (done_after ds s done x)

  -- all statements of a stage
  stage_asks : (done : Progress) (xs : List Stmt) → some_unmet ready s (tree_of ds done xs) ≡ asks_unmet ready (sites_in (targets_of ds) k xs) (reads_recorded ds s done xs)
  stage_asks done [] = refl
  stage_asks done (x ∷ xs) = one_asks done x.kind xs (λ next. stage_asks next xs)

-- ---- reads and their addresses, side by side
abbrev pub both_unmet : (Site → Option ℕ → Bool) → List Site → List (Option ℕ) → Bool
both_unmet f [] os = false
both_unmet f (site ∷ sites) [] = false
both_unmet f (site ∷ sites) (o ∷ os) = f site o || both_unmet f sites os

or_assoc : (a b c : Bool) → ((a || b) || c) ≡ (a || (b || c))
or_assoc true b c = refl
or_assoc false b c = refl

both_parts : (f : Site → Option ℕ → Bool) (as_ bs : List Site) (xs ys : List (Option ℕ)) → length as_ ≡ length xs
    → both_unmet f (as_ ++ bs) (xs ++ ys) ≡ (both_unmet f as_ xs || both_unmet f bs ys)
both_parts f [] bs [] ys e = refl
both_parts f [] bs (x ∷ xs) ys e = absurd (omega arith)
both_parts f (a ∷ as_) bs [] ys e = absurd (omega arith)
both_parts f (a ∷ as_) bs (x ∷ xs) ys e =
    ap (λ b. f a x || b) (both_parts f as_ bs xs ys (omega arith)) ∙ sym (or_assoc (f a x) (both_unmet f as_ xs) (both_unmet f bs ys))

-- the same, where the addresses are read by number
at_end : (xs ys : List (Option ℕ)) (y : Option ℕ) → get_or (xs ++ y ∷ ys) (length xs) None ≡ y
at_end [] ys y = refl
at_end (x ∷ xs) ys y = at_end xs ys y

next_of : (xs ys : List (Option ℕ)) (y : Option ℕ) → xs ++ y ∷ ys ≡ (xs ++ y ∷ []) ++ ys
next_of [] ys y = refl
next_of (x ∷ xs) ys y = ap (λ l. x ∷ l) (next_of xs ys y)

indexed : (f : Site → Option ℕ → Bool) (reads : List (Option ℕ)) (sites : List Site) (xs ys : List (Option ℕ)) → reads ≡ xs ++ ys → length sites ≡ length ys
    → some_unmet_from f reads (length xs) sites ≡ both_unmet f sites ys
indexed f reads [] xs ys e n = refl
indexed f reads (site ∷ sites) xs [] e n = absurd (omega arith)
indexed f reads (site ∷ sites) xs (y ∷ ys) e n =
    let here : get_or reads (length xs) None ≡ y = ap (λ l. get_or l (length xs) None) e ∙ at_end xs ys y in
    let l = length-append xs (y ∷ []) in
    let next : length xs + 1 ≡ length (xs ++ y ∷ []) = omega (arith, l) in
    ap (λ o. f site o || some_unmet_from f reads (length xs + 1) sites) here
    ∙ ap (λ i. f site y || some_unmet_from f reads i sites) next
    ∙ ap (λ x. f site y || x) (indexed f reads sites (xs ++ y ∷ []) ys (e ∙ next_of xs ys y) (omega arith))

-- ---- the reads of one stage
one_count : (targets : List Slot) (ds : List Decl) (k : ℕ) (done : Progress) (x : StmtKind) → length (site_of targets k x) ≡ length (read_recorded ds done x)
one_count targets ds k done (stmts.Read r) = refl
one_count targets ds k done _ = refl

stage_count : (targets : List Slot) (ds : List Decl) (s : ℕ → ℕ → ℕ) (k : ℕ) (done : Progress) (xs : List Stmt) → length (sites_in targets k xs) ≡ length (reads_recorded ds s done xs)
stage_count targets ds s k done [] = refl
stage_count targets ds s k done (x ∷ xs) =
    let later = done_after ds s done x.kind in
    let a = length-append (site_of targets k x.kind) (sites_in targets k xs) in
    let b = length-append (read_recorded ds done x.kind) (reads_recorded ds s later xs) in
    let c = one_count targets ds k done x.kind in
    let d = stage_count targets ds s k later xs in
    omega (arith, a, b, c, d)

-- they are all in it
abbrev AllIn : ℕ → List Site → Type 0
AllIn k [] = Unit {0}
AllIn k (site ∷ sites) = (site.stage ≡ k) × AllIn k sites

one_in : (targets : List Slot) (k : ℕ) (x : StmtKind) (sites : List Site) → AllIn k sites → AllIn k (site_of targets k x ++ sites)
one_in targets k (stmts.Read r) sites h = (refl, h)
one_in targets k _ sites h = h

all_in : (targets : List Slot) (k : ℕ) (xs : List Stmt) → AllIn k (sites_in targets k xs)
all_in targets k [] = tt
all_in targets k (x ∷ xs) = one_in targets k x.kind (sites_in targets k xs) (all_in targets k xs)

-- ---- the reads of a job, stage by stage
module _ (job : Job) (st : ℕ → ℕ → ℕ) (q : ℕ → ℕ) where
  abbrev record_at : ℕ → List (Option ℕ)
  record_at j = stage_reads job st q j

  abbrev sites_at : ℕ → List Site
  sites_at j = sites_in (targets_of job.decls) j (stmts_in (slice_get job.blocks j))

  part_count : (j : ℕ) → length (sites_at j) ≡ length (record_at j)
  unfolding stage_reads
  part_count j = stage_count (targets_of job.decls) job.decls st j (entered job.decls q (before_stage (machine_of job) st q j).pipes) (stmts_in (slice_get job.blocks j))

  abbrev Following : ℕ → List Block → Type 0
  Following j bs = (i : ℕ) (x : Block) → slice_get bs i ≡ Some x → slice_get job.blocks (j + i) ≡ Some x

  first_there : (j : ℕ) (x : Block) (bs : List Block) → Following j (x ∷ bs) → sites_in (targets_of job.decls) j x.stmts ≡ sites_at j
  first_there j x bs follow =
      let z : j + 0 ≡ j = omega arith in
      let here : slice_get job.blocks j ≡ Some x = subst (λ i. slice_get job.blocks i ≡ Some x) z (follow 0 x refl) in
      ap (λ o. sites_in (targets_of job.decls) j (stmts_in o)) (sym here)

  following : (j : ℕ) (x : Block) (bs : List Block) → Following j (x ∷ bs) → Following (suc j) bs
  following j x bs follow i y e = let z : j + suc i ≡ suc j + i = omega arith in subst (λ v. slice_get job.blocks v ≡ Some y) z (follow (suc i) y e)

  blocks_count : (j : ℕ) (bs : List Block) → Following j bs → length (sites_from (targets_of job.decls) j bs) ≡ length (reads_from job st q (length bs) j)
  blocks_count j [] follow = refl
  blocks_count j (x ∷ bs) follow =
      let next : j + 1 ≡ suc j = omega arith in
      let a = length-append (sites_in (targets_of job.decls) j x.stmts) (sites_from (targets_of job.decls) (j + 1) bs) in
      let c = length-append (record_at j) (reads_from job st q (length bs) (suc j)) in
      let p = ap length (first_there j x bs follow) ∙ part_count j in
      let r = ap (λ i. length (sites_from (targets_of job.decls) i bs)) next ∙ blocks_count (suc j) bs (following j x bs follow) in
      omega (arith, a, c, p, r)

  module _ (met : ℕ → ℕ → Bool) (k : ℕ) where
    abbrev unmet_in : List Site → List (Option ℕ) → Bool
    unmet_in = both_unmet (unmet_by met k)

    abbrev unmet_after : ℕ → List Block → Bool
    unmet_after j bs = unmet_in (sites_from (targets_of job.decls) j bs) (reads_from job st q (length bs) j)

    split : (j : ℕ) (x : Block) (bs : List Block) → Following j (x ∷ bs) → unmet_after j (x ∷ bs) ≡ (unmet_in (sites_at j) (record_at j) || unmet_after (suc j) bs)
    split j x bs follow =
        let next : j + 1 ≡ suc j = omega arith in
        let rest = reads_from job st q (length bs) (suc j) in
        both_parts (unmet_by met k) (sites_in (targets_of job.decls) j x.stmts) (sites_from (targets_of job.decls) (j + 1) bs) (record_at j) rest
        (ap length (first_there j x bs follow) ∙ part_count j)
        ∙ ap (λ l. unmet_in l (record_at j) || unmet_in (sites_from (targets_of job.decls) (j + 1) bs) rest) (first_there j x bs follow)
        ∙ ap (λ i. unmet_in (sites_at j) (record_at j) || unmet_in (sites_from (targets_of job.decls) i bs) rest) next

    -- those of another stage aren't asked for
    other_stage : (j : ℕ) (xs : List Site) (os : List (Option ℕ)) → AllIn j xs → (j ≡ k → ⊥) → unmet_in xs os ≡ false
    other_stage j [] os all ne = refl
    other_stage j (x ∷ xs) [] all ne = refl
    other_stage j (x ∷ xs) (None ∷ os) all ne = other_stage j xs os all.1 ne
    other_stage j (x ∷ xs) (Some a ∷ os) all ne =
        ap (λ c. ((c && not x.guessed) && not (met x.target a)) || unmet_in xs os) (ap (λ y. eqb y k) all.0 ∙ false_from_ne_true (eqb j k) (λ y. ne (eqb-true j k y)))
        ∙ other_stage j xs os all.1 ne

    apart : (j : ℕ) → (j ≡ k → ⊥) → unmet_in (sites_at j) (record_at j) ≡ false
    apart j ne = other_stage j (sites_at j) (record_at j) (all_in (targets_of job.decls) j (stmts_in (slice_get job.blocks j))) ne

    blocks_skip : (j : ℕ) (bs : List Block) → Following j bs → k < j → unmet_after j bs ≡ false
    blocks_skip j [] follow l = refl
    blocks_skip j (x ∷ bs) follow l =
        split j x bs follow ∙ ap (λ c. c || unmet_after (suc j) bs) (apart j (λ y. omega arith)) ∙ blocks_skip (suc j) bs (following j x bs follow) (omega arith)

    or_no : (c : Bool) → (c || false) ≡ c
    or_no true = refl
    or_no false = refl

    blocks_find : (j : ℕ) (bs : List Block) → Following j bs → j ≤ k → k < j + length bs → unmet_after j bs ≡ unmet_in (sites_at k) (record_at k)
    blocks_find j [] follow l g = absurd (omega arith)
    blocks_find j (x ∷ bs) follow l g =
        let later = following j x bs follow in
        split j x bs follow
        ∙ ⊎_elim
        (λ (lt : j < k). ap (λ c. c || unmet_after (suc j) bs) (apart j (λ y. omega arith)) ∙ blocks_find (suc j) bs later (omega arith) (omega arith))
        (λ (ge : k ≤ j).
        let is : j ≡ k = omega arith in
        ap (λ c. unmet_in (sites_at j) (record_at j) || c) (blocks_skip (suc j) bs later (omega arith))
        ∙ or_no (unmet_in (sites_at j) (record_at j))
        ∙ ap (λ i. unmet_in (sites_at i) (record_at i)) is)
        (cases_lt j k)

    -- and those of the stage are what its tree requests
    module _ (ready : ℕ → ℕ → Bool) (same : (t a : ℕ) → ready t a ≡ met t a) where
      same_stage : (xs : List Site) (os : List (Option ℕ)) → AllIn k xs → unmet_in xs os ≡ asks_unmet ready xs os
      same_stage [] os all = refl
      same_stage (x ∷ xs) [] all = refl
      same_stage (x ∷ xs) (None ∷ os) all = same_stage xs os all.1
      same_stage (x ∷ xs) (Some a ∷ os) all =
          ap (λ c. ((c && not x.guessed) && not (met x.target a)) || unmet_in xs os) (eq-eqb x.stage k all.0)
          ∙ ap (λ c. (not x.guessed && not c) || unmet_in xs os) (sym (same x.target a))
          ∙ ap (λ c. (not x.guessed && not (ready x.target a)) || c) (same_stage xs os all.1)

      follow : Following 0 job.blocks
      follow x y e = let z : x ≡ 0 + x = omega arith in subst (λ v. slice_get job.blocks v ≡ Some y) z e

      -- THE READS OF STAGE k: by what is reported of the instruction, one waits exactly where its tree has one that isn't ready.
      pub stage_unmet : (reads : List (Option ℕ)) → reads ≡ reads_from job st q (length job.blocks) 0 → k < length job.blocks
          → some_unmet_from (unmet_by met k) reads 0 (sites_from (targets_of job.decls) 0 job.blocks) ≡ some_unmet ready st ((machine_of job).body k q (before_stage (machine_of job) st q k).pipes)
      unfolding machine_of stage_tree stage_reads
      stage_unmet reads e l =
          indexed (unmet_by met k) reads (sites_from (targets_of job.decls) 0 job.blocks) [] (reads_from job st q (length job.blocks) 0) e (blocks_count 0 job.blocks follow)
          ∙ blocks_find 0 job.blocks follow (omega arith) (omega arith)
          ∙ same_stage (sites_at k) (record_at k) (all_in (targets_of job.decls) k (stmts_in (slice_get job.blocks k)))
          ∙ sym (stage_asks ready st job.decls k (entered job.decls q (before_stage (machine_of job) st q k).pipes) (stmts_in (slice_get job.blocks k)))

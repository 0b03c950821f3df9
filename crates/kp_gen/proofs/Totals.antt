-- The numbers of a generated job are within the limits of E28 and E29.
use Rattle.std.proofs.Common.{◌≡◌, ◌∙◌, ℕ, zero, suc, ◌+◌, ◌-◌, ◌*◌, ◌≤◌, ◌%◌, List, [], ◌∷◌, ◌++◌, length, map, None, true, refl, ap, arith}
use Rattle.std.proofs.lemmas.{Bool.le-leb, List.length-append, List.Sums.sum_by-cons, List.Sums.sum_by-append}
use Rattle.std.specs.{Prelude.◌==◌, Prelude.nat_le, Prelude.codes, Prelude.sum_by, List.range_with_len}
use Rattle.kp_base.{specs.First.first, specs.Check.Check, specs.declared.finding.Finding.Finding, proofs.First.first_append_none}
use Rattle.kp_bits.specs.declared.operator.BinOp.{BinOp}
use Rattle.kp_ast.specs.{Size.size, Size.size_of_kind as size_of_form, Size.size_of_level, Size.bodies_of, declared.tree.Expr.Expr, declared.tree.Decl.Decl}
use Rattle.kp_ast.{specs.declared.tree.Stmt.Stmt, proofs.Levels.fold-Lit, proofs.Levels.fold-Name, proofs.Levels.fold-Binary, proofs.Levels.fold-Slice}
use Rattle.kp_width.specs.Declarations.{functions_in}
use Rattle.kp_stage.specs.Counts.{regs_in, files_in, pipes_in, results_in, hints_in, samples_in, reads_in, guesses_in, is_within, nothing_counted, with_decl, with_stmt, decls_counted, stmts_counted, blocks_counted, counts_of}
use Rattle.kp_stage.specs.{Sizes.size_of_stmt, Sizes.stmts_sized, Sizes.blocks_sized, Sizes.sizes_of, Findings.Answer, declared.fault.StageFault.StageFault}
use Rattle.kp_gen.specs.Generated.{place, name, number, binary, low_byte, read_name, pipe_name, result_of, set, file_read, address_put, value_put, file_set, file_sets, for_each, sets_from, first_stmts, later_stmts, later_block, all_decls, all_blocks, job_of}
use Rattle.kp_gen.specs.declared.draws.Route.{Route}
use Rattle.kp_gen.proofs.Forms.{register, pipe, read, put, file, pipe_AF, pipe_VF, file_result}
use Rattle.kp_gen.proofs.{Finds.past, Finds.holding, Lookups.either, Items.Each, Items.each_first, Items.each_later}

-- the counts of kp_stage: their types
abbrev TypeOf : {X : Type 0} → X → Type 0
TypeOf {X} x = X

abbrev Counts : Type 0
Counts = TypeOf nothing_counted

one_list : (xs ys : List Answer) → first xs ≡ None → first ys ≡ None → first (xs ++ ys) ≡ None
one_list xs ys e f = first_append_none xs ys e ∙ f

-- the number of statements
length_each : {X : Type 0} (make : ℕ → Route → X) (j : ℕ) (rs : List Route) → length (for_each make j rs) ≡ length rs
length_each make j [] = refl
length_each make j (r ∷ rs) = ap suc (length_each make (j + 1) rs)

pub length_decls : (n : ℕ) (rs : List Route) → length (all_decls n rs) ≡ length rs + length rs + length rs + 4
length_decls n rs =
    let x : List Decl = for_each register 0 rs in
    let y : List Decl = file ∷ for_each pipe 0 rs in
    let z : List Decl = pipe_AF ∷ pipe_VF ∷ for_each result_of 0 rs in
    let a = length-append ((x ++ y) ++ z) (file_result n ∷ []) in
    omega (arith, a, length-append (x ++ y) z, length-append x y, length_each register 0 rs, length_each pipe 0 rs, length_each result_of 0 rs)

length_first : (rs : List Route) → length (first_stmts rs) ≡ length rs + length rs + 3
length_first rs =
    let puts : List Stmt = for_each (put (length rs)) 0 rs in
    let a = length-append (for_each read 0 rs ++ file_read ∷ puts) (address_put ∷ value_put ∷ []) in
    omega (arith, a, length-append (for_each read 0 rs) (file_read ∷ puts), length_each read 0 rs, length_each (put (length rs)) 0 rs)

length_sets : (k j : ℕ) (rs : List Route) → length (sets_from k j rs) ≤ length rs
length_sets k j [] = omega arith
length_sets k j (r ∷ rs) =
    either (r.set == k)
    (λ e. rw e (let h = length_sets k (j + 1) rs in omega (arith, h)))
    (λ e. rw e (let h = length_sets k (j + 1) rs in omega (arith, h)))

length_last : (k : ℕ) → length (file_sets k) ≤ 1
length_last k = either (k == 1) (λ e. rw e (omega arith)) (λ e. rw e (omega arith))

length_later : (rs : List Route) (k : ℕ) → length (later_stmts rs k) ≤ length rs + 1
length_later rs k = omega (arith, length-append (sets_from k 0 rs) (file_sets k), length_sets k 0 rs, length_last k)

-- E28: no statement is larger than 5.
module _ (ds : List Decl) where
  abbrev sized : Expr → ℕ
  sized = size ds

  of_name : (q : List ℕ) → sized (name q) ≡ 1
  of_name q = fold-Name ℕ ℕ (size_of_form (bodies_of ds)) size_of_level place q

  of_number : (w v : ℕ) → sized (number w v) ≡ 1
  of_number w v = fold-Lit ℕ ℕ (size_of_form (bodies_of ds)) size_of_level place (record { width = w; value = v })

  of_binary : (op : BinOp) (a b : Expr) → sized (binary op a b) ≡ 1 + (sized a + sized b)
  of_binary op a b = fold-Binary ℕ ℕ (size_of_form (bodies_of ds)) size_of_level place op a b

  of_byte : (q : List ℕ) → sized (low_byte q) ≡ 2
  of_byte q = fold-Slice ℕ ℕ (size_of_form (bodies_of ds)) size_of_level place (name q) 7 0 ∙ ap (λ (k : ℕ). 1 + k) (of_name q)

  abbrev Small : Stmt → Type 0
  Small s = size_of_stmt ds s ≤ 5

  small_put : (m i : ℕ) (r : Route) → Small (put m i r)
  small_put m i r =
      omega (arith, of_binary BinOp.Add (name (read_name i)) (name (read_name ((i + 1) % m))), of_name (read_name i), of_name (read_name ((i + 1) % m)))

  small_set : (i : ℕ) (r : Route) → Small (set i r)
  small_set i r =
      let shift : Expr = binary BinOp.Shl (name (pipe_name r.other)) (number 1 1) in
      let e = of_binary BinOp.Xor (name (pipe_name i)) shift in
      omega (arith, e, of_binary BinOp.Shl (name (pipe_name r.other)) (number 1 1), of_name (pipe_name i), of_name (pipe_name r.other), of_number 1 1)

  small_file_set : Small file_set
  small_file_set = omega (arith, of_binary BinOp.Add (name (pipe_name 0)) (name (codes "VF")), of_name (pipe_name 0), of_name (codes "VF"))

  -- the sum over these statements is at most `most`, and no check is violated
  record Sized (most : ℕ) (c : Check (Finding StageFault) ℕ) : Type 0 where
    pub none : first c.asked ≡ None
    pub bound : c.value ≤ most

  small_first : (rs : List Route) → Each Small (first_stmts rs)
  small_first rs = each_first Small rs (λ i r. omega arith) (omega (arith, of_byte (read_name 1))) (small_put (length rs)) (omega (arith, of_byte (read_name 0))) (omega (arith, of_name (codes "f")))

  stmts_fit : (total : ℕ) (ss : List Stmt) → Each Small ss → total + 5 * length ss ≤ 100000 → Sized (total + 5 * length ss) (stmts_sized ds total ss)
  stmts_fit total [] all h = record { none = refl; bound = omega arith }
  stmts_fit total (s ∷ ss) all h =
      let one : size_of_stmt ds s ≤ 5 = all.0 in
      let more = stmts_fit (total + size_of_stmt ds s) ss all.1 (omega (arith, one, h)) in
      let limit = more.bound in
      record {
        none = past _ (stmts_sized ds (total + size_of_stmt ds s) ss).asked
            (holding (nat_le (total + size_of_stmt ds s) 100000) _ (le-leb (total + size_of_stmt ds s) 100000 (omega (arith, one, h)))) ∙ more.none;
        bound = omega (arith, one, limit);
      }

  later_fit : (total k c : ℕ) (rs : List Route) → length rs ≤ 35 → total + 180 * c ≤ 100000
      → first (blocks_sized ds total (map (later_block rs) (range_with_len k c))).asked ≡ None
  later_fit total k zero rs few h = refl
  later_fit total k (suc c) rs few h =
      let l = length_later rs k in
      let here = stmts_fit total (later_stmts rs k) (each_later Small small_set small_file_set rs k) (omega (arith, h, l, few)) in
      let b = here.bound in
      one_list (stmts_sized ds total (later_stmts rs k)).asked (blocks_sized ds (stmts_sized ds total (later_stmts rs k)).value (map (later_block rs) (range_with_len (k + 1) c))).asked
      here.none (later_fit (stmts_sized ds total (later_stmts rs k)).value (k + 1) c rs few (omega (arith, h, l, b, few)))

  blocks_fit : (n : ℕ) (rs : List Route) → n ≤ 12 → length rs ≤ 35 → first (blocks_sized ds 0 (all_blocks n rs)).asked ≡ None
  blocks_fit n rs most few =
      let l = length_first rs in
      let here = stmts_fit 0 (first_stmts rs) (small_first rs) (omega (arith, l, few)) in
      let b = here.bound in
      one_list (stmts_sized ds 0 (first_stmts rs)).asked (blocks_sized ds (stmts_sized ds 0 (first_stmts rs)).value (map (later_block rs) (range_with_len 1 (n - 1)))).asked
      here.none (later_fit (stmts_sized ds 0 (first_stmts rs)).value 1 (n - 1) rs few (omega (arith, l, b, few, most)))

pub sizes_kept : (n : ℕ) (rs : List Route) → n ≤ 12 → length rs ≤ 35 → first (sizes_of (job_of n rs)).asked ≡ None
unfolding sizes_of job_of
sizes_kept n rs most few = blocks_fit (all_decls n rs) n rs most few

-- E29: the counts stay within their limits, also with these declarations
record Room (c : Counts) (ds : List Decl) : Type 0 where
  pub regs : c.regs + sum_by regs_in ds ≤ 64
  pub files : c.files + sum_by files_in ds ≤ 16
  pub pipes : c.pipes + sum_by pipes_in ds ≤ 128
  pub results : c.results + sum_by results_in ds ≤ 64
  pub hints : c.hints + sum_by hints_in ds ≤ 16
  pub functions : c.functions + sum_by functions_in ds ≤ 64
  pub samples : c.samples + sum_by samples_in ds ≤ 16
  pub reads : c.reads ≤ 256
  pub guesses : c.guesses ≤ 8

below : (f : Decl → ℕ) (a most : ℕ) (ds : List Decl) → a + sum_by f ds ≤ most → nat_le a most ≡ true
below f a most ds h = le-leb a most (omega (arith, h))

within : (c : Counts) (ds : List Decl) → Room c ds → is_within c ≡ true
within c ds h =
    rw (below regs_in c.regs 64 ds h.regs, below files_in c.files 16 ds h.files, below pipes_in c.pipes 128 ds h.pipes, below results_in c.results 64 ds h.results)
    (rw (below hints_in c.hints 16 ds h.hints, below functions_in c.functions 64 ds h.functions, le-leb c.reads 256 h.reads, le-leb c.guesses 8 h.guesses)
    (below samples_in c.samples 16 ds h.samples))

shifted : (f : Decl → ℕ) (a most : ℕ) (d : Decl) (ds : List Decl) → a + sum_by f (d ∷ ds) ≤ most → (a + f d) + sum_by f ds ≤ most
shifted f a most d ds h = let e = sum_by-cons f d ds in omega (arith, e, h)

one_more : (c : Counts) (d : Decl) (ds : List Decl) → Room c (d ∷ ds) → Room (with_decl c d) ds
one_more c d ds h = record {
  regs = shifted regs_in c.regs 64 d ds h.regs;
  files = shifted files_in c.files 16 d ds h.files;
  pipes = shifted pipes_in c.pipes 128 d ds h.pipes;
  results = shifted results_in c.results 64 d ds h.results;
  hints = shifted hints_in c.hints 16 d ds h.hints;
  functions = shifted functions_in c.functions 64 d ds h.functions;
  samples = shifted samples_in c.samples 16 d ds h.samples;
  reads = h.reads;
  guesses = h.guesses;
}

-- the given numbers of reads and guesses are counted, and the counts are within the limits
record Counted (c : Counts) (reads guesses : ℕ) : Type 0 where
  pub room : Room c []
  pub reads_counted : c.reads ≡ reads
  pub guesses_counted : c.guesses ≡ guesses

decls_fit : (c : Counts) (ds : List Decl) → Room c ds → (first (decls_counted c ds).asked ≡ None) × Counted (decls_counted c ds).value c.reads c.guesses
decls_fit c [] h = (refl, record { room = h; reads_counted = refl; guesses_counted = refl })
decls_fit c (d ∷ ds) h =
    let room = one_more c d ds h in
    let more = decls_fit (with_decl c d) ds room in (
      past _ (decls_counted (with_decl c d) ds).asked
          (holding (is_within (with_decl c d)) _ (within (with_decl c d) ds room)) ∙ more.0,
      more.1,
    )

-- and with these statements
with_reads : (c : Counts) (s : Stmt) → Room c [] → c.reads + reads_in s ≤ 256 → c.guesses + guesses_in s ≤ 8 → Room (with_stmt c s) []
with_reads c s h r g =
    record { regs = h.regs; files = h.files; pipes = h.pipes; results = h.results; hints = h.hints; functions = h.functions; samples = h.samples; reads = r; guesses = g }

stmts_fit_counts : (c : Counts) (ss : List Stmt) → Room c [] → c.reads + sum_by reads_in ss ≤ 256 → c.guesses + sum_by guesses_in ss ≤ 8
    → (first (stmts_counted c ss).asked ≡ None) × Counted (stmts_counted c ss).value (c.reads + sum_by reads_in ss) (c.guesses + sum_by guesses_in ss)
stmts_fit_counts c [] h r g = (refl, record { room = h; reads_counted = omega arith; guesses_counted = omega arith })
stmts_fit_counts c (s ∷ ss) h r g =
    let e = sum_by-cons reads_in s ss in
    let f = sum_by-cons guesses_in s ss in
    let room = with_reads c s h (omega (arith, e, r)) (omega (arith, f, g)) in
    let more = stmts_fit_counts (with_stmt c s) ss room (omega (arith, e, r)) (omega (arith, f, g)) in
    let a = more.1.reads_counted in
    let b = more.1.guesses_counted in (
      past _ (stmts_counted (with_stmt c s) ss).asked
          (holding (is_within (with_stmt c s)) _ (within (with_stmt c s) [] room)) ∙ more.0,
      record { room = more.1.room; reads_counted = omega (arith, e, a); guesses_counted = omega (arith, f, b) },
    )

-- sums over the entries of all registers
sum_each : {X : Type 0} (f : X → ℕ) (make : ℕ → Route → X) (weight j : ℕ) (rs : List Route) → ((i : ℕ) (r : Route) → f (make i r) ≡ weight)
    → sum_by f (for_each make j rs) ≡ length rs * weight
sum_each f make weight j [] h = omega arith
sum_each f make weight j (r ∷ rs) h =
    let e = sum_by-cons f (make j r) (for_each make (j + 1) rs) in
    let a : f (make j r) ≡ weight = h j r in
    let more = sum_each f make weight (j + 1) rs h in
    e ∙ rw (a, more) (grind arith)

none_in : (f : Stmt → ℕ) (ss : List Stmt) → Each (λ s. f s ≡ 0) ss → sum_by f ss ≡ 0
none_in f [] all = refl
none_in f (s ∷ ss) all = sum_by-cons f s ss ∙ (rw (all.0, none_in f ss all.1) refl)

no_later : (f : Stmt → ℕ) → ((i : ℕ) (r : Route) → f (set i r) ≡ 0) → f file_set ≡ 0 → (rs : List Route) (k : ℕ) → sum_by f (later_stmts rs k) ≡ 0
no_later f h l rs k = none_in f (later_stmts rs k) (each_later (λ s. f s ≡ 0) h l rs k)

later_counted : (c : Counts) (k x : ℕ) (rs : List Route) → Room c [] → first (blocks_counted c (map (later_block rs) (range_with_len k x))).asked ≡ None
later_counted c k zero rs h = refl
later_counted c k (suc x) rs h =
    let a = no_later reads_in (λ i r. refl) refl rs k in
    let b = no_later guesses_in (λ i r. refl) refl rs k in
    let r = h.reads in
    let g = h.guesses in
    let here = stmts_fit_counts c (later_stmts rs k) h (omega (arith, a, r)) (omega (arith, b, g)) in
    one_list (stmts_counted c (later_stmts rs k)).asked (blocks_counted (stmts_counted c (later_stmts rs k)).value (map (later_block rs) (range_with_len (k + 1) x))).asked
    here.0 (later_counted (stmts_counted c (later_stmts rs k)).value (k + 1) x rs here.1.room)

-- the sum over the statements of stage 0
sum_first : (f : Stmt → ℕ) (rs : List Route) (a b : ℕ) → ((i : ℕ) (r : Route) → f (read i r) ≡ a) → ((i : ℕ) (r : Route) → f (put (length rs) i r) ≡ b)
    → sum_by f (first_stmts rs) ≡ (length rs * a + (f file_read + length rs * b)) + (f address_put + f value_put)
sum_first f rs a b reads puts =
    let m : List Stmt = for_each (put (length rs)) 0 rs in
    let x = sum_by-append f (for_each read 0 rs ++ file_read ∷ m) (address_put ∷ value_put ∷ []) in
    let y = sum_by-append f (for_each read 0 rs) (file_read ∷ m) in
    let z = sum_by-cons f file_read m in
    let u = sum_by-cons f address_put (value_put ∷ []) in
    omega (arith, x, y, z, u, sum_by-cons f value_put [], sum_each f read a 0 rs reads, sum_each f (put (length rs)) b 0 rs puts)

all_counted : (c : Counts) (n : ℕ) (rs : List Route) → length rs ≤ 35 → Counted c 0 0 → first (blocks_counted c (all_blocks n rs)).asked ≡ None
all_counted c n rs few h =
    let a : sum_by reads_in (first_stmts rs) ≡ (length rs * 1 + (1 + length rs * 0)) + (0 + 0) = sum_first reads_in rs 1 0 (λ i r. refl) (λ i r. refl) in
    let b : sum_by guesses_in (first_stmts rs) ≡ (length rs * 0 + (0 + length rs * 0)) + (0 + 0) = sum_first guesses_in rs 0 0 (λ i r. refl) (λ i r. refl) in
    let r = h.reads_counted in
    let g = h.guesses_counted in
    let here = stmts_fit_counts c (first_stmts rs) h.room (omega (arith, a, r, few)) (omega (arith, b, g, few)) in
    one_list (stmts_counted c (first_stmts rs)).asked (blocks_counted (stmts_counted c (first_stmts rs)).value (map (later_block rs) (range_with_len 1 (n - 1)))).asked
    here.0 (later_counted (stmts_counted c (first_stmts rs)).value 1 (n - 1) rs here.1.room)

-- the sum over the declarations
pub sum_decls : (f : Decl → ℕ) (n : ℕ) (rs : List Route) (a b c : ℕ) → ((i : ℕ) (r : Route) → f (register i r) ≡ a) → ((i : ℕ) (r : Route) → f (pipe i r) ≡ b) → ((i : ℕ) (r : Route) → f (result_of i r) ≡ c)
    → sum_by f (all_decls n rs) ≡ ((length rs * a + (f file + length rs * b)) + (f pipe_AF + (f pipe_VF + length rs * c))) + f (file_result n)
sum_decls f n rs a b c registers pipes results =
    let x : List Decl = for_each register 0 rs in
    let y : List Decl = file ∷ for_each pipe 0 rs in
    let z : List Decl = pipe_AF ∷ pipe_VF ∷ for_each result_of 0 rs in
    let last : List Decl = file_result n ∷ [] in
    let e1 = sum_by-append f ((x ++ y) ++ z) last in
    let e2 = sum_by-append f (x ++ y) z in
    let e3 = sum_by-append f x y in
    let e4 = sum_by-cons f file (for_each pipe 0 rs) in
    let e5 = sum_by-cons f pipe_AF (pipe_VF ∷ for_each result_of 0 rs) in
    let e6 = sum_by-cons f pipe_VF (for_each result_of 0 rs) in
    let e7 = sum_by-cons f (file_result n) [] in
    omega (arith, e1, e2, e3, e4, e5, e6, e7, sum_each f register a 0 rs registers, sum_each f pipe b 0 rs pipes, sum_each f result_of c 0 rs results)

decls_room : (n : ℕ) (rs : List Route) → length rs ≤ 35 → Room nothing_counted (all_decls n rs)
decls_room n rs few = record {
  regs = omega (arith, sum_decls regs_in n rs 1 0 0 (λ i r. refl) (λ i r. refl) (λ i r. refl), few);
  files = omega (arith, sum_decls files_in n rs 0 0 0 (λ i r. refl) (λ i r. refl) (λ i r. refl), few);
  pipes = omega (arith, sum_decls pipes_in n rs 0 1 0 (λ i r. refl) (λ i r. refl) (λ i r. refl), few);
  results = omega (arith, sum_decls results_in n rs 0 0 1 (λ i r. refl) (λ i r. refl) (λ i r. refl), few);
  hints = omega (arith, sum_decls hints_in n rs 0 0 0 (λ i r. refl) (λ i r. refl) (λ i r. refl), few);
  functions = omega (arith, sum_decls functions_in n rs 0 0 0 (λ i r. refl) (λ i r. refl) (λ i r. refl), few);
  samples = omega (arith, sum_decls samples_in n rs 0 0 0 (λ i r. refl) (λ i r. refl) (λ i r. refl), few);
  reads = omega arith;
  guesses = omega arith;
}

pub counts_kept : (n : ℕ) (rs : List Route) → length rs ≤ 35 → first (counts_of (job_of n rs)).asked ≡ None
unfolding counts_of job_of
counts_kept n rs few =
    let here = decls_fit nothing_counted (all_decls n rs) (decls_room n rs few) in
    one_list (decls_counted nothing_counted (all_decls n rs)).asked (blocks_counted (decls_counted nothing_counted (all_decls n rs)).value (all_blocks n rs)).asked
    here.0 (all_counted (decls_counted nothing_counted (all_decls n rs)).value n rs few here.1)

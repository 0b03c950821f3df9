-- Each name that a job declares has an index in its tables.
use Rattle.std.proofs.Common.{◌≡◌, ◌∙◌, ℕ, zero, suc, ◌+◌, ◌<◌, List, [], ◌∷◌, ◌++◌, map, Some, None, Bool, true, false, cond, not, ◌||◌, nat_eq, length, ap, sym, arith, ⊎_elim}
use Rattle.std.proofs.lemmas.{Bool.or_cases, Bool.or_left, Bool.or_right, Bool.lt-ltb, List.Folds.list_any-append}
use Rattle.std.specs.{Prelude.is_some, Prelude.slice_get, List.list_any, List.flat_map, List.position, List.position_or_len}
use Rattle.std.specs.Cmp.Lexicographic.{pointwise, bytes_decides}
use Rattle.indexmap.specs.IndexSet.{insert_key}
use Rattle.kp_ast.specs.{Expressions.is_same_name, declared.tree.Decl.Decl, declared.tree.Stmt.Stmt, declared.tree.StmtKind.StmtKind, declared.tree.Block.Block}
use Rattle.kp_ast.specs.declared.{tree.Job.Job, widths.Entry.Entry}
use Rattle.kp_ast.specs.declared.tree.Decl.TheVariants as decls
use Rattle.kp_ast.specs.declared.tree.StmtKind.TheVariants as stmts
use Rattle.kp_ast.specs.declared.widths.NameKind.TheVariants as kinds
use Rattle.kp_width.specs.{Names.Sense, Names.sense, Names.Scoped, Names.look_up, Names.find, Names.or_else, Names.declared_local, Expressions.width_of}
use Rattle.kp_width.specs.Statements.{read_of, statement_of}
use Rattle.kp_width.specs.{TextOrder.names_in_decl, TextOrder.names_in_stmt, TextOrder.names_in_block, TextOrder.declared_names, Widths.widths_of}
use Rattle.kp_width.proofs.{Unbroken.Unbroken, Calls.pushed}
use Rattle.kp_stage.specs.Rules.{all_rules}
use Rattle.kp_pipeline.specs.Sequential.{Instruction}
use Rattle.kp_machine.specs.Slots.{Slot, slot, targets_of, pipes_of, samples_of}
use Rattle.kp_machine.proofs.{Cases.by_test, Cases.by_option, Scopes.find_none}
use Rattle.kp_seq_plan.specs.Names.{keys_of}
use Rattle.kp_seq.{specs.inner.Tables.Laid, specs.inner.Fits.FitSlots, specs.inner.Ready.AreTables, proofs.Blocks.HasPlace, proofs.Blocks.Keyed}

-- a name is one of these, and it is that of one of these entries
abbrev IsKey : List ℕ → List (List ℕ) → Type 0
IsKey q keys = list_any (is_same_name q) keys ≡ true

abbrev HasEntry : List ℕ → List Entry → Type 0
HasEntry q es = IsKey q (map (λ e. e.name) es)

-- a name that is one of these has an index
inside : (p : List ℕ → Bool) (keys : List (List ℕ)) → list_any p keys ≡ true → position_or_len p keys < length keys
inside p [] h = cc
inside p (x ∷ xs) h = by_test (p x)
    (λ y. let e : position_or_len p (x ∷ xs) ≡ 0 = ap (λ b. cond (not b) (1 + position_or_len p xs) 0) y in omega arith)
    (λ y.
    let e : position_or_len p (x ∷ xs) ≡ 1 + position_or_len p xs = ap (λ b. cond (not b) (1 + position_or_len p xs) 0) y in
    let r = inside p xs (sym (ap (λ b. b || list_any p xs) y) ∙ h) in omega arith)

place_of : (keys : List (List ℕ)) (q : List ℕ) → IsKey q keys → (i : ℕ) × (position (is_same_name q) keys ≡ Some i)
place_of keys q h =
    let i = position_or_len (is_same_name q) keys in
    (i, ap (λ b. cond b (Some i) None) (lt-ltb i (length keys) (inside (is_same_name q) keys h)))

-- a name that is added is one of the names, and those before it stay
key_stays : (keys : List (List ℕ)) (n q : List ℕ) → IsKey q keys → IsKey q (insert_key (pointwise nat_eq) keys n)
key_stays keys n q h = by_test (list_any (is_same_name n) keys)
    (λ y. ap (λ b. list_any (is_same_name q) (cond b keys (keys ++ n ∷ []))) y ∙ h)
    (λ y.
    ap (λ b. list_any (is_same_name q) (cond b keys (keys ++ n ∷ []))) y
    ∙ list_any-append (is_same_name q) keys (n ∷ []) ∙ or_left (list_any (is_same_name q) keys) (list_any (is_same_name q) (n ∷ [])) h)

key_added : (keys : List (List ℕ)) (n q : List ℕ) → is_same_name q n ≡ true → IsKey q (insert_key (pointwise nat_eq) keys n)
key_added keys n q same = by_test (list_any (is_same_name n) keys)
    (λ y.
    ap (λ b. list_any (is_same_name q) (cond b keys (keys ++ n ∷ []))) y
    ∙ ap (λ x. list_any (is_same_name x) keys) ((bytes_decides q n).0 same) ∙ y)
    (λ y.
    ap (λ b. list_any (is_same_name q) (cond b keys (keys ++ n ∷ []))) y
    ∙ list_any-append (is_same_name q) keys (n ∷ [])
    ∙ or_right (list_any (is_same_name q) keys) (list_any (is_same_name q) (n ∷ [])) (or_left (is_same_name q n) false same))

keys_stay : (keys : List (List ℕ)) (es : List Entry) (q : List ℕ) → IsKey q keys → IsKey q (keys_of keys es)
keys_stay keys [] q h = h
keys_stay keys (e ∷ es) q h = keys_stay (insert_key (pointwise nat_eq) keys e.name) es q (key_stays keys e.name q h)

entry_is_key : (keys : List (List ℕ)) (es : List Entry) (q : List ℕ) → HasEntry q es → IsKey q (keys_of keys es)
entry_is_key keys [] q h = cc
entry_is_key keys (e ∷ es) q h = ⊎_elim
    (λ y. keys_stay (insert_key (pointwise nat_eq) keys e.name) es q (key_added keys e.name q y))
    (λ y. entry_is_key (insert_key (pointwise nat_eq) keys e.name) es q y)
    (or_cases (is_same_name q e.name) (list_any (is_same_name q) (map (λ e. e.name) es)) h)

-- the names of pipes and samples, and those of a block, are among the names of the job
key_after : (q : List ℕ) (xs ys : List (List ℕ)) → IsKey q ys → IsKey q (xs ++ ys)
key_after q xs ys h = list_any-append (is_same_name q) xs ys ∙ or_right (list_any (is_same_name q) xs) (list_any (is_same_name q) ys) h

key_before : (q : List ℕ) (xs ys : List (List ℕ)) → IsKey q xs → IsKey q (xs ++ ys)
key_before q xs ys h = list_any-append (is_same_name q) xs ys ∙ or_left (list_any (is_same_name q) xs) (list_any (is_same_name q) ys) h

pipe_declared : (ds : List Decl) (p : ℕ) (x : Slot) → slice_get (pipes_of ds) p ≡ Some x → IsKey x.name (flat_map names_in_decl ds)
pipe_declared [] p x at = cc
pipe_declared (decls.Pipe n width ∷ ds) zero x at =
    let is : slot n width 0 ≡ x = cc in or_left (is_same_name x.name n.name) (list_any (is_same_name x.name) (flat_map names_in_decl ds)) ((bytes_decides x.name n.name).1 (sym (ap (λ (z : Slot). z.name) is)))
pipe_declared (decls.Pipe n width ∷ ds) (suc p) x at = key_after x.name (n.name ∷ []) (flat_map names_in_decl ds) (pipe_declared ds p x at)
pipe_declared (d ∷ ds) p x at = key_after x.name (names_in_decl d) (flat_map names_in_decl ds) (pipe_declared ds p x at)

sample_declared : (ds : List Decl) (p : ℕ) (x : Slot) → slice_get (samples_of ds) p ≡ Some x → IsKey x.name (flat_map names_in_decl ds)
sample_declared [] p x at = cc
sample_declared (decls.Sample n width stage ∷ ds) zero x at =
    let is : slot n width 0 ≡ x = cc in or_left (is_same_name x.name n.name) (list_any (is_same_name x.name) (flat_map names_in_decl ds)) ((bytes_decides x.name n.name).1 (sym (ap (λ (z : Slot). z.name) is)))
sample_declared (decls.Sample n width stage ∷ ds) (suc p) x at = key_after x.name (n.name ∷ []) (flat_map names_in_decl ds) (sample_declared ds p x at)
sample_declared (d ∷ ds) p x at = key_after x.name (names_in_decl d) (flat_map names_in_decl ds) (sample_declared ds p x at)

block_declared : (bs : List Block) (j : ℕ) (b : Block) (q : List ℕ) → slice_get bs j ≡ Some b → IsKey q (names_in_block b) → IsKey q (flat_map names_in_block bs)
block_declared [] j b q at h = cc
block_declared (x ∷ bs) zero b q at h =
    let f : b ≡ x = cc in key_before q (names_in_block x) (flat_map names_in_block bs) (sym (ap (λ z. list_any (is_same_name q) (names_in_block z)) f) ∙ h)
block_declared (x ∷ bs) (suc j) b q at h = key_after q (names_in_block x) (flat_map names_in_block bs) (block_declared bs j b q at h)

-- what comes into scope by a name that is declared is that name
one_new : (s : Scoped) (n q : List ℕ) (m : Sense) → find s q ≡ None → is_some (find (declared_local s n m) q) ≡ true → is_same_name q n ≡ true
one_new s n q m none some = by_option (look_up (s.local ++ (n, m) ∷ []) q)
    (λ e.
    let a : find (declared_local s n m) q ≡ None = ap (λ o. or_else o (look_up s.text q)) e ∙ (find_none s q none).1 in
    let f : false ≡ true = sym (ap is_some a) ∙ some in cc)
    (λ z e. pushed s.local n q m z
    (λ b. let f : None ≡ Some z = sym (find_none s q none).0 ∙ b in cc)
    (λ w same is. (bytes_decides q n).1 same) e)

-- and so what comes into scope by a statement
new_in_stmt : (ds : List Decl) (s : Scoped) (x : StmtKind) (q : List ℕ) → find s q ≡ None → is_some (find (statement_of ds s x).value q) ≡ true → IsKey q (names_in_stmt x)
new_in_stmt ds s (stmts.Read r) q none some = or_left (is_same_name q r.name.name) false (one_new s r.name.name q (sense kinds.Read (read_of ds s r).value 0) none some)
new_in_stmt ds s (stmts.Let n e) q none some = or_left (is_same_name q n.name) false (one_new s n.name q (sense kinds.Let (width_of ds (length ds) s e).value 0) none some)
new_in_stmt ds s _ q none some = let f : false ≡ true = sym (ap is_some none) ∙ some in cc

module _ (job : Job) (unbroken : Unbroken (widths_of job)) (t : Laid) (tables : AreTables job t) (rule : _) (is25 : slice_get all_rules 10 ≡ Some rule) (k : ℕ) (words : List (List ℕ)) (fit : FitSlots (targets_of job.decls) words) (c : Instruction) where
  -- a name that the job declares has an index
  has_place : (q : List ℕ) → IsKey q (declared_names job) → HasPlace job unbroken t tables rule is25 k words fit c q
  has_place q h =
      place_of t.names q (ap (λ keys. list_any (is_same_name q) keys) tables.names ∙ entry_is_key [] (widths_of job).value q (ap (list_any (is_same_name q)) tables.declared ∙ h))

  -- each pipe has an index, and each sample
  pub pipe_placed : (p : ℕ) (x : Slot) → slice_get (pipes_of job.decls) p ≡ Some x → HasPlace job unbroken t tables rule is25 k words fit c x.name
  pipe_placed p x at = has_place x.name (key_before x.name (flat_map names_in_decl job.decls) (flat_map names_in_block job.blocks) (pipe_declared job.decls p x at))

  pub sample_placed : (p : ℕ) (x : Slot) → slice_get (samples_of job.decls) p ≡ Some x → HasPlace job unbroken t tables rule is25 k words fit c x.name
  sample_placed p x at = has_place x.name (key_before x.name (flat_map names_in_decl job.decls) (flat_map names_in_block job.blocks) (sample_declared job.decls p x at))

  -- statements whose names have indices
  keys_of_stmts : (s : Scoped) (xs : List Stmt) → ((q : List ℕ) → IsKey q (flat_map (λ x. names_in_stmt x.kind) xs) → HasPlace job unbroken t tables rule is25 k words fit c q)
      → Keyed job unbroken t tables rule is25 k words fit c s xs
  keys_of_stmts s [] h = tt
  keys_of_stmts s (x ∷ xs) h =
      let here = names_in_stmt x.kind in
      let more = flat_map (λ x. names_in_stmt x.kind) xs in (
        λ q none some. h q (list_any-append (is_same_name q) here more ∙ or_left (list_any (is_same_name q) here) (list_any (is_same_name q) more) (new_in_stmt job.decls s x.kind q none some)),
        keys_of_stmts (statement_of job.decls s x.kind).value xs
            (λ q y. h q (list_any-append (is_same_name q) here more ∙ or_right (list_any (is_same_name q) here) (list_any (is_same_name q) more) y)),
      )

  -- each name that a block declares has an index
  pub keyed : (j : ℕ) (b : Block) (s : Scoped) → slice_get job.blocks j ≡ Some b → Keyed job unbroken t tables rule is25 k words fit c s b.stmts
  keyed j b s at =
      keys_of_stmts s b.stmts (λ q h. has_place q (key_after q (flat_map names_in_decl job.decls) (flat_map names_in_block job.blocks) (block_declared job.blocks j b q at h)))

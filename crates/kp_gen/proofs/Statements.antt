-- The statements of a generated job violate no rule of names and widths.
use Rattle.std.proofs.Common.{◌≡◌, ◌∙◌, ℕ, zero, suc, ◌+◌, ◌-◌, ◌<◌, ◌≤◌, ◌%◌, List, [], ◌∷◌, ◌++◌, length, map, Some, None, Bool, true, false, Ok, refl, ap, sym, subst, arith, append_assoc}
use Rattle.std.{proofs.Math.Nat.mod-lt, proofs.lemmas.Bool.eq-eqb, proofs.lemmas.Bool.and_parts, proofs.lemmas.List.append-nil, specs.Prelude.◌==◌, specs.Prelude.◌&&◌, specs.Prelude.not, specs.Prelude.codes}
use Rattle.std.specs.List.{range_with_len, AllByRecursion}
use Rattle.kp_base.specs.{Check.Check, Check.ok, Check.wants, Check.◌>>=◌, declared.place.Place.Place}
use Rattle.kp_ast.specs.{Expressions.is_same_name, declared.tree.Named.Named, declared.tree.Expr.Expr, declared.tree.ReadStmt.ReadStmt, declared.tree.Decl.Decl}
use Rattle.kp_ast.specs.declared.{tree.Stmt.Stmt, widths.Entry.Entry, widths.NameKind.NameKind}
use Rattle.kp_bits.specs.declared.operator.BinOp.{BinOp}
use Rattle.kp_ast.specs.declared.tree.StmtKind.TheVariants as stmts
use Rattle.kp_ast.specs.declared.widths.Scope.TheVariants as scopes
use Rattle.kp_ast.specs.declared.widths.NameKind.TheVariants as kinds
use Rattle.kp_width.specs.{Faults.WidthFinding, Faults.found_at, declared.fault.Position.Position, declared.fault.Destination.Destination}
use Rattle.kp_width.specs.declared.fault.WidthFault.TheVariants as faults
use Rattle.kp_width.specs.declared.fault.Destination.TheVariants as to
use Rattle.kp_width.specs.Names.{Sense, sense, Names, Scoped, look_up, or_else, find, takes, bound_width, used, used_as, passed, declared_local}
use Rattle.kp_width.specs.Expressions.{part_of, width_of, value_of, literal_of, binary_of, slice_of}
use Rattle.kp_width.specs.Declarations.{kept, address_width}
use Rattle.kp_width.specs.Statements.{when_of, address_of, read_of, given, statement_of, statements_of, blocks_of}
use Rattle.kp_width.proofs.Unbroken.{width-Lit, width-Name, width-Binary, width-Slice}
use Rattle.kp_gen.specs.Generated.{place, named, numbered, name, number, binary, low_byte, set, file_read, address_put, value_put, file_set, file_sets, for_each, sets_from, first_stmts, later_stmts, later_block, all_blocks}
use Rattle.kp_gen.proofs.Texts.{registers_at, file_at, pipes_at, address_at, value_at, results_at, file_result_at, all_names, free_all, from_value, register_there, file_there, pipe_there, address_there, value_there, result_there, file_result_there}
use Rattle.kp_gen.{specs.declared.draws.Route.Route, proofs.Forms.read, proofs.Forms.put, proofs.Steps.then, proofs.Steps.holds, proofs.Steps.is_fresh}
use Rattle.kp_gen.proofs.Lookups.{spread, spread_there, spread_none, other_number, look_first, look_second, look_past, either}

-- in stage k these names are in scope
abbrev pub inside : ℕ → Names → Names → List Entry → Scoped
inside k text local entries = record { text = text; local = local; here = scopes.Stage k; entries = entries; doubts = false }

module _ (ds : List Decl) (s : Scoped) where
  abbrev width : Expr → Check WidthFinding ℕ
  width = width_of ds (length ds) s

  -- a name of this meaning is accepted in a position
  abbrev pub accepts : Position → Sense → Bool
  accepts position x = not x.doubtful && takes position s.here x.kind

  pub used_found : (position : Position) (n : List ℕ) (x : Sense) → find s n ≡ Some x → accepts position x ≡ true → (used s position n place).found ≡ Ok x
  used_found position n x there right =
      let both = and_parts (not x.doubtful) (takes position s.here x.kind) right in
      ap (λ o. (used_as s.here (bound_width s.entries n) position place o).found) there
      ∙ holds (not x.doubtful) _ (wants (takes position s.here x.kind) (found_at place (faults.WrongKind x.kind x.from position s.here)) (ok x)) both.0
      ∙ holds (takes position s.here x.kind) _ (ok x) both.1

  pub name_found : (n : List ℕ) (x : Sense) → find s n ≡ Some x → accepts Position.Value x ≡ true → (width (name n)).found ≡ Ok x.width
  name_found n x there right =
      ap (λ (c : Check WidthFinding ℕ). c.found) (width-Name ds (length ds) s place n)
      ∙ then (used s Position.Value n place) (λ m. ok m.width) x (used_found Position.Value n x there right)

  pub number_found : (w v x : ℕ) → (literal_of (record { width = w; value = v }) place).found ≡ Ok x → (width (number w v)).found ≡ Ok x
  number_found w v x e = ap (λ (c : Check WidthFinding ℕ). c.found) (width-Lit ds (length ds) s place (record { width = w; value = v })) ∙ e

  pub binary_found : (op : BinOp) (a b : Expr) (x y w : ℕ) → (width a).found ≡ Ok x → (width b).found ≡ Ok y → (binary_of op place (part_of ds (length ds) s a).at (part_of ds (length ds) s b).at x y).found ≡ Ok w
      → (width (binary op a b)).found ≡ Ok w
  binary_found op a b x y w e f g =
      ap (λ (c : Check WidthFinding ℕ). c.found) (width-Binary ds (length ds) s place op a b)
      ∙ then (width a) (λ p. width b >>= (λ q. binary_of op place (part_of ds (length ds) s a).at (part_of ds (length ds) s b).at p q)) x e
      ∙ then (width b) (λ q. binary_of op place (part_of ds (length ds) s a).at (part_of ds (length ds) s b).at x q) y f
      ∙ g

  pub byte_found : (n : List ℕ) → (width (name n)).found ≡ Ok 16 → (width (low_byte n)).found ≡ Ok 8
  byte_found n e =
      ap (λ (c : Check WidthFinding ℕ). c.found) (width-Slice ds (length ds) s place (name n) 7 0)
      ∙ then (width (name n)) (λ w. slice_of 7 0 place w) 16 e

  -- a value of this width is assigned to an object of this width
  value_found : (e : Expr) (w : ℕ) (goes : Destination) → (width e).found ≡ Ok w → (value_of (part_of ds (length ds) s e) w goes).found ≡ Ok tt
  value_found e w goes f =
      let at : Place = (part_of ds (length ds) s e).at in
      then (width e) (λ x. wants (x == w) (found_at at (faults.Value x w goes)) passed) w f ∙ holds (w == w) _ passed (eq-eqb w w refl)

  pub given_found : (position : Position) (n : List ℕ) (e : Expr) (x : Sense) → find s n ≡ Some x → accepts position x ≡ true → (width e).found ≡ Ok x.width
      → (given ds s position (named n) e).found ≡ Ok tt
  given_found position n e x there right value =
      then (used s position n place) (λ m. value_of (part_of ds (length ds) s e) m.width (to.Named m.kind m.from)) x (used_found position n x there right) ∙ value_found e x.width (to.Named x.kind x.from) value

  pub put_found : (n : List ℕ) (e : Expr) (x : Sense) → find s n ≡ Some x → accepts Position.Pipe x ≡ true → (width e).found ≡ Ok x.width
      → (statement_of ds s (stmts.Put (named n) e)).found ≡ Ok s
  put_found n e x there right value = then (given ds s Position.Pipe (named n) e) (λ x. ok s) tt (given_found Position.Pipe n e x there right value)

  pub set_found : (n : List ℕ) (e : Expr) (x : Sense) → find s n ≡ Some x → accepts Position.Result x ≡ true → (width e).found ≡ Ok x.width
      → (statement_of ds s (stmts.Set (named n) e None)).found ≡ Ok s
  set_found n e x there right value =
      then (given ds s Position.Result (named n) e) (λ x. when_of ds s None >>= (λ y. ok s)) tt (given_found Position.Result n e x there right value)

-- a list of statements passes, and these names of the stage are in scope after it
pub record Ends (c : Check WidthFinding Scoped) (k : ℕ) (text local : Names) : Type 0 where
  pub entries : List Entry
  pub found : c.found ≡ Ok (inside k text local entries)

-- a statement passes, and what follows it
pub stmt_more : (ds : List Decl) (s t : Scoped) (x : Stmt) (rest : List Stmt) (k : ℕ) (text local : Names) → (statement_of ds s x.kind).found ≡ Ok t
    → Ends (statements_of ds t rest) k text local → Ends (statements_of ds s (x ∷ rest)) k text local
stmt_more ds s t x rest k text local e more = record {
  entries = more.entries;
  found = then (statement_of ds s x.kind) (λ t. statements_of ds t rest) t e ∙ more.found;
}

module _ (ds : List Decl) (m : ℕ) (small : m ≤ 35) (some : 4 ≤ m) where
  abbrev T : Names
  T = all_names m small

  abbrev reads_at : ℕ → Sense
  reads_at j = sense kinds.Read 16 0

  -- the result of a look-up in the text, if no name of the stage is this one
  in_text : (k : ℕ) (local : Names) (es : List Entry) (n : List ℕ) (x : Sense) → look_up local n ≡ None → look_up T n ≡ Some x → find (inside k T local es) n ≡ Some x
  in_text k local es n x free there = ap (λ o. or_else o (look_up T n)) free ∙ there

  in_stage : (k : ℕ) (local : Names) (es : List Entry) (n : List ℕ) (x : Sense) → look_up local n ≡ Some x → find (inside k T local es) n ≡ Some x
  in_stage k local es n x there = ap (λ o. or_else o (look_up T n)) there

  unknown : (local : Names) (es : List Entry) (n : List ℕ) → look_up local n ≡ None → look_up T n ≡ None → find (inside 0 T local es) n ≡ None
  unknown local es n a b = ap (λ o. or_else o (look_up T n)) a ∙ b

  abbrev with_reads : Names
  with_reads = spread 120 reads_at 0 m

  abbrev with_f : Names
  with_f = with_reads ++ (codes "f", sense kinds.Read 16 0) ∷ []

  reads_free : (n : List ℕ) → ((k : ℕ) → 0 ≤ k → k < 0 + m → is_same_name n (numbered 120 k) ≡ false) → look_up with_reads n ≡ None
  reads_free n other = spread_none 120 reads_at n 0 m other

  f_free : (n : List ℕ) → ((k : ℕ) → 0 ≤ k → k < 0 + m → is_same_name n (numbered 120 k) ≡ false) → is_same_name n (codes "f") ≡ false → look_up with_f n ≡ None
  f_free n other f = look_second with_reads ((codes "f", sense kinds.Read 16 0) ∷ []) n (reads_free n other) ∙ look_past n (codes "f") (sense kinds.Read 16 0) [] f

  -- a read of a register
  read_found : (local : Names) (es : List Entry) (j : ℕ) (r : Route) → j < m → look_up local (numbered 120 j) ≡ None → look_up local (numbered 82 j) ≡ None
      → (statement_of ds (inside 0 T local es) (read j r).kind).found ≡ Ok (declared_local (inside 0 T local es) (numbered 120 j) (reads_at j))
  read_found local es j r h free other =
      let s : Scoped = inside 0 T local es in
      let there : find s (numbered 82 j) ≡ Some (registers_at m small j) = in_text 0 local es (numbered 82 j) (registers_at m small j) other (from_value m small (numbered 82 j) (registers_at m small j) (register_there m small j h)) in
      let target : Named = named (numbered 82 j) in
      let r : ReadStmt = record { name = named (numbered 120 j); target = target; address = None; when = None; guess = None } in
      is_fresh s (numbered 120 j) place (read_of ds s r >>= (λ w. ok (declared_local s (numbered 120 j) (sense kinds.Read w 0))))
      (unknown local es (numbered 120 j) free (free_all m small (numbered 120 j) (λ k h l. refl) refl (λ k h l. refl) refl refl (λ k h l. refl) refl))
      ∙ then (read_of ds s r) (λ w. ok (declared_local s (numbered 120 j) (sense kinds.Read w 0))) 16
      (then (used s Position.Register (numbered 82 j) place) (λ t. kept None (λ e. address_of (part_of ds (length ds) s e) (address_width t.kind) t.from) >>= (λ a. when_of ds s None >>= (λ b. kept None (λ e. value_of (part_of ds (length ds) s e) t.width (to.Named t.kind t.from)) >>= (λ c. ok t.width)))) (registers_at m small j) (used_found ds s Position.Register (numbered 82 j) (registers_at m small j) there refl))

  -- the reads of the registers, in order
  each_read : (local : Names) (es : List Entry) (j : ℕ) (rs : List Route) (rest : List Stmt) (final : Names) → j + length rs ≡ m
      → ((i : ℕ) → j ≤ i → i < m → look_up local (numbered 120 i) ≡ None) → ((i : ℕ) → look_up local (numbered 82 i) ≡ None)
      → ((es : List Entry) → Ends (statements_of ds (inside 0 T (local ++ spread 120 reads_at j (length rs)) es) rest) 0 T final)
      → Ends (statements_of ds (inside 0 T local es) (for_each read j rs ++ rest)) 0 T final
  each_read local es j [] rest final e free other next = subst (λ l. Ends (statements_of ds (inside 0 T l es) rest) 0 T final) (append-nil local) (next es)
  each_read local es j (r ∷ rs) rest final e free other next =
      let s : Scoped = inside 0 T local es in
      let local' : Names = local ++ (numbered 120 j, reads_at j) ∷ [] in
      let t : Scoped = declared_local s (numbered 120 j) (reads_at j) in
      let same = append_assoc local ((numbered 120 j, reads_at j) ∷ []) (spread 120 reads_at (j + 1) (length rs)) in
      stmt_more ds s t (read j r) (for_each read (j + 1) rs ++ rest) 0 T final
      (read_found local es j r (omega arith) (free j (omega arith) (omega arith)) (other j))
      (each_read local' t.entries (j + 1) rs rest final (omega arith)
      (λ i h l. look_second local ((numbered 120 j, reads_at j) ∷ []) (numbered 120 i) (free i (omega arith) l)
      ∙ look_past (numbered 120 i) (numbered 120 j) (reads_at j) [] (other_number 120 i j (omega arith) (omega arith) (omega arith)))
      (λ i. look_second local ((numbered 120 j, reads_at j) ∷ []) (numbered 82 i) (other i))
      (λ es'. subst (λ l. Ends (statements_of ds (inside 0 T l es') rest) 0 T final) (sym same) (next es')))

  -- a name that stage 0 has read
  read_there : (es : List Entry) (j : ℕ) → j < m → find (inside 0 T with_f es) (numbered 120 j) ≡ Some (reads_at j)
  read_there es j h =
      in_stage 0 with_f es (numbered 120 j) (reads_at j)
      (look_first with_reads ((codes "f", sense kinds.Read 16 0) ∷ []) (numbered 120 j) (reads_at j) (spread_there 120 reads_at 0 m j (omega arith) (omega arith) (omega arith)))

  read_width : (es : List Entry) (j : ℕ) → j < m → (width_of ds (length ds) (inside 0 T with_f es) (name (numbered 120 j))).found ≡ Ok 16
  read_width es j h = name_found ds (inside 0 T with_f es) (numbered 120 j) (reads_at j) (read_there es j h) refl

  -- a put of a sum
  sum_put : (es : List Entry) (j : ℕ) (r : Route) → j < m → (statement_of ds (inside 0 T with_f es) (put m j r).kind).found ≡ Ok (inside 0 T with_f es)
  sum_put es j r h =
      let s : Scoped = inside 0 T with_f es in
      let next : ℕ = (j + 1) % m in
      put_found ds s (numbered 80 j) (binary BinOp.Add (name (numbered 120 j)) (name (numbered 120 next))) (pipes_at m small j)
      (in_text 0 with_f es (numbered 80 j) (pipes_at m small j) (f_free (numbered 80 j) (λ k h l. refl) refl) (from_value m small (numbered 80 j) (pipes_at m small j) (pipe_there m small j h)))
      refl
      (binary_found ds s BinOp.Add (name (numbered 120 j)) (name (numbered 120 next)) 16 16 16 (read_width es j h) (read_width es next (mod-lt (j + 1) (omega arith))) refl)

  each_put : (es : List Entry) (j : ℕ) (rs : List Route) (rest : List Stmt) → j + length rs ≡ m
      → Ends (statements_of ds (inside 0 T with_f es) rest) 0 T with_f
      → Ends (statements_of ds (inside 0 T with_f es) (for_each (put m) j rs ++ rest)) 0 T with_f
  each_put es j [] rest e next = next
  each_put es j (r ∷ rs) rest e next =
      stmt_more ds (inside 0 T with_f es) (inside 0 T with_f es) (put m j r) (for_each (put m) (j + 1) rs ++ rest) 0 T with_f (sum_put es j r (omega arith))
      (each_put es (j + 1) rs rest (omega arith) next)

  last_puts : (es : List Entry) → Ends (statements_of ds (inside 0 T with_f es) (address_put ∷ value_put ∷ [])) 0 T with_f
  last_puts es =
      let s : Scoped = inside 0 T with_f es in
      stmt_more ds s s address_put (value_put ∷ []) 0 T with_f
      (put_found ds s (codes "AF") (low_byte (numbered 120 0)) (address_at m small)
      (in_text 0 with_f es (codes "AF") (address_at m small) (f_free (codes "AF") (λ k h l. refl) refl) (from_value m small (codes "AF") (address_at m small) (address_there m small)))
      refl (byte_found ds s (numbered 120 0) (read_width es 0 (omega arith))))
      (stmt_more ds s s value_put [] 0 T with_f
      (put_found ds s (codes "VF") (name (codes "f")) (value_at m small)
      (in_text 0 with_f es (codes "VF") (value_at m small) (f_free (codes "VF") (λ k h l. refl) refl) (from_value m small (codes "VF") (value_at m small) (value_there m small)))
      refl
      (name_found ds s (codes "f") (sense kinds.Read 16 0)
      (in_stage 0 with_f es (codes "f") (sense kinds.Read 16 0) (look_second with_reads ((codes "f", sense kinds.Read 16 0) ∷ []) (codes "f") (reads_free (codes "f") (λ k h l. refl))))
      refl))
      (record { entries = es; found = refl }))

  f_found : (es : List Entry) → (statement_of ds (inside 0 T with_reads es) file_read.kind).found ≡ Ok (declared_local (inside 0 T with_reads es) (codes "f") (sense kinds.Read 16 0))
  f_found es =
      let s : Scoped = inside 0 T with_reads es in
      let address : Expr = low_byte (numbered 120 1) in
      let r : ReadStmt = record { name = named (codes "f"); target = named (codes "F"); address = Some address; when = None; guess = None } in
      let there : find s (codes "F") ≡ Some (file_at m small) = in_text 0 with_reads es (codes "F") (file_at m small) (reads_free (codes "F") (λ k h l. refl)) (from_value m small (codes "F") (file_at m small) (file_there m small)) in
      let one : find s (numbered 120 1) ≡ Some (reads_at 1) = in_stage 0 with_reads es (numbered 120 1) (reads_at 1) (spread_there 120 reads_at 0 m 1 (omega arith) (omega arith) (omega arith)) in
      let wide : (width_of ds (length ds) s address).found ≡ Ok 8 = byte_found ds s (numbered 120 1) (name_found ds s (numbered 120 1) (reads_at 1) one refl) in
      let after : Sense → Check WidthFinding ℕ = λ t. kept (Some address) (λ e. address_of (part_of ds (length ds) s e) (address_width t.kind) t.from) >>= (λ a. when_of ds s None >>= (λ b. kept None (λ e. value_of (part_of ds (length ds) s e) t.width (to.Named t.kind t.from)) >>= (λ c. ok t.width))) in
      is_fresh s (codes "f") place (read_of ds s r >>= (λ w. ok (declared_local s (codes "f") (sense kinds.Read w 0))))
      (unknown with_reads es (codes "f") (reads_free (codes "f") (λ k h l. refl)) (free_all m small (codes "f") (λ k h l. refl) refl (λ k h l. refl) refl refl (λ k h l. refl) refl))
      ∙ then (read_of ds s r) (λ w. ok (declared_local s (codes "f") (sense kinds.Read w 0))) 16
      (then (used s Position.File (codes "F") place) after (file_at m small) (used_found ds s Position.File (codes "F") (file_at m small) there refl)
      ∙ then (address_of (part_of ds (length ds) s address) 8 (file_at m small).from) (λ a. when_of ds s None >>= (λ b. kept None (λ e. value_of (part_of ds (length ds) s e) 16 (to.Named (kinds.File 8) (file_at m small).from)) >>= (λ c. ok 16))) tt
      (then (width_of ds (length ds) s address) (λ x. wants (x == 8) (found_at (part_of ds (length ds) s address).at (faults.Address x 8 (file_at m small).from)) passed) 8 wide))

  in_parts : (rs : List Route) (es : List Entry) → length rs ≡ m
      → Ends (statements_of ds (inside 0 T [] es) (for_each read 0 rs ++ (file_read ∷ for_each (put (length rs)) 0 rs ++ address_put ∷ value_put ∷ []))) 0 T with_f
  in_parts rs es e =
      each_read [] es 0 rs (file_read ∷ for_each (put (length rs)) 0 rs ++ address_put ∷ value_put ∷ []) with_f (omega (arith, e)) (λ i h l. refl) (λ i. refl)
      (λ es'. subst (λ l. Ends (statements_of ds (inside 0 T (spread 120 reads_at 0 l) es') (file_read ∷ for_each (put l) 0 rs ++ address_put ∷ value_put ∷ [])) 0 T with_f) (sym e)
      (let t : Scoped = declared_local (inside 0 T with_reads es') (codes "f") (sense kinds.Read 16 0) in
      stmt_more ds (inside 0 T with_reads es') t file_read (for_each (put m) 0 rs ++ address_put ∷ value_put ∷ []) 0 T with_f (f_found es')
      (each_put t.entries 0 rs (address_put ∷ value_put ∷ []) (omega (arith, e)) (last_puts t.entries))))

  pub first_ends : (rs : List Route) (es : List Entry) → length rs ≡ m → Ends (statements_of ds (inside 0 T [] es) (first_stmts rs)) 0 T with_f
  first_ends rs es e =
      let same = append_assoc (for_each read 0 rs) (file_read ∷ for_each (put (length rs)) 0 rs) (address_put ∷ value_put ∷ []) in
      subst (λ x. Ends (statements_of ds (inside 0 T [] es) x) 0 T with_f) (sym same) (in_parts rs es e)

  -- a later stage: nothing is declared there
  pipe_width : (k : ℕ) (es : List Entry) (j : ℕ) → j < m → (width_of ds (length ds) (inside k T [] es) (name (numbered 80 j))).found ≡ Ok 16
  pipe_width k es j h =
      name_found ds (inside k T [] es) (numbered 80 j) (pipes_at m small j)
      (in_text k [] es (numbered 80 j) (pipes_at m small j) refl (from_value m small (numbered 80 j) (pipes_at m small j) (pipe_there m small j h))) refl

  result_set : (k : ℕ) (es : List Entry) (j : ℕ) (r : Route) → j < m → r.other < m → (statement_of ds (inside k T [] es) (set j r).kind).found ≡ Ok (inside k T [] es)
  result_set k es j r h other =
      let s : Scoped = inside k T [] es in
      let shifted : Expr = binary BinOp.Shl (name (numbered 80 r.other)) (number 1 1) in
      set_found ds s (numbered 67 j) (binary BinOp.Xor (name (numbered 80 j)) shifted) (results_at m small j)
      (in_text k [] es (numbered 67 j) (results_at m small j) refl (result_there m small j h)) refl
      (binary_found ds s BinOp.Xor (name (numbered 80 j)) shifted 16 16 16 (pipe_width k es j h)
      (binary_found ds s BinOp.Shl (name (numbered 80 r.other)) (number 1 1) 16 1 16 (pipe_width k es r.other other) (number_found ds s 1 1 1 refl) refl) refl)

  file_set_found : (k : ℕ) (es : List Entry) → (statement_of ds (inside k T [] es) file_set.kind).found ≡ Ok (inside k T [] es)
  file_set_found k es =
      let s : Scoped = inside k T [] es in
      set_found ds s (codes "CF") (binary BinOp.Add (name (numbered 80 0)) (name (codes "VF"))) (file_result_at m small)
      (in_text k [] es (codes "CF") (file_result_at m small) refl (file_result_there m small)) refl
      (binary_found ds s BinOp.Add (name (numbered 80 0)) (name (codes "VF")) 16 16 16 (pipe_width k es 0 (omega arith))
      (name_found ds s (codes "VF") (value_at m small) (in_text k [] es (codes "VF") (value_at m small) refl (from_value m small (codes "VF") (value_at m small) (value_there m small))) refl) refl)

  file_sets_end : (k : ℕ) (es : List Entry) → (statements_of ds (inside k T [] es) (file_sets k)).found ≡ Ok (inside k T [] es)
  file_sets_end k es =
      either (k == 1)
      (λ e. rw e (then (statement_of ds (inside k T [] es) file_set.kind) (λ t. statements_of ds t []) (inside k T [] es) (file_set_found k es)))
      (λ e. rw e refl)

  sets_end : (k : ℕ) (es : List Entry) (j : ℕ) (rs : List Route) → j + length rs ≡ m → AllByRecursion (λ r. r.other < m) rs
      → (statements_of ds (inside k T [] es) (sets_from k j rs ++ file_sets k)).found ≡ Ok (inside k T [] es)
  sets_end k es j [] e all = file_sets_end k es
  sets_end k es j (r ∷ rs) e all =
      let more = sets_end k es (j + 1) rs (omega arith) all.1 in
      either (r.set == k)
      (λ x. rw x (then (statement_of ds (inside k T [] es) (set j r).kind) (λ t. statements_of ds t (sets_from k (j + 1) rs ++ file_sets k)) (inside k T [] es) (result_set k es j r (omega arith) all.0) ∙ more))
      (λ x. rw x more)

  -- the later stages, c of them from stage k on
  later_end : (k c : ℕ) (l : ℕ) (local : Names) (es : List Entry) (rs : List Route) → length rs ≡ m → AllByRecursion (λ r. r.other < m) rs
      → (t : Scoped) × ((blocks_of ds k (inside l T local es) (map (later_block rs) (range_with_len k c))).found ≡ Ok t)
  later_end k zero l local es rs e all = (inside l T local es, refl)
  later_end k (suc c) l local es rs e all =
      let more = later_end (k + 1) c k [] es rs e all in
      (more.0, then (statements_of ds (inside k T [] es) (later_stmts rs k)) (λ t. blocks_of ds (k + 1) t (map (later_block rs) (range_with_len (k + 1) c))) (inside k T [] es) (sets_end k es 0 rs (omega (arith, e)) all) ∙ more.1)

  pub blocks_end : (s : Scoped) (n : ℕ) (rs : List Route) → s.text ≡ T → s.doubts ≡ false → length rs ≡ m → AllByRecursion (λ r. r.other < m) rs
      → (t : Scoped) × ((blocks_of ds 0 s (all_blocks n rs)).found ≡ Ok t)
  blocks_end s n rs text clean e all =
      let ends : Ends (statements_of ds (inside 0 s.text [] s.entries) (first_stmts rs)) 0 T with_f = subst (λ x. Ends (statements_of ds (inside 0 x [] s.entries) (first_stmts rs)) 0 T with_f) (sym text) (first_ends rs s.entries e) in
      let more = later_end 1 (n - 1) 0 with_f ends.entries rs e all in (
        more.0,
        ap (λ doubts. (blocks_of ds 0 (record { text = s.text; local = s.local; here = s.here; entries = s.entries; doubts = doubts }) (all_blocks n rs)).found) clean
            ∙ then (statements_of ds (inside 0 s.text [] s.entries) (first_stmts rs)) (λ t. blocks_of ds 1 t (map (later_block rs) (range_with_len 1 (n - 1)))) (inside 0 T with_f ends.entries) ends.found ∙ more.1,
      )

-- No step of an instruction changes how many names, pipes and results there are, or how many words a target has.
use Rattle.std.proofs.Common.{◌≡◌, ◌∙◌, ℕ, List, [], ◌∷◌, Option, Some, None, length, replicate, refl}
use Rattle.std.{proofs.lemmas.Bool.cond_both, proofs.lemmas.List.length-set, proofs.lemmas.List.length-replicate, specs.List.position}
use Rattle.kp_bits.specs.Word.{Word}
use Rattle.kp_ast.specs.{Expressions.is_same_name, declared.tree.ResultDecl.ResultDecl, declared.tree.Stmt.Stmt, declared.tree.StmtKind.StmtKind}
use Rattle.kp_ast.specs.declared.tree.Block.{Block}
use Rattle.kp_ast.specs.declared.tree.StmtKind.TheVariants as stmts
use Rattle.kp_machine.specs.Slots.{Slot, number_of, width_of, result_named}
use Rattle.kp_seq.specs.inner.Steps.{Under, holds, word_in, fitted, value_read, with_name, with_pipe, with_result, after_stmt, after_stmts, with_row, pipe_words, entered, after_block, after_blocks, begun}
use Rattle.kp_seq.specs.inner.{Names.set_place, Tables.Laid}

pub record SameLengths (u v : Under) : Type 0 where
  pub names : length v.names ≡ length u.names
  pub pipes : length v.pipes ≡ length u.pipes
  pub results : length v.results ≡ length u.results

pub same : (u : Under) → SameLengths u u
same u = record { names = refl; pipes = refl; results = refl }

pub then_same : (u v w : Under) → SameLengths u v → SameLengths v w → SameLengths u w
then_same u v w h k = record { names = k.names ∙ h.names; pipes = k.pipes ∙ h.pipes; results = k.results ∙ h.results }

at_place : (vs : List (Option Word)) (o : Option ℕ) (w : Word) → length (set_place vs o w) ≡ length vs
at_place vs None w = refl
at_place vs (Some i) w = length-set vs i (Some w)

module _ (t : Laid) where
  name_same : (u : Under) (n : List ℕ) (w : Word) → SameLengths u (with_name t u n w)
  name_same u n w = record { names = at_place u.names (position (is_same_name n) t.names) w; pipes = refl; results = refl }

  pipe_same : (u : Under) (p v : ℕ) → SameLengths u (with_pipe u p v)
  pipe_same u p v = record { names = refl; pipes = length-set u.pipes p v; results = refl }

  result_same : (u : Under) (o : Option ResultDecl) (v : ℕ) → SameLengths u (with_result t u o v)
  result_same u None v = same u
  result_same u (Some r) v = record { names = refl; pipes = refl; results = length-set u.results (number_of t.targets r.target.name) _ }

  pub row_same : (u : Under) (ss : List Slot) (row : List Word) → SameLengths u (with_row t u ss row)
  row_same u [] row = same u
  row_same u (s ∷ ss) [] = same u
  row_same u (s ∷ ss) (w ∷ row) = then_same u (with_name t u s.name w) _ (name_same u s.name w) (row_same (with_name t u s.name w) ss row)

  pub entered_same : (row : List Word) (u : Under) → SameLengths u (entered t row u)
  entered_same row u =
      let none : Option Word = None in
      let v : Under = record u { names = replicate (length u.names) none } in
      let m : Under = with_row t v t.samples row in
      then_same u v _ (record { names = length-replicate (length u.names) none; pipes = refl; results = refl })
      (then_same v m _ (row_same v t.samples row) (row_same m t.pipes (pipe_words m.pipes 0 t.pipes)))

  pub begun_same : (u : Under) → SameLengths u (begun u)
  begun_same u =
      let zero : ℕ = 0 in
      let none : Option ℕ = None in
      record { names = refl; pipes = length-replicate (length u.pipes) zero; results = length-replicate (length u.results) none }

  module _ (words : List (List ℕ)) where
    pub stmt_same : (u : Under) (s : StmtKind) → SameLengths u (after_stmt t words u s)
    stmt_same u (stmts.Read r) = name_same u r.name.name (fitted (width_of t.targets r.target.name) (value_read t words u r))
    stmt_same u (stmts.Let n e) = name_same u n.name (word_in t u e)
    stmt_same u (stmts.Put n e) = pipe_same u (number_of t.pipes n.name) (word_in t u e).value
    stmt_same u (stmts.Set n e when) = cond_both (holds t u when) (with_result t u (result_named t.decls n.name) (word_in t u e).value) u (SameLengths u) (λ _. result_same u (result_named t.decls n.name) (word_in t u e).value) (λ _. same u)
    stmt_same u (stmts.Aim n e) = same u

    pub stmts_same : (u : Under) (ss : List Stmt) → SameLengths u (after_stmts t words u ss)
    stmts_same u [] = same u
    stmts_same u (s ∷ ss) = then_same u (after_stmt t words u s.kind) _ (stmt_same u s.kind) (stmts_same (after_stmt t words u s.kind) ss)

    pub block_same : (row : List Word) (u : Under) (b : Block) → SameLengths u (after_block t words row u b)
    block_same row u b = then_same u (entered t row u) _ (entered_same row u) (stmts_same (entered t row u) b.stmts)

    pub blocks_same : (row : List Word) (u : Under) (bs : List Block) → SameLengths u (after_blocks t words row u bs)
    blocks_same row u [] = same u
    blocks_same row u (b ∷ bs) = then_same u (after_block t words row u b) _ (block_same row u b) (blocks_same row (after_block t words row u b) bs)

    pub all_same : (row : List Word) (u : Under) (bs : List Block) → SameLengths u (after_blocks t words row (begun u) bs)
    all_same row u bs = then_same u (begun u) _ (begun_same u) (blocks_same row (begun u) bs)

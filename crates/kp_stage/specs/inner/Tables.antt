-- The facts of a job, as they are stored in tables by one pass over it.
use Rattle.std.specs.Prelude.{ℕ, ◌+◌, List, [], ◌∷◌, ◌++◌, Option, Some, None, nat_eq, min, map, slice_get}
use Rattle.std.specs.{Option.option_or, Map.lookup, Map.update, Cmp.Lexicographic.pointwise}
use Rattle.kp_ast.specs.declared.tree.{Decl.Decl, Stmt.Stmt, StmtKind.StmtKind, Block.Block}
use Rattle.kp_ast.specs.declared.tree.Decl.TheVariants as decls
use Rattle.kp_ast.specs.declared.tree.StmtKind.TheVariants as stmts
use Rattle.kp_stage.specs.{Facts.At, Facts.Facts, Facts.where_same, Facts.less, declared.facts.OfDecls.OfDecls, declared.facts.OfStmts.OfStmts}
use Rattle.kp_stage.specs.declared.facts.Facts as stored

abbrev pub Entries : Type 0 → Type 0
Entries V = List (List ℕ × V)

-- what a table has for a name
abbrev pub look_up : {V : Type 0} → Entries V → List ℕ → Option V
look_up es name = lookup (pointwise nat_eq name) es

-- what is known of each name
abbrev pub Known : Type 0 → Type 0
Known V = List ℕ → Option V

-- after a value is stored in the place of an earlier one
abbrev pub with_value : {V : Type 0} → Known V → List ℕ → V → Known V
with_value f n v = update (pointwise nat_eq) f n (Some v)

-- after a value is stored unless one is stored already
abbrev pub with_first : {V : Type 0} → Known V → List ℕ → V → Known V
with_first f n v = λ q. option_or (f q) (where_same q n v)

abbrev pub less_than : ℕ → Option ℕ → ℕ
less_than w None = w
less_than w (Some v) = min v w

-- after the minimum of the stored number and this one is stored
abbrev pub with_less : Known ℕ → List ℕ → ℕ → Known ℕ
with_less f n w = λ q. less (f q) (where_same q n w)

-- what is known from declarations
pub record Named : Type 0 where
  pub hint : Known ℕ
  pub result : Known ℕ
  pub sample : Known ℕ
  pub stage : Known ℕ
  pub written : Known ℕ

abbrev pub named : OfDecls → Named
named t = record { hint = look_up t.hints; result = look_up t.results; sample = look_up t.samples; stage = look_up t.write_stages; written = look_up t.writes }

abbrev pub none_named : Named
none_named = record { hint = λ q. None; result = λ q. None; sample = λ q. None; stage = λ q. None; written = λ q. None }

abbrev pub decl_noted : Named → ℕ → Decl → Named
decl_noted n i (decls.Hint h width start) = record n { hint = with_first n.hint h.name i }
decl_noted n i (decls.Sample s width stage) = record n { sample = with_first n.sample s.name stage.value }
decl_noted n i (decls.Target r) = record n {
  result = with_first n.result r.target.name i;
  stage = with_first n.stage r.name.name r.stage.value;
  written = with_less n.written r.target.name r.stage.value;
}
decl_noted n i _ = n

abbrev pub decls_noted : Named → ℕ → List Decl → Named
decls_noted n i [] = n
decls_noted n i (d ∷ ds) = decls_noted (decl_noted n i d) (i + 1) ds

-- what is known from statements: the puts and the aims, the sets of the present stage, and those of the stages before it
pub record Given : Type 0 where
  pub put : Known At
  pub aim : Known At
  pub set : Known ℕ
  pub sets : List (Known ℕ)

abbrev pub given : OfStmts → Entries ℕ → Given
given t sets = record { put = look_up t.puts; aim = look_up t.aims; set = look_up sets; sets = map look_up t.sets.items }

-- between two stages
abbrev pub between : Known At → Known At → List (Known ℕ) → Given
between put aim sets = record { put = put; aim = aim; set = λ q. None; sets = sets }

abbrev pub stmt_noted : Given → ℕ → ℕ → StmtKind → Given
stmt_noted g k j (stmts.Put n e) = record g { put = with_first g.put n.name (record { stage = k; index = j }) }
stmt_noted g k j (stmts.Aim n e) = record g { aim = with_first g.aim n.name (record { stage = k; index = j }) }
stmt_noted g k j (stmts.Set n e when) = record g { set = with_first g.set n.name j }
stmt_noted g k j _ = g

abbrev pub stmts_noted : Given → ℕ → ℕ → List Stmt → Given
stmts_noted g k j [] = g
stmts_noted g k j (s ∷ ss) = stmts_noted (stmt_noted g k j s.kind) k (j + 1) ss

-- the end of a stage
abbrev pub ended : Given → Given
ended g = between g.put g.aim (g.sets ++ g.set ∷ [])

abbrev pub blocks_noted : Given → ℕ → List Block → Given
blocks_noted g k [] = g
blocks_noted g k (b ∷ bs) = blocks_noted (ended (stmts_noted g k 0 b.stmts)) (k + 1) bs

abbrev pub table_in : Option (Entries ℕ) → Entries ℕ
table_in None = []
table_in (Some t) = t

abbrev pub facts_in : stored.Facts → Facts
facts_in t = record {
  stages = t.stages;
  put = look_up t.given.puts;
  aim = look_up t.given.aims;
  set_in = λ k. look_up (table_in (slice_get t.given.sets.items k));
  hint = look_up t.named.hints;
  result = look_up t.named.results;
  sample = look_up t.named.samples;
  stage = look_up t.named.write_stages;
  written = look_up t.named.writes;
  top = t.top;
}

-- What is preserved while the pool grows, and what changes when a name is bound to a node.
use Rattle.std.proofs.Common.{◌≡◌, ◌∙◌, ℕ, zero, suc, ◌<◌, List, [], ◌∷◌, ◌++◌, length, take, Option, Some, None, Bool, true, false, cond, refl, ap, sym, subst, arith}
use Rattle.std.specs.{Prelude.slice_get, Option.option_map, Cmp.Lexicographic.bytes_decides}
use Rattle.kp_bits.specs.Word.{Word}
use Rattle.kp_ast.specs.{Expressions.is_same_name, declared.tree.Expr.Expr, declared.tree.ReadStmt.ReadStmt, declared.tree.Stmt.Stmt}
use Rattle.kp_ast.specs.declared.tree.{StmtKind.StmtKind, Job.Job}
use Rattle.kp_ast.specs.Expressions as values
use Rattle.kp_ast.specs.declared.tree.StmtKind.TheVariants as stmts
use Rattle.kp_width.specs.Names.{Sense, Names, Scoped, look_up, find, or_else, is_hint, declared_local}
use Rattle.kp_pipeline.specs.Sequential.{StageOutcome, PendingGuess}
use Rattle.kp_machine.proofs.{Text.is_local, Text.local_no, Scopes.look_last, Scopes.find_none, Cases.by_test, LookUp.look_up_end}
use Rattle.kp_net.specs.{declared.node.NodeId.NodeId, Nodes.Cells, Nodes.word_at, Nodes.at, Nodes.on, Growth.Held, Growth.Wire, Growth.Kept}
use Rattle.kp_net.proofs.Growing.{wire_kept}
use Rattle.kp_build.proofs.{Lists.grown_same, Names.node_with}
use Rattle.kp_build.specs.Names.{Scope, node_of, with_node, word_of, AreInside}
use Rattle.kp_synth_registers.specs.{declared.outcome.Made.Made, Holding.pending_guess, Meaning.guess_value, Meaning.made_values, Meaning.MadeFit}
use Rattle.kp_synth_registers.proofs.Growth.{put_kept, put_fits, set_kept, set_fits, made_fit, made_kept}
use Rattle.kp_design.specs.{declared.guess.GuessSlot.GuessSlot, Numbers.guess_slot, Numbers.with_read, Numbers.with_guess, Numbers.guesses_in}
use Rattle.kp_synth_stage.specs.{Work.stmts_at, Work.Fits, Work.Means, Scopes.Binds, Scopes.Bound}
use Rattle.kp_synth_stage.specs.{inner.Standing.slots_at, inner.Standing.own_slots, declared.work.Work.Work}
use Rattle.kp_synth_stage.specs.inner.Standing as work

look_past : (names : Names) (n q : List ℕ) (m : Sense) → is_same_name q n ≡ false → look_up (names ++ (n, m) ∷ []) q ≡ look_up names q
look_past [] n q m y = ap (λ b. cond b (Some m) None) y
look_past ((k, v) ∷ names) n q m y = ap (cond (is_same_name q k) (Some v)) (look_past names n q m y)

-- a name that is declared: the sense of it, and those of all others
find_here : (s : Scoped) (n q : List ℕ) (m x : Sense) → find s n ≡ None → is_same_name q n ≡ true → find (declared_local s n m) q ≡ Some x → m ≡ x
find_here s n q m x none y e =
    let is : q ≡ n = (bytes_decides q n).0 y in
    let f : Some m ≡ Some x = sym (ap (λ o. or_else o (look_up s.text n)) (look_last s.local n m (find_none s n none).0)) ∙ ap (λ z. find (declared_local s n m) z) (sym is) ∙ e in cc

find_past : (s : Scoped) (n q : List ℕ) (m : Sense) → is_same_name q n ≡ false → find (declared_local s n m) q ≡ find s q
find_past s n q m y = ap (λ o. or_else o (look_up s.text q)) (look_past s.local n q m y)

find_new : (s : Scoped) (n q : List ℕ) (m : Sense) → find s n ≡ None → is_same_name q n ≡ true → find (declared_local s n m) q ≡ Some m
find_new s n q m none y =
    let is : q ≡ n = (bytes_decides q n).0 y in
    ap (λ z. find (declared_local s n m) z) is ∙ ap (λ o. or_else o (look_up s.text n)) (look_last s.local n m (find_none s n none).0)

binds_kept : (p q : Held) (k w : ℕ) (o : Option NodeId) → Kept p q k → Binds p w o → Binds q w o
binds_kept p q k w None g h = h
binds_kept p q k w (Some n) g h = wire_kept p q k n w g h

pub bound_kept : (job : Job) (s : Scoped) (p q : Held) (k : ℕ) (env : Scope) → Kept p q k → Bound job s p env → Bound job s q env
bound_kept job s p q k env g h = record {
  decls = h.decls;
  bound = λ x m e b. binds_kept p q k m.width (node_of env.names x) g (h.bound x m e b);
  only = h.only;
  inside = λ x n e. (let l = h.inside x n e in let o = g.longer in omega arith);
}

abbrev pub env_with : Scope → List ℕ → NodeId → Scope
env_with env n x = record { decls = env.decls; names = with_node env.names n x }

pub bound_more : (job : Job) (s : Scoped) (q : Held) (env : Scope) (n : List ℕ) (m : Sense) (x : NodeId) → Bound job s q env → find s n ≡ None → Wire q x m.width
    → Bound job (declared_local s n m) q (env_with env n x)
bound_more job s q env n m x h none wire = record {
  decls = h.decls;
  bound = λ z i e b. by_test (is_same_name z n)
      (λ y.
      let f = find_here s n z m i none y e in
      subst (Binds q i.width) (sym (node_with env.names n x z ∙ ap (λ t. cond t (Some x) (node_of env.names z)) y)) (subst (λ (v : Sense). Wire q x v.width) f wire))
      (λ y. subst (Binds q i.width) (sym (node_with env.names n x z ∙ ap (λ t. cond t (Some x) (node_of env.names z)) y)) (h.bound z i (sym (find_past s n z m y) ∙ e) b));
  only = λ z e. by_test (is_same_name z n)
      (λ y. let f : Some m ≡ None = sym (find_new s n z m none y) ∙ e in cc)
      (λ y. node_with env.names n x z ∙ ap (λ t. cond t (Some x) (node_of env.names z)) y ∙ h.only z (sym (find_past s n z m y) ∙ e));
  inside = λ z i e. by_test (is_same_name z n)
      (λ y.
      let f : Some x ≡ Some i = sym (node_with env.names n x z ∙ ap (λ t. cond t (Some x) (node_of env.names z)) y) ∙ e in
      let g : x ≡ i = cc in subst (λ (v : NodeId). v.0 < length q.nodes) g wire.inside)
      (λ y. h.inside z i (sym (node_with env.names n x z ∙ ap (λ t. cond t (Some x) (node_of env.names z)) y) ∙ e));
}

-- the words of names
word_same : (c : Cells) (p q : Held) (k : ℕ) (o : Option NodeId) → Kept p q k → ((n : NodeId) → o ≡ Some n → n.0 < length p.nodes)
    → option_map (λ (n : NodeId). word_at c q.nodes n.0) o ≡ option_map (λ (n : NodeId). word_at c p.nodes n.0) o
word_same c p q k None g h = refl
word_same c p q k (Some n) g h = ap Some (g.words c n.0 (h n refl))

pub word_kept : (c : Cells) (p q : Held) (k : ℕ) (env : Scope) (x : List ℕ) → Kept p q k → AreInside p env → word_of c q env x ≡ word_of c p env x
unfolding word_of
word_kept c p q k env x g h = word_same c p q k (node_of env.names x) g (h x)

pub names_kept : (job : Job) (s : Scoped) (hints : ℕ → ℕ) (c : Cells) (p q : Held) (k : ℕ) (env : Scope) (known : values.Values) → Kept p q k → AreInside p env
    → work.Names job s hints c p env known → work.Names job s hints c q env known
names_kept job s hints c p q k env known g inside h = record {
  names = λ x m e b. word_kept c p q k env x g inside ∙ h.names x m e b;
  hints = λ x m e b. word_kept c p q k env x g inside ∙ h.hints x m e b;
  plain = h.plain;
  only = h.only;
}

word_with : (c : Cells) (q : Held) (env : Scope) (n : List ℕ) (x : NodeId) (z : List ℕ) → word_of c q (env_with env n x) z ≡ cond (is_same_name z n) (Some (word_at c q.nodes x.0)) (word_of c q env z)
unfolding word_of
word_with c q env n x z = ap (option_map (λ (i : NodeId). word_at c q.nodes i.0)) (node_with env.names n x z) ∙ by (is_same_name z n)
  where
    by : (t : Bool) → option_map (λ (i : NodeId). word_at c q.nodes i.0) (cond t (Some x) (node_of env.names z)) ≡ cond t (Some (word_at c q.nodes x.0)) (option_map (λ (i : NodeId). word_at c q.nodes i.0) (node_of env.names z))
    by true = refl
    by false = refl

pub names_more : (job : Job) (s : Scoped) (hints : ℕ → ℕ) (c : Cells) (q : Held) (env : Scope) (known : values.Values) (n : List ℕ) (m : Sense) (x : NodeId) (v : Word)
    → work.Names job s hints c q env known → find s n ≡ None → is_local m.kind ≡ true → word_at c q.nodes x.0 ≡ v
    → work.Names job (declared_local s n m) hints c q (env_with env n x) (known ++ (n, v) ∷ [])
names_more job s hints c q env known n m x v h none local is =
    let free = h.only n none in
    let look : (z : List ℕ) → values.look_up (known ++ (n, v) ∷ []) z ≡ cond (is_same_name z n) (Some v) (values.look_up known z) = λ z. look_up_end known n z v free in
    record {
      names = λ z i e b. by_test (is_same_name z n)
          (λ y.
          word_with c q env n x z ∙ ap (λ t. cond t (Some (word_at c q.nodes x.0)) (word_of c q env z)) y ∙ ap Some is
          ∙ sym (look z ∙ ap (λ t. cond t (Some v) (values.look_up known z)) y))
          (λ y.
          word_with c q env n x z ∙ ap (λ t. cond t (Some (word_at c q.nodes x.0)) (word_of c q env z)) y
          ∙ h.names z i (sym (find_past s n z m y) ∙ e) b
          ∙ sym (look z ∙ ap (λ t. cond t (Some v) (values.look_up known z)) y));
      hints = λ z i e b. by_test (is_same_name z n)
          (λ y. let f = find_here s n z m i none y e in local_no is_hint refl refl m.kind local (subst (λ (w : Sense). is_hint w.kind ≡ true) (sym f) b))
          (λ y. word_with c q env n x z ∙ ap (λ t. cond t (Some (word_at c q.nodes x.0)) (word_of c q env z)) y ∙ h.hints z i (sym (find_past s n z m y) ∙ e) b);
      plain = λ z i e b. by_test (is_same_name z n)
          (λ y. let f = find_here s n z m i none y e in local_no is_hint refl refl m.kind local (subst (λ (w : Sense). is_hint w.kind ≡ true) (sym f) b))
          (λ y. look z ∙ ap (λ t. cond t (Some v) (values.look_up known z)) y ∙ h.plain z i (sym (find_past s n z m y) ∙ e) b);
      only = λ z e. by_test (is_same_name z n)
          (λ y. let f : Some m ≡ None = sym (find_new s n z m none y) ∙ e in cc)
          (λ y. look z ∙ ap (λ t. cond t (Some v) (values.look_up known z)) y ∙ h.only z (sym (find_past s n z m y) ∙ e));
    }

-- what is put, set, guessed and aimed
pub fits_kept : (job : Job) (p q : Held) (k : ℕ) (ss : List GuessSlot) (w : Work) → Kept p q k → Fits job p ss w → Fits job q ss w
fits_kept job p q k ss w g h = record {
  hazard = wire_kept p q k w.hazard 1 g h.hazard;
  put_count = h.put_count;
  puts = λ x. put_fits p q k _ _ g (h.puts x);
  set_count = h.set_count;
  sets = λ t. set_fits p q k _ _ g (h.sets t);
  made = made_fit p q k _ _ g h.made;
  aim_count = h.aim_count;
  aims = λ x. put_fits p q k _ _ g (h.aims x);
}

pub means_kept : (job : Job) (c : Cells) (p q : Held) (k : ℕ) (ss : List GuessSlot) (w : Work) (o : StageOutcome) → Kept p q k → Fits job p ss w → Means job c p ss w o → Means job c q ss w o
means_kept job c p q k ss w o g f h = record {
  hazard = g.tests c w.hazard.0 f.hazard.inside ∙ h.hazard;
  puts = λ x l. put_kept c p q k _ _ g (f.puts x) ∙ h.puts x l;
  sets = λ t l. set_kept c p q k _ _ g (f.sets t) ∙ h.sets t l;
  made = made_kept c p q k _ _ g f.made ∙ h.made;
  aims = λ x l. put_kept c p q k _ _ g (f.aims x) ∙ h.aims x l;
}

-- one more guess
pub made_more : (p : Held) (ss : List GuessSlot) (ms : List Made) (s : GuessSlot) (m : Made) → MadeFit p ss ms → Wire p m.pending 1 → Wire p m.value s.width → MadeFit p (ss ++ s ∷ []) (ms ++ m ∷ [])
made_more p [] [] s m h b v = (b, v, tt)
made_more p (r ∷ ss) (n ∷ ms) s m h b v = (h.0, h.1, made_more p ss ms s m h.2 b v)
made_more p _ _ s m h b v = absurd h

guess_more : (b : Bool) (g : PendingGuess) (xs ys : List PendingGuess) → guess_value b g (xs ++ ys) ≡ guess_value b g xs ++ ys
guess_more true g xs ys = refl
guess_more false g xs ys = refl

pub made_values_more : (c : Cells) (p : Held) (ss : List GuessSlot) (ms : List Made) (s : GuessSlot) (m : Made) → MadeFit p ss ms
    → made_values c p (ss ++ s ∷ []) (ms ++ m ∷ []) ≡ made_values c p ss ms ++ guess_value (on c p.nodes m.pending.0) (pending_guess s (at c p.nodes m.value.0)) []
made_values_more c p [] [] s m h = refl
made_values_more c p [] (n ∷ ms) s m h = absurd h
made_values_more c p (r ∷ ss) [] s m h = absurd h
made_values_more c p (r ∷ ss) (n ∷ ms) s m h =
    ap (guess_value (on c p.nodes n.pending.0) (pending_guess r (at c p.nodes n.value.0))) (made_values_more c p ss ms s m h.2)
    ∙ guess_more (on c p.nodes n.pending.0) (pending_guess r (at c p.nodes n.value.0)) (made_values c p ss ms) (guess_value (on c p.nodes m.pending.0) (pending_guess s (at c p.nodes m.value.0)) [])

-- the guessed reads before the next statement
with_read_more : (job : Job) (k i : ℕ) (r : ReadStmt) (o : Option Expr) (f g h : ℕ → List GuessSlot) → ((m : ℕ) → (n : ℕ) × (f m ≡ g m ++ h n))
    → (n : ℕ) × (with_read job k i r o f ≡ with_read job k i r o g ++ h n)
with_read_more job k i r None f g h e = e i
with_read_more job k i r (Some x) f g h e = let z = e (suc i) in (z.0, ap (λ xs. guess_slot job k i r ∷ xs) z.1)

with_guess_more : (job : Job) (k i : ℕ) (x : StmtKind) (f g h : ℕ → List GuessSlot) → ((m : ℕ) → (n : ℕ) × (f m ≡ g m ++ h n))
    → (n : ℕ) × (with_guess job k i x f ≡ with_guess job k i x g ++ h n)
with_guess_more job k i (stmts.Read r) f g h e = with_read_more job k i r r.guess f g h e
with_guess_more job k i _ f g h e = e i

slots_more : (job : Job) (k i : ℕ) (xs : List Stmt) (j : ℕ) (x : Stmt) → slice_get xs j ≡ Some x
    → (n : ℕ) × (guesses_in job k i (take (suc j) xs) ≡ guesses_in job k i (take j xs) ++ own_slots job k x.kind n)
slots_more job k i [] j x e = cc
slots_more job k i (y ∷ xs) zero x e = let f : y ≡ x = cc in (i, ap (λ (z : Stmt). own_slots job k z.kind i) f)
slots_more job k i (y ∷ xs) (suc j) x e =
    with_guess_more job k i y.kind (λ m. guesses_in job k m (take (suc j) xs)) (λ m. guesses_in job k m (take j xs)) (own_slots job k x.kind) (λ m. slots_more job k m xs j x e)

pub slots_next : (job : Job) (k j : ℕ) (x : Stmt) → slice_get (stmts_at job k) j ≡ Some x → (n : ℕ) × (slots_at job k (suc j) ≡ slots_at job k j ++ own_slots job k x.kind n)
unfolding slots_at
slots_next job k j x e = slots_more job k 0 (stmts_at job k) j x e

-- nothing is added
pub kept_same : (p : Held) → Kept p p 0
kept_same p = (grown_same p).kept

-- A stage as it is entered: the names of the pipes, of the samples and of the hints.
use Rattle.std.proofs.Common.{◌≡◌, ◌∙◌, ℕ, zero, suc, ◌+◌, ◌<◌, List, [], ◌∷◌, ◌++◌, length, get_or, replicate, Option, Some, None, Bool, true, false, cond, refl, ap, sym, subst, arith}
use Rattle.std.{proofs.lemmas.List.length-replicate, specs.Option.option_map, specs.Cmp.Lexicographic.bytes_decides}
use Rattle.kp_bits.specs.Word.{word}
use Rattle.kp_ast.specs.{Expressions.is_same_name, declared.tree.Decl.Decl, declared.tree.Job.Job, declared.widths.NameKind.NameKind}
use Rattle.kp_ast.specs.Expressions as values
use Rattle.kp_ast.specs.declared.tree.Decl.TheVariants as decls
use Rattle.kp_ast.specs.declared.widths.NameKind.TheVariants as kinds
use Rattle.kp_width.specs.Names.{Sense, Scoped, Names, nothing, look_up, find, is_pipe, is_hint}
use Rattle.kp_width.specs.{Declarations.declaration_of, Declarations.declarations_of, Declarations.functions_in, Widths.widths_of}
use Rattle.kp_width.proofs.{Unbroken.Unbroken, Unbroken.bind_unbroken, Calls.is_of_text}
use Rattle.kp_machine.specs.Slots.{Slot, pipes_of, hints_of, samples_of, number_of, words_from, words_of, targets_of}
use Rattle.kp_machine.proofs.{Apart.has_name, Apart.IsOfKind, Apart.pipe_named, Apart.sample_named, Names.IsIn}
use Rattle.kp_machine.proofs.{Scopes.IsSlot, Scopes.is_sample, Scopes.sense_of, Scopes.stays, Scopes.text_has, Text.declared_right}
use Rattle.kp_machine.proofs.{LookUp.or_else, LookUp.look_up-append, Cases.by_test}
use Rattle.kp_net.specs.{declared.node.NodeId.NodeId, Nodes.Cells, Nodes.word_at, Nodes.at, Nodes.on, Growth.Held, Growth.Wire, Growth.Kept}
use Rattle.kp_net.proofs.{Values.word_is, Growing.wire_kept}
use Rattle.kp_build.{specs.Names.Nodes, specs.Names.node_of, specs.Names.Scope, specs.Names.word_of, proofs.Names.node_with}
use Rattle.kp_design.proofs.Fitting.{width_there}
use Rattle.kp_design.specs.Numbers.{no_slot, pipe_at, hint_at, target_at}
use Rattle.kp_synth_registers.specs.Meaning.{node_at, PutFits, SetFits, MadeFit, put_value, set_value, made_values}
use Rattle.kp_synth_stage.specs.Scopes.{declared, scope_at, is_bound, is_value, Binds, Bound}
use Rattle.kp_synth_stage.specs.inner.Standing.{names_with, env_of, WorkOk, Stands, Enters, slots_at}
use Rattle.kp_synth_stage.{specs.Work.NodesHave, specs.Work.SlotsHave, specs.declared.work.Work.Work, proofs.Scoping.scope_text, proofs.Scoping.scope_start}
use Rattle.kp_synth_stage.proofs.Expressions.{placed_in, text_kind}
use Rattle.kp_synth_stage.specs.inner.Standing as work

-- a name among slots
pub name_in : (ss : List Slot) (q : List ℕ) → has_name ss q ≡ true → number_of ss q < length ss
name_in [] q e = cc
name_in (s ∷ ss) q e = by_test (is_same_name q s.name)
    (λ y. rw y (omega arith))
    (λ y. let r = name_in ss q (sym (ap (λ b. cond b true (has_name ss q)) y) ∙ e) in rw y (omega (arith, r)))

-- the node of a name that is bound, and of one that is not
pub node_in : (names : Nodes) (ss : List Slot) (ns : List NodeId) (q : List ℕ) → length ns ≡ length ss → number_of ss q < length ss → node_of (names_with names ss ns) q ≡ Some (node_at ns (number_of ss q))
node_in names [] ns q l h = absurd (omega arith)
node_in names (s ∷ ss) [] q l h = absurd (omega arith)
node_in names (s ∷ ss) (n ∷ ns) q l h =
    let with_it = node_with (names_with names ss ns) s.name n q in
    by_test (is_same_name q s.name)
    (λ y. with_it ∙ rw y refl)
    (λ y.
    let inside : suc (number_of ss q) < suc (length ss) = subst (λ b. cond b 0 (suc (number_of ss q)) < suc (length ss)) y h in
    let r = node_in names ss ns q (omega arith) (omega arith) in with_it ∙ rw y r)

pub node_out : (names : Nodes) (ss : List Slot) (ns : List NodeId) (q : List ℕ) → has_name ss q ≡ false → node_of (names_with names ss ns) q ≡ node_of names q
node_out names [] ns q e = refl
node_out names (s ∷ ss) [] q e = refl
node_out names (s ∷ ss) (n ∷ ns) q e = by_test (is_same_name q s.name)
    (λ y. let f : true ≡ false = sym (ap (λ b. cond b true (has_name ss q)) y) ∙ e in cc)
    (λ y. let r = node_out names ss ns q (sym (ap (λ b. cond b true (has_name ss q)) y) ∙ e) in node_with (names_with names ss ns) s.name n q ∙ rw y r)

-- the words of slots
pub words_in : (vs : ℕ → ℕ) (i : ℕ) (ss : List Slot) (q : List ℕ) → number_of ss q < length ss
    → values.look_up (words_from i vs ss) q ≡ Some (word (get_or ss (number_of ss q) no_slot).width (vs (i + number_of ss q)))
words_in vs i [] q h = absurd (omega arith)
words_in vs i (s ∷ ss) q h = by_test (is_same_name q s.name)
    (λ y. let z : i ≡ i + 0 = omega arith in rw y (ap (λ n. Some (word s.width (vs n))) z))
    (λ y.
    let inside : suc (number_of ss q) < suc (length ss) = subst (λ b. cond b 0 (suc (number_of ss q)) < suc (length ss)) y h in
    let z : suc i + number_of ss q ≡ i + suc (number_of ss q) = omega arith in
    let r = words_in vs (suc i) ss q (omega arith) ∙ ap (λ n. Some (word (get_or ss (number_of ss q) no_slot).width (vs n))) z in
    rw y r)

pub words_out : (vs : ℕ → ℕ) (i : ℕ) (ss : List Slot) (q : List ℕ) → has_name ss q ≡ false → values.look_up (words_from i vs ss) q ≡ None
words_out vs i [] q e = refl
words_out vs i (s ∷ ss) q e = by_test (is_same_name q s.name)
    (λ y. let f : true ≡ false = sym (ap (λ b. cond b true (has_name ss q)) y) ∙ e in cc)
    (λ y. let r = words_out vs (suc i) ss q (sym (ap (λ b. cond b true (has_name ss q)) y) ∙ e) in rw y r)

-- A name that a hint has names a hint in the text.
hint_named : (ds : List Decl) (i k : ℕ) (s : Scoped) (rest : List Decl) → Unbroken (declarations_of ds i k s rest) → (q : List ℕ) → has_name (hints_of rest) q ≡ true
    → IsOfKind is_hint (declarations_of ds i k s rest).value.text q
hint_named ds i k s [] u q e = cc
hint_named ds i k s (decls.Hint n width start ∷ rest) u q e =
    let d = decls.Hint n width start in
    let y = bind_unbroken (declaration_of ds i k s d) (λ t. declarations_of ds (i + 1) (k + functions_in d) t rest) u in
    let next : Scoped = (declaration_of ds i k s d).value in
    by_test (is_same_name q n.name)
    (λ same.
    let is : q ≡ n.name = (bytes_decides q n.name).0 same in
    (sense_of i d, stays ds (i + 1) (k + functions_in d) next rest q (sense_of i d) (ap (look_up next.text) is ∙ text_has ds i k s d y.0), refl))
    (λ other. hint_named ds (i + 1) (k + functions_in d) next rest y.1 q (sym (ap (λ b. cond b true (has_name (hints_of rest) q)) other) ∙ e))
hint_named ds i k s (d ∷ rest) u q e =
    hint_named ds (i + 1) (k + functions_in d) (declaration_of ds i k s d).value rest
    (bind_unbroken (declaration_of ds i k s d) (λ t. declarations_of ds (i + 1) (k + functions_in d) t rest) u).1 q e

value_text : {G : Type 0} (kind : NameKind) → is_value kind ≡ true → is_of_text kind ≡ true → (kind ≡ kinds.Pipe → G) → (kind ≡ kinds.Sample → G) → (kind ≡ kinds.Hint → G) → G
value_text kinds.Pipe e f p s h = p refl
value_text kinds.Sample e f p s h = s refl
value_text kinds.Hint e f p s h = h refl
value_text _ e f p s h = cc

bound_value : (kind : NameKind) → is_bound kind ≡ true → is_value kind ≡ true
bound_value kinds.Pipe e = refl
bound_value kinds.Sample e = refl
bound_value kinds.Read e = refl
bound_value kinds.Let e = refl
bound_value _ e = cc

hint_kind : (kind : NameKind) → is_hint kind ≡ true → kind ≡ kinds.Hint
hint_kind kinds.Hint e = refl
hint_kind _ e = cc

-- NODES of the slots of one list
module _ (z : Held) (ss : List Slot) (ns : List NodeId) (h : SlotsHave z ss ns) (q : List ℕ) where
  abbrev node : NodeId
  node = node_at ns (number_of ss q)

  number_inside : IsIn ss q → number_of ss q < length ns
  number_inside i =
      let inside : number_of ss q < length ss = i in
      let count : length ns ≡ length ss = h.count in omega arith

  slot_binds : (names : Nodes) (w a : ℕ) → IsSlot ss q w a → node_of names q ≡ Some node → Binds z w (node_of names q)
  slot_binds names w a at e = subst (Binds z w) (sym e) (subst (Wire z node) (width_there q ss at.inside ∙ at.width) (h.wires (number_of ss q) (number_inside at.inside)))

  slot_inside : (names : Nodes) (n : NodeId) → has_name ss q ≡ true → node_of names q ≡ Some node → node_of names q ≡ Some n → n.0 < length z.nodes
  slot_inside names n has e f =
      let g : Some node ≡ Some n = sym e ∙ f in
      let is : node ≡ n = cc in
      subst (λ (v : NodeId). v.0 < length z.nodes) is (h.wires (number_of ss q) (number_inside (name_in ss q has))).inside

  slot_known : (c : Cells) (env : Scope) (vs : ℕ → ℕ) → NodesHave c z ns vs → IsIn ss q → node_of env.names q ≡ Some node → word_of c z env q ≡ values.look_up (words_of ss vs) q
  unfolding word_of
  slot_known c env vs has i e =
      let n : ℕ = number_of ss q in
      let l = number_inside i in
      let zero_more : 0 + n ≡ n = omega arith in
      ap (option_map (λ (x : NodeId). word_at c z.nodes x.0)) e
      ∙ ap Some (word_is c z.nodes node.0 (h.wires n l).inside ∙ ap (λ k. word k (at c z.nodes node.0)) (h.wires n l).wide ∙ ap (word (get_or ss n no_slot).width) (has n l))
      ∙ sym (words_in vs 0 ss q i ∙ ap (λ x. Some (word (get_or ss n no_slot).width (vs x))) zero_more)

module _ (job : Job) (u : Unbroken (widths_of job)) (k : ℕ) where
  abbrev s : Scoped
  s = scope_at job k 0

  find_text : (q : List ℕ) → find s q ≡ look_up (declared job).text q
  find_text q =
      let z = scope_start job k in
      ap (λ (x : Scoped). find x q) z ∙ sym (ap (λ (x : Scoped). look_up x.text q) z) ∙ ap (λ (t : Names). look_up t q) (scope_text job k 0)

  module _ (slots : List Slot) (takes : NameKind → Bool) (named : (q : List ℕ) → has_name slots q ≡ true → IsOfKind takes (declared job).text q) where
    -- a name of another kind has no slot, and neither has one that isn't in scope
    no_slot_of : (q : List ℕ) (m : Sense) → look_up (declared job).text q ≡ Some m → takes m.kind ≡ false → has_name slots q ≡ false
    no_slot_of q m e other = by_test (has_name slots q)
        (λ y.
        let x = named q y in
        let f : Some x.0 ≡ Some m = sym x.1 ∙ e in
        let g : x.0 ≡ m = cc in
        let t : true ≡ false = sym x.2 ∙ ap (λ (v : Sense). takes v.kind) g ∙ other in cc)
        (λ y. y)

    none_of : (q : List ℕ) → look_up (declared job).text q ≡ None → has_name slots q ≡ false
    none_of q e = by_test (has_name slots q) (λ y. let x = named q y in let f : Some x.0 ≡ None = sym x.1 ∙ e in cc) (λ y. y)

  no_pipe : (q : List ℕ) (m : Sense) → look_up (declared job).text q ≡ Some m → is_pipe m.kind ≡ false → has_name (pipes_of job.decls) q ≡ false
  no_pipe = no_slot_of (pipes_of job.decls) is_pipe (pipe_named job.decls nothing (declared_right job u))

  no_sample : (q : List ℕ) (m : Sense) → look_up (declared job).text q ≡ Some m → is_sample m.kind ≡ false → has_name (samples_of job.decls) q ≡ false
  no_sample = no_slot_of (samples_of job.decls) is_sample (sample_named job.decls nothing (declared_right job u))

  none_pipe : (q : List ℕ) → look_up (declared job).text q ≡ None → has_name (pipes_of job.decls) q ≡ false
  none_pipe = none_of (pipes_of job.decls) is_pipe (pipe_named job.decls nothing (declared_right job u))

  none_sample : (q : List ℕ) → look_up (declared job).text q ≡ None → has_name (samples_of job.decls) q ≡ false
  none_sample = none_of (samples_of job.decls) is_sample (sample_named job.decls nothing (declared_right job u))

  -- what the names of the stage are known as
  abbrev known_at_start : (ℕ → ℕ) → (ℕ → ℕ) → values.Values
  known_at_start vs taken = words_of (pipes_of job.decls) vs ++ words_of (samples_of job.decls) taken

  not_known : (vs taken : ℕ → ℕ) (q : List ℕ) → has_name (pipes_of job.decls) q ≡ false → has_name (samples_of job.decls) q ≡ false → values.look_up (known_at_start vs taken) q ≡ None
  not_known vs taken q p t =
      look_up-append (words_of (pipes_of job.decls) vs) (words_of (samples_of job.decls) taken) q
      ∙ ap (λ o. or_else o (values.look_up (words_of (samples_of job.decls) taken) q)) (words_out vs 0 (pipes_of job.decls) q p)
      ∙ words_out taken 0 (samples_of job.decls) q t

  module _ (z : Held) (pn sn hn : List NodeId) (ps : SlotsHave z (pipes_of job.decls) pn) (ts : SlotsHave z (samples_of job.decls) sn) (hs : SlotsHave z (hints_of job.decls) hn) where
    abbrev hint_names : Nodes
    hint_names = names_with [] (hints_of job.decls) hn

    abbrev more_names : Nodes
    more_names = names_with hint_names (samples_of job.decls) sn

    abbrev names : Nodes
    names = (env_of job pn sn hn).names

    pipe_node : (q : List ℕ) → IsIn (pipes_of job.decls) q → node_of names q ≡ Some (node_at pn (number_of (pipes_of job.decls) q))
    pipe_node q h = node_in more_names (pipes_of job.decls) pn q ps.count h

    sample_node : (q : List ℕ) → has_name (pipes_of job.decls) q ≡ false → IsIn (samples_of job.decls) q → node_of names q ≡ Some (node_at sn (number_of (samples_of job.decls) q))
    sample_node q out h = node_out more_names (pipes_of job.decls) pn q out ∙ node_in hint_names (samples_of job.decls) sn q ts.count h

    hint_node : (q : List ℕ) → has_name (pipes_of job.decls) q ≡ false → has_name (samples_of job.decls) q ≡ false → IsIn (hints_of job.decls) q → node_of names q ≡ Some (node_at hn (number_of (hints_of job.decls) q))
    hint_node q out out2 h = node_out more_names (pipes_of job.decls) pn q out ∙ node_out hint_names (samples_of job.decls) sn q out2 ∙ node_in [] (hints_of job.decls) hn q hs.count h

    no_node : (q : List ℕ) → has_name (pipes_of job.decls) q ≡ false → has_name (samples_of job.decls) q ≡ false → has_name (hints_of job.decls) q ≡ false → node_of names q ≡ None
    no_node q out out2 out3 = node_out more_names (pipes_of job.decls) pn q out ∙ node_out hint_names (samples_of job.decls) sn q out2 ∙ node_out [] (hints_of job.decls) hn q out3

    -- the slot of a name, by its kind
    module _ (q : List ℕ) (m : Sense) (e : look_up (declared job).text q ≡ Some m) where
      pipe_slot : m.kind ≡ kinds.Pipe → IsSlot (pipes_of job.decls) q m.width 0
      pipe_slot h = (placed_in job u q m e).pipe (ap is_pipe h)

      sample_slot : m.kind ≡ kinds.Sample → IsSlot (samples_of job.decls) q m.width 0
      sample_slot h = (placed_in job u q m e).sample (ap is_sample h)

      hint_slot : m.kind ≡ kinds.Hint → IsSlot (hints_of job.decls) q m.width 0
      hint_slot h = (placed_in job u q m e).hinted (ap is_hint h)

      sample_there : (h : m.kind ≡ kinds.Sample) → node_of names q ≡ Some (node_at sn (number_of (samples_of job.decls) q))
      sample_there h = sample_node q (no_pipe q m e (ap is_pipe h)) (sample_slot h).inside

      hint_there : (h : m.kind ≡ kinds.Hint) → node_of names q ≡ Some (node_at hn (number_of (hints_of job.decls) q))
      hint_there h = hint_node q (no_pipe q m e (ap is_pipe h)) (no_sample q m e (ap is_sample h)) (hint_slot h).inside

      binds_by_kind : is_value m.kind ≡ true → Binds z m.width (node_of names q)
      binds_by_kind b = value_text m.kind b (text_kind job u q m e)
          (λ h. slot_binds z (pipes_of job.decls) pn ps q names m.width 0 (pipe_slot h) (pipe_node q (pipe_slot h).inside))
          (λ h. slot_binds z (samples_of job.decls) sn ts q names m.width 0 (sample_slot h) (sample_there h))
          (λ h. slot_binds z (hints_of job.decls) hn hs q names m.width 0 (hint_slot h) (hint_there h))

      word_by_kind : (c : Cells) (vs taken : ℕ → ℕ) → NodesHave c z pn vs → NodesHave c z sn taken → is_bound m.kind ≡ true → word_of c z (env_of job pn sn hn) q ≡ values.look_up (known_at_start vs taken) q
      word_by_kind c vs taken pv tv b = value_text m.kind (bound_value m.kind b) (text_kind job u q m e)
          (λ h.
          let i = (pipe_slot h).inside in
          let w = words_in vs 0 (pipes_of job.decls) q i in
          slot_known z (pipes_of job.decls) pn ps q c (env_of job pn sn hn) vs pv i (pipe_node q i) ∙ w
          ∙ sym (look_up-append (words_of (pipes_of job.decls) vs) (words_of (samples_of job.decls) taken) q
          ∙ ap (λ o. or_else o (values.look_up (words_of (samples_of job.decls) taken) q)) w))
          (λ h.
          slot_known z (samples_of job.decls) sn ts q c (env_of job pn sn hn) taken tv (sample_slot h).inside (sample_there h)
          ∙ sym (look_up-append (words_of (pipes_of job.decls) vs) (words_of (samples_of job.decls) taken) q
          ∙ ap (λ o. or_else o (values.look_up (words_of (samples_of job.decls) taken) q)) (words_out vs 0 (pipes_of job.decls) q (no_pipe q m e (ap is_pipe h)))))
          (λ h. let f : true ≡ false = sym b ∙ ap is_bound h in cc)

    pub enter_bound : Bound job s z (env_of job pn sn hn)
    enter_bound = record {
      decls = refl;
      bound = λ q m e b. binds_by_kind q m (sym (find_text q) ∙ e) b;
      only = λ q e. let f = sym (find_text q) ∙ e in no_node q (none_pipe q f) (none_sample q f) (none_of (hints_of job.decls) is_hint (hint_named job.decls 0 0 nothing job.decls (declared_right job u)) q f);
      inside = λ q n e. by_test (has_name (pipes_of job.decls) q)
          (λ y. slot_inside z (pipes_of job.decls) pn ps q names n y (pipe_node q (name_in (pipes_of job.decls) q y)) e)
          (λ y. by_test (has_name (samples_of job.decls) q)
          (λ x. slot_inside z (samples_of job.decls) sn ts q names n x (sample_node q y (name_in (samples_of job.decls) q x)) e)
          (λ x. by_test (has_name (hints_of job.decls) q)
          (λ w. slot_inside z (hints_of job.decls) hn hs q names n w (hint_node q y x (name_in (hints_of job.decls) q w)) e)
          (λ w. let f : None ≡ Some n = sym (no_node q y x w) ∙ e in cc)));
    }

    pub enter_names : (c : Cells) (vs taken aims : ℕ → ℕ) → NodesHave c z pn vs → NodesHave c z sn taken → NodesHave c z hn aims
        → work.Names job s aims c z (env_of job pn sn hn) (known_at_start vs taken)
    enter_names c vs taken aims pv tv hv = record {
      names = λ q m e b. word_by_kind q m (sym (find_text q) ∙ e) c vs taken pv tv b;
      hints = λ q m e h.
          let f = sym (find_text q) ∙ e in
          let is = hint_kind m.kind h in
          slot_known z (hints_of job.decls) hn hs q c (env_of job pn sn hn) aims hv (hint_slot q m f is).inside (hint_there q m f is);
      plain = λ q m e h.
          let f = sym (find_text q) ∙ e in
          let is = hint_kind m.kind h in
          not_known vs taken q (no_pipe q m f (ap is_pipe is)) (no_sample q m f (ap is_sample is));
      only = λ q e. let f = sym (find_text q) ∙ e in not_known vs taken q (none_pipe q f) (none_sample q f);
    }

all_default : {X : Type 0} (n i : ℕ) (d : X) → get_or (replicate n d) i d ≡ d
all_default zero i d = refl
all_default (suc n) zero d = refl
all_default (suc n) (suc i) d = all_default n i d

none_at : {X : Type 0} (xs : List (Option X)) (n x : ℕ) → xs ≡ replicate n None → get_or xs x None ≡ None
none_at xs n x e = ap (λ ys. get_or ys x None) e ∙ all_default n x None

slots_kept : (p z : Held) (m : ℕ) (ss : List Slot) (ns : List NodeId) → Kept p z m → SlotsHave p ss ns → SlotsHave z ss ns
slots_kept p z m ss ns g h = record { count = h.count; wires = λ i l. wire_kept p z m (node_at ns i) _ g (h.wires i l) }

module _ (job : Job) (u : Unbroken (widths_of job)) (k : ℕ) (p z : Held) (m : ℕ) (g : Kept p z m) (pn sn hn : List NodeId) (ps : SlotsHave p (pipes_of job.decls) pn) (ts : SlotsHave p (samples_of job.decls) sn) (hs : SlotsHave p (hints_of job.decls) hn)
    (w : Work) (env : w.env ≡ env_of job pn sn hn) (hazard : Wire z w.hazard 1) (puts : w.puts.items ≡ replicate (length (pipes_of job.decls)) None) (sets : w.sets.items ≡ replicate (length (targets_of job.decls)) None)
    (made : w.made.items ≡ []) (aims : w.aims.items ≡ replicate (length (hints_of job.decls)) None) where
  pub entered_with : WorkOk job k 0 z w × (((c : Cells) → on c z.nodes w.hazard.0 ≡ false) → Enters job k p pn sn hn z w)
  unfolding Enters slots_at
  entered_with = (
    record {
      env = subst (Bound job (scope_at job k 0) z) (sym env) (enter_bound job u k z pn sn hn (slots_kept p z m _ pn g ps) (slots_kept p z m _ sn g ts) (slots_kept p z m _ hn g hs));
      fits = record {
        hazard = hazard;
        put_count = ap length puts ∙ length-replicate (length (pipes_of job.decls)) None;
        puts = λ x. subst (PutFits z (pipe_at job x).width) (sym (none_at w.puts.items _ x puts)) tt;
        set_count = ap length sets ∙ length-replicate (length (targets_of job.decls)) None;
        sets = λ x. subst (SetFits z (target_at job x).width) (sym (none_at w.sets.items _ x sets)) tt;
        made = subst (λ xs. MadeFit z [] xs) (sym made) tt;
        aim_count = ap length aims ∙ length-replicate (length (hints_of job.decls)) None;
        aims = λ x. subst (PutFits z (hint_at job x).width) (sym (none_at w.aims.items _ x aims)) tt;
      };
    },
    λ clear c vs taken hints pv tv hv. record {
      names = subst (λ e. work.Names job (scope_at job k 0) hints c z e (known_at_start job u k vs taken)) (sym env)
          (enter_names job u k z pn sn hn (slots_kept p z m _ pn g ps) (slots_kept p z m _ sn g ts) (slots_kept p z m _ hn g hs) c vs taken hints
          (λ i l. g.same c (node_at pn i).0 (ps.wires i l).inside ∙ pv i l) (λ i l. g.same c (node_at sn i).0 (ts.wires i l).inside ∙ tv i l) (λ i l. g.same c (node_at hn i).0 (hs.wires i l).inside ∙ hv i l));
      outcome = record {
        hazard = clear c;
        puts = λ x l. ap (put_value c z) (none_at w.puts.items _ x puts);
        sets = λ x l. ap (set_value c z) (none_at w.sets.items _ x sets);
        made = ap (λ xs. made_values c z [] xs) made;
        aims = λ x l. ap (put_value c z) (none_at w.aims.items _ x aims);
      };
    },
  )

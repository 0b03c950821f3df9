-- A read: which rules it keeps, and what its nodes mean.
use Rattle.std.proofs.Common.{◌≡◌, ◌∙◌, ℕ, suc, ◌+◌, ◌<◌, ◌^◌, List, [], ◌++◌, length, Option, Some, None, Bool, true, cond, not, ◌||◌, ◌&&◌, refl, ap, sym, subst, arith}
use Rattle.std.{proofs.lemmas.Bool.eqb-true, specs.Prelude.slice_get, specs.Prelude.is_some, specs.Prelude.◌==◌}
use Rattle.kp_base.specs.{Check.ok, Check.◌>>=◌, Check.wants}
use Rattle.kp_bits.specs.Word.{Word}
use Rattle.kp_ast.specs.declared.{tree.Expr.Expr, tree.ReadStmt.ReadStmt, tree.Job.Job, tree.Decl.Decl, widths.NameKind.NameKind}
use Rattle.kp_ast.specs.declared.tree.StmtKind.TheVariants as stmts
use Rattle.kp_ast.specs.declared.widths.NameKind.TheVariants as kinds
use Rattle.kp_width.specs.Names.{Sense, sense, Scoped, find, is_register, is_file, passed, declared_local}
use Rattle.kp_width.specs.Expressions.{width_of, value_of, part_of}
use Rattle.kp_width.specs.Declarations.{kept, storage_of, address_width}
use Rattle.kp_width.specs.{Faults.found_at, declared.fault.Position.Position, declared.fault.Destination.Destination}
use Rattle.kp_width.specs.declared.fault.WidthFault.TheVariants as faults
use Rattle.kp_width.specs.declared.fault.Destination.TheVariants as to
use Rattle.kp_width.specs.{Statements.when_of, Statements.address_of, Statements.read_of, Widths.widths_of}
use Rattle.kp_width.proofs.{Unbroken.Unbroken, Unbroken.bind_unbroken, Unbroken.answer_unbroken, Found.none_of_two, Found.storage_takes, Parts.given_parts}
use Rattle.kp_stage.specs.{Facts.facts_of, declared.rules.Rule.Rule, Rules.ask_option}
use Rattle.kp_machine.specs.{Slots.targets_of, Trees.Progress}
use Rattle.kp_machine.proofs.{Scopes.IsSlot, Scopes.fresh_none, Scopes.found_sense, Scopes.storage_kind, Text.local_no, Text.found_where}
use Rattle.kp_machine.specs.Trees as trees
use Rattle.kp_net.specs.{declared.node.NodeId.NodeId, Nodes.Cells, Nodes.at, Nodes.on, Widths.AllRight, Growth.Held, Growth.Wire, Growth.Kept}
use Rattle.kp_net.proofs.{Growing.wire_kept, Growing.kept_then, Values.at_fits}
use Rattle.kp_fwd.specs.Forward.{BitOk, enable_on}
use Rattle.kp_build.specs.Names.{Scope}
use Rattle.kp_design.proofs.Fitting.{width_there, address_there, no_address}
use Rattle.kp_design.specs.Numbers.{target_at}
use Rattle.kp_synth_registers.specs.Meaning.{PutFits}
use Rattle.kp_synth_stage.specs.declared.row.{Source.Source, Answer.Answer}
use Rattle.kp_synth_stage.specs.Rows.{asked, source_view, view_of, SourceOk, SourcesOk, Sees, AskOk}
use Rattle.kp_synth_stage.specs.{Reading.given, Reading.lacks, Reading.value_or_zero, Doing.target_of, Doing.address_read, Doing.truth_of, Doing.miss_of}
use Rattle.kp_synth_stage.specs.Scopes.{scope_at, Bound}
use Rattle.kp_synth_stage.specs.inner.Statements.{width_in, OptionRight, OptionWire, OptionGives, GuessOk, ReadGives}
use Rattle.kp_synth_stage.{specs.inner.Standing.StmtRight, specs.inner.Standing.own_slots, specs.inner.Standing.slots_at, proofs.Scoping.scope_locals}
use Rattle.kp_synth_stage.proofs.{Expressions.plain_found, Expressions.hinted_found, Expressions.gives_is, Binding.bound_kept, Binding.names_kept}
use Rattle.kp_synth_stage.proofs.Nearest.{bit_kept, enable_kept, ask_kept, ask_inside, asked_kept, source_kept, sees_kept, orzero_kept}
use Rattle.kp_synth_stage.proofs.Steps.{text_sense, at_value, at_is}
use Rattle.kp_synth_stage.specs.inner.Standing as work

-- an expression that may be left out, and its width
abbrev pub HasWidths : Job → ℕ → ℕ → ℕ → Option Expr → Type 0
HasWidths job k j w None = Unit {0}
HasWidths job k j w (Some e) = (width_in job k j e).value ≡ w

abbrev pub Asks : Job → ℕ → ℕ → ℕ → Option Expr → Type 0
Asks job k j a None = a ≡ 0
Asks job k j a (Some e) = (width_in job k j e).value ≡ a

-- the rules that a read keeps
pub record ReadRight (job : Job) (k j : ℕ) (r : ReadStmt) : Type 0 where
  pub new : find (scope_at job k j) r.name.name ≡ None
  pub inside : target_of job.decls r < length (targets_of job.decls)
  pub address : OptionRight job k j r.address
  pub asks : Asks job k j (target_at job (target_of job.decls r)).address r.address
  pub when : OptionRight job k j r.when
  pub one : HasWidths job k j 1 r.when
  pub guess : OptionRight job k j r.guess
  pub fits : HasWidths job k j (target_at job (target_of job.decls r)).width r.guess
  pub width : (read_of job.decls (scope_at job k j) r).value ≡ (target_at job (target_of job.decls r)).width
  pub plain : (e : Expr) → r.guess ≡ Some e → r.address ≡ None
  pub next : scope_at job k (suc j) ≡ declared_local (scope_at job k j) r.name.name (sense kinds.Read (read_of job.decls (scope_at job k j) r).value 0)
  pub free : (ask_option (facts_of job) Rule.E25 k r.address ≡ None) × (ask_option (facts_of job) Rule.E25 k r.when ≡ None)
  pub slots : (n : ℕ) × (slots_at job k (suc j) ≡ slots_at job k j ++ own_slots job k (stmts.Read r) n)

-- a condition of a read or of a set
pub when_right : (job : Job) (k j : ℕ) (o : Option Expr) → Unbroken (when_of job.decls (scope_at job k j) o) → OptionRight job k j o × HasWidths job k j 1 o
when_right job k j None u = (tt, tt)
when_right job k j (Some e) u =
    let s = scope_at job k j in
    let x = bind_unbroken (width_of job.decls (length job.decls) s e) (λ x. wants (x == 1) (found_at (part_of job.decls (length job.decls) s e).at (faults.Condition x)) passed) u in
    let y = (answer_unbroken ((width_in job k j e).value == 1) _ [] x.1).0 in
    (x.0, eqb-true _ _ y)

plain_guess : (g a : Option Expr) (b : Bool) → (not (is_some g) || (not (is_some a) && b)) ≡ true → (e : Expr) → g ≡ Some e → a ≡ None
plain_guess None a b h e f = cc
plain_guess (Some x) None b h e f = refl
plain_guess (Some x) (Some y) b h e f = cc

module _ (job : Job) (unbroken : Unbroken (widths_of job)) (k j : ℕ) (r : ReadStmt) (is : StmtRight job k j (stmts.Read r)) where
  abbrev s : Scoped
  s = scope_at job k j

  asks_of : (o : Option Expr) (kind : NameKind) (file : ℕ) → cond (is_some o) is_file is_register kind ≡ true → Unbroken (kept o (λ e. address_of (part_of job.decls (length job.decls) s e) (address_width kind) file))
      → OptionRight job k j o × Asks job k j (address_width kind) o
  asks_of None kind file t u = (tt, no_address kind t)
  asks_of (Some e) kind file t u =
      let x = bind_unbroken (width_of job.decls (length job.decls) s e) (λ x. wants (x == address_width kind) (found_at (part_of job.decls (length job.decls) s e).at (faults.Address x (address_width kind) file)) passed) u in
      let y = (answer_unbroken ((width_in job k j e).value == address_width kind) _ [] x.1).0 in
      (x.0, eqb-true _ _ y)

  fits_of : (o : Option Expr) (w : ℕ) (goes : Destination) → Unbroken (kept o (λ e. value_of (part_of job.decls (length job.decls) s e) w goes)) → OptionRight job k j o × HasWidths job k j w o
  fits_of None w goes u = (tt, tt)
  fits_of (Some e) w goes u = given_parts job.decls (length job.decls) s e w goes u

  pub read_right : ReadRight job k j r
  read_right =
      let a = answer_unbroken (not (is_some (find s r.name.name))) _ (read_of job.decls s r >>= (λ w. ok (declared_local s r.name.name (sense kinds.Read w 0)))).asked is.right in
      let x = (bind_unbroken (read_of job.decls s r) (λ w. ok (declared_local s r.name.name (sense kinds.Read w 0))) a.1).0 in
      let st = storage_of s r.target (is_some r.address) in
      let y = bind_unbroken st (λ z. kept r.address (λ e. address_of (part_of job.decls (length job.decls) s e) (address_width z.kind) z.from) >>= (λ v. when_of job.decls s r.when >>= (λ p. kept r.guess (λ e. value_of (part_of job.decls (length job.decls) s e) z.width (to.Named z.kind z.from)) >>= (λ q. ok z.width)))) x in
      let z = bind_unbroken (kept r.address (λ e. address_of (part_of job.decls (length job.decls) s e) (address_width st.value.kind) st.value.from)) (λ v. when_of job.decls s r.when >>= (λ p. kept r.guess (λ e. value_of (part_of job.decls (length job.decls) s e) st.value.width (to.Named st.value.kind st.value.from)) >>= (λ q. ok st.value.width))) y.1 in
      let w = bind_unbroken (when_of job.decls s r.when) (λ p. kept r.guess (λ e. value_of (part_of job.decls (length job.decls) s e) st.value.width (to.Named st.value.kind st.value.from)) >>= (λ q. ok st.value.width)) z.1 in
      let g = (bind_unbroken (kept r.guess (λ e. value_of (part_of job.decls (length job.decls) s e) st.value.width (to.Named st.value.kind st.value.from))) (λ q. ok st.value.width) w.1).0 in
      let f = found_sense s.here _ (cond (is_some r.address) Position.File Position.Register) r.target.at (find s r.target.name) y.0 in
      let m : Sense = f.0 in
      let stored = storage_takes (is_some r.address) s.here m.kind f.2 in
      let e : m ≡ st.value = f.3 in
      let kind = storage_kind (is_some r.address) m.kind stored in
      let slot : IsSlot (targets_of job.decls) r.target.name m.width (address_width m.kind) = found_where s r.target.name m f.1
      (λ l. local_no (λ y. is_register y || is_file y) refl refl m.kind (scope_locals job k j r.target.name m l) kind)
      (λ none v. (text_sense job unbroken k j r.target.name m v).target kind) in
      let wide : (target_at job (target_of job.decls r)).width ≡ st.value.width = width_there r.target.name (targets_of job.decls) slot.inside ∙ slot.width ∙ ap (λ (v : Sense). v.width) e in
      let far : (target_at job (target_of job.decls r)).address ≡ address_width st.value.kind = address_there r.target.name (targets_of job.decls) slot.inside ∙ slot.address ∙ ap (λ (v : Sense). address_width v.kind) e in
      let asks1 = asks_of r.address st.value.kind st.value.from (subst (λ (v : Sense). cond (is_some r.address) is_file is_register v.kind ≡ true) e stored) z.0 in
      let on_ = when_right job k j r.when w.0 in
      let fs = fits_of r.guess st.value.width _ g in
      record {
        new = fresh_none (find s r.name.name) a.0;
        inside = slot.inside;
        address = asks1.0;
        asks = subst (λ n. Asks job k j n r.address) (sym far) asks1.1;
        when = on_.0;
        one = on_.1;
        guess = fs.0;
        fits = subst (λ n. HasWidths job k j n r.guess) (sym wide) fs.1;
        width = sym wide;
        plain = plain_guess r.guess r.address _ is.guess;
        next = is.next;
        free = none_of_two (ask_option (facts_of job) Rule.E25 k r.address) (ask_option (facts_of job) Rule.E25 k r.when) is.free;
        slots = is.slots;
      }

-- WIRES of what is left out or not
pub ask_of : (job : Job) (k j : ℕ) (p : Held) (a : ℕ) (o : Option Expr) (n : Option NodeId) → Asks job k j a o → OptionWire job k j p o n → AskOk p a n
ask_of job k j p a None None h w = h
ask_of job k j p a (Some e) (Some n) h w = subst (Wire p n) h w
ask_of job k j p a _ _ h w = absurd w

pub bit_of : (job : Job) (k j : ℕ) (p : Held) (o : Option Expr) (n : Option NodeId) → HasWidths job k j 1 o → OptionWire job k j p o n → BitOk p n
bit_of job k j p None None h w = tt
bit_of job k j p (Some e) (Some n) h w = subst (Wire p n) h w
bit_of job k j p _ _ h w = absurd w

pub guess_of : (job : Job) (k j : ℕ) (p : Held) (a : ℕ) (o : Option Expr) (n : Option NodeId) → HasWidths job k j a o → OptionWire job k j p o n → GuessOk p a o n
guess_of job k j p a None None h w = tt
guess_of job k j p a (Some e) (Some n) h w = subst (Wire p n) h w
guess_of job k j p a _ _ h w = absurd w

pub guess_fits : (p : Held) (a : ℕ) (o : Option Expr) (n : Option NodeId) → GuessOk p a o n → PutFits p a n
guess_fits p a None None h = tt
guess_fits p a (Some e) (Some n) h = h
guess_fits p a _ _ h = absurd h

pub guess_kept : (p q : Held) (m a : ℕ) (o : Option Expr) (n : Option NodeId) → Kept p q m → GuessOk p a o n → GuessOk q a o n
guess_kept p q m a None None g h = tt
guess_kept p q m a (Some e) (Some n) g h = wire_kept p q m n a g h
guess_kept p q m a _ _ g h = absurd h

on_is : (c : Cells) (q : Held) (n : NodeId) → on c q.nodes n.0 ≡ (at_value c q n == 1)
unfolding on at
on_is c q n = refl

-- MEANINGS
module _ (job : Job) (unbroken : Unbroken (widths_of job)) (k j : ℕ) (p : Held) (env : Scope) (right : AllRight p.nodes) (bound : Bound job (scope_at job k j) p env) (c : Cells) (hints : ℕ → ℕ) (done : Progress) (names : work.Names job (scope_at job k j) hints c p env done.names) where
  pub when_means : (o : Option Expr) → ask_option (facts_of job) Rule.E25 k o ≡ None → OptionRight job k j o → (q : Held) (n : Option NodeId) → OptionGives p env o q n → enable_on c q n ≡ trees.holds job.decls done o
  when_means None free u q None g = refl
  when_means (Some e) free u q (Some n) g =
      let f = plain_found job unbroken k j p env right bound c hints done.names names e free u in
      on_is c q n ∙ ap (λ (w : Word). w.value == 1) (gives_is c p env e q n (trees.word_of job.decls done e) g f.there)
  when_means _ free u q _ g = absurd g

  pub address_means : (o : Option Expr) → ask_option (facts_of job) Rule.E25 k o ≡ None → OptionRight job k j o → (q : Held) (n : Option NodeId) → OptionGives p env o q n → asked c q n ≡ trees.address_of job.decls done o
  address_means None free u q None g = refl
  address_means (Some e) free u q (Some n) g =
      let f = plain_found job unbroken k j p env right bound c hints done.names names e free u in
      at_is c q n ∙ ap (λ (w : Word). w.value) (gives_is c p env e q n (trees.word_of job.decls done e) g f.there)
  address_means _ free u q _ g = absurd g

  pub miss_means : (o : Option Expr) → OptionRight job k j o → (q : Held) (n : Option NodeId) → OptionGives p env o q n → value_or_zero c q n ≡ miss_of job.decls hints done o
  miss_means None u q None g = refl
  miss_means (Some e) u q (Some n) g =
      let f = hinted_found job unbroken k j p env right bound c hints done.names names e u in
      at_is c q n ∙ ap (λ (w : Word). w.value) (gives_is c p env e q n _ g f.there)
  miss_means _ u q _ g = absurd g

-- an address is one of the target's
asked_fits : (c : Cells) (p : Held) (a : ℕ) (n : Option NodeId) → AskOk p a n → asked c p n < 2 ^ a
asked_fits c p a None h = let z : 0 < 2 ^ 0 = omega arith in subst (λ n. 0 < 2 ^ n) (sym h) z
asked_fits c p a (Some n) h = subst (λ w. at c p.nodes n.0 < 2 ^ w) h.wide (at_fits c p.nodes n.0 h.inside)

read_address : (job : Job) (done : Progress) (r : ReadStmt) (guess : Option Expr) → ((e : Expr) → guess ≡ Some e → r.address ≡ None) → trees.address_of job.decls done r.address ≡ address_read job.decls done r guess
read_address job done r None plain = refl
read_address job done r (Some e) plain = ap (trees.address_of job.decls done) (plain e refl)

-- what the nodes of a read's address, condition and guess mean
pub record AskMeans (ds : List Decl) (hints : ℕ → ℕ) (done : Progress) (r : ReadStmt) (c : Cells) (q : Held) (an wn gn : Option NodeId) : Type 0 where
  pub address : asked c q an ≡ address_read ds done r r.guess
  pub when : enable_on c q wn ≡ trees.holds ds done r.when
  pub guess : value_or_zero c q gn ≡ miss_of ds hints done r.guess

pub record AskNodes (job : Job) (k j : ℕ) (r : ReadStmt) (p q : Held) (env : Scope) (an wn gn : Option NodeId) : Type 0 where
  pub address : AskOk q (target_at job (target_of job.decls r)).address an
  pub when : BitOk q wn
  pub guess : GuessOk q (target_at job (target_of job.decls r)).width r.guess gn
  pub means : (c : Cells) (hints : ℕ → ℕ) (done : Progress) → work.Names job (scope_at job k j) hints c p env done.names → AskMeans job.decls hints done r c q an wn gn
  pub up : (n : ℕ) × Kept p q n

module _ (job : Job) (unbroken : Unbroken (widths_of job)) (k j : ℕ) (r : ReadStmt) (is : ReadRight job k j r) (p p1 p2 q : Held) (n1 n2 n3 : ℕ) (g1 : Kept p p1 n1) (g2 : Kept p1 p2 n2) (g3 : Kept p2 q n3)
    (env : Scope) (bound : Bound job (scope_at job k j) p env) (a0 : AllRight p.nodes) (a1 : AllRight p1.nodes) (a2 : AllRight p2.nodes) (an wn gn : Option NodeId)
    (w1 : OptionWire job k j p1 r.address an) (w2 : OptionWire job k j p2 r.when wn) (w3 : OptionWire job k j q r.guess gn)
    (v1 : OptionGives p env r.address p1 an) (v2 : OptionGives p1 env r.when p2 wn) (v3 : OptionGives p2 env r.guess q gn) where
  pub ask_nodes : AskNodes job k j r p q env an wn gn
  ask_nodes =
      let t = target_of job.decls r in
      let later = kept_then p1 p2 q n2 n3 g2 g3 in
      let ask = ask_of job k j p1 (target_at job t).address r.address an is.asks w1 in
      let bit = bit_of job k j p2 r.when wn is.one w2 in
      record {
        address = ask_kept p1 q (n2 + n3) (target_at job t).address an later ask;
        when = bit_kept p2 q n3 wn g3 bit;
        guess = guess_of job k j q (target_at job t).width r.guess gn is.fits w3;
        up = (n1 + (n2 + n3), kept_then p p1 q n1 (n2 + n3) g1 later);
        means = λ c hints done names.
            let b1 = bound_kept job (scope_at job k j) p p1 n1 env g1 bound in
            let m1 = names_kept job (scope_at job k j) hints c p p1 n1 env done.names g1 bound.inside names in
            record {
              address = asked_kept p1 q (n2 + n3) an later (ask_inside p1 (target_at job t).address an ask) c
                  ∙ address_means job unbroken k j p env a0 bound c hints done names r.address is.free.0 is.address p1 an v1
                  ∙ read_address job done r r.guess is.plain;
              when = enable_kept c p2 q n3 wn g3 bit ∙ when_means job unbroken k j p1 env a1 b1 c hints done m1 r.when is.free.1 is.when p2 wn v2;
              guess = miss_means job unbroken k j p2 env a2 (bound_kept job (scope_at job k j) p1 p2 n2 env g2 b1) c hints done
                  (names_kept job (scope_at job k j) hints c p1 p2 n2 env done.names g2 b1.inside m1) r.guess is.guess q gn v3;
            };
      }

module _ (job : Job) (k j : ℕ) (r : ReadStmt) (inside : target_of job.decls r < length (targets_of job.decls)) (p q z : Held) (n : ℕ) (g : Kept q z n) (env : Scope) (an wn gn : Option NodeId) (nodes : AskNodes job k j r p q env an wn gn)
    (ss : List Source) (sok : SourcesOk job p ss) (source : Source) (there : slice_get ss (target_of job.decls r) ≡ Some source) where
  abbrev t : ℕ
  t = target_of job.decls r

  pub source_there : SourceOk job q t source
  source_there = source_kept job p q nodes.up.0 t source nodes.up.1 (sok.each t source there)

  pub put_there : PutFits q source.width gn
  put_there = subst (λ w. PutFits q w gn) (sym source_there.width) (guess_fits q (target_at job t).width r.guess gn nodes.guess)

  pub read_gives : (a : Answer) → a.guess ≡ gn
      → ((c : Cells) → at c z.nodes a.value.0 ≡ given (enable_on c q wn) (source_view c q source (asked c q an)) (value_or_zero c q gn))
      → ((c : Cells) → on c z.nodes a.lacks.0 ≡ lacks (enable_on c q wn) (source_view c q source (asked c q an)))
      → ReadGives job k j r p env ss z a
  unfolding ReadGives Sees
  read_gives a same value lacking = λ c v hints done sees names.
      let m = nodes.means c hints done names in
      let x = asked c q an in
      let see : view_of c q (slice_get ss t) x ≡ v t x = sees_kept job c p q nodes.up.0 ss v nodes.up.1 sok sees t x inside (asked_fits c q (target_at job t).address an nodes.address) in
      let truth : source_view c q source x ≡ truth_of job.decls v done r r.guess = sym (ap (λ (o : Option Source). view_of c q o x) there) ∙ see ∙ ap (v t) m.address in
      let when = m.when in
      let miss = m.guess in
      record {
        value = value c ∙ (λ i. given (when i) (truth i) (miss i));
        lacks = lacking c ∙ (λ i. lacks (when i) (truth i));
        guess = ap (value_or_zero c z) same ∙ orzero_kept c q z n (target_at job t).width gn g (guess_fits q (target_at job t).width r.guess gn nodes.guess) ∙ miss;
      }

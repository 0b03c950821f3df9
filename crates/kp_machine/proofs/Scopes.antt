-- What the names of the text of a job name: which target, pipe or result, and of which width.
use Rattle.std.proofs.Common.{◌≡◌, ◌∙◌, ℕ, zero, suc, ◌+◌, ◌<◌, List, [], ◌∷◌, ◌++◌, Option, Some, None, Bool, true, false, cond, not, ◌||◌, nat_eq, length, refl, ap, sym, subst, arith}
use Rattle.std.proofs.lemmas.Bool.{eqb-true, or_left, or_right}
use Rattle.std.specs.{Prelude.is_some, Prelude.slice_get, Prelude.◌==◌, Cmp.Lexicographic.pointwise, Cmp.Lexicographic.bytes_decides}
use Rattle.kp_base.specs.{declared.place.Place.Place, First.first, Check.ok, Check.◌>>=◌, Check.wants}
use Rattle.kp_ast.specs.{Expressions.is_same_name, declared.tree.Named.Named, declared.tree.ResultDecl.ResultDecl, declared.tree.Decl.Decl}
use Rattle.kp_ast.specs.declared.widths.{NameKind.NameKind, Scope.Scope}
use Rattle.kp_ast.specs.declared.tree.Decl.TheVariants as decls
use Rattle.kp_ast.specs.declared.widths.NameKind.TheVariants as kinds
use Rattle.kp_width.specs.Names.{Sense, sense, Names, Scoped, look_up, find, takes, used, used_as, passed, or_else, is_register, is_file, is_pipe, is_result, is_hint, declared_text}
use Rattle.kp_width.specs.{Faults.found_at, declared.fault.Position.Position, declared.fault.WidthFault.WidthFault}
use Rattle.kp_width.specs.declared.fault.WidthFault.TheVariants as faults
use Rattle.kp_width.specs.Declarations.{kept, declared, storage_of, address_fault, enable_fault, pipe_of, target_of, result_of, address_width, name_of, after_name, declaration_of, declarations_of, functions_in}
use Rattle.kp_width.proofs.{Unbroken.Unbroken, Unbroken.bind_unbroken, Unbroken.answer_unbroken, Found.used_parts, Found.storage_takes, Calls.pushed, Calls.parameters_text}
use Rattle.kp_machine.specs.Slots.{Slot, slot, targets_of, pipes_of, samples_of, number_of, width_of, result_named}
use Rattle.kp_machine.proofs.{Cases.by_test, Cases.by_option, Names.IsIn}
use Rattle.kp_machine.specs.Slots as slots
use Rattle.kp_stage.specs.Facts.{hints_of}

-- the width of the addresses of a name
abbrev pub addresses : List Slot → List ℕ → ℕ
addresses [] q = 0
addresses (s ∷ ss) q = cond (is_same_name q s.name) s.address (addresses ss q)

-- the name of a sample
abbrev pub is_sample : NameKind → Bool
is_sample kinds.Sample = true
is_sample _ = false

-- a slot of this name is the first of it, and has this width and these addresses
pub record IsSlot (slots : List Slot) (q : List ℕ) (w a : ℕ) : Type 0 where
  pub inside : IsIn slots q
  pub width : width_of slots q ≡ w
  pub address : addresses slots q ≡ a

-- of these declarations, a name has the slot that its sense says
pub record Placed (ds : List Decl) (q : List ℕ) (m : Sense) : Type 0 where
  pub pipe : is_pipe m.kind ≡ true → IsSlot (pipes_of ds) q m.width 0
  pub target : (is_register m.kind || is_file m.kind) ≡ true → IsSlot (targets_of ds) q m.width (address_width m.kind)
  pub hint : is_hint m.kind ≡ true → (i : ℕ) → is_some (first (hints_of q i ds)) ≡ true
  pub hinted : is_hint m.kind ≡ true → IsSlot (slots.hints_of ds) q m.width 0
  pub sample : is_sample m.kind ≡ true → IsSlot (samples_of ds) q m.width 0
  pub result : is_result m.kind ≡ true → (r : ResultDecl) × (result_named ds q ≡ Some r) × (r.width.value ≡ m.width)

slot_here : (s : Slot) (ss : List Slot) (q : List ℕ) → is_same_name q s.name ≡ true → IsSlot (s ∷ ss) q s.width s.address
slot_here s ss q y = record {
  inside = let e : number_of (s ∷ ss) q ≡ 0 = ap (λ b. cond b 0 (suc (number_of ss q))) y in omega arith;
  width = ap (λ b. cond b s.width (width_of ss q)) y;
  address = ap (λ b. cond b s.address (addresses ss q)) y;
}

slot_later : (s : Slot) (ss : List Slot) (q : List ℕ) (w a : ℕ) → is_same_name q s.name ≡ false → IsSlot ss q w a → IsSlot (s ∷ ss) q w a
slot_later s ss q w a n h = record {
  inside = let e : number_of (s ∷ ss) q ≡ suc (number_of ss q) = ap (λ b. cond b 0 (suc (number_of ss q))) n in let i : number_of ss q < length ss = h.inside in omega arith;
  width = ap (λ b. cond b s.width (width_of ss q)) n ∙ h.width;
  address = ap (λ b. cond b s.address (addresses ss q)) n ∙ h.address;
}

-- the slot of a name
pub slot_of : (ss : List Slot) (q : List ℕ) → IsIn ss q → (s : Slot) × (slice_get ss (number_of ss q) ≡ Some s) × (s.width ≡ width_of ss q) × (s.address ≡ addresses ss q)
slot_of [] q h = absurd (omega arith)
slot_of (s ∷ ss) q h = by_test (is_same_name q s.name)
    (λ y. (
      s,
      ap (λ b. slice_get (s ∷ ss) (cond b 0 (suc (number_of ss q)))) y,
      sym (ap (λ b. cond b s.width (width_of ss q)) y),
      sym (ap (λ b. cond b s.address (addresses ss q)) y),
    ))
    (λ n.
    let l : suc (number_of ss q) < suc (length ss) = subst (λ b. cond b 0 (suc (number_of ss q)) < suc (length ss)) n h in
    let r = slot_of ss q (omega arith) in (
      r.0,
      ap (λ b. slice_get (s ∷ ss) (cond b 0 (suc (number_of ss q)))) n ∙ r.1,
      r.2 ∙ sym (ap (λ b. cond b s.width (width_of ss q)) n),
      r.3 ∙ sym (ap (λ b. cond b s.address (addresses ss q)) n),
    ))

-- so the entry of its number is as wide as the name
pub number_slot : (ss : List Slot) (q : List ℕ) (x : Slot) → IsIn ss q → slice_get ss (number_of ss q) ≡ Some x → x.width ≡ width_of ss q
number_slot ss q x h e =
    let s = slot_of ss q h in
    let f : Some s.0 ≡ Some x = sym s.1 ∙ e in
    let g : s.0 ≡ x = cc in
    ap (λ (z : Slot). z.width) (sym g) ∙ s.2

-- the meaning that a declaration gives to its name
abbrev pub sense_of : ℕ → Decl → Sense
sense_of i (decls.Reg n width start) = sense kinds.Reg width.value i
sense_of i (decls.File n width address) = sense (kinds.File address.value) width.value i
sense_of i (decls.Pipe n width) = sense kinds.Pipe width.value i
sense_of i (decls.Sample n width stage) = sense kinds.Sample width.value i
sense_of i (decls.Hint n width start) = sense kinds.Hint width.value i
sense_of i (decls.Target r) = sense kinds.Target r.width.value i
sense_of i (decls.Func f) = sense kinds.Func f.width.value i

-- the text after a declaration
pub text_after : (ds : List Decl) (i k : ℕ) (s : Scoped) (d : Decl) → (declaration_of ds i k s d).value.text ≡ s.text ++ ((name_of d).name, sense_of i d) ∷ []
text_after ds i k s (decls.Func f) = ap (λ t. t ++ (f.name.name, sense kinds.Func f.width.value i) ∷ []) (parameters_text i _ f.params)
text_after ds i k s _ = refl

look_on : (names : Names) (n q : List ℕ) (m x : Sense) → look_up names q ≡ Some x → look_up (names ++ (n, m) ∷ []) q ≡ Some x
look_on [] n q m x e = cc
look_on ((k, v) ∷ names) n q m x e = by_test (pointwise nat_eq q k)
    (λ y. ap (λ b. cond b (Some v) (look_up (names ++ (n, m) ∷ []) q)) y ∙ sym (ap (λ b. cond b (Some v) (look_up names q)) y) ∙ e)
    (λ y. ap (λ b. cond b (Some v) (look_up (names ++ (n, m) ∷ []) q)) y ∙ look_on names n q m x (sym (ap (λ b. cond b (Some v) (look_up names q)) y) ∙ e))

pub look_last : (names : Names) (n : List ℕ) (m : Sense) → look_up names n ≡ None → look_up (names ++ (n, m) ∷ []) n ≡ Some m
look_last [] n m e = ap (λ b. cond b (Some m) None) ((bytes_decides n n).1 refl)
look_last ((k, v) ∷ names) n m e = by_test (pointwise nat_eq n k)
    (λ y. let f : Some v ≡ None = sym (ap (λ b. cond b (Some v) (look_up names n)) y) ∙ e in cc)
    (λ y. ap (λ b. cond b (Some v) (look_up (names ++ (n, m) ∷ []) n)) y ∙ look_last names n m (sym (ap (λ b. cond b (Some v) (look_up names n)) y) ∙ e))

local_after : (ds : List Decl) (i k : ℕ) (s : Scoped) (d : Decl) → (declaration_of ds i k s d).value.local ≡ []
local_after ds i k s (decls.Func f) = refl
local_after ds i k s _ = refl

-- a name of the text stays
pub stays : (ds : List Decl) (i k : ℕ) (s : Scoped) (rest : List Decl) (q : List ℕ) (x : Sense) → look_up s.text q ≡ Some x → look_up (declarations_of ds i k s rest).value.text q ≡ Some x
stays ds i k s [] q x e = e
stays ds i k s (d ∷ rest) q x e =
    stays ds (i + 1) (k + functions_in d) (declaration_of ds i k s d).value rest q x
    (ap (λ t. look_up t q) (text_after ds i k s d) ∙ look_on s.text (name_of d).name q (sense_of i d) x e)

-- the positions in one declaration, and those in the later ones
placed_here : (i : ℕ) (d : Decl) (rest : List Decl) (q : List ℕ) → is_same_name q (name_of d).name ≡ true → Placed (d ∷ rest) q (sense_of i d)
placed_here i (decls.Reg n width start) rest q y = record { pipe = λ e. cc; target = λ e. slot_here (slot n width 0) (targets_of rest) q y; hint = λ e j. cc; hinted = λ e. cc; result = λ e. cc; sample = λ e. cc }
placed_here i (decls.File n width address) rest q y = record { pipe = λ e. cc; target = λ e. slot_here (slot n width address.value) (targets_of rest) q y; hint = λ e j. cc; hinted = λ e. cc; result = λ e. cc; sample = λ e. cc }
placed_here i (decls.Pipe n width) rest q y = record { pipe = λ e. slot_here (slot n width 0) (pipes_of rest) q y; target = λ e. cc; hint = λ e j. cc; hinted = λ e. cc; result = λ e. cc; sample = λ e. cc }
placed_here i (decls.Sample n width stage) rest q y = record { pipe = λ e. cc; target = λ e. cc; hint = λ e j. cc; hinted = λ e. cc; result = λ e. cc; sample = λ e. slot_here (slot n width 0) (samples_of rest) q y }
placed_here i (decls.Hint n width start) rest q y = record { pipe = λ e. cc; target = λ e. cc; hint = λ e j. ap (λ b. is_some (first (cond b (Some j) None ∷ hints_of q (j + 1) rest))) y; hinted = λ e. slot_here (slot n width 0) (slots.hints_of rest) q y; result = λ e. cc; sample = λ e. cc }
placed_here i (decls.Target r) rest q y = record { pipe = λ e. cc; target = λ e. cc; hint = λ e j. cc; hinted = λ e. cc; result = λ e. (r, ap (λ b. cond b (Some r) (result_named rest q)) y, refl); sample = λ e. cc }
placed_here i (decls.Func f) rest q y = record { pipe = λ e. cc; target = λ e. cc; hint = λ e j. cc; hinted = λ e. cc; result = λ e. cc; sample = λ e. cc }

placed_later : (d : Decl) (rest : List Decl) (q : List ℕ) (m : Sense) → is_same_name q (name_of d).name ≡ false → Placed rest q m → Placed (d ∷ rest) q m
placed_later (decls.Reg n width start) rest q m y h = record { pipe = h.pipe; target = λ e. slot_later (slot n width 0) (targets_of rest) q m.width (address_width m.kind) y (h.target e); hint = λ e j. h.hint e (j + 1); hinted = h.hinted; result = h.result; sample = h.sample }
placed_later (decls.File n width address) rest q m y h = record { pipe = h.pipe; target = λ e. slot_later (slot n width address.value) (targets_of rest) q m.width (address_width m.kind) y (h.target e); hint = λ e j. h.hint e (j + 1); hinted = h.hinted; result = h.result; sample = h.sample }
placed_later (decls.Pipe n width) rest q m y h = record { pipe = λ e. slot_later (slot n width 0) (pipes_of rest) q m.width 0 y (h.pipe e); target = h.target; hint = λ e j. h.hint e (j + 1); hinted = h.hinted; result = h.result; sample = h.sample }
placed_later (decls.Sample n width stage) rest q m y h = record { pipe = h.pipe; target = h.target; hint = λ e j. h.hint e (j + 1); hinted = h.hinted; result = h.result; sample = λ e. slot_later (slot n width 0) (samples_of rest) q m.width 0 y (h.sample e) }
placed_later (decls.Hint n width start) rest q m y h = record { pipe = h.pipe; target = h.target; hint = λ e j. ap (λ b. is_some (first (cond b (Some j) None ∷ hints_of q (j + 1) rest))) y ∙ h.hint e (j + 1); hinted = λ e. slot_later (slot n width 0) (slots.hints_of rest) q m.width 0 y (h.hinted e); result = h.result; sample = h.sample }
placed_later (decls.Target r) rest q m y h = record { pipe = h.pipe; target = h.target; hint = λ e j. h.hint e (j + 1); hinted = h.hinted; result = λ e. let x = h.result e in (x.0, ap (λ b. cond b (Some r) (result_named rest q)) y ∙ x.1, x.2); sample = h.sample }
placed_later (decls.Func f) rest q m y h = record { pipe = h.pipe; target = h.target; hint = λ e j. h.hint e (j + 1); hinted = h.hinted; result = h.result; sample = h.sample }

pub fresh_none : (o : Option Sense) → not (is_some o) ≡ true → o ≡ None
fresh_none None e = refl
fresh_none (Some m) e = cc

-- a name that is in no scope
pub find_none : (s : Scoped) (n : List ℕ) → find s n ≡ None → (look_up s.local n ≡ None) × (look_up s.text n ≡ None)
find_none s n e = parts (look_up s.local n) (look_up s.text n) e
  where
    parts : (a b : Option Sense) → or_else a b ≡ None → (a ≡ None) × (b ≡ None)
    parts None b e = (refl, e)
    parts (Some m) b e = cc

-- the name of a declaration isn't among those of the text before it, and after it has the declared meaning
pub new_name : (ds : List Decl) (i k : ℕ) (s : Scoped) (d : Decl) → Unbroken (declaration_of ds i k s d) → look_up s.text (name_of d).name ≡ None
new_name ds i k s d u =
    (find_none s (name_of d).name (fresh_none (find s (name_of d).name)
    (answer_unbroken (not (is_some (find s (name_of d).name))) _ (after_name ds i k s d).asked u).0)).1

pub text_has : (ds : List Decl) (i k : ℕ) (s : Scoped) (d : Decl) → Unbroken (declaration_of ds i k s d)
    → look_up (declaration_of ds i k s d).value.text (name_of d).name ≡ Some (sense_of i d)
text_has ds i k s d u =
    ap (λ t. look_up t (name_of d).name) (text_after ds i k s d) ∙ look_last s.text (name_of d).name (sense_of i d) (new_name ds i k s d u)

-- a name that is new in the declarations from one on is placed by them
pub all_placed : (ds : List Decl) (i k : ℕ) (s : Scoped) (rest : List Decl) → Unbroken (declarations_of ds i k s rest)
    → (q : List ℕ) (m : Sense) → look_up s.text q ≡ None → look_up (declarations_of ds i k s rest).value.text q ≡ Some m → Placed rest q m
all_placed ds i k s [] u q m none e = cc
all_placed ds i k s (d ∷ rest) u q m none e =
    let x = bind_unbroken (declaration_of ds i k s d) (λ t. declarations_of ds (i + 1) (k + functions_in d) t rest) u in
    let next : Scoped = (declaration_of ds i k s d).value in
    by_test (is_same_name q (name_of d).name)
    (λ y.
    let is : q ≡ (name_of d).name = (bytes_decides q (name_of d).name).0 y in
    let has : look_up next.text q ≡ Some (sense_of i d) = ap (look_up next.text) is ∙ text_has ds i k s d x.0 in
    let f : Some (sense_of i d) ≡ Some m = sym (stays ds (i + 1) (k + functions_in d) next rest q (sense_of i d) has) ∙ e in
    let g : sense_of i d ≡ m = cc in
    subst (λ z. Placed (d ∷ rest) q z) g (placed_here i d rest q y))
    (λ y. placed_later d rest q m y
    (by_option (look_up next.text q)
    (λ n. all_placed ds (i + 1) (k + functions_in d) next rest x.1 q m n e)
    (λ z some. pushed s.text (name_of d).name q (sense_of i d) z (λ b. let f : None ≡ Some z = sym none ∙ b in cc)
    (λ w same is. let f : is_same_name q (name_of d).name ≡ true = (bytes_decides q (name_of d).name).1 same in let g : true ≡ false = sym f ∙ y in cc)
    (sym (ap (λ t. look_up t q) (text_after ds i k s d)) ∙ some))))

pub storage_kind : (addressed : Bool) (kind : NameKind) → cond addressed is_file is_register kind ≡ true → (is_register kind || is_file kind) ≡ true
storage_kind true kind e = or_right (is_register kind) (is_file kind) e
storage_kind false kind e = or_left (is_register kind) (is_file kind) e

-- a pipe that is named is one of this width
abbrev pub PipeFits : Names → ℕ → Option Named → Type 0
PipeFits text w None = Unit {0}
PipeFits text w (Some n) = (m : Sense) × (look_up text n.name ≡ Some m) × (is_pipe m.kind ≡ true) × (m.width ≡ w)

-- a result is as wide as its target, and its pipes have their widths
pub record ResultFits (text : Names) (r : ResultDecl) : Type 0 where
  pub sense : Sense
  pub found : look_up text r.target.name ≡ Some sense
  pub stored : cond (is_some r.address) is_file is_register sense.kind ≡ true
  pub width : sense.width ≡ r.width.value
  pub address : PipeFits text (address_width sense.kind) r.address
  pub enable : PipeFits text 1 r.enable

pub found_sense : (here : Scope) (bound : Option ℕ) (position : Position) (at : Place) (o : Option Sense) → Unbroken (used_as here bound position at o)
    → (m : Sense) × (o ≡ Some m) × (takes position here m.kind ≡ true) × (m ≡ (used_as here bound position at o).value)
found_sense here bound position at o u = let p = used_parts here bound position at o u in ((used_as here bound position at o).value, p.0, p.1, refl)

module _ (s : Scoped) (local : s.local ≡ []) where
  in_text : (position : Position) (q : List ℕ) (at : Place) → Unbroken (used s position q at)
      → (m : Sense) × (look_up s.text q ≡ Some m) × (takes position s.here m.kind ≡ true) × (m ≡ (used s position q at).value)
  in_text position q at u =
      let f = found_sense s.here _ position at (find s q) u in
      (f.0, sym (ap (λ (l : Names). or_else (look_up l q) (look_up s.text q)) local) ∙ f.1, f.2, f.3)

  pipe_fits : (w : ℕ) (fault : Sense → WidthFault) (o : Option Named) → Unbroken (kept o (pipe_of s w fault)) → PipeFits s.text w o
  pipe_fits w fault None u = tt
  pipe_fits w fault (Some n) u =
      let x = bind_unbroken (used s Position.Pipe n.name n.at) (λ m. wants (m.width == w) (found_at n.at (fault m)) passed) u in
      let f = in_text Position.Pipe n.name n.at x.0 in
      let t = (answer_unbroken ((used s Position.Pipe n.name n.at).value.width == w) _ [] x.1).0 in
      (f.0, f.1, f.2, ap (λ (m : Sense). m.width) f.3 ∙ eqb-true _ _ t)

  result_fits : (r : ResultDecl) → Unbroken (result_of s r) → ResultFits s.text r
  result_fits r u =
      let w = r.width.value in
      let more = (bind_unbroken (declared r.width) (λ x. target_of s r x >>= (λ y. ok x)) u).1 in
      let parts = bind_unbroken (storage_of s r.target (is_some r.address)) (λ t. wants (t.width == w) (found_at r.target.at (faults.Target w t.width t.kind t.from)) (kept r.address (pipe_of s (address_width t.kind) (address_fault t)) >>= (λ a. kept r.enable (pipe_of s 1 enable_fault)))) (bind_unbroken (target_of s r w) (λ y. ok w) more).0 in
      let t = (storage_of s r.target (is_some r.address)).value in
      let a = answer_unbroken (t.width == w) _ (kept r.address (pipe_of s (address_width t.kind) (address_fault t)) >>= (λ a. kept r.enable (pipe_of s 1 enable_fault))).asked parts.1 in
      let both = bind_unbroken (kept r.address (pipe_of s (address_width t.kind) (address_fault t))) (λ a. kept r.enable (pipe_of s 1 enable_fault)) a.1 in
      let f = in_text (cond (is_some r.address) Position.File Position.Register) r.target.name r.target.at parts.0 in
      record {
        sense = f.0;
        found = f.1;
        stored = storage_takes (is_some r.address) s.here f.0.kind f.2;
        width = ap (λ (m : Sense). m.width) f.3 ∙ eqb-true _ _ a.0;
        address = pipe_fits (address_width f.0.kind) (address_fault f.0) r.address (subst (λ (m : Sense). Unbroken (kept r.address (pipe_of s (address_width m.kind) (address_fault m)))) (sym f.3) both.0);
        enable = pipe_fits 1 enable_fault r.enable both.1;
      }

-- names that stay in the text keep their results fitting
pipe_stays : (text more : Names) → ((q : List ℕ) (x : Sense) → look_up text q ≡ Some x → look_up more q ≡ Some x) → (w : ℕ) (o : Option Named) → PipeFits text w o → PipeFits more w o
pipe_stays text more on w None h = tt
pipe_stays text more on w (Some n) h = (h.0, on n.name h.0 h.1, h.2, h.3)

result_stays : (text more : Names) → ((q : List ℕ) (x : Sense) → look_up text q ≡ Some x → look_up more q ≡ Some x) → (r : ResultDecl) → ResultFits text r → ResultFits more r
result_stays text more on r h = record {
  sense = h.sense;
  found = on r.target.name h.sense h.found;
  stored = h.stored;
  width = h.width;
  address = pipe_stays text more on (address_width h.sense.kind) r.address h.address;
  enable = pipe_stays text more on 1 r.enable h.enable;
}

-- each result among the declarations from one on fits
pub results_fit : (ds : List Decl) (i k : ℕ) (s : Scoped) (rest : List Decl) → s.local ≡ [] → Unbroken (declarations_of ds i k s rest)
    → (j : ℕ) (r : ResultDecl) → slice_get rest j ≡ Some (decls.Target r) → ResultFits (declarations_of ds i k s rest).value.text r
results_fit ds i k s [] local u j r at = cc
results_fit ds i k s (d ∷ rest) local u zero r at =
    let here : d ≡ decls.Target r = cc in
    let now = (bind_unbroken (declaration_of ds i k s d) (λ x. declarations_of ds (i + 1) (k + functions_in d) x rest) u).0 in
    let result : Unbroken (declaration_of ds i k s (decls.Target r)) = subst (λ x. Unbroken (declaration_of ds i k s x)) here now in
    let fits = (answer_unbroken (not (is_some (find s r.name.name))) _ (after_name ds i k s (decls.Target r)).asked result).1 in
    result_stays s.text _ (λ q x e. stays ds i k s (d ∷ rest) q x e) r
    (result_fits s local r (bind_unbroken (result_of s r) (λ w. ok (declared_text s r.name.name (sense kinds.Target w i))) fits).0)
results_fit ds i k s (d ∷ rest) local u (suc j) r at =
    results_fit ds (i + 1) (k + functions_in d) (declaration_of ds i k s d).value rest (local_after ds i k s d)
    (bind_unbroken (declaration_of ds i k s d) (λ x. declarations_of ds (i + 1) (k + functions_in d) x rest) u).1 j r at

-- The pipes of a job have names of their own and widths from 1 to 64, and a name that a pipe has names a pipe in the text. So it is
-- with the samples.
use Rattle.std.proofs.Common.{◌≡◌, ◌∙◌, ℕ, ◌+◌, ◌≤◌, List, [], ◌∷◌, Some, None, Bool, true, false, cond, not, ◌||◌, refl, ap, sym, subst}
use Rattle.std.{proofs.lemmas.Bool.cond_both, proofs.lemmas.Bool.or_left, proofs.lemmas.Bool.or_right, specs.Prelude.is_some}
use Rattle.std.specs.Cmp.Lexicographic.{bytes_decides}
use Rattle.kp_base.specs.{Check.ok}
use Rattle.kp_ast.specs.{Expressions.is_same_name, declared.tree.Decl.Decl, declared.widths.NameKind.NameKind}
use Rattle.kp_ast.specs.declared.tree.Decl.TheVariants as decls
use Rattle.kp_ast.specs.declared.widths.NameKind.TheVariants as kinds
use Rattle.kp_width.specs.Names.{Sense, sense, Names, Scoped, look_up, find, is_pipe, declared_text}
use Rattle.kp_width.specs.Expressions.{is_width}
use Rattle.kp_width.specs.Declarations.{declared, name_of, after_name, declaration_of, declarations_of, functions_in}
use Rattle.kp_width.proofs.Unbroken.{Unbroken, bind_unbroken, answer_unbroken}
use Rattle.kp_machine.{specs.Slots.Slot, specs.Slots.slot, specs.Slots.pipes_of, specs.Slots.samples_of, proofs.Cases.by_test}
use Rattle.kp_machine.proofs.{Scopes.sense_of, Scopes.is_sample, Scopes.new_name, Scopes.text_has, Scopes.stays, Widths.bounds}

-- whether an entry has the name
abbrev pub has_name : List Slot → List ℕ → Bool
has_name [] q = false
has_name (s ∷ ss) q = cond (is_same_name q s.name) true (has_name ss q)

-- each entry has a name of its own, and a width from 1 to 64
abbrev pub Apart : List Slot → Type 0
Apart [] = Unit {0}
Apart (s ∷ ss) = (has_name ss s.name ≡ false) × (1 ≤ s.width) × (s.width ≤ 64) × Apart ss

-- the name names something of a kind in the text
abbrev pub IsOfKind : (NameKind → Bool) → Names → List ℕ → Type 0
IsOfKind takes text q = (m : Sense) × (look_up text q ≡ Some m) × (takes m.kind ≡ true)

-- what the declarations of some kinds declare
abbrev pub slot_by : ℕ → Decl → Slot
slot_by i d = record { name = (name_of d).name; width = (sense_of i d).width; address = 0 }

abbrev pub slots_by : (NameKind → Bool) → ℕ → List Decl → List Slot
slots_by takes i [] = []
slots_by takes i (d ∷ ds) = cond (takes (sense_of i d).kind) (slot_by i d ∷ slots_by takes (i + 1) ds) (slots_by takes (i + 1) ds)

pub pipes_by : (i : ℕ) (ds : List Decl) → pipes_of ds ≡ slots_by is_pipe i ds
pipes_by i [] = refl
pipes_by i (decls.Pipe n width ∷ ds) = ap (λ ss. slot n width 0 ∷ ss) (pipes_by (i + 1) ds)
pipes_by i (d ∷ ds) = pipes_by (i + 1) ds

pub samples_by : (i : ℕ) (ds : List Decl) → samples_of ds ≡ slots_by is_sample i ds
samples_by i [] = refl
samples_by i (decls.Sample n width stage ∷ ds) = ap (λ ss. slot n width 0 ∷ ss) (samples_by (i + 1) ds)
samples_by i (d ∷ ds) = samples_by (i + 1) ds

abbrev pub is_pipe_or_sample : NameKind → Bool
is_pipe_or_sample kind = is_pipe kind || is_sample kind

wide : (ds : List Decl) (i k : ℕ) (s : Scoped) (d : Decl) → is_pipe_or_sample (sense_of i d).kind ≡ true → Unbroken (declaration_of ds i k s d)
    → (1 ≤ (sense_of i d).width) × ((sense_of i d).width ≤ 64)
wide ds i k s (decls.Pipe n width) e u =
    let y = (answer_unbroken (not (is_some (find s n.name))) _ (after_name ds i k s (decls.Pipe n width)).asked u).1 in
    let z = (bind_unbroken (declared width) (λ w. ok (declared_text s n.name (sense kinds.Pipe w i))) y).0 in
    bounds width.value (answer_unbroken (is_width width.value) _ [] z).0
wide ds i k s (decls.Sample n width stage) e u =
    let y = (answer_unbroken (not (is_some (find s n.name))) _ (after_name ds i k s (decls.Sample n width stage)).asked u).1 in
    let z = (bind_unbroken (declared width) (λ w. ok (declared_text s n.name (sense kinds.Sample w i))) y).0 in
    bounds width.value (answer_unbroken (is_width width.value) _ [] z).0
wide ds i k s d e u = cc

module _ (takes : NameKind → Bool) (either : (kind : NameKind) → takes kind ≡ true → is_pipe_or_sample kind ≡ true) where
  abbrev slots : ℕ → List Decl → List Slot
  slots = slots_by takes

  other_name : (i : ℕ) (d : Decl) (rest : List Decl) (q : List ℕ) → is_same_name q (name_of d).name ≡ false
      → has_name (slots (i + 1) rest) q ≡ false → has_name (slots i (d ∷ rest)) q ≡ false
  other_name i d rest q y h =
      cond_both (takes (sense_of i d).kind) (slot_by i d ∷ slots (i + 1) rest) (slots (i + 1) rest) (λ ss. has_name ss q ≡ false)
      (λ _. ap (λ b. cond b true (has_name (slots (i + 1) rest) q)) y ∙ h) (λ _. h)

  -- no later declaration has a name of the text
  none_behind : (ds : List Decl) (i k : ℕ) (s : Scoped) (rest : List Decl) → Unbroken (declarations_of ds i k s rest)
      → (q : List ℕ) (m : Sense) → look_up s.text q ≡ Some m → has_name (slots i rest) q ≡ false
  none_behind ds i k s [] u q m e = refl
  none_behind ds i k s (d ∷ rest) u q m e =
      let x = bind_unbroken (declaration_of ds i k s d) (λ t. declarations_of ds (i + 1) (k + functions_in d) t rest) u in
      let other : is_same_name q (name_of d).name ≡ false = by_test (is_same_name q (name_of d).name)
      (λ y.
      let is : q ≡ (name_of d).name = (bytes_decides q (name_of d).name).0 y in
      let f : None ≡ Some m = sym (new_name ds i k s d x.0) ∙ ap (look_up s.text) (sym is) ∙ e in cc)
      (λ y. y) in
      other_name i d rest q other
      (none_behind ds (i + 1) (k + functions_in d) (declaration_of ds i k s d).value rest x.1 q m (stays ds i k s (d ∷ []) q m e))

  each_apart : (ds : List Decl) (i k : ℕ) (s : Scoped) (rest : List Decl) → Unbroken (declarations_of ds i k s rest) → Apart (slots i rest)
  each_apart ds i k s [] u = tt
  each_apart ds i k s (d ∷ rest) u =
      let next : Scoped = (declaration_of ds i k s d).value in
      let x = bind_unbroken (declaration_of ds i k s d) (λ t. declarations_of ds (i + 1) (k + functions_in d) t rest) u in
      let more = each_apart ds (i + 1) (k + functions_in d) next rest x.1 in
      cond_both (takes (sense_of i d).kind) (slot_by i d ∷ slots (i + 1) rest) (slots (i + 1) rest) Apart
      (λ y.
      let w = wide ds i k s d (either (sense_of i d).kind y) x.0 in
      (none_behind ds (i + 1) (k + functions_in d) next rest x.1 (name_of d).name (sense_of i d) (text_has ds i k s d x.0), w.0, w.1, more))
      (λ _. more)

  each_named : (ds : List Decl) (i k : ℕ) (s : Scoped) (rest : List Decl) → Unbroken (declarations_of ds i k s rest)
      → (q : List ℕ) → has_name (slots i rest) q ≡ true → IsOfKind takes (declarations_of ds i k s rest).value.text q
  each_named ds i k s [] u q e = cc
  each_named ds i k s (d ∷ rest) u q e =
      let next : Scoped = (declaration_of ds i k s d).value in
      let x = bind_unbroken (declaration_of ds i k s d) (λ t. declarations_of ds (i + 1) (k + functions_in d) t rest) u in
      let more = each_named ds (i + 1) (k + functions_in d) next rest x.1 q in
      cond_both (takes (sense_of i d).kind) (slot_by i d ∷ slots (i + 1) rest) (slots (i + 1) rest)
      (λ ss. has_name ss q ≡ true → IsOfKind takes (declarations_of ds i k s (d ∷ rest)).value.text q)
      (λ y h. by_test (is_same_name q (name_of d).name)
      (λ z.
      let is : (name_of d).name ≡ q = sym ((bytes_decides q (name_of d).name).0 z) in
      let here : look_up next.text q ≡ Some (sense_of i d) = subst (λ n. look_up next.text n ≡ Some (sense_of i d)) is (text_has ds i k s d x.0) in
      (sense_of i d, stays ds (i + 1) (k + functions_in d) next rest q (sense_of i d) here, y))
      (λ z. more (sym (ap (λ b. cond b true (has_name (slots (i + 1) rest) q)) z) ∙ h)))
      (λ _ h. more h) e

module _ (ds : List Decl) (s : Scoped) (right : Unbroken (declarations_of ds 0 0 s ds)) where
  pub pipes_apart : Apart (pipes_of ds)
  pipes_apart = subst Apart (sym (pipes_by 0 ds)) (each_apart is_pipe (λ kind e. or_left (is_pipe kind) (is_sample kind) e) ds 0 0 s ds right)

  pub samples_apart : Apart (samples_of ds)
  samples_apart = subst Apart (sym (samples_by 0 ds)) (each_apart is_sample (λ kind e. or_right (is_pipe kind) (is_sample kind) e) ds 0 0 s ds right)

  pub pipe_named : (q : List ℕ) → has_name (pipes_of ds) q ≡ true → IsOfKind is_pipe (declarations_of ds 0 0 s ds).value.text q
  pipe_named q e =
      each_named is_pipe (λ kind e. or_left (is_pipe kind) (is_sample kind) e) ds 0 0 s ds right q (sym (ap (λ ss. has_name ss q) (pipes_by 0 ds)) ∙ e)

  pub sample_named : (q : List ℕ) → has_name (samples_of ds) q ≡ true → IsOfKind is_sample (declarations_of ds 0 0 s ds).value.text q
  sample_named q e =
      each_named is_sample (λ kind e. or_right (is_pipe kind) (is_sample kind) e) ds 0 0 s ds right q (sym (ap (λ ss. has_name ss q) (samples_by 0 ds)) ∙ e)

-- Declarations that violate no rule: their numbers fit, and a register or file is found under its name.
use Rattle.std.proofs.Common.{◌≡◌, ◌∙◌, ℕ, ◌+◌, ◌^◌, ◌<◌, ◌≤◌, List, [], ◌∷◌, ◌++◌, map, Option, Some, None, Bool, true, false, cond, refl, ap, sym, subst}
use Rattle.std.proofs.lemmas.{Bool.leb-true, Bool.ltb-true, Bool.eqb-true, Bool.and_parts, List.map-append, List.append_assoc}
use Rattle.std.{proofs.lemmas.List.Elements.All-nil, proofs.lemmas.List.Elements.All-cons, specs.Prelude.not, specs.Prelude.nat_eq, specs.Prelude.is_some, specs.Prelude.if◌then◌else◌, specs.Prelude.nat_le, specs.Prelude.nat_lt, specs.Prelude.◌&&◌, specs.Prelude.◌==◌, specs.Prelude.Ok, specs.Prelude.Err}
use Rattle.std.specs.{List.All, Cmp.Lexicographic.pointwise, Cmp.Lexicographic.nat_list_eq_equiv}
use Rattle.kp_base.{specs.First.first, specs.Check.ok, specs.Check.◌>>=◌, proofs.First.first_append_none}
use Rattle.kp_base.specs.declared.place.Place.{Place}
use Rattle.kp_bits.specs.{Word.IsWord, Word.word, declared.literal.LiteralFault.TheVariants.BadWidth, declared.literal.LiteralFault.TheVariants.TooBig}
use Rattle.kp_ast.specs.declared.tree.{Lit.Lit, Decl.Decl}
use Rattle.kp_ast.specs.declared.tree.Decl.TheVariants as decls
use Rattle.kp_ast.specs.declared.widths.NameKind.TheVariants as kinds
use Rattle.kp_width.specs.Names.{Names, Sense, sense, Scoped, look_up, or_else, declared_text}
use Rattle.kp_width.specs.Declarations.{declared, start_of, started_of, function_opened, name_of, after_name, declaration_of, declarations_of, functions_in}
use Rattle.kp_width.proofs.{Unbroken.Unbroken, Unbroken.bind_unbroken, Unbroken.answer_unbroken, Calls.parameters_text}
use Rattle.kp_image.specs.Sections.{declared_by, declared_as, declared_in, literal_of, word_found}
use Rattle.kp_image.specs.declared.check.Declared.{Declared}
use Rattle.kp_image.proofs.Unbroken.{answer_none}

-- a literal that is right is a word as wide as what it is given to
pub record IsFit (l : Lit) (w : ℕ) : Type 0 where
  pub width : l.literal.width ≡ w
  pub word : IsWord (word w l.literal.value)

fit_at : (l : Lit) (w : ℕ) → l.literal.width ≡ w → 1 ≤ l.literal.width → l.literal.width ≤ 64 → l.literal.value < 2 ^ l.literal.width → IsFit l w
fit_at l w e low high below =
    record { width = e; word = record { positive = subst (λ n. 1 ≤ n) e low; at_most = subst (λ n. n ≤ 64) e high; fits = subst (λ n. l.literal.value < 2 ^ n) e below } }

pub fits : (l : Lit) (w : ℕ) → Unbroken (start_of l w) → IsFit l w
fits l w e =
    let a = answer_unbroken _ _ _ e in
    let b = answer_unbroken _ _ _ a.1 in
    let c = answer_unbroken _ _ _ b.1 in
    let wide = and_parts _ _ a.0 in
    fit_at l w (eqb-true _ _ c.0) (leb-true _ _ wide.0) (leb-true _ _ wide.1) (ltb-true _ _ b.0)

-- and so is one that violates no rule in a section
fit_where : (name : Place) (d : Declared) (l : Lit) (wide fits : Bool) → (nat_le 1 l.literal.width && nat_le l.literal.width 64) ≡ wide → nat_lt l.literal.value (2 ^ l.literal.width) ≡ fits
    → word_found name d l (if wide then (if fits then Ok (word l.literal.width l.literal.value) else Err TooBig) else Err BadWidth) ≡ None → IsFit l d.width
fit_where name d l true true wide fits e =
    let both = and_parts _ _ wide in
    fit_at l d.width (eqb-true _ _ (answer_none (l.literal.width == d.width) _ e)) (leb-true _ _ both.0) (leb-true _ _ both.1) (ltb-true _ _ fits)
fit_where name d l true false wide fits e = cc
fit_where name d l false fits wide below e = cc

pub literal_fits : (name : Place) (d : Declared) (l : Lit) → literal_of name d l ≡ None → IsFit l d.width
literal_fits name d l e = fit_where name d l _ _ refl refl e

-- what the numbers of a declaration are
abbrev pub IsRight : Decl → Type 0
IsRight (decls.Reg n width start) = IsWord (word width.value start.literal.value)
IsRight (decls.File n width address) = (1 ≤ width.value) × (width.value ≤ 64) × (address.value ≤ 16)
IsRight (decls.Sample n width stage) = (1 ≤ width.value) × (width.value ≤ 64)
IsRight _ = Unit {0}

right : (ds : List Decl) (i k : ℕ) (s : Scoped) (d : Decl) → Unbroken (after_name ds i k s d) → IsRight d
right ds i k s (decls.Reg n width start) e =
    let a = bind_unbroken (started_of width start) (λ w. ok (declared_text s n.name (sense kinds.Reg w i))) e in
    let b = bind_unbroken (declared width) (λ w. start_of start w >>= (λ x. ok w)) a.0 in
    let c = bind_unbroken (start_of start width.value) (λ x. ok width.value) b.1 in
    (fits start width.value c.0).word
right ds i k s (decls.File n width address) e =
    let a = answer_unbroken _ _ _ e in
    let b = answer_unbroken _ _ _ a.1 in
    let wide = and_parts _ _ a.0 in
    let few = and_parts _ _ b.0 in
    (leb-true _ _ wide.0, leb-true _ _ wide.1, leb-true _ _ few.1)
right ds i k s (decls.Sample n width stage) e =
    let wide = and_parts _ _ (answer_unbroken _ _ _ e).0 in
    (leb-true _ _ wide.0, leb-true _ _ wide.1)
right ds i k s x e = tt

-- a declaration brings its name into scope, after those of the text
abbrev Adds : Names → List ℕ → Names → Type 0
Adds old name new = (m : Sense) × (new ≡ old ++ (name, m) ∷ [])

adds : (ds : List Decl) (i k : ℕ) (s : Scoped) (d : Decl) → Adds s.text (name_of d).name (after_name ds i k s d).value.text
adds ds i k s (decls.Reg n width start) = (sense kinds.Reg width.value i, refl)
adds ds i k s (decls.File n width address) = (sense (kinds.File address.value) width.value i, refl)
adds ds i k s (decls.Pipe n width) = (sense kinds.Pipe width.value i, refl)
adds ds i k s (decls.Hint n width start) = (sense kinds.Hint width.value i, refl)
adds ds i k s (decls.Sample n width stage) = (sense kinds.Sample width.value i, refl)
adds ds i k s (decls.Target r) = (sense kinds.Target r.width.value i, refl)
adds ds i k s (decls.Func f) =
    let m = sense kinds.Func f.width.value i in
    (m, ap (λ (text : Names). text ++ (f.name.name, m) ∷ []) (parameters_text i (function_opened s k f) f.params))

none_of_cond : (b : Bool) (x : Sense) (o : Option Sense) → cond b (Some x) o ≡ None → (b ≡ false) × (o ≡ None)
none_of_cond true x o e = cc
none_of_cond false x o e = (refl, e)

cond_none : (b : Bool) (x : Sense) (o : Option Sense) → b ≡ false → o ≡ None → cond b (Some x) o ≡ None
cond_none true x o f e = cc
cond_none false x o f e = e

-- a name that isn't there after one more is in scope was not there before, and is not that one
missed : (es : Names) (n : List ℕ) (m : Sense) (q : List ℕ) → look_up (es ++ (n, m) ∷ []) q ≡ None → (look_up es q ≡ None) × (pointwise nat_eq q n ≡ false)
missed [] n m q e = (refl, (none_of_cond _ m None e).0)
missed (x ∷ es) n m q e =
    let a = none_of_cond (pointwise nat_eq q x.0) x.1 (look_up (es ++ (n, m) ∷ []) q) e in
    let b = missed es n m q a.1 in
    (cond_none _ x.1 _ a.0 b.0, b.1)

-- no declaration among these has a name that is not in scope
abbrev Hides : List Decl → Names → Type 0
Hides front text = (q : List ℕ) → look_up text q ≡ None → declared_in front q ≡ None

not_named : (d : Decl) (q : List ℕ) → pointwise nat_eq q (name_of d).name ≡ false → declared_as q d ≡ None
not_named d q e = rw (nat_list_eq_equiv.symm (name_of d).name q ∙ e) refl

declared_past : (front rest : List Decl) (q : List ℕ) → declared_in front q ≡ None → declared_in (front ++ rest) q ≡ declared_in rest q
declared_past front rest q none = ap first (map-append (declared_as q) front rest) ∙ first_append_none (map (declared_as q) front) (map (declared_as q) rest) none

declared_one : (d : Decl) (q : List ℕ) → declared_as q d ≡ None → declared_in (d ∷ []) q ≡ None
declared_one d q e = ap (λ o. first (o ∷ [])) e

hides_more : (front : List Decl) (d : Decl) (old new : Names) → Hides front old → Adds old (name_of d).name new → Hides (front ++ d ∷ []) new
hides_more front d old new hides (m, e) q none =
    let before = missed old (name_of d).name m q (ap (λ (text : Names). look_up text q) (sym e) ∙ none) in
    declared_past front (d ∷ []) q (hides q before.0) ∙ declared_one d q (not_named d q before.1)

-- a declaration is found under its name
abbrev pub IsFound : List Decl → Decl → Type 0
IsFound all d = declared_in all (name_of d).name ≡ Some (declared_by d)

found_here : (d : Decl) (rest : List Decl) → IsFound (d ∷ rest) d
found_here d rest = rw (nat_list_eq_equiv.refl (name_of d).name) refl

found_past : (front rest : List Decl) (d : Decl) → declared_in front (name_of d).name ≡ None → IsFound rest d → IsFound (front ++ rest) d
found_past front rest d none found = declared_past front rest (name_of d).name none ∙ found

text_none : (a b : Option Sense) → not (is_some (or_else a b)) ≡ true → b ≡ None
text_none None None e = refl
text_none None (Some m) e = cc
text_none (Some m) b e = cc

-- a declaration that is right, and found under its name
pub record IsSettled (all : List Decl) (d : Decl) : Type 0 where
  pub right : IsRight d
  pub found : IsFound all d

settled_from : (ds : List Decl) (i k : ℕ) (s : Scoped) (front rest : List Decl) → Unbroken (declarations_of ds i k s rest) → Hides front s.text → All (IsSettled (front ++ rest)) rest
settled_from ds i k s front [] e hides = All-nil (IsSettled (front ++ []))
settled_from ds i k s front (d ∷ rest) e hides =
    let a = bind_unbroken (declaration_of ds i k s d) (λ t. declarations_of ds (i + 1) (k + functions_in d) t rest) e in
    let b = answer_unbroken _ _ _ a.0 in
    let none = text_none (look_up s.local (name_of d).name) (look_up s.text (name_of d).name) b.0 in
    let t = (after_name ds i k s d).value in
    let more = settled_from ds (i + 1) (k + functions_in d) t (front ++ d ∷ []) rest a.1 (hides_more front d s.text t.text hides (adds ds i k s d)) in
    let all : All (IsSettled (front ++ d ∷ rest)) rest = subst (λ (xs : List Decl). All (IsSettled xs) rest) (append_assoc front (d ∷ []) rest) more in
    All-cons (IsSettled (front ++ d ∷ rest)) d rest
    (record { right = right ds i k s d b.1; found = found_past front (d ∷ rest) d (hides (name_of d).name none) (found_here d rest) })
    all

pub settled : (ds : List Decl) (i k : ℕ) (s : Scoped) → s.text ≡ [] → Unbroken (declarations_of ds i k s ds) → All (IsSettled ds) ds
settled ds i k s e unbroken = settled_from ds i k s [] ds unbroken (λ q none. refl)

-- What is listed for the classes from one on.
use Rattle.std.specs.Prelude.{ℕ, suc, ◌+◌, ◌<◌, ◌≤◌, ◌≡◌, ◌==◌, List, [], ◌∷◌, ◌++◌, drop, length, All, Bool, true, false, not, ◌&&◌, ◌||◌, if◌then◌else◌, Option, Some, None, codes, ◌-◌, is_some}
use Rattle.std.specs.Str.{IsUtf8}
use Rattle.std.proofs.Common.{refl, sym, ap, subst, ◌∙◌, append_assoc, get_or, inl, inr, arith, rules}
use Rattle.std.proofs.{Math.Seq.drop-cons, lemmas.List.at_drop_all, lemmas.Bool.Decides.eqb_tells, lemmas.Str.IsUtf8-from_ascii}
use Rattle.std.proofs.lemmas.Str.Ascii.{IsAscii-from_all}
use Rattle.kp_lex.specs.{Words.spelling, declared.token.Keyword.Keyword}
use Rattle.kp_lex.specs.declared.token.Keyword.TheVariants as keywords
use Rattle.kp_view_expected.specs.{declared.token_class.TokenClass.TokenClass, declared.display.Group.Group, declared.display.Thing.Thing, GoesOn.all_classes}
use Rattle.kp_view_expected.specs.declared.set.Expected.{Expected}
use Rattle.kp_view_expected.specs.Texts.{all_of, has_all, in_group, thing_of, things, before_these, separator, joined, thing_text}

pub all_of_step : (g : Group) (cs : List TokenClass) (bs : List Bool) (i : ℕ) (c : TokenClass) (b : Bool) → i < length cs → i < length bs
    → all_of g (drop i cs) (drop i bs) ≡ ((get_or bs i b || not (in_group g (get_or cs i c))) && all_of g (drop (i + 1) cs) (drop (i + 1) bs))
all_of_step g cs bs i c b h k =
    let e : suc i ≡ i + 1 = omega arith in
    rw (drop-cons cs i c h, drop-cons bs i b k)
    (ap (λ (n : ℕ). (get_or bs i b || not (in_group g (get_or cs i c))) && all_of g (drop n cs) (drop n bs)) e)

pub things_step : (g : Option Group) (cs : List TokenClass) (bs : List Bool) (i : ℕ) (c : TokenClass) (b : Bool) → i < length cs → i < length bs
    → things g (drop i cs) (drop i bs) ≡ before_these (if get_or bs i b then thing_of g (get_or cs i c) else None) (things g (drop (i + 1) cs) (drop (i + 1) bs))
things_step g cs bs i c b h k =
    let e : suc i ≡ i + 1 = omega arith in
    rw (drop-cons cs i c h, drop-cons bs i b k)
    (ap (λ (n : ℕ). before_these (if get_or bs i b then thing_of g (get_or cs i c) else None) (things g (drop n cs) (drop n bs))) e)

more_than_one : (n : ℕ) → (suc (suc n) == 1) ≡ false
more_than_one n = elim (eqb_tells (suc (suc n)) 1) [ inl p ↦ absurd (omega (arith, p.1)) | inr q ↦ q.0 ]

separator_of : (first : Bool) (t : Thing) (ts : List Thing) → separator first (t ∷ ts) ≡ (if first then [] else (if length (t ∷ ts) == 1 then codes " or " else codes ", "))
separator_of true t ts = refl
separator_of false t [] = refl
separator_of false t (u ∷ ts) = ap (λ (b : Bool). if b then codes " or " else codes ", ") (sym (more_than_one (length ts)))

-- one more thing is written
pub written_more : (first : Bool) (left : ℕ) (here next : List Thing) (t : Thing) (done before whole : List ℕ) → here ≡ t ∷ next → left ≡ length here
    → before ≡ (if first then [] else (if left == 1 then codes " or " else codes ", ")) → done ++ joined first here ≡ whole
    → (done ++ (before ++ thing_text t)) ++ joined false next ≡ whole
written_more first left here next t done before whole is count written so_far =
    let many : left ≡ length (t ∷ next) = count ∙ ap length is in
    let same : before ≡ separator first (t ∷ next) = written ∙ ap (λ (n : ℕ). if first then [] else (if n == 1 then codes " or " else codes ", ")) many ∙ sym (separator_of first t next) in
    append_assoc done (before ++ thing_text t) (joined false next)
    ∙ ap (λ (x : List ℕ). done ++ (x ++ thing_text t ++ joined false next)) same
    ∙ ap (λ (x : List Thing). done ++ joined first x) (sym is) ∙ so_far

pub one_fewer : (left : ℕ) (here next : List Thing) (t : Thing) → here ≡ t ∷ next → left ≡ length here → left - 1 ≡ length next
one_fewer left here next t is count = let many : left ≡ length (t ∷ next) = count ∙ ap length is in omega (arith, many)

pub count_some : (t : Option Thing) (ts : List Thing) → is_some t ≡ true → length (before_these t ts) ≡ length ts + 1
count_some None ts h = absurd (cc)
count_some (Some t) ts h = omega arith

pub count_none : (t : Option Thing) (ts : List Thing) → is_some t ≡ false → length (before_these t ts) ≡ length ts
count_none None ts h = refl
count_none (Some t) ts h = absurd (cc)

-- whether a group is in the set: so far, at a class that is missing, and at the end
abbrev pub SoFar : Expected → Group → ℕ → Type 0
SoFar e g i = has_all e g ≡ all_of g (drop i all_classes) (drop i e.listed)

pub on : (a b : Bool) → a ≡ true → (a || not b) ≡ true
on true b h = refl
on false b h = absurd (cc)

pub other : (a b : Bool) → b ≡ false → (a || not b) ≡ true
other true b h = refl
other false true h = absurd (cc)
other false false h = refl

pub off : (a b : Bool) → a ≡ false → b ≡ true → (a || not b) ≡ false
off false true h k = refl
off false false h k = absurd (cc)
off true b h k = absurd (cc)

-- at a class: by whether it is there, where it is of the group
pub step_to : (e : Expected) (g : Group) (all : List TokenClass) (i : ℕ) (d : TokenClass) (b t : Bool) → all ≡ all_classes → i < length all → length e.listed ≡ 53
    → (get_or e.listed i b || not (in_group g (get_or all i d))) ≡ t → SoFar e g i → has_all e g ≡ (t && all_of g (drop (i + 1) all_classes) (drop (i + 1) e.listed))
step_to e g all i d b t same h size has so_far =
    let many : length all ≡ 53 = ap length same in
    let inside : i < length e.listed = omega (arith, size, many, h) in
    let step = subst (λ (cs : List TokenClass). all_of g (drop i cs) (drop i e.listed) ≡ ((get_or e.listed i b || not (in_group g (get_or cs i d))) && all_of g (drop (i + 1) cs) (drop (i + 1) e.listed))) same
    (all_of_step g all e.listed i d b h inside) in
    let here = subst (λ (cs : List TokenClass). (get_or e.listed i b || not (in_group g (get_or cs i d))) ≡ t) same has in
    so_far ∙ step ∙ ap (λ (x : Bool). x && all_of g (drop (i + 1) all_classes) (drop (i + 1) e.listed)) here

pub is_whole : (e : Expected) (g : Group) (all : List TokenClass) (i : ℕ) → all ≡ all_classes → length all ≤ i → SoFar e g i → has_all e g ≡ true
is_whole e g all i same h so_far =
    let many : length all ≡ 53 = ap length same in
    so_far ∙ at_drop_all (λ xs. all_of g xs (drop i e.listed)) all_classes i (omega (arith, many, h))

-- what is listed from a class on, by what is listed for that class
pub listed_from : (e : Expected) (g : Option Group) (all : List TokenClass) (i : ℕ) (d : TokenClass) (b : Bool) (t : Option Thing) → all ≡ all_classes → i < length all → length e.listed ≡ 53
    → t ≡ (if get_or e.listed i b then thing_of g (get_or all i d) else None)
    → things g (drop i all_classes) (drop i e.listed) ≡ before_these t (things g (drop (i + 1) all_classes) (drop (i + 1) e.listed))
listed_from e g all i d b t same h size is =
    let many : length all ≡ 53 = ap length same in
    let inside : i < length e.listed = omega (arith, size, many, h) in
    let step = subst (λ (cs : List TokenClass). things g (drop i cs) (drop i e.listed) ≡ before_these (if get_or e.listed i b then thing_of g (get_or cs i d) else None) (things g (drop (i + 1) cs) (drop (i + 1) e.listed))) same
    (things_step g all e.listed i d b h inside) in
    let here = subst (λ (cs : List TokenClass). t ≡ (if get_or e.listed i b then thing_of g (get_or cs i d) else None)) same is in
    step ∙ ap (λ (u : Option Thing). before_these u (things g (drop (i + 1) all_classes) (drop (i + 1) e.listed))) (sym here)

pub none_from : (e : Expected) (g : Option Group) (all : List TokenClass) (i : ℕ) → all ≡ all_classes → length all ≤ i
    → things g (drop i all_classes) (drop i e.listed) ≡ []
none_from e g all i same h =
    let many : length all ≡ 53 = ap length same in at_drop_all (λ xs. things g xs (drop i e.listed)) all_classes i (omega (arith, many, h))

-- keywords are ASCII
pub keyword_is_text : (k : Keyword) → IsUtf8 (spelling k)
keyword_is_text k = IsUtf8-from_ascii (spelling k) (IsAscii-from_all (spelling k) (small k))
  where
    small : (k : Keyword) → All (λ (b : ℕ). b < 128) (spelling k)
    small keywords.Machine = search rules
    small _ = search rules

-- What is listed is exactly what goes on.
use Rattle.std.proofs.Common.{ℕ, ◌≡◌, ◌==◌, List, [], map, Bool, Option, Some, refl, sym, ◌∙◌, subst}
use Rattle.std.proofs.{lemmas.List.Folds.find_at}
use Rattle.std.specs.{Prelude.find, Prelude.slice_get, Prelude.◌↔◌, List.position_or_len}
use Rattle.kp_expected.specs.{Plain.plain, GoesOn.GoesOn, GoesOn.AreAnswers, Readable.IsReadableName}
use Rattle.kp_expected.proofs.Transfer.{transfer}
use Rattle.kp_vlog.specs.Tokens as words
use Rattle.kp_vlog.specs.declared.token.Keyword.TheVariants as keywords
use Rattle.kp_vlog.specs.declared.token.Mark.TheVariants as marks
use Rattle.kp_vlog.specs.{Tokens.Word, Tokens.Token, Language.verilog, Language.MODULE, Language.LITERAL, Language.word_class, inner.Follow.tables}
use Rattle.kp_view_verilog_faults.specs.{declared.class.Class.Class, declared.set.Expected.Expected, Classes.class_in, Classes.all_classes, Classes.Lists, inner.Plain.number, inner.Plain.plain_rules, inner.Plain.ranks}
use Rattle.kp_view_verilog_faults.specs.declared.class.Class.TheVariants as classes

-- the index of a class
abbrev decoded : ℕ → Option Class
decoded n = find (λ c. number c == n) all_classes

coded : (c : Class) → decoded (number c) ≡ Some c
coded (classes.Keyword keywords.Module) = refl
coded (classes.Mark marks.Semicolon) = refl
coded _ = refl

indexed : (c : Class) → (k : ℕ) × (slice_get all_classes k ≡ Some c)
indexed c =
    let test : Class → Bool = λ d. number d == number c in
    (position_or_len test all_classes, sym (find_at test all_classes) ∙ coded c)

-- a token of a class
abbrev word_of : Class → Word
word_of classes.Name = words.name []
word_of classes.Number = words.number 0
word_of classes.Literal = words.literal (record { width = 0; value = 0 })
word_of (classes.Keyword k) = words.keyword k
word_of (classes.Mark m) = words.mark m

abbrev token_of : Class → Token
token_of c = record { word = word_of c; at = 0 }

word_is : (c : Class) → class_in (word_of c) ≡ c
word_is classes.Name = refl
word_is _ = refl

number_class : (w : Word) → number (class_in w) ≡ word_class w
number_class (words.name bytes) = refl
number_class _ = refl

-- the tests of the grammar
pub readable : IsReadableName number plain_rules tables ranks MODULE
readable = record {
  readable = record { classes = all_classes; short = LITERAL; fits = refl; bodies = refl; exact = refl };
  at_end = refl;
  has_sentence = refl;
}

abbrev Follows : List Class → Class → Type 0
Follows front = GoesOn (plain number plain_rules) MODULE tt front

answer_listed : (e : Expected) (c : Class) (front : List Class) → AreAnswers (Follows front) all_classes e.listed → Lists e c ↔ Follows front c
answer_listed e c front all = (
  (λ has. let r = all has.0 c has.1 in (r.2).0 (cc (r.1, has.2))),
  (λ h. let i = indexed c in let r = all i.0 c i.1 in let yes = (r.2).1 h in (i.0, i.1, subst (λ (b : Bool). slice_get e.listed i.0 ≡ Some b) yes r.1)),
)

-- The listing is exact.
pub exact : (e : Expected) (found all : List Class) → all ≡ all_classes → AreAnswers (GoesOn (plain number plain_rules) MODULE tt found) all e.listed → (tokens : List Token) (t : Token)
    → map (λ (u : Token). class_in u.word) tokens ≡ found → Lists e (class_in t.word) ↔ GoesOn verilog MODULE [] tokens t
exact e found all every answers tokens t same =
    let moved = transfer verilog number (λ (u : Token). class_in u.word) (λ (u : Token). number_class u.word) token_of word_is MODULE [] tokens t in
    let l = answer_listed e (class_in t.word) found (subst (λ (z : List Class). AreAnswers (Follows found) z e.listed) every answers) in (
      (λ h. moved.1 (subst (λ (z : List Class). Follows z (class_in t.word)) (sym same) (l.0 h))),
      (λ g. l.1 (subst (λ (z : List Class). Follows z (class_in t.word)) same (moved.0 g))),
    )

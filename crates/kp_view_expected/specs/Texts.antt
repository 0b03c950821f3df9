-- The text of a set of classes, as messages list it.
--
-- Each class of the set is listed by itself, in the order of messages. But a group whose classes are all in the set is listed as one thing, in the place of
-- the last one of them.
use Rattle.std.specs.Prelude.{ℕ, ◌≡◌, slice_get, List, [], ◌∷◌, ◌++◌, Bool, true, false, ◌&&◌, ◌||◌, not, if◌then◌else◌, Option, Some, None, codes}
use Rattle.kp_lex.specs.{Words.spelling, declared.token.Mark.Mark}
use Rattle.kp_lex.specs.declared.token.Keyword.TheVariants as keywords
use Rattle.kp_lex.specs.declared.token.Mark.TheVariants as marks
use Rattle.kp_view_expected.specs.declared.{token_class.TokenClass.TokenClass, set.Expected.Expected, display.Group.Group, display.Thing.Thing}
use Rattle.kp_view_expected.specs.GoesOn.{all_classes}
use Rattle.kp_view_expected.specs.declared.token_class.TokenClass.TheVariants as classes
use Rattle.kp_view_expected.specs.declared.display.Group.TheVariants as groups
use Rattle.kp_view_expected.specs.declared.display.Thing.TheVariants as thing

-- the classes with which an expression begins
abbrev pub begins_expression : TokenClass → Bool
begins_expression classes.Name = true
begins_expression classes.Literal = true
begins_expression (classes.Keyword keywords.Zext) = true
begins_expression (classes.Keyword keywords.Sext) = true
begins_expression (classes.Mark marks.OpenParenthesis) = true
begins_expression (classes.Mark marks.OpenBrace) = true
begins_expression (classes.Mark marks.Tilde) = true
begins_expression _ = false

-- the classes that go on with an expression: between operands, or of a slice
abbrev pub is_operator : TokenClass → Bool
is_operator (classes.Mark marks.Question) = true
is_operator (classes.Mark marks.OpenBracket) = true
is_operator (classes.Mark marks.Star) = true
is_operator (classes.Mark marks.Plus) = true
is_operator (classes.Mark marks.Minus) = true
is_operator (classes.Mark marks.Ampersand) = true
is_operator (classes.Mark marks.Caret) = true
is_operator (classes.Mark marks.Bar) = true
is_operator (classes.Mark marks.Less) = true
is_operator (classes.Mark marks.ShiftLeft) = true
is_operator (classes.Mark marks.ShiftRight) = true
is_operator (classes.Mark marks.EqualsEquals) = true
is_operator _ = false

abbrev pub is_comparison : TokenClass → Bool
is_comparison (classes.Mark marks.Less) = true
is_comparison (classes.Mark marks.EqualsEquals) = true
is_comparison _ = false

-- the classes of a group
abbrev pub in_group : Group → TokenClass → Bool
in_group groups.Expression c = begins_expression c
in_group groups.Operator c = is_operator c
in_group groups.OtherOperator c = is_operator c && not (is_comparison c)

-- the last one of them
abbrev pub is_last : Group → TokenClass → Bool
is_last groups.Expression classes.Literal = true
is_last groups.Operator (classes.Mark marks.EqualsEquals) = true
is_last groups.OtherOperator (classes.Mark marks.ShiftRight) = true
is_last _ _ = false

-- whether each of these classes that is of the group is in the set
abbrev pub all_of : Group → List TokenClass → List Bool → Bool
all_of g (c ∷ cs) (b ∷ bs) = (b || not (in_group g c)) && all_of g cs bs
all_of g _ _ = true

abbrev pub has_all : Expected → Group → Bool
has_all e g = all_of g all_classes e.listed

-- the group that is listed as one thing, if any
abbrev pub group_of : Expected → Option Group
group_of e =
    if has_all e groups.Expression then Some groups.Expression
    else if has_all e groups.Operator then Some groups.Operator
    else if has_all e groups.OtherOperator then Some groups.OtherOperator
    else None

-- what is listed for a class of the set
abbrev pub thing_of : Option Group → TokenClass → Option Thing
thing_of None c = Some (thing.Class c)
thing_of (Some g) c = if in_group g c then (if is_last g c then Some (thing.Group g) else None) else Some (thing.Class c)

abbrev pub before_these : Option Thing → List Thing → List Thing
before_these None ts = ts
before_these (Some t) ts = t ∷ ts

-- what is listed for these classes, each with whether it is in the set
abbrev pub things : Option Group → List TokenClass → List Bool → List Thing
things g (c ∷ cs) (b ∷ bs) = before_these (if b then thing_of g c else None) (things g cs bs)
things g _ _ = []

abbrev pub things_of : Expected → Option Group → List Thing
things_of e g = things g all_classes e.listed

-- a thing names a class by itself, or with its group
abbrev pub Names : Thing → TokenClass → Type 0
Names (thing.Class d) c = d ≡ c
Names (thing.Group g) c = in_group g c ≡ true

-- Something that is listed for the set names the class.
abbrev pub IsNamed : Expected → TokenClass → Type 0
IsNamed e c = (t : Thing) × ((k : ℕ) × (slice_get (things_of e (group_of e)) k ≡ Some t)) × Names t c

-- how a mark is written
abbrev pub mark_text : Mark → List ℕ
mark_text marks.Semicolon = codes ";"
mark_text marks.Colon = codes ":"
mark_text marks.Comma = codes ","
mark_text marks.Equals = codes "="
mark_text marks.OpenParenthesis = codes "("
mark_text marks.CloseParenthesis = codes ")"
mark_text marks.OpenBracket = codes "["
mark_text marks.CloseBracket = codes "]"
mark_text marks.OpenBrace = codes "{"
mark_text marks.CloseBrace = codes "}"
mark_text marks.Question = codes "?"
mark_text marks.Tilde = codes "~"
mark_text marks.Star = codes "*"
mark_text marks.Plus = codes "+"
mark_text marks.Minus = codes "-"
mark_text marks.Ampersand = codes "&"
mark_text marks.Caret = codes "^"
mark_text marks.Bar = codes "|"
mark_text marks.Less = codes "<"
mark_text marks.ShiftLeft = codes "<<"
mark_text marks.ShiftRight = codes ">>"
mark_text marks.EqualsEquals = codes "=="
mark_text marks.Arrow = codes "->"

abbrev pub class_text : TokenClass → List ℕ
class_text (classes.Keyword k) = codes "`" ++ spelling k ++ codes "`"
class_text (classes.Mark m) = codes "`" ++ mark_text m ++ codes "`"
class_text classes.Name = codes "a name"
class_text classes.Number = codes "a number"
class_text classes.Literal = codes "a literal such as 8'h1f"

abbrev pub group_text : Group → List ℕ
group_text groups.Expression = codes "an expression"
group_text groups.Operator = codes "an operator"
group_text groups.OtherOperator = codes "an operator other than `==` and `<`"

abbrev pub thing_text : Thing → List ℕ
thing_text (thing.Class c) = class_text c
thing_text (thing.Group g) = group_text g

-- what is written before these things: nothing before the first one, `or` before the last one, and else a comma
abbrev pub separator : Bool → List Thing → List ℕ
separator true ts = []
separator false (t ∷ []) = codes " or "
separator false ts = codes ", "

-- things, of which the next one is the first of all, or not
abbrev pub joined : Bool → List Thing → List ℕ
joined first [] = []
joined first (t ∷ ts) = separator first (t ∷ ts) ++ thing_text t ++ joined false ts

-- the text of a set
unfoldable pub expected_text : Expected → List ℕ
expected_text e = joined true (things_of e (group_of e))

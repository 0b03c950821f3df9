-- Readers of one token, and the consequences for the complete text.
use Rattle.std.proofs.Common.{◌≡◌, ◌∙◌, ℕ, suc, ◌+◌, ◌<◌, Bool, true, false, not, map, Option, None, List, [], ◌∷◌, length, drop, get_or, Result, Ok, Err, refl, ap, sym, subst, add-one, drop-cons, IsErrAnd}
use Rattle.std.{proofs.lemmas.List.get_or-map, proofs.lemmas.Result.err_from_is_err_and, specs.Prelude.if◌then◌else◌}
use Rattle.kp_base.specs.declared.place.Place.{Place}
use Rattle.kp_vcd.specs.Reading.{Fault, Next, given, module_name, declaration, signal_kind, signal_width, signal_code, signal_name, first_time, change, begins, goes_on, State, Step, at, named, with_signal, these, end_word, foot_words, begin, verdict, walk, ends, step, says}
use Rattle.kp_vcd.specs.{declared.dump.Change.Change, declared.dump.Moment.Moment, declared.dump.Dump.Dump, Words.Spot}
use Rattle.kp_vcd.specs.Forms.{Form, same_bytes, name_of, more_of, kind_of, width_of, code_of, time_of, said_by}
use Rattle.kp_vcd.specs.{Verdicts.Fails, Verdicts.Meets, inner.Left.Left, inner.Left.left_at, inner.Meeting.gives_from, inner.Meeting.refusing, inner.Meeting.Wants, inner.Meeting.Takes}
use Rattle.kp_vcd.specs.declared.refused.DumpRefused.{DumpRefused}
use Rattle.kp_vcd.specs.declared.refused.DumpRefused.TheVariants as refused

-- a token is read
pub word_on : (s : State) (old new : Left) (w : Spot) → old.words ≡ w ∷ new.words → new.end ≡ old.end → gives_from s old ≡ walk (step s w) new.words new.end
word_on s old new w e f =
    ap (λ (ws : List Spot). walk (Ok s) ws old.end) e
    ∙ ap (λ (end : Place). walk (step s w) new.words end) (sym f)

-- no token is left
pub none_on : (s : State) (old : Left) → old.words ≡ [] → gives_from s old ≡ ends s.next s.dump old.end
none_on s old e = ap (λ (ws : List Spot). walk (Ok s) ws old.end) e

-- the meaning of a token, after which this is left
pub said_meets : {X : Type 0} (whole : Result Dump Fault) (new : Left) (place : Place) (form : Form X) (on : X → State)
    → whole ≡ walk (says form place on) new.words new.end
    → Meets whole (λ (x : X). gives_from (on x) new) (refusing place form)
said_meets whole new place (Ok x) on e = e
said_meets whole new place (Err rule) on e = e

module _ {X : Type 0} (form : List ℕ → Form X) (old new : Left) where
  -- a token was read, and this is its meaning
  pub taken : (w : Spot) (result : Result X DumpRefused) → old.words ≡ w ∷ new.words → new.end ≡ old.end → result ≡ refusing w.place (form w.bytes)
      → Takes form old new result
  taken w result e f is s on wants =
      subst (λ (r : Result X DumpRefused). Meets (gives_from s old) (λ (x : X). gives_from (on x) new) r) (sym is)
      (said_meets (gives_from s old) new w.place (form w.bytes) on
      (word_on s old new w e f ∙ ap (λ (t : Step). walk t new.words new.end) (wants.word w)))

fails_so : (whole part : Result Dump Fault) (e : DumpRefused) → whole ≡ part → Fails part e → Fails whole e
fails_so whole part (refused.Rule rule place) same h = same ∙ h
fails_so whole part refused.NoMemory same h = tt

-- a part fails, at the exit of a `?`
pub stops : {X : Type 0} (e : DumpRefused) (whole part : Result Dump Fault) (on : X → Result Dump Fault) (r : Result X DumpRefused) → IsErrAnd r (λ y. y ≡ e) → whole ≡ part → Fails part e
    → Meets whole on r
stops e whole part on r h same f = let p = err_from_is_err_and r h in rw (p.1, p.2) (fails_so whole part e same f)

pub fails : (whole : Result Dump Fault) (e : DumpRefused) (rule : ℕ) (place : Place) → e ≡ refused.Rule rule place → whole ≡ Err (record { rule = rule; place = place }) → Fails whole e
fails whole e rule place is h = subst (Fails whole) (sym is) h

-- ---- the states that require one token

pub name_wanted : (d : Dump) → Wants (at module_name d) name_of (λ name. at (these end_word declaration) (named name))
name_wanted d = record { ending = λ e. refl; word = λ w. refl }

pub more_wanted : (d : Dump) → Wants (at declaration d) more_of (λ more. at (if more then signal_kind else these foot_words first_time) d)
more_wanted d = record { ending = λ e. refl; word = λ w. refl }

pub kind_wanted : (d : Dump) → Wants (at signal_kind d) kind_of (λ reg. at (signal_width reg) d)
kind_wanted d = record { ending = λ e. refl; word = λ w. refl }

pub width_wanted : (reg : Bool) (d : Dump) → Wants (at (signal_width reg) d) width_of (λ n. at (signal_code reg n) d)
width_wanted reg d = record { ending = λ e. refl; word = λ w. refl }

pub code_wanted : (reg : Bool) (n count : ℕ) (d : Dump) → length d.signals ≡ count → Wants (at (signal_code reg n) d) (code_of count) (λ i. at (signal_name reg n) d)
code_wanted reg n count d is =
    subst (λ (m : ℕ). Wants (at (signal_code reg n) d) (code_of m) (λ i. at (signal_name reg n) d)) is
    (record { ending = λ e. refl; word = λ w. refl })

pub signal_name_wanted : (reg : Bool) (n : ℕ) (d : Dump) → Wants (at (signal_name reg n) d) name_of (λ name. at (these end_word declaration) (with_signal d reg n name))
signal_name_wanted reg n d = record { ending = λ e. refl; word = λ w. refl }

-- ---- the tokens that are the same in each dump

module _ (gs : List (List ℕ)) (i : ℕ) (n : Next) (d : Dump) (old : Left) (more : i < length gs) where
  here : at (these (drop i gs) n) d ≡ at (given (get_or gs i []) (drop (suc i) gs) n) d
  here = ap (λ (r : List (List ℕ)). at (these r n) d) (drop-cons gs i [] more)

  pub given_ended : old.words ≡ [] → gives_from (at (these (drop i gs) n) d) old ≡ Err (record { rule = 1; place = old.end })
  given_ended none = ap (λ (s : State). gives_from s old) here ∙ none_on (at (given (get_or gs i []) (drop (suc i) gs) n) d) old none

  module _ (new : Left) (w : Spot) (took : old.words ≡ w ∷ new.words) (stays : new.end ≡ old.end) where
    given_on : gives_from (at (these (drop i gs) n) d) old ≡ walk (step (at (given (get_or gs i []) (drop (suc i) gs) n) d) w) new.words new.end
    given_on = ap (λ (s : State). gives_from s old) here ∙ word_on (at (given (get_or gs i []) (drop (suc i) gs) n) d) old new w took stays

    pub given_wrong : same_bytes w.bytes (get_or gs i []) ≡ false → gives_from (at (these (drop i gs) n) d) old ≡ Err (record { rule = 1; place = w.place })
    given_wrong wrong = given_on ∙ rw wrong refl

    pub given_right : same_bytes w.bytes (get_or gs i []) ≡ true → gives_from (at (these (drop i gs) n) d) old ≡ gives_from (at (these (drop (i + 1) gs) n) d) new
    given_right right = given_on ∙ rw (right, add-one) refl

flip : (same ne t : Bool) → ne ≡ not same → ne ≡ t → same ≡ not t
flip true ne t e f = let h : t ≡ false = sym f ∙ e in rw h refl
flip false ne t e f = let h : t ≡ true = sym f ∙ e in rw h refl

pub tested : {X : Type 0} (xs : List X) (f : X → List ℕ) (i : ℕ) (rest : X) (bytes found : List ℕ) (ne t : Bool) → i < length xs → bytes ≡ found
    → ne ≡ not (same_bytes bytes (f (get_or xs i rest))) → ne ≡ t → same_bytes found (get_or (map f xs) i []) ≡ not t
tested xs f i rest bytes found ne t h is e reported =
    rw (get_or-map f xs i rest [] h, ← is) (flip (same_bytes bytes (f (get_or xs i rest))) ne t e reported)

-- ---- signals and changes

pub more_on : (d : Dump) (old new : Left) (more t : Bool) → more ≡ t
    → gives_from (at declaration d) old ≡ gives_from (at (if more then signal_kind else these foot_words first_time) d) new
    → gives_from (at declaration d) old ≡ gives_from (at (if t then signal_kind else these foot_words first_time) d) new
more_on d old new more t is h =
    h ∙ ap (λ (b : Bool). gives_from (at (if b then signal_kind else these foot_words first_time) d) new) is

pub change_on : (d : Dump) (time : ℕ) (changes : List Change) (old new : Left) (w : Spot) (bytes : List ℕ) (next : Option ℕ)
    → old.words ≡ w ∷ new.words → new.end ≡ old.end → bytes ≡ w.bytes → next ≡ time_of bytes → next ≡ None
    → gives_from (at (change time changes) d) old ≡ walk (begins d time changes w.place (said_by w.bytes)) new.words new.end
change_on d time changes old new w bytes next took stays same reported none =
    word_on (at (change time changes) d) old new w took stays
    ∙ ap (λ (o : Option ℕ). walk (goes_on d time changes w o) new.words new.end) (ap time_of (sym same) ∙ sym reported ∙ none)

pub same_dump : (d : Dump) (moments : List Moment) → d.moments ≡ moments → d ≡ record d { moments = moments }
same_dump d moments e = subst (λ (ms : List Moment). d ≡ record d { moments = ms }) e refl

-- ---- the complete text

pub from_start : (text : List ℕ) (words : Left) → words ≡ left_at text 0 → verdict text ≡ gives_from begin words
unfolding left_at
from_start text words is = ap (gives_from begin) (sym is)

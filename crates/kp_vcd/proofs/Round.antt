-- The text of a dump that fits the form is read as this dump.
use Rattle.std.proofs.Common.{◌≡◌, ◌∙◌, refl, sym, ap, subst, arith, ℕ, zero, suc, ◌+◌, ◌/◌, ◌%◌, ◌^◌, ◌<◌, ◌≤◌, Bool, true, false, not, List, [], ◌∷◌, ◌++◌, length, All, Option, Some, Result, Ok, Err, append_assoc, length-append, ◌⊎◌, inl, inr}
use Rattle.std.proofs.lemmas.Bool.{and_from, and_parts, or_cases, eq-eqb, eqb-true, lt-ltb, leb-true, cond-true, cond-false}
use Rattle.std.proofs.lemmas.List.{append-nil, Elements.All-head, Elements.All-tail}
use Rattle.std.specs.{Prelude.codes, Prelude.decimal, Prelude.nat_lt, Prelude.nat_le, Prelude.◌==◌, Prelude.◌&&◌, Prelude.◌||◌, List.list_all}
use Rattle.kp_base.specs.{Place.place_after, Characters.is_word, declared.place.Place.Place}
use Rattle.kp_bits.specs.Word.{Word, word}
use Rattle.kp_vcd.specs.Text.{kind_word, declaration, signal_line, signal_lines, bit_digits, value_text, code_line, change_line, change_lines, time_line, moment_lines, head_words, name_line, end_lines, dump_text}
use Rattle.kp_vcd.specs.Reading.{Next, State, Step, step, walk, at, named, with_signal, with_moment, changed, these, end_word, begin, begins, goes_on, closes, says, verdict, Fault}
use Rattle.kp_vcd.specs.declared.dump.{Signal.Signal, Change.Change, Moment.Moment, Dump.Dump}
use Rattle.kp_vcd.specs.Words.{is_layout, words_from}
use Rattle.kp_vcd.specs.Forms.{is_name, same_bytes, name_of, kind_of, code_of, is_next, said_by_short, value_of, are_bits, width_at, change_of, or_wrong}
use Rattle.kp_vcd.specs.{declared.forms.Said.Said, Fitting.IsSignal, Fitting.IsChange, Fitting.RisesAfter, Fitting.Rises, Fitting.FitsForm}
use Rattle.kp_vcd.proofs.Spots.{is_part}
use Rattle.kp_vcd.proofs.Numerals.{IsPlain, is_numeral, number_read, index_read, width_read, bits_plain, bits_read, value_read}
use Rattle.kp_vcd.proofs.Leading.{Leads, nothing, both, same_part, one_word, two_words}
use Rattle.kp_vcd.specs.Reading as reading
use Rattle.kp_vcd.specs.declared.forms.Said.TheVariants as said

-- ---- plain tokens

layout_no_word : (b : ℕ) → is_layout b ≡ true → is_word b ≡ false
layout_no_word b e = go (or_cases (b == 32 || b == 9 || b == 13) (b == 10) e)
  where
    is : (c : ℕ) → is_word c ≡ false → (b == c) ≡ true → is_word b ≡ false
    is c never h = subst (λ (k : ℕ). is_word k ≡ false) (sym (eqb-true b c h)) never

    first : ((b == 32) ≡ true) ⊎ ((b == 9) ≡ true) → is_word b ≡ false
    first (inl h) = is 32 refl h
    first (inr h) = is 9 refl h

    next : ((b == 32 || b == 9) ≡ true) ⊎ ((b == 13) ≡ true) → is_word b ≡ false
    next (inl h) = first (or_cases (b == 32) (b == 9) h)
    next (inr h) = is 13 refl h

    go : ((b == 32 || b == 9 || b == 13) ≡ true) ⊎ ((b == 10) ≡ true) → is_word b ≡ false
    go (inl h) = next (or_cases (b == 32 || b == 9) (b == 13) h)
    go (inr h) = is 10 refl h

word_part : (b : ℕ) → is_word b ≡ true → is_part b ≡ true
word_part b e = go (is_layout b) refl
  where
    go : (t : Bool) → is_layout b ≡ t → is_part b ≡ true
    go true is = let never = layout_no_word b is in cc (e, never)
    go false is = ap not is

all_parts : (w : List ℕ) → list_all is_word w ≡ true → list_all is_part w ≡ true
all_parts [] e = refl
all_parts (b ∷ bs) e =
    let parts = and_parts (is_word b) (list_all is_word bs) e in
    and_from (is_part b) (list_all is_part bs) (word_part b parts.0) (all_parts bs parts.1)

name_plain : (w : List ℕ) → is_name w ≡ true → IsPlain w
name_plain w e =
    let parts = and_parts (nat_le 1 (length w) && nat_le (length w) 66) (list_all is_word w) e in
    let more = and_parts (nat_le 1 (length w)) (nat_le (length w) 66) parts.0 in
    record { some = leb-true 1 (length w) more.0; parts = all_parts w parts.1 }

kind_plain : (reg : Bool) → IsPlain (kind_word reg)
kind_plain true = record { some = omega arith; parts = refl }
kind_plain false = record { some = omega arith; parts = refl }

led_plain : (b n : ℕ) → is_part b ≡ true → n < 2 ^ 64 → IsPlain (b ∷ decimal n)
led_plain b n e h =
    let i = is_numeral n h in
    record { some = omega arith; parts = and_from (is_part b) (list_all is_part (decimal n)) e (let p = i.plain in p.parts) }

fixed : (w : List ℕ) → list_all is_part w ≡ true → 1 ≤ length w → IsPlain w
fixed w e h = record { some = h; parts = e }

-- ---- the first tokens

-- a token that is the same in each dump
given_leads : (g : List ℕ) (gs : List (List ℕ)) (n : Next) (d : Dump) (sep : ℕ) → IsPlain g → is_layout sep ≡ true → same_bytes g g ≡ true
    → Leads (at (reading.given g gs n) d) (g ++ sep ∷ []) (at (these gs n) d)
given_leads g gs n d sep plain is same =
    one_word (at (reading.given g gs n) d) (at (these gs n) d) g sep plain is
    (λ p. cond-true (same_bytes g g) (Ok (at (these gs n) d)) (Err (record { rule = 1; place = p })) same)

abbrev unit : List (List ℕ)
unit = codes "ns" ∷ codes "$end" ∷ codes "$scope" ∷ codes "module" ∷ []

abbrev front_state : List (List ℕ) → State
front_state gs = at (these gs reading.module_name) (named [])

head_leads : Leads begin head_words (at reading.module_name (named []))
unfolding head_words
head_leads =
    both begin (front_state (codes "1" ∷ unit)) (front_state []) (codes "$timescale" ++ 32 ∷ []) (codes "1 ns $end\n$scope module ")
    (given_leads (codes "$timescale") (codes "1" ∷ unit) reading.module_name (named []) 32 (fixed (codes "$timescale") refl (omega arith)) refl refl)
    (both (front_state (codes "1" ∷ unit)) (front_state unit) (front_state []) (codes "1" ++ 32 ∷ []) (codes "ns $end\n$scope module ")
    (given_leads (codes "1") unit reading.module_name (named []) 32 (fixed (codes "1") refl (omega arith)) refl refl)
    (both (front_state unit) (front_state (codes "$end" ∷ codes "$scope" ∷ codes "module" ∷ [])) (front_state []) (codes "ns" ++ 32 ∷ []) (codes "$end\n$scope module ")
    (given_leads (codes "ns") (codes "$end" ∷ codes "$scope" ∷ codes "module" ∷ []) reading.module_name (named []) 32 (fixed (codes "ns") refl (omega arith)) refl refl)
    (both (front_state (codes "$end" ∷ codes "$scope" ∷ codes "module" ∷ [])) (front_state (codes "$scope" ∷ codes "module" ∷ [])) (front_state []) (codes "$end" ++ 10 ∷ []) (codes "$scope module ")
    (given_leads (codes "$end") (codes "$scope" ∷ codes "module" ∷ []) reading.module_name (named []) 10 (fixed (codes "$end") refl (omega arith)) refl refl)
    (both (front_state (codes "$scope" ∷ codes "module" ∷ [])) (front_state (codes "module" ∷ [])) (front_state []) (codes "$scope" ++ 32 ∷ []) (codes "module ")
    (given_leads (codes "$scope") (codes "module" ∷ []) reading.module_name (named []) 32 (fixed (codes "$scope") refl (omega arith)) refl refl)
    (given_leads (codes "module") [] reading.module_name (named []) 32 (fixed (codes "module") refl (omega arith)) refl refl)))))

end_leads : (d : Dump) → Leads (at reading.declaration d) end_lines (at reading.first_time d)
unfolding end_lines
end_leads d =
    both (at reading.declaration d) (at (reading.given (codes "$end") (codes "$enddefinitions" ∷ codes "$end" ∷ []) reading.first_time) d) (at reading.first_time d) (codes "$upscope" ++ 32 ∷ []) (codes "$end\n$enddefinitions $end\n")
    (one_word (at reading.declaration d) (at (reading.given (codes "$end") (codes "$enddefinitions" ∷ codes "$end" ∷ []) reading.first_time) d) (codes "$upscope") 32 (fixed (codes "$upscope") refl (omega arith)) refl (λ p. refl))
    (both (at (reading.given (codes "$end") (codes "$enddefinitions" ∷ codes "$end" ∷ []) reading.first_time) d) (at (reading.given (codes "$enddefinitions") (codes "$end" ∷ []) reading.first_time) d) (at reading.first_time d) (codes "$end" ++ 10 ∷ []) (codes "$enddefinitions $end\n")
    (given_leads (codes "$end") (codes "$enddefinitions" ∷ codes "$end" ∷ []) reading.first_time d 10 (fixed (codes "$end") refl (omega arith)) refl refl)
    (both (at (reading.given (codes "$enddefinitions") (codes "$end" ∷ []) reading.first_time) d) (at (reading.given (codes "$end") [] reading.first_time) d) (at reading.first_time d) (codes "$enddefinitions" ++ 32 ∷ []) (codes "$end\n")
    (given_leads (codes "$enddefinitions") (codes "$end" ∷ []) reading.first_time d 32 (fixed (codes "$enddefinitions") refl (omega arith)) refl refl)
    (given_leads (codes "$end") [] reading.first_time d 10 (fixed (codes "$end") refl (omega arith)) refl refl)))

-- a name and `$end`
closed_leads : (s : State) (d : Dump) (name : List ℕ) → is_name name ≡ true
    → ((place : Place) → step s (record { place = place; bytes = name }) ≡ Ok (at (these end_word reading.declaration) d))
    → Leads s (name ++ codes " $end\n") (at reading.declaration d)
closed_leads s d name is h =
    same_part s (at reading.declaration d) ((name ++ 32 ∷ []) ++ (codes "$end" ++ 10 ∷ [])) (name ++ codes " $end\n") (append_assoc name (32 ∷ []) (codes "$end\n"))
    (both s (at (these end_word reading.declaration) d) (at reading.declaration d) (name ++ 32 ∷ []) (codes "$end" ++ 10 ∷ [])
    (one_word s (at (these end_word reading.declaration) d) name 32 (name_plain name is) refl h)
    (given_leads (codes "$end") [] reading.declaration d 10 (fixed (codes "$end") refl (omega arith)) refl refl))

name_read : (name : List ℕ) → is_name name ≡ true → name_of name ≡ Ok name
name_read name is = cond-true (is_name name) (Ok name) (Err 1) is

name_leads : (name : List ℕ) → is_name name ≡ true → Leads (at reading.module_name (named [])) (name_line name) (at reading.declaration (named name))
unfolding name_line
name_leads name is =
    closed_leads (at reading.module_name (named [])) (named name) name is
    (λ p. ap (λ (f : Result (List ℕ) ℕ). says f p (λ (x : List ℕ). at (these end_word reading.declaration) (named x))) (name_read name is))

-- ---- the signals

kind_read : (reg : Bool) → kind_of (kind_word reg) ≡ Ok reg
kind_read true = refl
kind_read false = refl

code_read : (count n : ℕ) → n < 2 ^ 64 → count ≡ n → code_of count (115 ∷ decimal n) ≡ Ok n
code_read count n h e = ap (is_next count) (index_read n h) ∙ cond-true (n == count) (Ok n) (Err 2) (eq-eqb n count (sym e))

module _ (d : Dump) (n : ℕ) (s : Signal) (count : length d.signals ≡ n) (h : n < 2 ^ 64) (ok : IsSignal s) where
  abbrev after_name : List ℕ
  after_name = s.name ++ codes " $end\n"

  abbrev after_code : List ℕ
  after_code = ((115 ∷ decimal n) ++ 32 ∷ []) ++ after_name

  abbrev after_width : List ℕ
  after_width = (decimal s.width ++ 32 ∷ []) ++ after_code

  abbrev after_kind : List ℕ
  after_kind = (kind_word s.reg ++ 32 ∷ []) ++ after_width

  abbrev with_it : State
  with_it = at reading.declaration (record d { signals = d.signals ++ s ∷ [] })

  line_is : (codes "$var" ++ 32 ∷ []) ++ after_kind ≡ signal_line n s
  unfolding declaration
  line_is = simp append_assoc refl

  name_part : Leads (at (reading.signal_name s.reg s.width) d) after_name with_it
  name_part =
      closed_leads (at (reading.signal_name s.reg s.width) d) (record d { signals = d.signals ++ s ∷ [] }) s.name ok.named
      (λ p. ap (λ (f : Result (List ℕ) ℕ). says f p (λ (x : List ℕ). at (these end_word reading.declaration) (with_signal d s.reg s.width x))) (name_read s.name ok.named))

  code_part : Leads (at (reading.signal_code s.reg s.width) d) after_code with_it
  code_part =
      both (at (reading.signal_code s.reg s.width) d) (at (reading.signal_name s.reg s.width) d) with_it ((115 ∷ decimal n) ++ 32 ∷ []) after_name
      (one_word (at (reading.signal_code s.reg s.width) d) (at (reading.signal_name s.reg s.width) d) (115 ∷ decimal n) 32 (led_plain 115 n refl h) refl
      (λ p. ap (λ (f : Result ℕ ℕ). says f p (λ (i : ℕ). at (reading.signal_name s.reg s.width) d)) (code_read (length d.signals) n h count)))
      name_part

  width_part : Leads (at (reading.signal_width s.reg) d) after_width with_it
  width_part =
      both (at (reading.signal_width s.reg) d) (at (reading.signal_code s.reg s.width) d) with_it (decimal s.width ++ 32 ∷ []) after_code
      (one_word (at (reading.signal_width s.reg) d) (at (reading.signal_code s.reg s.width) d) (decimal s.width) 32 (let a = ok.at_most in let i = is_numeral s.width (omega (arith, a)) in i.plain) refl
      (λ p. ap (λ (f : Result ℕ ℕ). says f p (λ (w : ℕ). at (reading.signal_code s.reg w) d)) (width_read s.width ok.positive ok.at_most)))
      code_part

  signal_leads : Leads (at reading.declaration d) (signal_line n s) with_it
  signal_leads =
      same_part (at reading.declaration d) with_it ((codes "$var" ++ 32 ∷ []) ++ after_kind) (signal_line n s) line_is
      (both (at reading.declaration d) (at reading.signal_kind d) with_it (codes "$var" ++ 32 ∷ []) after_kind
      (one_word (at reading.declaration d) (at reading.signal_kind d) (codes "$var") 32 (fixed (codes "$var") refl (omega arith)) refl (λ p. refl))
      (both (at reading.signal_kind d) (at (reading.signal_width s.reg) d) with_it (kind_word s.reg ++ 32 ∷ []) after_width
      (one_word (at reading.signal_kind d) (at (reading.signal_width s.reg) d) (kind_word s.reg) 32 (kind_plain s.reg) refl
      (λ p. ap (λ (f : Result Bool ℕ). says f p (λ (reg : Bool). at (reading.signal_width reg) d)) (kind_read s.reg)))
      width_part))

signals_lead : (name : List ℕ) (before ss : List Signal) (n : ℕ) → length before ≡ n → n + length ss < 2 ^ 64 → All IsSignal ss
    → Leads (at reading.declaration (record { «module» = name; signals = before; moments = [] })) (signal_lines n ss) (at reading.declaration (record { «module» = name; signals = before ++ ss; moments = [] }))
signals_lead name before [] n count few ok =
    subst (λ (ss : List Signal). Leads (at reading.declaration (record { «module» = name; signals = before; moments = [] })) [] (at reading.declaration (record { «module» = name; signals = ss; moments = [] }))) (sym (append-nil before))
    (nothing (at reading.declaration (record { «module» = name; signals = before; moments = [] })))
signals_lead name before (s ∷ ss) n count few ok =
    subst (λ (all : List Signal). Leads (at reading.declaration (record { «module» = name; signals = before; moments = [] })) (signal_lines n (s ∷ ss)) (at reading.declaration (record { «module» = name; signals = all; moments = [] }))) (append_assoc before (s ∷ []) ss)
    (both (at reading.declaration (record { «module» = name; signals = before; moments = [] })) (at reading.declaration (record { «module» = name; signals = before ++ s ∷ []; moments = [] })) (at reading.declaration (record { «module» = name; signals = (before ++ s ∷ []) ++ ss; moments = [] })) (signal_line n s) (signal_lines (n + 1) ss)
    (signal_leads (record { «module» = name; signals = before; moments = [] }) n s count (omega (arith, few)) (All-head IsSignal s ss ok))
    (signals_lead name (before ++ s ∷ []) ss (n + 1) (let l = length-append before (s ∷ []) in omega (arith, l, count)) (omega (arith, few)) (All-tail IsSignal s ss ok)))

-- ---- the changes

taken : (signals : List Signal) (i : ℕ) (v : Word) → IsChange signals (record { signal = i; value = v }) → change_of signals i (Some v) ≡ Ok (record { signal = i; value = v })
taken signals i v ok = cond-true (width_at signals i == v.width) (Ok (record { signal = i; value = v })) (Err 3) (eq-eqb (width_at signals i) v.width ok.wide)

module _ (d : Dump) (time : ℕ) (before : List Change) where
  abbrev here : State
  here = at (reading.change time before) d

  said_short : (i k : ℕ) (p : Place) → IsChange d.signals (record { signal = i; value = word 1 k })
      → begins d time before p (said.Short i (word 1 k)) ≡ Ok (changed d time before (record { signal = i; value = word 1 k }))
  said_short i k p ok = ap (λ (f : Result Change ℕ). says f p (changed d time before)) (taken d.signals i (word 1 k) ok)

  -- the short form
  short_leads : (i k : ℕ) → k < 2 → IsChange d.signals (record { signal = i; value = word 1 k })
      → Leads here (((48 + k) ∷ 115 ∷ decimal i) ++ 10 ∷ []) (changed d time before (record { signal = i; value = word 1 k }))
  short_leads i zero h ok =
      one_word here (changed d time before (record { signal = i; value = word 1 0 })) (48 ∷ 115 ∷ decimal i) 10
      (fixed (48 ∷ 115 ∷ decimal i) (let p = led_plain 115 i refl ok.known in p.parts) (omega arith)) refl
      (λ p. ap (λ (o : Option ℕ). begins d time before p (said_by_short (48 ∷ 115 ∷ decimal i) o)) (index_read i ok.known) ∙ said_short i 0 p ok)
  short_leads i (suc zero) h ok =
      one_word here (changed d time before (record { signal = i; value = word 1 1 })) (49 ∷ 115 ∷ decimal i) 10
      (fixed (49 ∷ 115 ∷ decimal i) (let p = led_plain 115 i refl ok.known in p.parts) (omega arith)) refl
      (λ p. ap (λ (o : Option ℕ). begins d time before p (said_by_short (49 ∷ 115 ∷ decimal i) o)) (index_read i ok.known) ∙ said_short i 1 p ok)
  short_leads i (suc (suc k)) h ok = absurd (omega (arith, h))

  -- the long form
  long_leads : (i : ℕ) (v : Word) → IsChange d.signals (record { signal = i; value = v })
      → Leads here (((98 ∷ bit_digits v.width v.value) ++ 32 ∷ []) ++ ((115 ∷ decimal i) ++ 10 ∷ [])) (changed d time before (record { signal = i; value = v }))
  long_leads i v ok =
      let w = ok.value in
      two_words here (changed d time before (record { signal = i; value = v })) (λ p. at (reading.change_code time before p (Some v)) d) (98 ∷ bit_digits v.width v.value) (115 ∷ decimal i) 32 10
      (fixed (98 ∷ bit_digits v.width v.value) (bits_plain v.width v.value) (omega arith)) (led_plain 115 i refl ok.known) refl refl
      (λ p. ap (λ (x : Said). begins d time before p x)
      (cond-true (are_bits (bit_digits v.width v.value)) (said.Bits (value_of (bit_digits v.width v.value))) said.Other (bits_read v.width v.value w.positive)
      ∙ ap (λ (o : Option Word). said.Bits o) (value_read v.width v.value w.at_most w.fits)))
      (λ first p. ap (λ (o : Option ℕ). closes d time before first (Some v) p o) (index_read i ok.known)
      ∙ ap (λ (f : Result Change ℕ). says f first (changed d time before)) (taken d.signals i v ok))

  one_bit : (w v : ℕ) → w ≡ 1 → v < 2 ^ w → (v < 2) × (v / 2 ^ 0 % 2 ≡ v)
  one_bit w v e h = let f : v < 2 = subst (λ (n : ℕ). v < 2 ^ n) e h in (f, omega (arith, f))

  short_line : (c : Change) → (c.value.width == 1) ≡ true → c.value.value / 2 ^ 0 % 2 ≡ c.value.value → ((48 + c.value.value) ∷ 115 ∷ decimal c.signal) ++ 10 ∷ [] ≡ change_line c
  unfolding value_text code_line
  short_line c e b =
      ap (λ (v : ℕ). ((48 + v) ∷ 115 ∷ decimal c.signal) ++ 10 ∷ []) (sym b)
      ∙ sym (ap (λ (t : List ℕ). t ++ (codes "s" ++ decimal c.signal ++ codes "\n")) (cond-true (c.value.width == 1) (bit_digits 1 c.value.value) (codes "b" ++ bit_digits c.value.width c.value.value ++ codes " ") e))

  long_line : (c : Change) → (c.value.width == 1) ≡ false → ((98 ∷ bit_digits c.value.width c.value.value) ++ 32 ∷ []) ++ ((115 ∷ decimal c.signal) ++ 10 ∷ []) ≡ change_line c
  unfolding value_text code_line
  long_line c e =
      sym (ap (λ (t : List ℕ). t ++ (codes "s" ++ decimal c.signal ++ codes "\n")) (cond-false (c.value.width == 1) (bit_digits 1 c.value.value) (codes "b" ++ bit_digits c.value.width c.value.value ++ codes " ") e))

  change_leads : (c : Change) → IsChange d.signals c → Leads here (change_line c) (changed d time before c)
  change_leads c ok = go (c.value.width == 1) refl
    where
      go : (t : Bool) → (c.value.width == 1) ≡ t → Leads here (change_line c) (changed d time before c)
      go true e =
          let w = eqb-true c.value.width 1 e in
          let v = ok.value in
          let b = one_bit c.value.width c.value.value w v.fits in
          let same : record { signal = c.signal; value = word 1 c.value.value } ≡ c = ap (λ (n : ℕ). record { signal = c.signal; value = word n c.value.value }) (sym w) in
          subst (λ (x : Change). Leads here (change_line c) (changed d time before x)) same
          (same_part here (changed d time before (record { signal = c.signal; value = word 1 c.value.value })) (((48 + c.value.value) ∷ 115 ∷ decimal c.signal) ++ 10 ∷ []) (change_line c) (short_line c e b.1)
          (short_leads c.signal c.value.value b.0 (subst (IsChange d.signals) (sym same) ok)))
      go false e =
          same_part here (changed d time before c) (((98 ∷ bit_digits c.value.width c.value.value) ++ 32 ∷ []) ++ ((115 ∷ decimal c.signal) ++ 10 ∷ [])) (change_line c) (long_line c e)
          (long_leads c.signal c.value ok)

changes_lead : (d : Dump) (time : ℕ) (before cs : List Change) → All (IsChange d.signals) cs
    → Leads (at (reading.change time before) d) (change_lines cs) (at (reading.change time (before ++ cs)) d)
changes_lead d time before [] ok =
    subst (λ (all : List Change). Leads (at (reading.change time before) d) [] (at (reading.change time all) d)) (sym (append-nil before)) (nothing (at (reading.change time before) d))
changes_lead d time before (c ∷ cs) ok =
    subst (λ (all : List Change). Leads (at (reading.change time before) d) (change_lines (c ∷ cs)) (at (reading.change time all) d)) (append_assoc before (c ∷ []) cs)
    (both (at (reading.change time before) d) (at (reading.change time (before ++ c ∷ [])) d) (at (reading.change time ((before ++ c ∷ []) ++ cs)) d) (change_line c) (change_lines cs) (change_leads d time before c (All-head (IsChange d.signals) c cs ok)) (changes_lead d time (before ++ c ∷ []) cs (All-tail (IsChange d.signals) c cs ok)))

-- ---- the times

first_leads : (d : Dump) (t : ℕ) → t < 2 ^ 64 → Leads (at reading.first_time d) (time_line t) (at (reading.change t []) d)
unfolding time_line
first_leads d t h =
    one_word (at reading.first_time d) (at (reading.change t []) d) (35 ∷ decimal t) 10 (led_plain 35 t refl h) refl
    (λ p. ap (λ (o : Option ℕ). says (or_wrong o) p (λ t. at (reading.change t []) d)) (number_read t h))

later_leads : (d : Dump) (time t : ℕ) (cs : List Change) → time < t → t < 2 ^ 64
    → Leads (at (reading.change time cs) d) (time_line t) (at (reading.change t []) (with_moment d time cs))
unfolding time_line
later_leads d time t cs more h =
    one_word (at (reading.change time cs) d) (at (reading.change t []) (with_moment d time cs)) (35 ∷ decimal t) 10 (led_plain 35 t refl h) refl
    (λ p. ap (goes_on d time cs (record { place = p; bytes = 35 ∷ decimal t })) (number_read t h)
    ∙ cond-true (nat_lt time t) (Ok (at (reading.change t []) (with_moment d time cs))) (Err (record { rule = 4; place = p })) (lt-ltb time t more))

moments_lead : (d : Dump) (time : ℕ) (cs : List Change) (ms : List Moment) → RisesAfter time ms → All (λ m. All (IsChange d.signals) m.changes) ms → (front : List ℕ) (end : Place)
    → walk (Ok (at (reading.change time cs) d)) (words_from front [] (moment_lines ms)) end ≡ Ok (record d { moments = d.moments ++ record { at = time; changes = cs } ∷ ms })
moments_lead d time cs [] rises ok front end = refl
moments_lead d time cs (m ∷ ms) rises ok front end =
    both (at (reading.change time cs) d) (at (reading.change m.at []) (with_moment d time cs)) (at (reading.change m.at m.changes) (with_moment d time cs)) (time_line m.at) (change_lines m.changes)
    (later_leads d time m.at cs rises.0 rises.1) (changes_lead (with_moment d time cs) m.at [] m.changes (All-head (λ (m : Moment). All (IsChange d.signals) m.changes) m ms ok)) front (moment_lines ms) end
    ∙ moments_lead (with_moment d time cs) m.at m.changes ms rises.2 (All-tail (λ (m : Moment). All (IsChange d.signals) m.changes) m ms ok) (front ++ (time_line m.at ++ change_lines m.changes)) end
    ∙ ap (λ (all : List Moment). Ok (record d { moments = all })) (append_assoc d.moments (record { at = time; changes = cs } ∷ []) (m ∷ ms))

all_moments : (name : List ℕ) (ss : List Signal) (ms : List Moment) → Rises ms → All (λ m. All (IsChange ss) m.changes) ms → (front : List ℕ) (end : Place)
    → walk (Ok (at reading.first_time (record { «module» = name; signals = ss; moments = [] }))) (words_from front [] (moment_lines ms)) end ≡ Ok (record { «module» = name; signals = ss; moments = ms })
all_moments name ss [] rises ok front end = refl
all_moments name ss (m ∷ ms) rises ok front end =
    both (at reading.first_time (record { «module» = name; signals = ss; moments = [] })) (at (reading.change m.at []) (record { «module» = name; signals = ss; moments = [] })) (at (reading.change m.at m.changes) (record { «module» = name; signals = ss; moments = [] })) (time_line m.at) (change_lines m.changes)
    (first_leads (record { «module» = name; signals = ss; moments = [] }) m.at rises.0) (changes_lead (record { «module» = name; signals = ss; moments = [] }) m.at [] m.changes (All-head (λ (m : Moment). All (IsChange ss) m.changes) m ms ok)) front (moment_lines ms) end
    ∙ moments_lead (record { «module» = name; signals = ss; moments = [] }) m.at m.changes ms rises.1 (All-tail (λ (m : Moment). All (IsChange ss) m.changes) m ms ok) (front ++ (time_line m.at ++ change_lines m.changes)) end

-- ---- the complete text

pub text_is_read : (d : Dump) → FitsForm d → verdict (dump_text d) ≡ Ok d
text_is_read d fits =
    both begin (at reading.module_name (named [])) (at reading.declaration (named d.module)) head_words (name_line d.module) head_leads (name_leads d.module fits.named)
    [] (signal_lines 0 d.signals ++ (end_lines ++ moment_lines d.moments)) (place_after (dump_text d))
    ∙ signals_lead d.module [] d.signals 0 refl (let few = fits.few in omega (arith, few)) fits.signals (head_words ++ name_line d.module) (end_lines ++ moment_lines d.moments) (place_after (dump_text d))
    ∙ end_leads (record { «module» = d.module; signals = d.signals; moments = [] }) ((head_words ++ name_line d.module) ++ signal_lines 0 d.signals) (moment_lines d.moments) (place_after (dump_text d))
    ∙ all_moments d.module d.signals d.moments fits.rises fits.changes (((head_words ++ name_line d.module) ++ signal_lines 0 d.signals) ++ end_lines) (place_after (dump_text d))

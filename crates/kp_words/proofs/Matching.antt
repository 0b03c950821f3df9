-- The command of words that are matched, and of words that are rejected before.
use Rattle.std.proofs.Common.{◌≡◌, ◌∙◌, ◌⊎◌, ℕ, Bool, cond, true, false, refl, sym, ap, subst, List, [], ◌∷◌, length, ◌&&◌, ◌==◌, Option, Some, None, inl, inr, true≢false, codes, ⊎_elim, arith}
use Rattle.std.proofs.lemmas.{Bool.or_cases, Bool.or_parts, Bool.eqb-true, Bool.le-ltb, Slice.Eq.bytes_eq-Decides}
use Rattle.std.specs.{Prelude.nat_lt, Prelude.nat_le, Prelude.option_and_then, Str.bytes_eq, List.list_any}
use Rattle.kp_bits.specs.Literals.{number_of, number_within, numeral_value}
use Rattle.kp_command_line.{specs.Words.Matched, specs.Words.Text, specs.Words.begins_with_dash, specs.Words.has_flag, specs.Words.matched_first, specs.Words.matched_in, specs.Words.most_after, proofs.Parses.named_or, proofs.Parses.no_flag}
use Rattle.kp_words.specs.declared.commands.Command.TheVariants.{OnJob, Assemble, Read, Watch, Compare, Debug, Generate}
use Rattle.kp_words.specs.declared.commands.JobCommand.TheVariants.{Seq, Check, Sim, Vcd, Timing, Pipe}
use Rattle.kp_words.specs.Commands.{is_barred, at_most, command_of, count_of, seed_of, counted_command, plain_command, seeded_command}
use Rattle.kp_words.specs.inner.Matching.{command_matched, names}

-- a name after which this many words may follow
record IsName (most : ℕ) (name : Text) : Type 0 where
  known : most_after names name ≡ Some most
  fine : is_barred name ≡ false

-- a name is that of a command without number arguments, or of none
plain_named : (name : Text) → (plain_command name ≡ None) ⊎ IsName 0 name
plain_named name =
    named_or (IsName 0) name (codes "check") (OnJob Check) _ (record { known = refl; fine = refl })
    (named_or (IsName 0) name (codes "pipe") (OnJob Pipe) _ (record { known = refl; fine = refl })
    (named_or (IsName 0) name (codes "asm") Assemble _ (record { known = refl; fine = refl })
    (named_or (IsName 0) name (codes "read") Read _ (record { known = refl; fine = refl })
    (named_or (IsName 0) name (codes "equiv") Compare _ (record { known = refl; fine = refl })
    (named_or (IsName 0) name (codes "debug") Debug _ (record { known = refl; fine = refl }) (inl refl))))))

-- or of one with a count
counted_named : (name : Text) (count : Option ℕ) → (option_and_then (counted_command name) count ≡ None) ⊎ IsName 1 name
counted_named name None = inl refl
counted_named name (Some count) =
    named_or (IsName 1) name (codes "seq") (OnJob (Seq count)) _ (record { known = refl; fine = refl })
    (named_or (IsName 1) name (codes "sim") (OnJob (Sim count)) _ (record { known = refl; fine = refl })
    (named_or (IsName 1) name (codes "vcd") (OnJob (Vcd count)) _ (record { known = refl; fine = refl })
    (named_or (IsName 1) name (codes "timing") (OnJob (Timing count)) _ (record { known = refl; fine = refl })
    (named_or (IsName 1) name (codes "watch") (Watch count) _ (record { known = refl; fine = refl }) (inl refl)))))

-- or of the one with a seed and a count
seeded_named : (name : Text) (seed count : Option ℕ) → (seeded_command name seed count ≡ None) ⊎ IsName 2 name
seeded_named name None count = inl refl
seeded_named name (Some seed) None = inl refl
seeded_named name (Some seed) (Some count) = named_or (IsName 2) name (codes "gen") (Generate seed count) _ (record { known = refl; fine = refl }) (inl refl)

-- words are no command, or begin with a name after which this many words may follow
command_named : (name : Text) (rest : List Text) → (command_of (name ∷ rest) ≡ None) ⊎ IsName (length rest) name
command_named name [] = plain_named name
command_named name (count ∷ []) = counted_named name (count_of count)
command_named name (seed ∷ count ∷ []) = seeded_named name (seed_of seed) (count_of count)
command_named name (first ∷ second ∷ third ∷ rest) = inl refl

-- the command of what is matched is that of the words
pub matched : (words : List Text) → option_and_then command_matched (matched_in names 0 words) ≡ command_of words
matched [] = refl
matched (name ∷ rest) = go (command_named name rest)
  where
    none_by : (few : Bool) (m : Matched) → command_matched m ≡ None → option_and_then command_matched (cond few None (Some m)) ≡ None
    none_by true m h = refl
    none_by false m h = h

    unnamed : (most : Option ℕ) → command_of (name ∷ rest) ≡ None → option_and_then command_matched (matched_first most 0 name rest) ≡ None
    unnamed None h = none_by (nat_lt 0 (length (name ∷ rest))) (record { name = None; rest = name ∷ rest }) refl
    unnamed (Some most) h = none_by (nat_lt most (length rest)) (record { name = Some name; rest = rest }) h

    go : (command_of (name ∷ rest) ≡ None) ⊎ IsName (length rest) name → option_and_then command_matched (matched_in names 0 (name ∷ rest)) ≡ command_of (name ∷ rest)
    go (inl none) = unnamed (most_after names name) none ∙ sym none
    go (inr is) =
        ap (λ (most : Option ℕ). option_and_then command_matched (matched_first most 0 name rest)) is.known
        ∙ ap (λ (b : Bool). option_and_then command_matched (cond b None (Some (record { name = Some name; rest = rest })))) (le-ltb (length rest) (length rest) (omega arith))

-- ---- the arguments that are rejected

pub free : (words : List Text) → list_any is_barred words ≡ false → has_flag words ≡ false
free [] h = refl
free (word ∷ words) h =
    let both = or_parts (is_barred word) (list_any is_barred words) h in
    rw (no_flag word (or_parts (begins_with_dash word) (bytes_eq word (codes "help")) both.0).0) (free words both.1)

-- a barred argument is no name
not_name : (most : ℕ) (name : Text) (P : Type 0) → is_barred name ≡ true → P ⊎ IsName most name → P
not_name most name P h named = ⊎_elim (λ none. none) (λ is. absurd (true≢false (sym h ∙ is.fine))) named

never_and : (b : Bool) (number : Option ℕ) → cond (b && false) number None ≡ None
never_and true number = refl
never_and false number = refl

dash_number : (cs : List ℕ) → number_of (45 ∷ cs) ≡ None
dash_number cs = never_and (nat_lt 0 (length (45 ∷ cs))) (number_within (numeral_value 10 (45 ∷ cs)))

no_seed : (word : Text) → number_of word ≡ None → seed_of word ≡ None
unfolding seed_of
no_seed word h = go (nat_le (length word) 20)
  where
    go : (short : Bool) → cond short (number_of word) None ≡ None
    go true = h
    go false = refl

-- an argument that does not begin with a digit is no number
seed_barred : (word : Text) → is_barred word ≡ true → seed_of word ≡ None
seed_barred [] h = absurd (true≢false (sym h))
seed_barred (c ∷ cs) h = go (c == 45) (bytes_eq (c ∷ cs) (codes "help")) refl refl
  where
    go : (dash help : Bool) → (c == 45) ≡ dash → bytes_eq (c ∷ cs) (codes "help") ≡ help → seed_of (c ∷ cs) ≡ None
    go true help e f = subst (λ b. seed_of (b ∷ cs) ≡ None) (sym (eqb-true c 45 e)) (no_seed (45 ∷ cs) (dash_number cs))
    go false true e f = subst (λ word. seed_of word ≡ None) (sym ((bytes_eq-Decides (c ∷ cs) (codes "help")).0 f)) (no_seed (codes "help") refl)
    go false false e f = let none : is_barred (c ∷ cs) ≡ false = rw (e, f) refl in absurd (true≢false (sym h ∙ none))

count_barred : (word : Text) → is_barred word ≡ true → count_of word ≡ None
unfolding count_of
count_barred word h = ap (option_and_then (at_most 100000)) (seed_barred word h)

-- a seed with no count is no command
no_count : (name : Text) (seed : Option ℕ) → seeded_command name seed None ≡ None
no_count name None = refl
no_count name (Some number) = refl

barred_last : (word : Text) → list_any is_barred (word ∷ []) ≡ true → is_barred word ≡ true
barred_last word h = ⊎_elim (λ e. e) (λ e. absurd (true≢false (sym e))) (or_cases (is_barred word) false h)

-- a barred argument leaves no command
pub barred_none : (words : List Text) → list_any is_barred words ≡ true → command_of words ≡ None
barred_none [] h = refl
barred_none (name ∷ []) h = not_name 0 name _ (barred_last name h) (plain_named name)
barred_none (name ∷ word ∷ []) h =
    ⊎_elim (λ e. not_name 1 name _ e (counted_named name (count_of word))) (λ r. ap (option_and_then (counted_command name)) (count_barred word (barred_last word r)))
    (or_cases (is_barred name) (list_any is_barred (word ∷ [])) h)
barred_none (name ∷ word ∷ second ∷ []) h =
    ⊎_elim (λ e. not_name 2 name _ e (seeded_named name (seed_of word) (count_of second)))
    (λ r. ⊎_elim (λ f. ap (λ seed. seeded_command name seed (count_of second)) (seed_barred word f))
    (λ q. ap (seeded_command name (seed_of word)) (count_barred second (barred_last second q)) ∙ no_count name (seed_of word))
    (or_cases (is_barred word) (list_any is_barred (second ∷ [])) r))
    (or_cases (is_barred name) (list_any is_barred (word ∷ second ∷ [])) h)
barred_none (name ∷ word ∷ second ∷ third ∷ words) h = refl

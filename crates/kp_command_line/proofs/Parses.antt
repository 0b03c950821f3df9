-- What `clap` finds and refuses for words none of which is a flag.
use Rattle.std.proofs.Common.{◌≡◌, ◌∙◌, ◌⊎◌, ℕ, ◌+◌, zero, suc, Bool, cond, true, false, refl, sym, ap, ap₂, subst, List, [], ◌∷◌, ◌++◌, map, fold, ◌&&◌, ◌||◌, ◌==◌, Option, Some, None, is_some, inl, inr, codes, append-nil, append_assoc, arith, true≢false}
use Rattle.std.proofs.lemmas.{List.map-append, Bool.le-ltb, Bool.lt-ltb, Bool.ne_eqb, Bool.or_parts, Slice.Eq.bytes_eq-Decides}
use Rattle.std.specs.{Prelude.⊤, Prelude.Box, Prelude.find, Prelude.length, Prelude.nat_lt, Prelude.option_and_then, Prelude.option_map, Prelude.slice_get, Box.box_value, List.list_all, List.list_any, Str.bytes_eq, Option.option_map_or}
use Rattle.clap.specs.Walk.{Held, Names, Row, Rule, Step, Walk, idle, positional, value, answers_to, arg_by_index, subcommand_met, word_met, walked, walk, walk_from, nothing_held, to_positional, after_step, subcommand_or_other, settled, finished}
use Rattle.clap.specs.Lexer.{long_of, long_of_rest, short_of, short_of_rest, strip_byte}
use Rattle.clap.specs.Simple.{App, Shape, built, built_leaf, entered, filled_from, has_simple_rules, is_ready, is_ready_leaf, is_simple, is_simple_leaf, new_shape, rows_at, inherited, label_of, subcommand_of, with_rule, with_subcommand, subcommand_rows}
use Rattle.clap.specs.{Kinds.Kinds, Kinds.or_else, Kinds.range_kinds, Kinds.values_kinds, declared.parser.matches.SubCommand.SubCommand, declared.parser.matches.ArgMatches.TheViews.out-SubCommand}
use Rattle.clap.specs.Faults.{fault_of, has_free_rules, is_simple_and_free, built_fault, level_fault, turn_fault, step_fault, walk_fault, word_fault, defaults_fault, settle_fault, check_fault, entered_fault, other_fault}
use Rattle.clap.specs.declared.builder.value_parser.ValueParser.TheVariants as parsers
use Rattle.clap.specs.declared.error.kind.ErrorKind.TheVariants as kind
use Rattle.clap.proofs.{WalkLemmas.walk_stopped, FaultLemmas.leaf_fault, FaultLemmas.stopped_fault}
use Rattle.kp_command_line.specs.Words.{Name, Text, begins_with_dash, file_in, has_flag, is_flag, source_in, matched_as, matched_first, matched_in, most_after}
use Rattle.kp_command_line.specs.{inner.Programs.named_by, inner.Programs.program_of, inner.Programs.program_shape, inner.Programs.rules_for, inner.Programs.shape_for, inner.Programs.with_words, inner.Programs.words_rule}

-- ---- a word that is no flag

pub no_flag : (word : Text) → begins_with_dash word ≡ false → is_flag word ≡ false
no_flag [] h = refl
no_flag (c ∷ []) h = refl
no_flag (c ∷ next ∷ cs) h = h

no_dashes : (word : Text) → is_flag word ≡ false → bytes_eq word (45 ∷ 45 ∷ []) ≡ false
no_dashes [] h = refl
no_dashes (c ∷ []) h = go (c == 45)
  where
    go : (dash : Bool) → (dash && false) ≡ false
    go true = refl
    go false = refl
no_dashes (c ∷ next ∷ cs) h = rw h refl

no_long : (word : Text) → is_flag word ≡ false → long_of word ≡ None
no_long [] h = refl
no_long (c ∷ []) h = go (c == 45)
  where
    go : (dash : Bool) → option_and_then long_of_rest (option_and_then (strip_byte 45) (cond dash (Some []) None)) ≡ None
    go true = refl
    go false = refl
no_long (c ∷ next ∷ cs) h = rw h refl

no_short : (word : Text) → is_flag word ≡ false → short_of word ≡ None
no_short [] h = refl
no_short (c ∷ []) h = go (c == 45)
  where
    go : (dash : Bool) → option_and_then short_of_rest (cond dash (Some []) None) ≡ None
    go true = refl
    go false = refl
no_short (c ∷ next ∷ cs) h = rw h refl

abbrev AreFree : List Text → Type 0
AreFree words = has_flag words ≡ false

first_word : (word : Text) (words : List Text) → AreFree (word ∷ words) → (is_flag word ≡ false) × AreFree words
first_word word words h = or_parts (is_flag word) (has_flag words) h

-- a test of the texts of words
pub any_text : {X : Type 0} (text : X → Text) (test : Text → Bool) (words : List X) → list_any (λ word. test (text word)) words ≡ list_any test (map text words)
any_text text test [] = refl
any_text text test (word ∷ words) = ap (λ (b : Bool). test (text word) || b) (any_text text test words)

-- Of a list of names, each with what it yields: a name yields nothing, or has what each name of the list has.
pub named_or : {C : Type 0} (P : Text → Type 0) (name text : Text) (c : C) (rest : Option C) → P text → (rest ≡ None) ⊎ P name
    → (cond (bytes_eq name text) (Some c) rest ≡ None) ⊎ P name
named_or P name text c rest is others = go (bytes_eq name text) refl
  where
    go : (same : Bool) → bytes_eq name text ≡ same → (cond same (Some c) rest ≡ None) ⊎ P name
    go true e = inr (subst P (sym ((bytes_eq-Decides name text).0 e)) is)
    go false e = others

-- the first word names no subcommand
abbrev IsNoName : Names → List Text → Type 0
IsNoName names [] = ⊤
IsNoName names (word ∷ words) = subcommand_met names idle word ≡ None

-- ---- what is refused

-- something is, or nothing
abbrev Fits : Bool → Kinds → Type 0
Fits false kinds = kinds ≡ []
Fits true [] = ⊥
Fits true (k ∷ ks) = ⊤

refused_first : (a b : Kinds) → Fits true a → Fits true (or_else a b)
refused_first [] b h = absurd h
refused_first (k ∷ ks) b h = tt

or_else_nothing : (k : Kinds) → or_else k [] ≡ k
or_else_nothing [] = refl
or_else_nothing (k ∷ ks) = refl

fits : (b : Bool) (kinds : Kinds) → Fits b kinds → kinds ≡ [] → b ≡ false
fits false kinds h none = refl
fits true [] h none = absurd h
fits true (k ∷ ks) h none = absurd (subst (Fits true) none tt)

fails : (b : Bool) (kinds : Kinds) → Fits b kinds → (kinds ≡ [] → ⊥) → b ≡ true
fails false kinds h some = absurd (some h)
fails true kinds h some = refl

-- ---- a command that is built, with at most this many words

abbrev taking : Text → Bool → ℕ → Shape
taking name is_leaf most = record (program_shape name most is_leaf) { rules = filled_from 1 (rules_for most); is_built = true }

-- the argument takes several words
positive : (n : ℕ) → (0 == suc n) ≡ false
positive n = ne_eqb 0 (suc n) (λ e. omega (arith, e))

-- the walk after some words
abbrev after_words : List Text → Walk
after_words words = record {
  held = record { rows = []; pending = Some (codes "words", words); skip = 0 };
  waiting = positional;
  position = 1;
  is_trailing = false;
  stopped = None;
}

module _ (name : Text) (is_leaf : Bool) (names : Names) (n : ℕ) where
  abbrev s : Shape
  s = taking name is_leaf (suc n)

  -- the first word
  module _ (w : Text) (flag : is_flag w ≡ false) (none : subcommand_met names idle w ≡ None) where
    first_met : word_met s.rules names false idle 1 w nothing_held ≡ (nothing_held, value)
    first_met = rw (none, no_dashes w flag, no_long w flag, no_short w flag) refl

    first_walked : walked s.rules names (walk_from nothing_held) w ≡ after_words (w ∷ [])
    unfolding walked
    first_walked =
        let goes : to_positional s.rules (arg_by_index s.rules 1) w (walk_from nothing_held) nothing_held ≡ after_words (w ∷ []) = rw (positive n) refl in
        ap (λ (met : Held × Step). after_step s.rules w (walk_from nothing_held) met.0 met.1) first_met ∙ goes

    first_fault : word_fault s names false idle w nothing_held ≡ []
    first_fault = rw (none, no_dashes w flag, no_long w flag, no_short w flag) refl

    first_turn : turn_fault s names (walk_from nothing_held) w ≡ []
    first_turn = ap₂ (λ (first : Kinds) (met : Held × Step). or_else first (step_fault s 1 met.0 met.1)) first_fault first_met

  -- one word more
  module _ (words : List Text) (w : Text) (flag : is_flag w ≡ false) where
    next_met : word_met s.rules names false positional 1 w (after_words words).held ≡ ((after_words words).held, value)
    next_met = rw (no_dashes w flag, no_long w flag, no_short w flag) refl

    next_walked : walked s.rules names (after_words words) w ≡ after_words (words ++ w ∷ [])
    unfolding walked
    next_walked =
        let goes : to_positional s.rules (arg_by_index s.rules 1) w (after_words words) (after_words words).held ≡ after_words (words ++ w ∷ []) = rw (positive n) refl in
        ap (λ (met : Held × Step). after_step s.rules w (after_words words) met.0 met.1) next_met ∙ goes

    next_fault : word_fault s names false positional w (after_words words).held ≡ []
    next_fault = rw (no_dashes w flag, no_long w flag, no_short w flag) refl

    next_turn : turn_fault s names (after_words words) w ≡ []
    next_turn =
        let goes : step_fault s 1 (after_words words).held value ≡ [] = rw (positive n) refl in
        ap₂ (λ (first : Kinds) (met : Held × Step). or_else first (step_fault s 1 met.0 met.1)) next_fault next_met ∙ goes

  more_walked : (words more : List Text) → AreFree more → fold (walked s.rules names) (after_words words) more ≡ after_words (words ++ more)
  more_walked words [] h = ap after_words (sym (append-nil words))
  more_walked words (w ∷ more) h =
      let first = first_word w more h in
      ap (λ v. fold (walked s.rules names) v more) (next_walked words w first.0)
      ∙ more_walked (words ++ w ∷ []) more first.1
      ∙ ap after_words (append_assoc words (w ∷ []) more)

  more_faults : (words more : List Text) → AreFree more → walk_fault s names (after_words words) more ≡ []
  unfolding walk_fault
  more_faults words [] h = refl
  more_faults words (w ∷ more) h =
      let first = first_word w more h in
      ap₂ or_else (next_turn words w first.0) (ap (λ v. walk_fault s names v more) (next_walked words w first.0) ∙ more_faults (words ++ w ∷ []) more first.1)

  module _ (w : Text) (more : List Text) (free : AreFree (w ∷ more)) (none : subcommand_met names idle w ≡ None) where
    all_walked : walk s.rules names nothing_held (w ∷ more) ≡ after_words (w ∷ more)
    all_walked =
        let first = first_word w more free in
        ap (λ v. fold (walked s.rules names) v more) (first_walked w first.0 none) ∙ more_walked (w ∷ []) more first.1

    all_faults : walk_fault s names (walk_from nothing_held) (w ∷ more) ≡ []
    unfolding walk_fault
    all_faults =
        let first = first_word w more free in
        ap₂ or_else (first_turn w first.0 none) (ap (λ v. walk_fault s names v more) (first_walked w first.0 none) ∙ more_faults (w ∷ []) more first.1)

abbrev too_many : ℕ → List Text → Kinds
too_many most words = cond (nat_lt most (length words)) (kind.TooManyValues ∷ []) []

some_follow : (w : Text) (more : List Text) → nat_lt 0 (length (w ∷ more)) ≡ true
some_follow w more = lt-ltb 0 (length (w ∷ more)) (omega arith)

range_is : (n count : ℕ) → range_kinds 0 (suc n) count ≡ cond (nat_lt (suc n) count) (kind.TooManyValues ∷ []) []
range_is n count = rw (positive n, le-ltb count 0 (omega arith)) refl

strings_pass : (words : List Text) → values_kinds false parsers.String words ≡ []
strings_pass [] = refl
strings_pass (word ∷ words) = strings_pass words

settled_words : (n : ℕ) (w : Text) (more : List Text) → settle_fault (filled_from 1 (rules_for (suc n))) false (after_words (w ∷ more)).held ≡ too_many (suc n) (w ∷ more)
settled_words n w more = ap₂ or_else (range_is n (length (w ∷ more))) (strings_pass (w ∷ more)) ∙ or_else_nothing (too_many (suc n) (w ∷ more))

many_fit : (b : Bool) → Fits b (cond b (kind.TooManyValues ∷ []) [])
many_fit true = tt
many_fit false = refl

-- ---- words without a name

module _ (name : Text) (is_leaf : Bool) (leaves : List Shape) where
  abbrev own : ℕ → App
  own most = record { top = taking name is_leaf most; subs = leaves }

  abbrev labels : Names
  labels = map label_of leaves

  -- the rest of a parse, after its walk
  abbrev after_walk : ℕ → Kinds → Walk → Kinds
  after_walk most first w =
      let top = taking name is_leaf most in
      or_else first (or_else (entered_fault (own most) w.stopped) (or_else (settle_fault top.rules false w.held)
      (or_else (defaults_fault (settled top.rules w.held).rows top.rules) (check_fault top (finished top.rules w.held) (is_some (entered (own most) w.stopped))))))

  stray_refused : (w : Text) (more : List Text) (next : Kinds) → is_flag w ≡ false → subcommand_met labels idle w ≡ None
      → Fits true (or_else (walk_fault (taking name is_leaf 0) labels (walk_from nothing_held) (w ∷ more)) next)
  unfolding walk_fault
  stray_refused w more next flag none =
      let turn : Fits true (turn_fault (taking name is_leaf 0) labels (walk_from nothing_held) w) = rw (none, no_dashes w flag, no_long w flag, no_short w flag) (stray is_leaf) in
      refused_first _ _ (refused_first _ _ turn)
    where
      stray : (leaf : Bool) → Fits true (cond leaf (kind.UnknownArgument ∷ []) (kind.UnknownArgument ∷ kind.InvalidSubcommand ∷ []))
      stray true = tt
      stray false = tt

  own_fits : (most : ℕ) (words : List Text) → AreFree words → IsNoName labels words → Fits (nat_lt most (length words)) (built_fault (own most) nothing_held words)
  unfolding walk_fault defaults_fault
  own_fits zero [] free none = refl
  own_fits zero (w ∷ more) free none =
      subst (λ (b : Bool). Fits b (built_fault (own 0) nothing_held (w ∷ more))) (sym (some_follow w more)) (stray_refused w more _ (first_word w more free).0 none)
  own_fits (suc n) [] free none =
      subst (λ (b : Bool). Fits b (built_fault (own (suc n)) nothing_held [])) (sym (le-ltb (suc n) 0 (omega arith))) (refl {a = []})
  own_fits (suc n) (w ∷ more) free none =
      subst (Fits (nat_lt (suc n) (length (w ∷ more))))
      (sym (ap₂ (after_walk (suc n)) (all_faults name is_leaf labels n w more free none) (all_walked name is_leaf labels n w more free none)
      ∙ ap₂ or_else (settled_words n w more) (refl {a = []}) ∙ or_else_nothing (too_many (suc n) (w ∷ more))))
      (many_fit (nat_lt (suc n) (length (w ∷ more))))

  -- and no subcommand is entered, unless something is refused
  own_enters : (most : ℕ) (words : List Text) → AreFree words → IsNoName labels words → nat_lt most (length words) ≡ false
      → entered (own most) (walk (filled_from 1 (rules_for most)) labels nothing_held words).stopped ≡ None
  own_enters most [] free none few = refl
  own_enters zero (w ∷ more) free none few = absurd (true≢false (sym (some_follow w more) ∙ few))
  own_enters (suc n) (w ∷ more) free none few = ap (λ (v : Walk). entered (own (suc n)) v.stopped) (all_walked name is_leaf labels n w more free none)

  -- ---- words with a name

  no_defaults : (most : ℕ) → defaults_fault [] (filled_from 1 (rules_for most)) ≡ []
  unfolding defaults_fault
  no_defaults zero = refl
  no_defaults (suc n) = refl

  no_check : (most : ℕ) (rows : List Row) → check_fault (taking name is_leaf most) rows true ≡ []
  no_check zero rows = refl
  no_check (suc n) rows = refl

  never : (b : Bool) (ks : Kinds) → cond (b && false) ks [] ≡ []
  never true ks = refl
  never false ks = refl

  module _ (most : ℕ) (word : Text) (after : ℕ) (rest : List Text) (met : subcommand_met labels idle word ≡ Some word)
      (entry : find (λ s. answers_to word (label_of s)) leaves ≡ Some (taking word true after)) where
    abbrev t : Shape
    t = taking name is_leaf most

    -- the walk stops at the name
    name_walked : walked t.rules labels (walk_from nothing_held) word ≡ record (walk_from nothing_held) { stopped = Some (word, []) }
    unfolding walked
    name_walked = ap (λ (m : Option Text). let p = subcommand_or_other t.rules m idle 1 word nothing_held in after_step t.rules word (walk_from nothing_held) p.0 p.1) met

    name_stops : walk t.rules labels nothing_held (word ∷ rest) ≡ record (walk_from nothing_held) { stopped = Some (word, rest) }
    name_stops = ap (λ w. fold (walked t.rules labels) w rest) name_walked ∙ sym (walk_stopped t.rules labels (walk_from nothing_held) word [] rest)

    name_passes : turn_fault t labels (walk_from nothing_held) word ≡ []
    name_passes =
        ap (λ (m : Option Text). let p = subcommand_or_other t.rules m idle 1 word nothing_held in or_else (other_fault t m word nothing_held) (step_fault t 1 p.0 p.1)) met
        ∙ ap (λ k. or_else k []) (never (bytes_eq word (codes "help")) _)

    walk_passes : walk_fault t labels (walk_from nothing_held) (word ∷ rest) ≡ []
    unfolding walk_fault
    walk_passes = ap₂ or_else name_passes (ap (λ w. walk_fault t labels w rest) name_walked ∙ stopped_fault t labels (walk_from nothing_held) (word, []) rest)

    known_refused : built_fault (own most) nothing_held (word ∷ rest) ≡ level_fault (taking word true after) [] nothing_held rest false []
    known_refused =
        ap₂ (after_walk most) walk_passes name_stops
        ∙ ap (λ (e : Option Shape). or_else (option_map_or (λ s. level_fault s [] nothing_held rest false []) e []) (or_else (defaults_fault [] t.rules)
        (check_fault t (finished t.rules nothing_held) (is_some (option_map (λ s. rows_at s rest) e))))) entry
        ∙ ap (or_else (level_fault (taking word true after) [] nothing_held rest false [])) (ap₂ or_else (no_defaults most) (no_check most (finished t.rules nothing_held)))
        ∙ or_else_nothing _

    known_entered : option_map (λ p. p.0) (entered (own most) (walk t.rules labels nothing_held (word ∷ rest)).stopped) ≡ Some word
    known_entered = ap (λ (w : Walk). option_map (λ p. p.0) (entered (own most) w.stopped)) name_stops ∙ ap (λ e. option_map (λ p. p.0) (option_map (λ s. rows_at s rest) e)) entry

-- the words after a name
rest_fits : (word : Text) (after : ℕ) (rest : List Text) → AreFree rest → Fits (nat_lt after (length rest)) (level_fault (taking word true after) [] nothing_held rest false [])
rest_fits word after rest free =
    subst (Fits (nat_lt after (length rest))) (leaf_fault (own word true [] after) nothing_held rest refl) (own_fits word true [] after rest free (no_names rest))
  where
    no_names : (words : List Text) → IsNoName [] words
    no_names [] = tt
    no_names (w ∷ words) = refl

-- ---- the program

module _ (program : Text) (most : ℕ) where
  abbrev entry_shape : Shape
  entry_shape = program_shape program most false

  abbrev leaves_of : List Name → List Shape
  leaves_of names = map built_leaf (map (inherited entry_shape) (map shape_for names))

  abbrev entry_of : List Name → Text → Option Shape
  entry_of names word = find (λ s. answers_to word (label_of s)) (leaves_of names)

  abbrev met_of : List Name → Text → Option Text
  met_of names word = subcommand_met (map label_of (leaves_of names)) idle word

  abbrev IsUnknown : List Name → Text → Type 0
  IsUnknown names word = (most_after names word ≡ None) × (met_of names word ≡ None)

  abbrev IsKnown : List Name → Text → Type 0
  IsKnown names word =
      (after : ℕ) × (most_after names word ≡ Some after) × (met_of names word ≡ Some word) × (entry_of names word ≡ Some (taking word true after))

  -- a word names a subcommand or none
  known : (names : List Name) (word : Text) → IsUnknown names word ⊎ IsKnown names word
  known [] word = inl (refl, refl)
  known (s ∷ names) word = go (bytes_eq s.0 word) refl (known names word)
    where
      go : (same : Bool) → bytes_eq s.0 word ≡ same → IsUnknown names word ⊎ IsKnown names word
          → IsUnknown (s ∷ names) word ⊎ IsKnown (s ∷ names) word
      go false e (inl (none, met)) = inl (rw e none, rw e met)
      go false e (inr (after, some, met, entry)) = inr (after, rw e some, rw e met, rw e entry)
      go true e rest =
          let is : s.0 ≡ word = (bytes_eq-Decides s.0 word).0 e in
          let some : most_after (s ∷ names) word ≡ Some s.1 = rw e refl in
          let met : met_of (s ∷ names) word ≡ Some s.0 = rw e refl in
          let entry : entry_of (s ∷ names) word ≡ Some (taking s.0 true s.1) = rw e refl in
          inr (s.1, some, met ∙ ap Some is, entry ∙ ap (λ n. Some (taking n true s.1)) is)

  module _ (names : List Name) where
    abbrev app : Bool → App
    app is_leaf = record { top = program_shape program most is_leaf; subs = map shape_for names }

    fault_is : (is_leaf : Bool) (words : List Text) → fault_of (app is_leaf) words ≡ built_fault (own program is_leaf (leaves_of names) most) nothing_held words
    fault_is true words = refl
    fault_is false words = refl

    abbrev stop : List Text → Option (Text × List Text)
    stop words = (walk (filled_from 1 (rules_for most)) (map label_of (leaves_of names)) nothing_held words).stopped

    found_is : (is_leaf : Bool) (words : List Text) → subcommand_of (app is_leaf) words ≡ entered (own program is_leaf (leaves_of names) most) (stop words)
    found_is true words = refl
    found_is false words = refl

    abbrev name_of : Bool → List Text → Option Text
    name_of is_leaf words = option_map (λ p. p.0) (subcommand_of (app is_leaf) words)

    fits_as : (name : Option Text) (after : ℕ) (rest : List Text) → nat_lt after (length rest) ≡ false → Some (record { name = name; rest = rest }) ≡ matched_as name after rest
    fits_as name after rest few = sym (ap (λ b. cond b None (Some (record { name = name; rest = rest }))) few)

    fails_as : (name : Option Text) (after : ℕ) (rest : List Text) → nat_lt after (length rest) ≡ true → matched_as name after rest ≡ None
    fails_as name after rest many = ap (λ b. cond b None (Some (record { name = name; rest = rest }))) many

    pub passed : (is_leaf : Bool) (words : List Text) → AreFree words → fault_of (app is_leaf) words ≡ []
        → Some (named_by (name_of is_leaf words) words) ≡ matched_in names most words
    passed is_leaf [] free none =
        ap (λ (found : Option (Text × List Row)). Some (named_by (option_map (λ p. p.0) found) [])) (found_is is_leaf []) ∙ fits_as None most [] (le-ltb most 0 (omega arith))
    passed is_leaf (word ∷ rest) free none = go (known names word)
      where
        go : IsUnknown names word ⊎ IsKnown names word → Some (named_by (name_of is_leaf (word ∷ rest)) (word ∷ rest)) ≡ matched_in names most (word ∷ rest)
        go (inl (unknown, met)) =
            let few = fits _ _ (own_fits program is_leaf (leaves_of names) most (word ∷ rest) free met) (sym (fault_is is_leaf (word ∷ rest)) ∙ none) in
            ap (λ (found : Option (Text × List Row)). Some (named_by (option_map (λ p. p.0) found) (word ∷ rest)))
            (found_is is_leaf (word ∷ rest) ∙ own_enters program is_leaf (leaves_of names) most (word ∷ rest) free met few)
            ∙ fits_as None most (word ∷ rest) few ∙ sym (ap (λ m. matched_first m most word rest) unknown)
        go (inr (after, some, met, entry)) =
            let few = fits _ _ (rest_fits word after rest (first_word word rest free).1)
            (sym (known_refused program is_leaf (leaves_of names) most word after rest met entry) ∙ sym (fault_is is_leaf (word ∷ rest)) ∙ none) in
            ap (λ (name : Option Text). Some (named_by name (word ∷ rest)))
            (ap (option_map (λ p. p.0)) (found_is is_leaf (word ∷ rest)) ∙ known_entered program is_leaf (leaves_of names) most word after rest met entry)
            ∙ fits_as (Some word) after rest few ∙ sym (ap (λ m. matched_first m most word rest) some)

    pub refused : (is_leaf : Bool) (words : List Text) → AreFree words → (fault_of (app is_leaf) words ≡ [] → ⊥) → matched_in names most words ≡ None
    refused is_leaf [] free some =
        fails_as None most [] (fails _ _ (own_fits program is_leaf (leaves_of names) most [] free tt) (λ none. some (fault_is is_leaf [] ∙ none)))
    refused is_leaf (word ∷ rest) free some = go (known names word)
      where
        go : IsUnknown names word ⊎ IsKnown names word → matched_in names most (word ∷ rest) ≡ None
        go (inl (unknown, met)) =
            ap (λ m. matched_first m most word rest) unknown ∙ fails_as None most (word ∷ rest) (fails _ _ (own_fits program is_leaf (leaves_of names) most (word ∷ rest) free met)
            (λ none. some (fault_is is_leaf (word ∷ rest) ∙ none)))
        go (inr (after, known, met, entry)) =
            ap (λ m. matched_first m most word rest) known ∙ fails_as (Some word) after rest (fails _ _ (rest_fits word after rest (first_word word rest free).1)
            (λ none. some (fault_is is_leaf (word ∷ rest) ∙ known_refused program is_leaf (leaves_of names) most word after rest met entry ∙ none)))

    -- ---- the clauses of `clap` hold of the program

    and_both : (a b : Bool) → a ≡ true → b ≡ true → (a && b) ≡ true
    and_both a b h k = ap₂ (λ (x y : Bool). x && y) h k

    simple_leaf : (name : Text) (after : ℕ) → is_simple_leaf (with_words after (new_shape name)) ≡ true
    simple_leaf name zero = refl
    simple_leaf name (suc n) = refl

    simple_top : (is_leaf : Bool) (n : ℕ) → has_simple_rules (program_shape program n is_leaf) ≡ true
    simple_top is_leaf zero = refl
    simple_top is_leaf (suc n) = refl

    ready : (name : Text) (is_leaf : Bool) (after : ℕ) → is_ready (taking name is_leaf after) ≡ true
    ready name is_leaf zero = refl
    ready name is_leaf (suc n) = rw (positive n) refl

    free : (name : Text) (is_leaf : Bool) (after : ℕ) → has_free_rules (taking name is_leaf after) ≡ true
    free name is_leaf zero = refl
    free name is_leaf (suc n) = refl

    each_simple : (xs : List Name) → list_all is_simple_leaf (map shape_for xs) ≡ true
    each_simple [] = refl
    each_simple (x ∷ xs) = and_both _ _ (simple_leaf x.0 x.1) (each_simple xs)

    each_ready : (xs : List Name) → list_all is_ready_leaf (leaves_of xs) ≡ true
    each_ready [] = refl
    each_ready (x ∷ xs) = and_both _ _ (ready x.0 true x.1) (each_ready xs)

    each_free : (xs : List Name) → list_all has_free_rules (leaves_of xs) ≡ true
    each_free [] = refl
    each_free (x ∷ xs) = and_both _ _ (free x.0 true x.1) (each_free xs)

    pub simple : (is_leaf : Bool) → is_simple (app is_leaf) ≡ true
    simple true = and_both _ _ (and_both _ _ (simple_top true most) (each_simple names)) (and_both _ _ (ready program true most) (each_ready names))
    simple false = and_both _ _ (and_both _ _ (simple_top false most) (each_simple names)) (and_both _ _ (ready program false most) (each_ready names))

    pub simple_and_free : (is_leaf : Bool) → is_simple_and_free (app is_leaf) ≡ true
    simple_and_free true = and_both _ _ (simple true) (and_both _ _ (free program true most) (each_free names))
    simple_and_free false = and_both _ _ (simple false) (and_both _ _ (free program false most) (each_free names))

-- ---- what is given, step by step

pub ruled : (a : App) (most : ℕ) → a.top.rules ≡ [] → (most ≡ 0 → ⊥) → with_rule a (words_rule most) ≡ record a { top = with_words most a.top }
ruled a zero none some = absurd (some refl)
ruled a (suc n) none some = ap (λ (rules : List Rule). record a { top = record a.top { rules = rules ++ words_rule (suc n) ∷ [] } }) none

pub added : (program : Text) (most i : ℕ) (xs ys : List Name) (x : Name) (old new : App) → new ≡ with_subcommand old (shape_for x)
    → old ≡ program_of program most (i == 0) xs → ys ≡ xs ++ x ∷ [] → new ≡ program_of program most (i + 1 == 0) ys
added program most i xs ys x old new step is more =
    step ∙ ap (λ (a : App). with_subcommand a (shape_for x)) is
    ∙ ap₂ (λ (leaf : Bool) (subs : List Shape). record { top = program_shape program most leaf; subs = subs }) (sym (ne_eqb (i + 1) 0 (λ e. omega (arith, e))))
    (sym (ap (map shape_for) more ∙ map-append shape_for xs (x ∷ [])))

-- ---- at most one word, which names an input

pub flagged : (words : List Text) → has_flag words ≡ true → None ≡ file_in words
flagged [] h = absurd (true≢false (sym h))
flagged (name ∷ []) h = go (is_flag name) h
  where
    go : (flag : Bool) → (flag || false) ≡ true → None ≡ cond flag None (Some (source_in (Some name)))
    go true h = refl
    go false h = absurd (true≢false (sym h))
flagged (name ∷ other ∷ rest) h = refl

pub filed : (words : List Text) → AreFree words → option_map (λ m. source_in (slice_get m.rest 0)) (matched_in [] 1 words) ≡ file_in words
filed [] free = refl
filed (name ∷ []) free = rw ((first_word name [] free).0) refl
filed (name ∷ other ∷ rest) free = rw (lt-ltb 1 (length (name ∷ other ∷ rest)) (omega arith)) refl

-- what `subcommand_name` returns is the name that the parse found
module _ {Z : Type 0} where
  pub name_read : (found : Option (Box SubCommand Z)) → option_map (λ b. (out-SubCommand (box_value b)).name.now) found ≡ option_map (λ p. p.0) (subcommand_rows found)
  name_read None = refl
  name_read (Some b) = refl

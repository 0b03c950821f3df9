-- What the sections build leaves what was built before them as it is.
use Rattle.std.proofs.Common.{◌≡◌, ◌∙◌, ℕ, List, [], ◌∷◌, ◌++◌, Bool, true, false, cond, Option, Some, None, Ok, refl, ap, sym, subst}
use Rattle.kp_grammar.specs.{Grammar.Terminal, Grammar.Nonterminal, Grammar.Action, Grammar.IsSentence, Tables.pick}
use Rattle.kp_grammar.specs.Machine.{Outcome, Accepts, Leads, look, accept, goes, take, make}
use Rattle.kp_ast.specs.declared.tree.{Num.Num, Lit.Lit, Image.Image, Stalls.Stalls, Inputs.Inputs, Job.Job}
use Rattle.kp_lex.specs.{Text.HasOutcome, declared.token.Lexed.Lexed}
use Rattle.kp_parse_grammar.specs.Language.{Sym, State, Value, perhaps_number, literals, image, images, stall, stalls, perhaps_stalls, input, inputs, perhaps_inputs, job, at, JOB, WORDS, WORD, NUMBERED, LITS, STALLS, SPANS, SPAN, STEP, INPUTS, ENTRIES, ENTRY, rules, language, values_read, values_built}
use Rattle.kp_parse_grammar.specs.{Tokens.Lexeme, Tokens.lexemes, Follow.tables}
use Rattle.kp_described.specs.Computed.{Reading, front_reading}
use Rattle.kp_described.specs.Sections.{IsWith, HasSections, parts_of, at_image, at_stalls, at_end, IsHead}
use Rattle.kp_described.proofs.Reading.{Led, goes_on}

-- What a name of the sections builds, on top of the values that there are: the fact is then true of the values.
data Builds (k : List Value → Type 0) : ℕ → List Value → Type 0 where
  of_words : {xs : List Image} {vs : List Value} → ((xs : List Image) → k (images xs ∷ vs)) → Builds k WORDS (images xs ∷ vs)
  of_word : {vs : List Value} → ((x : Image) → k (image x ∷ vs)) → Builds k WORD vs
  of_numbered : {vs : List Value} → ((x : Option Num) → k (perhaps_number x ∷ vs)) → Builds k NUMBERED vs
  of_lits : {xs : List Lit} {vs : List Value} → ((xs : List Lit) → k (literals xs ∷ vs)) → Builds k LITS (literals xs ∷ vs)
  of_stalls : {vs : List Value} → ((x : Option (List Stalls)) → k (perhaps_stalls x ∷ vs)) → Builds k STALLS vs
  of_spans : {xs : List Stalls} {vs : List Value} → ((xs : List Stalls) → k (stalls xs ∷ vs)) → Builds k SPANS (stalls xs ∷ vs)
  of_span : {vs : List Value} → ((x : Stalls) → k (stall x ∷ vs)) → Builds k SPAN vs
  of_step : {vs : List Value} → ((x : Option Num) → k (perhaps_number x ∷ vs)) → Builds k STEP vs
  of_inputs : {vs : List Value} → ((x : Option (List Inputs)) → k (perhaps_inputs x ∷ vs)) → Builds k INPUTS vs
  of_entries : {xs : List Inputs} {vs : List Value} → ((xs : List Inputs) → k (inputs xs ∷ vs)) → Builds k ENTRIES (inputs xs ∷ vs)
  of_entry : {vs : List Value} → ((x : Inputs) → k (input x ∷ vs)) → Builds k ENTRY vs

-- The fact is true of the values after these symbols, whatever tokens they read.
abbrev After : List Sym → (List Value → Type 0) → List Value → Type 0
After [] k vs = k vs
After (Terminal c way ∷ s) k vs = (t : Lexeme) → After s k (values_read way t vs)
After (Nonterminal n ∷ s) k vs = Builds (After s k) n vs
After (Action a ∷ s) k vs = After s k (values_built a vs)

parted : (b s : List Sym) (k : List Value → Type 0) → After (b ++ s) k ≡ After b (After s k)
parted [] s k = refl
parted (Terminal c way ∷ b) s k = λ i vs. (t : Lexeme) → parted b s k i (values_read way t vs)
parted (Nonterminal n ∷ b) s k = λ i vs. Builds (parted b s k i) n vs
parted (Action a ∷ b) s k = λ i vs. parted b s k i (values_built a vs)

one : (P : List Sym → Type 0) {x y : List Sym} → Some x ≡ Some y → P x → P y
one P {x} {y} e h = let same : x ≡ y = cc e in subst P same h

two : (P : List Sym → Type 0) (b : Bool) {x y z : List Sym} → cond b (Some x) (Some y) ≡ Some z → P x → P y → P z
two P true e h k = one P e h
two P false e h k = one P e k

-- each alternative builds what its name does
body_builds : {k : List Value → Type 0} {n : ℕ} {vs : List Value} (c : ℕ) (body : List Sym) → Builds k n vs → pick rules tables n c ≡ Some body → After body k vs
body_builds {k} {vs = vs} c body (of_words {xs = xs} f) p = two (λ b. After b k vs) _ p (of_word (λ x. of_words f)) (f xs)
body_builds {k} {vs = vs} c body (of_word f) p = one (λ b. After b k vs) p (λ n. of_numbered (λ a t l. of_lits (λ ls t. f _)))
body_builds {k} {vs = vs} c body (of_numbered f) p = two (λ b. After b k vs) _ p (λ t n u. f (Some _)) (f None)
body_builds {k} {vs = vs} c body (of_lits {xs = xs} f) p = two (λ b. After b k vs) _ p (λ t l. of_lits f) (f xs)
body_builds {k} {vs = vs} c body (of_stalls f) p = two (λ b. After b k vs) _ p (λ t u. of_spans (λ xs w. f (Some xs))) (f None)
body_builds {k} {vs = vs} c body (of_spans {xs = xs} f) p = two (λ b. After b k vs) _ p (of_span (λ x. of_spans f)) (f xs)
body_builds {k} {vs = vs} c body (of_span f) p = one (λ b. After b k vs) p (λ s t a u b. of_step (λ x w. f _))
body_builds {k} {vs = vs} c body (of_step f) p = two (λ b. After b k vs) _ p (λ t n. f (Some _)) (f None)
body_builds {k} {vs = vs} c body (of_inputs f) p = two (λ b. After b k vs) _ p (λ t u. of_entries (λ xs w. f (Some xs))) (f None)
body_builds {k} {vs = vs} c body (of_entries {xs = xs} f) p = two (λ b. After b k vs) _ p (of_entry (λ x. of_entries f)) (f xs)
body_builds {k} {vs = vs} c body (of_entry f) p = one (λ b. After b k vs) p (λ n t l u a w b. of_step (λ x z. f _))

true_of : (k : List Value → Type 0) {s : List Sym} {v w : State} {ts : List Lexeme} {o : Outcome State} → Led s v ts o → o ≡ Accepts w → After s k v.values → k w.values
true_of k {v = v} {w = w} accept is h = let same : v ≡ w = cc is in subst (λ (v : State). k v.values) same h
true_of k {v = v} {ts = ts} (goes {n = n} {s = s} body p l) is h =
    true_of k l is (subst (λ (f : List Value → Type 0). f v.values) (sym (parted body s k)) (body_builds (look language ts) body h p))
true_of k (take {x = x} e f l) is h = true_of k l is (h x)
true_of k (make l) is h = true_of k l is h
true_of k l is h = absurd (cc is)

-- the job that is built has the parts of this one
abbrev Built : Job → List Value → Type 0
Built base vs = (j : Job) × (vs ≡ job j ∷ []) × HasSections base j

same_job : (base i j : Job) → job i ∷ [] ≡ job j ∷ [] → HasSections base j → HasSections base i
same_job base i j e h = let same : i ≡ j = cc e in subst (HasSections base) (sym same) h

ended : (base j : Job) (text : List ℕ) (lexed : Lexed) → HasOutcome text (Ok lexed) → IsSentence language JOB (at [] []) (lexemes text lexed.tokens) (at [] (job j ∷ [])) → (r : Reading) → front_reading text ≡ Some r
    → After r.symbols (Built base) r.state.values → HasSections base j
ended base j text lexed outcome tree r e h =
    let b = true_of (Built base) (goes_on text lexed j outcome tree r e).leads refl h in
    same_job base j b.0 b.1 b.2

pub described : (head : List ℕ) (base : Job) → IsHead head base → (text : List ℕ) → IsWith head text → (lexed : Lexed) (j : Job) → HasOutcome text (Ok lexed) → IsSentence language JOB (at [] []) (lexemes text lexed.tokens) (at [] (job j ∷ []))
    → HasSections base j
described head base is _ (IsWith.with_image rest) lexed j outcome tree =
    ended base j _ lexed outcome tree (at_image base) (is.image rest) (λ t. of_words (λ xs u. of_stalls (λ st. of_inputs (λ ins w. (_, refl, (Some xs, st, ins, refl))))))
described head base is _ (IsWith.with_stalls rest) lexed j outcome tree =
    ended base j _ lexed outcome tree (at_stalls base) (is.stalls rest) (λ t. of_spans (λ xs u. of_inputs (λ ins w. (_, refl, (None, Some xs, ins, refl)))))
described head base is _ (IsWith.with_end rest) lexed j outcome tree =
    ended base j _ lexed outcome tree (at_end base) (is.ends rest) (_, refl, (None, None, None, refl))

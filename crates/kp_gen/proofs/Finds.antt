-- The first answer to a question about the items of a generated job: its declarations, and the statements of stage 0.
use Rattle.std.proofs.Common.{◌≡◌, ◌∙◌, ℕ, ◌+◌, ◌<◌, ◌≤◌, List, [], ◌∷◌, ◌++◌, length, Option, None, Some, Bool, true, false, refl, ap, arith, append_assoc}
use Rattle.kp_base.specs.{First.first, Check.answer}
use Rattle.kp_ast.specs.declared.tree.{Decl.Decl, Stmt.Stmt}
use Rattle.kp_gen.specs.declared.draws.Route.{Route}
use Rattle.kp_gen.specs.Generated.{result_of, file_read, address_put, value_put, for_each, first_stmts, all_decls}
use Rattle.kp_gen.proofs.Forms.{register, pipe, read, put, file, pipe_AF, pipe_VF, file_result}

-- each choice, from that with the first number on
abbrev pub AllFrom : (ℕ → Route → Type 0) → ℕ → List Route → Type 0
AllFrom P i [] = Unit {0}
AllFrom P i (r ∷ rs) = P i r × AllFrom P (i + 1) rs

pub all_both : (P Q : ℕ → Route → Type 0) (i : ℕ) (rs : List Route) → AllFrom P i rs → AllFrom Q i rs → AllFrom (λ i r. P i r × Q i r) i rs
all_both P Q i [] p q = tt
all_both P Q i (r ∷ rs) p q = ((p.0, q.0), all_both P Q (i + 1) rs p.1 q.1)

abbrev pub Any : ℕ → Route → Type 0
Any i r = Unit {0}

pub all_any : (i : ℕ) (rs : List Route) → AllFrom Any i rs
all_any i [] = tt
all_any i (r ∷ rs) = (tt, all_any (i + 1) rs)

pub past : {X : Type 0} (a : Option X) (more : List (Option X)) → a ≡ None → first (a ∷ more) ≡ first more
past None more e = refl
past (Some r) more e = cc

pub holding : {F : Type 0} (b : Bool) (r : F) → b ≡ true → answer b r ≡ None
holding true r e = refl
holding false r e = cc

pub at_some : {X : Type 0} (a : Option X) (more : List (Option X)) (x : X) → a ≡ Some x → first (a ∷ more) ≡ Some x
at_some None more x e = cc
at_some (Some y) more x e = e

-- nothing matches after it
pub no_more : {X : Type 0} (a : Option X) (more : List (Option X)) → first more ≡ None → first (a ∷ more) ≡ a
no_more None more e = e
no_more (Some x) more e = refl

-- the look-up of a name in the entry with a number, and its results from a number on
module _ {D X : Type 0} (ask : List ℕ → ℕ → D → Option X) (asks : List ℕ → ℕ → List D → List (Option X))
    (step : (q : List ℕ) (i : ℕ) (d : D) (ds : List D) → asks q i (d ∷ ds) ≡ ask q i d ∷ asks q (i + 1) ds) where
  pub past_one : (q : List ℕ) (i : ℕ) (d : D) (ds : List D) → ask q i d ≡ None → first (asks q i (d ∷ ds)) ≡ first (asks q (i + 1) ds)
  past_one q i d ds none = ap first (step q i d ds) ∙ past (ask q i d) (asks q (i + 1) ds) none

  pub here_one : (q : List ℕ) (i : ℕ) (d : D) (ds : List D) (x : X) → ask q i d ≡ Some x → first (asks q i (d ∷ ds)) ≡ Some x
  here_one q i d ds x there = ap first (step q i d ds) ∙ at_some (ask q i d) (asks q (i + 1) ds) x there

  pub past_each : (Fine : ℕ → Route → Type 0) (q : List ℕ) (make : ℕ → Route → D) (m base j : ℕ) (rs : List Route) (rest : List D) → AllFrom Fine j rs → j + length rs ≡ m
      → ((i : ℕ) (r : Route) → i < m → Fine i r → ask q (base + i) (make i r) ≡ None)
      → first (asks q (base + j) (for_each make j rs ++ rest)) ≡ first (asks q (base + m) rest)
  past_each Fine q make m base j [] rest all e none = let i : j ≡ m = omega (arith, e) in ap (λ k. first (asks q (base + k) rest)) i
  past_each Fine q make m base j (r ∷ rs) rest all e none =
      let i : (base + j) + 1 ≡ base + (j + 1) = omega arith in
      past_one q (base + j) (make j r) (for_each make (j + 1) rs ++ rest) (none j r (omega arith) all.0)
      ∙ ap (λ k. first (asks q k (for_each make (j + 1) rs ++ rest))) i
      ∙ past_each Fine q make m base (j + 1) rs rest all.1 (omega arith) none

  -- each entry has a name of its own, and matches it
  module _ (name : ℕ → List ℕ) (make : ℕ → Route → D) (value : ℕ → Route → X) (m base : ℕ)
      (own : (i : ℕ) (r : Route) → i < m → ask (name i) (base + i) (make i r) ≡ Some (value i r))
      (others : (x i j : ℕ) (r : Route) → j < i → i < m → ask (name i) x (make j r) ≡ None) where
    pub each_found : (fact : List ℕ → Option X) (j : ℕ) (rs : List Route) (rest : List D) → j + length rs ≡ m
        → ((i : ℕ) → j ≤ i → i < m → fact (name i) ≡ first (asks (name i) (base + j) (for_each make j rs ++ rest)))
        → AllFrom (λ i r. fact (name i) ≡ Some (value i r)) j rs
    each_found fact j [] rest e from = tt
    each_found fact j (r ∷ rs) rest e from =
        let k : (base + j) + 1 ≡ base + (j + 1) = omega arith in (
          from j (omega arith) (omega arith) ∙ here_one (name j) (base + j) (make j r) (for_each make (j + 1) rs ++ rest) (value j r) (own j r (omega arith)),
          each_found fact (j + 1) rs rest (omega arith) (λ i h l.
              from i (omega arith) l ∙ past_one (name i) (base + j) (make j r) (for_each make (j + 1) rs ++ rest) (others (base + j) i j r (omega arith) l)
              ∙ ap (λ x. first (asks (name i) x (for_each make (j + 1) rs ++ rest))) k),
        )

-- no declaration before the results is an answer
pub record Skips {X : Type 0} (ask : List ℕ → ℕ → Decl → Option X) (Fine : ℕ → Route → Type 0) (m : ℕ) (q : List ℕ) : Type 0 where
  pub registers : (i : ℕ) (r : Route) → i < m → Fine i r → ask q (0 + i) (register i r) ≡ None
  pub file_skipped : ask q (0 + m) file ≡ None
  pub pipes : (i : ℕ) (r : Route) → i < m → Fine i r → ask q ((m + 1) + i) (pipe i r) ≡ None
  pub address : ask q ((m + 1) + m) pipe_AF ≡ None
  pub value : ask q (((m + 1) + m) + 1) pipe_VF ≡ None

module _ {X : Type 0} (ask : List ℕ → ℕ → Decl → Option X) (asks : List ℕ → ℕ → List Decl → List (Option X))
    (step : (q : List ℕ) (i : ℕ) (d : Decl) (ds : List Decl) → asks q i (d ∷ ds) ≡ ask q i d ∷ asks q (i + 1) ds)
    (Fine : ℕ → Route → Type 0) (n : ℕ) (rs : List Route) (all : AllFrom Fine 0 rs) where
  abbrev m : ℕ
  m = length rs

  abbrev results : List Decl
  results = for_each result_of 0 rs ++ file_result n ∷ []

  pub to_results : (q : List ℕ) → Skips ask Fine m q → first (asks q 0 (all_decls n rs)) ≡ first (asks q ((m + m + 3) + 0) results)
  to_results q h =
      let middle : List Decl = pipe_AF ∷ pipe_VF ∷ for_each result_of 0 rs in
      let front : List Decl = file ∷ for_each pipe 0 rs in
      let pipes : List Decl = for_each pipe 0 rs ++ (pipe_AF ∷ pipe_VF ∷ results) in
      let same = append_assoc (for_each register 0 rs ++ front) middle (file_result n ∷ []) ∙ append_assoc (for_each register 0 rs) front (middle ++ file_result n ∷ []) in
      let i : (0 + m) + 1 ≡ (m + 1) + 0 = omega arith in
      let k : (((m + 1) + m) + 1) + 1 ≡ (m + m + 3) + 0 = omega arith in
      ap (λ ds. first (asks q 0 ds)) same
      ∙ past_each ask asks step Fine q register m 0 0 rs (file ∷ pipes) all (omega arith) h.registers
      ∙ past_one ask asks step q (0 + m) file pipes h.file_skipped
      ∙ ap (λ x. first (asks q x pipes)) i
      ∙ past_each ask asks step Fine q pipe m (m + 1) 0 rs (pipe_AF ∷ pipe_VF ∷ results) all (omega arith) h.pipes
      ∙ past_one ask asks step q ((m + 1) + m) pipe_AF (pipe_VF ∷ results) h.address
      ∙ past_one ask asks step q (((m + 1) + m) + 1) pipe_VF results h.value
      ∙ ap (λ x. first (asks q x results)) k

  -- nor are the results of registers
  pub to_last : (q : List ℕ) → Skips ask Fine m q → ((i : ℕ) (r : Route) → i < m → Fine i r → ask q ((m + m + 3) + i) (result_of i r) ≡ None)
      → first (asks q 0 (all_decls n rs)) ≡ first (asks q ((m + m + 3) + m) (file_result n ∷ []))
  to_last q h none = to_results q h ∙ past_each ask asks step Fine q result_of m (m + m + 3) 0 rs (file_result n ∷ []) all (omega arith) none

module _ {X : Type 0} (ask : List ℕ → ℕ → Stmt → Option X) (asks : List ℕ → ℕ → List Stmt → List (Option X))
    (step : (q : List ℕ) (i : ℕ) (s : Stmt) (ss : List Stmt) → asks q i (s ∷ ss) ≡ ask q i s ∷ asks q (i + 1) ss)
    (Fine : ℕ → Route → Type 0) (rs : List Route) (all : AllFrom Fine 0 rs) (q : List ℕ)
    (reads : (i : ℕ) (r : Route) → i < length rs → Fine i r → ask q (0 + i) (read i r) ≡ None) (file_skipped : ask q (0 + length rs) file_read ≡ None) where
  abbrev size : ℕ
  size = length rs

  abbrev last : List Stmt
  last = address_put ∷ value_put ∷ []

  -- no read in stage 0 is an answer
  pub to_puts : first (asks q 0 (first_stmts rs)) ≡ first (asks q ((size + 1) + 0) (for_each (put size) 0 rs ++ last))
  to_puts =
      let puts : List Stmt = for_each (put size) 0 rs ++ last in
      let i : (0 + size) + 1 ≡ (size + 1) + 0 = omega arith in
      ap (λ ss. first (asks q 0 ss)) (append_assoc (for_each read 0 rs) (file_read ∷ for_each (put size) 0 rs) last)
      ∙ past_each ask asks step Fine q read size 0 0 rs (file_read ∷ puts) all (omega arith) reads
      ∙ past_one ask asks step q (0 + size) file_read puts file_skipped
      ∙ ap (λ x. first (asks q x puts)) i

  -- nor are the puts of registers
  pub to_last_puts : ((i : ℕ) (r : Route) → i < size → Fine i r → ask q ((size + 1) + i) (put size i r) ≡ None) → first (asks q 0 (first_stmts rs)) ≡ first (asks q ((size + 1) + size) last)
  to_last_puts none = to_puts ∙ past_each ask asks step Fine q (put size) size (size + 1) 0 rs last all (omega arith) none

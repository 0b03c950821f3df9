-- An expression's checked value, if it has one, is its value.
use Rattle.std.proofs.Common.{◌≡◌, ◌∙◌, ℕ, Bool, true, false, cond, List, [], ◌∷◌, map, fold, Option, Some, None, Ok, Err, refl, ap, sym}
use Rattle.std.{proofs.lemmas.Option.same_Some, proofs.lemmas.Option.cond_some, specs.Option.option_map, specs.Option.option_and_then, specs.Option.unwrap_or}
use Rattle.std.specs.Result.{result_ok}
use Rattle.kp_bits.specs.Word.{Word, not_of, mux_of, concat_of, slice_of, zext_of, sext_of}
use Rattle.kp_bits.specs.Operators.{no_word, joined_of, binary_of}
use Rattle.kp_bits.specs.Checked.{where_so, checked_join, checked_joined, checked_binary, checked_mux, checked_slice, checked_zext, checked_sext}
use Rattle.kp_bits.specs.declared.literal.LiteralFault.TheVariants.{TooBig, BadWidth}
use Rattle.kp_ast.specs.declared.tree.{Decl.Decl, Expr.Expr}
use Rattle.kp_ast.specs.Expressions.{Env, Calls, no_calls, eval, is_function, Values, look_up, names_of, arguments_of, value_of_decl, calls_after, calls_of}
use Rattle.kp_ast.specs.Checked.{Known, checked, all_there, checked_call, checked_calls_after, checked_calls_of}
use Rattle.kp_ast.proofs.Levels.{fold-Lit, fold-Name, fold-Not, fold-Binary, fold-Mux, fold-Concat, fold-Slice, fold-Zext, fold-Sext, fold-Call}
use Rattle.kp_ast.proofs.Induction.{Every, induction}
use Rattle.kp_ast.specs.declared.tree.Decl.TheVariants as decls

-- w is what is found in o, if anything is
abbrev pub Agrees : {X : Type 0} → Option X → X → Type 0
Agrees {X} o w = (v : X) → o ≡ Some v → w ≡ v

so : (test : Bool) (w : Word) → Agrees (where_so test w) w
so test w v e = (cond_some test w v e).1

under : {X : Type 0} (test : Bool) (o : Option X) (v : X) → cond test o None ≡ Some v → o ≡ Some v
under true o v e = e
under false o v e = cc

by_map : (f : Word → Word) (o : Option Word) (w : Word) → Agrees o w → Agrees (option_map f o) (f w)
by_map f None w h v e = cc
by_map f (Some x) w h v e = ap f (h x refl) ∙ same_Some _ _ e

by_then : {X : Type 0} (f : X → Option Word) (g : X → Word) (o : Option X) (w : X) → Agrees o w → ((x : X) → Agrees (f x) (g x)) → Agrees (option_and_then f o) (g w)
by_then f g None w h more v e = cc
by_then f g (Some x) w h more v e = ap g (h x refl) ∙ more x v e

by_two : (f : Word → Word → Option Word) (g : Word → Word → Word) (o p : Option Word) (w u : Word) → Agrees o w → Agrees p u → ((x y : Word) → Agrees (f x y) (g x y)) → Agrees (option_and_then (λ x. option_and_then (f x) p) o) (g w u)
by_two f g o p w u h k more = by_then (λ x. option_and_then (f x) p) (λ x. g x u) o w h (λ x. by_then (f x) (g x) p u k (more x))

by_cons : (o : Option Word) (os : Option (List Word)) (w : Word) (ws : List Word) → Agrees o w → Agrees os ws → Agrees (option_and_then (λ x. option_map (λ xs. x ∷ xs) os) o) (w ∷ ws)
by_cons None os w ws h hs v e = cc
by_cons (Some x) None w ws h hs v e = cc
by_cons (Some x) (Some xs) w ws h hs v e = let one = h x refl in let others = hs xs refl in cc

fits : (a b : Bool) (w : Word) → Agrees (result_ok (cond a (cond b (Ok w) (Err TooBig)) (Err BadWidth))) w
fits true true w v e = same_Some _ _ e
fits true false w v e = cc
fits false b w v e = cc

join : (a : Word) (rest : List Word) → Agrees (checked_join a rest) (fold concat_of a rest)
join a [] v e = same_Some _ _ e
join a (b ∷ rest) v e = join (concat_of a b) rest v (under _ _ v e)

joined : (all : List Word) → Agrees (checked_joined all) (joined_of all)
joined [] v e = cc
joined (a ∷ rest) v e = join a rest v e

module _ (known : Known) (env : Env) (names : (q : List ℕ) → Agrees (known.names q) (env.names q)) (calls : (q : List ℕ) (args : List Word) → Agrees (known.calls q args) (env.calls q args)) where
  abbrev found : Expr → Option Word
  found = checked known

  abbrev value : Expr → Word
  value = eval env

  abbrev Holds : Expr → Type 0
  Holds e = Agrees (found e) (value e)

  parts : (es : List Expr) → Every Holds es → Agrees (all_there (map found es)) (map value es)
  parts [] h v e = same_Some _ _ e
  parts (x ∷ es) h v e = by_cons (found x) (all_there (map found es)) (value x) (map value es) h.0 (parts es h.1) v e

  pub agree : (e : Expr) → Holds e
  agree = induction Holds (record {
    literal = λ p l v e. fold-Lit _ _ _ _ p l ∙ fits _ _ _ v (sym (fold-Lit _ _ _ _ p l) ∙ e);
    name = λ p q v e. fold-Name _ _ _ _ p q ∙ names q v (sym (fold-Name _ _ _ _ p q) ∙ e);
    not_ = λ p a h v e. fold-Not _ _ _ _ p a ∙ by_map not_of (found a) (value a) h v (sym (fold-Not _ _ _ _ p a) ∙ e);
    binary = λ p op a b h k v e. fold-Binary _ _ _ _ p op a b
        ∙ by_two (checked_binary op) (binary_of op) (found a) (found b) (value a) (value b) h k (λ x y. so _ _) v (sym (fold-Binary _ _ _ _ p op a b) ∙ e);
    mux = λ p test a b t h k v e. fold-Mux _ _ _ _ p test a b
        ∙ by_then (λ x. option_and_then (λ y. option_and_then (checked_mux x y) (found b)) (found a)) (λ x. mux_of x (value a) (value b)) (found test) (value test) t
        (λ x. by_two (checked_mux x) (mux_of x) (found a) (found b) (value a) (value b) h k (λ y z. so _ _)) v (sym (fold-Mux _ _ _ _ p test a b) ∙ e);
    concat = λ p all h v e. fold-Concat _ _ _ _ p all
        ∙ by_then checked_joined joined_of (all_there (map found all)) (map value all) (parts all h) joined v (sym (fold-Concat _ _ _ _ p all) ∙ e);
    slice = λ p a hi lo h v e. fold-Slice _ _ _ _ p a hi lo
        ∙ by_then (checked_slice hi lo) (λ x. slice_of x hi lo) (found a) (value a) h (λ x. so _ _) v (sym (fold-Slice _ _ _ _ p a hi lo) ∙ e);
    zext = λ p a width h v e. fold-Zext _ _ _ _ p a width
        ∙ by_then (checked_zext width.value) (λ x. zext_of x width.value) (found a) (value a) h (λ x. so _ _) v (sym (fold-Zext _ _ _ _ p a width) ∙ e);
    sext = λ p a width h v e. fold-Sext _ _ _ _ p a width
        ∙ by_then (checked_sext width.value) (λ x. sext_of x width.value) (found a) (value a) h (λ x. so _ _) v (sym (fold-Sext _ _ _ _ p a width) ∙ e);
    call = λ p q args h v e. fold-Call _ _ _ _ p q args
        ∙ by_then (known.calls q) (env.calls q) (all_there (map found args)) (map value args) (parts args h) (calls q) v (sym (fold-Call _ _ _ _ p q args) ∙ e);
  })

named : (values : Values) (q : List ℕ) → Agrees (look_up values q) (names_of values q)
named values q v e = ap (λ o. unwrap_or o no_word) e

-- of the calls that are known and those that are meant, each found value is the value
abbrev pub CallsAgree : (List ℕ → List Word → Option Word) → Calls → Type 0
CallsAgree known calls = (q : List ℕ) (args : List Word) → Agrees (known q args) (calls q args)

body : (known : List ℕ → List Word → Option Word) (calls : Calls) → CallsAgree known calls → (d : Decl) (args : List Word) → Agrees (checked_call known d args) (value_of_decl calls d args)
body known calls h (decls.Func f) args v e =
    agree (record { names = look_up (arguments_of f.params args); calls = known }) (record { names = names_of (arguments_of f.params args); calls = calls })
    (named (arguments_of f.params args)) h f.body v (under _ _ v e)
body known calls h _ args v e = cc

either : {X : Type 0} (test : Bool) (o p : Option X) (w u : X) → Agrees o w → Agrees p u → Agrees (cond test o p) (cond test w u)
either true o p w u h k = h
either false o p w u h k = k

after : (known : List ℕ → List Word → Option Word) (calls : Calls) → CallsAgree known calls → (ds : List Decl) → CallsAgree (fold checked_calls_after known ds) (fold calls_after calls ds)
after known calls h [] = h
after known calls h (d ∷ ds) = after (checked_calls_after known d) (calls_after calls d)
    (λ q args. either (is_function q d) _ _ _ _ (body known calls h d args) (h q args)) ds

-- the calls of these declarations
pub calls_agree : (ds : List Decl) → CallsAgree (checked_calls_of ds) (calls_of ds)
calls_agree ds = after _ no_calls (λ q args v e. cc) ds

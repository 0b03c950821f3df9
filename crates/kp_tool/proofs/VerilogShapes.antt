-- The types of the values on the stack while a Verilog text is read: each step finds the values that it builds from, and a sentence builds a module.
use Rattle.std.proofs.Common.{ℕ, ◌≡◌, List, [], ◌∷◌, ◌++◌, Bool, Option, refl, ◌∙◌}
use Rattle.kp_bits.specs.declared.operator.BinOp.{BinOp}
use Rattle.kp_vlog.specs.declared.tree.{Named.Named, Num.Num, Lit.Lit, Range.Range, VPort.VPort, Right.Right, Item.Item, Init.Init, ResetValue.ResetValue}
use Rattle.kp_vlog.specs.{declared.tree.ResetList.ResetList, declared.tree.Update.Update, declared.tree.VModule.VModule, Tokens.Token}
use Rattle.kp_vlog.specs.Language.{Value, Way, Step, Sym, verilog, rules, read_token, built}
use Rattle.kp_vlog.specs.inner.Follow.{tables}
use Rattle.kp_grammar.specs.Grammar.{Terminal, Nonterminal, Action, alternatives, Has, here, there}
use Rattle.kp_grammar.specs.Machine.{Outcome, Accepts, Leads, accept, more, goes, take, make, wrong, lost, exceed}
use Rattle.kp_grammar.proofs.TableTests.{picks_rule}
use Rattle.kp_vlog.specs.Language as l

-- the kinds of values
data Ty : Type 0 where
  a_named : Ty
  a_number : Ty
  a_literal : Ty
  a_range : Ty
  a_port : Ty
  a_perhaps_named : Ty
  a_ports : Ty
  a_names : Ty
  a_right : Ty
  a_item : Ty
  a_items : Ty
  a_init : Ty
  a_inits : Ty
  a_values : Ty
  a_perhaps_reset : Ty
  a_update : Ty
  a_updates : Ty
  a_whole : Ty

data Is : Ty → Value → Type 0 where
  is_named : {x : Named} → Is a_named (l.named x)
  is_number : {x : Num} → Is a_number (l.number x)
  is_literal : {x : Lit} → Is a_literal (l.literal x)
  is_range : {x : Range} → Is a_range (l.range x)
  is_port : {x : VPort} → Is a_port (l.port x)
  is_perhaps_named : {x : Option Named} → Is a_perhaps_named (l.perhaps_named x)
  is_ports : {x : List VPort} → Is a_ports (l.ports x)
  is_names : {x : List Named} → Is a_names (l.names x)
  is_right : {x : Right} → Is a_right (l.right x)
  is_item : {x : Item} → Is a_item (l.item x)
  is_items : {x : List Item} → Is a_items (l.items x)
  is_init : {x : Init} → Is a_init (l.init x)
  is_inits : {x : List Init} → Is a_inits (l.inits x)
  is_values : {x : List ResetValue} → Is a_values (l.values x)
  is_perhaps_reset : {x : Option ResetList} → Is a_perhaps_reset (l.perhaps_reset x)
  is_update : {x : Update} → Is a_update (l.update x)
  is_updates : {x : List Update} → Is a_updates (l.updates x)
  is_whole : {x : VModule} → Is a_whole (l.whole x)

data Stack : List Ty → List Value → Type 0 where
  empty : Stack [] []
  push : {t : Ty} {ts : List Ty} {x : Value} {xs : List Value} → Is t x → Stack ts xs → Stack (t ∷ ts) (x ∷ xs)

-- what a way of reading and a step do to them
data Reads : Way → List Ty → List Ty → Type 0 where
  r_dropped : {ts : List Ty} → Reads l.dropped ts ts
  r_as_name : {ts : List Ty} → Reads l.as_name ts (a_named ∷ ts)
  r_as_number : {ts : List Ty} → Reads l.as_number ts (a_number ∷ ts)
  r_as_literal : {ts : List Ty} → Reads l.as_literal ts (a_literal ∷ ts)

data Builds : Step → List Ty → List Ty → Type 0 where
  b_make_range : {ts : List Ty} → Builds l.make_range (a_number ∷ a_number ∷ ts) (a_range ∷ ts)
  b_make_port : {ts : List Ty} → Builds l.make_port (a_named ∷ a_range ∷ ts) (a_port ∷ ts)
  b_no_reset_port : {ts : List Ty} → Builds l.no_reset_port (ts) (a_perhaps_named ∷ ts)
  b_some_reset_port : {ts : List Ty} → Builds l.some_reset_port (a_named ∷ ts) (a_perhaps_named ∷ ts)
  b_no_ports : {ts : List Ty} → Builds l.no_ports (ts) (a_ports ∷ ts)
  b_one_port : {ts : List Ty} → Builds l.one_port (a_port ∷ a_ports ∷ ts) (a_ports ∷ ts)
  b_make_literal : {ts : List Ty} → Builds l.make_literal (a_literal ∷ ts) (a_right ∷ ts)
  b_make_name : {ts : List Ty} → Builds l.make_name (a_named ∷ ts) (a_right ∷ ts)
  b_make_not : {ts : List Ty} → Builds l.make_not (a_named ∷ ts) (a_right ∷ ts)
  b_make_binary : {op : BinOp} {ts : List Ty} → Builds (l.make_binary op) (a_named ∷ a_named ∷ ts) (a_right ∷ ts)
  b_make_choice : {ts : List Ty} → Builds l.make_choice (a_named ∷ a_named ∷ a_named ∷ ts) (a_right ∷ ts)
  b_make_slice : {ts : List Ty} → Builds l.make_slice (a_number ∷ a_number ∷ a_named ∷ ts) (a_right ∷ ts)
  b_make_word : {ts : List Ty} → Builds l.make_word (a_named ∷ a_named ∷ ts) (a_right ∷ ts)
  b_two_names : {ts : List Ty} → Builds l.two_names (a_named ∷ a_named ∷ ts) (a_names ∷ ts)
  b_one_name : {ts : List Ty} → Builds l.one_name (a_named ∷ a_names ∷ ts) (a_names ∷ ts)
  b_make_concat : {ts : List Ty} → Builds l.make_concat (a_names ∷ ts) (a_right ∷ ts)
  b_make_reg : {ts : List Ty} → Builds l.make_reg (a_named ∷ a_range ∷ ts) (a_item ∷ ts)
  b_make_file : {ts : List Ty} → Builds l.make_file (a_range ∷ a_named ∷ a_range ∷ ts) (a_item ∷ ts)
  b_make_integer : {ts : List Ty} → Builds l.make_integer (a_named ∷ ts) (a_item ∷ ts)
  b_make_wire : {ts : List Ty} → Builds l.make_wire (a_named ∷ a_range ∷ ts) (a_item ∷ ts)
  b_make_assign : {ts : List Ty} → Builds l.make_assign (a_right ∷ a_named ∷ ts) (a_item ∷ ts)
  b_no_items : {ts : List Ty} → Builds l.no_items (ts) (a_items ∷ ts)
  b_one_item : {ts : List Ty} → Builds l.one_item (a_item ∷ a_items ∷ ts) (a_items ∷ ts)
  b_init_reg : {ts : List Ty} → Builds l.init_reg (a_literal ∷ a_named ∷ ts) (a_init ∷ ts)
  b_init_word : {ts : List Ty} → Builds l.init_word (a_literal ∷ a_number ∷ a_named ∷ ts) (a_init ∷ ts)
  b_init_fill : {ts : List Ty} → Builds l.init_fill (a_literal ∷ a_named ∷ a_named ∷ a_number ∷ a_named ∷ a_named ∷ a_number ∷ a_named ∷ a_number ∷ a_named ∷ ts) (a_init ∷ ts)
  b_no_inits : {ts : List Ty} → Builds l.no_inits (ts) (a_inits ∷ ts)
  b_one_init : {ts : List Ty} → Builds l.one_init (a_init ∷ a_inits ∷ ts) (a_inits ∷ ts)
  b_no_values : {ts : List Ty} → Builds l.no_values (ts) (a_values ∷ ts)
  b_one_value : {ts : List Ty} → Builds l.one_value (a_literal ∷ a_named ∷ a_values ∷ ts) (a_values ∷ ts)
  b_no_reset : {ts : List Ty} → Builds l.no_reset (ts) (a_perhaps_reset ∷ ts)
  b_some_reset : {ts : List Ty} → Builds l.some_reset (a_values ∷ a_named ∷ ts) (a_perhaps_reset ∷ ts)
  b_update_reg : {ts : List Ty} → Builds l.update_reg (a_named ∷ a_named ∷ ts) (a_update ∷ ts)
  b_update_file : {ts : List Ty} → Builds l.update_file (a_named ∷ a_named ∷ a_named ∷ a_named ∷ ts) (a_update ∷ ts)
  b_no_updates : {ts : List Ty} → Builds l.no_updates (ts) (a_updates ∷ ts)
  b_first_update : {ts : List Ty} → Builds l.first_update (a_update ∷ ts) (a_updates ∷ a_perhaps_reset ∷ ts)
  b_one_update : {ts : List Ty} → Builds l.one_update (a_update ∷ a_updates ∷ ts) (a_updates ∷ ts)
  b_make_module : {ts : List Ty} → Builds l.make_module (a_updates ∷ a_perhaps_reset ∷ a_named ∷ a_inits ∷ a_items ∷ a_port ∷ a_port ∷ a_port ∷ a_ports ∷ a_port ∷ a_perhaps_named ∷ a_named ∷ a_named ∷ ts) (a_whole ∷ ts)

read_keeps : {way : Way} {ts us : List Ty} {vs : List Value} (t : Token) → Reads way ts us → Stack ts vs → Stack us (read_token way t vs)
read_keeps t r_dropped k = k
read_keeps t r_as_name k = push is_named k
read_keeps t r_as_number k = push is_number k
read_keeps t r_as_literal k = push is_literal k

build_keeps : {a : Step} {ts us : List Ty} {vs : List Value} → Builds a ts us → Stack ts vs → Stack us (built a vs)
build_keeps b_make_range (push is_number (push is_number k)) = push is_range k
build_keeps b_make_port (push is_named (push is_range k)) = push is_port k
build_keeps b_no_reset_port k = push is_perhaps_named k
build_keeps b_some_reset_port (push is_named k) = push is_perhaps_named k
build_keeps b_no_ports k = push is_ports k
build_keeps b_one_port (push is_port (push is_ports k)) = push is_ports k
build_keeps b_make_literal (push is_literal k) = push is_right k
build_keeps b_make_name (push is_named k) = push is_right k
build_keeps b_make_not (push is_named k) = push is_right k
build_keeps b_make_binary (push is_named (push is_named k)) = push is_right k
build_keeps b_make_choice (push is_named (push is_named (push is_named k))) = push is_right k
build_keeps b_make_slice (push is_number (push is_number (push is_named k))) = push is_right k
build_keeps b_make_word (push is_named (push is_named k)) = push is_right k
build_keeps b_two_names (push is_named (push is_named k)) = push is_names k
build_keeps b_one_name (push is_named (push is_names k)) = push is_names k
build_keeps b_make_concat (push is_names k) = push is_right k
build_keeps b_make_reg (push is_named (push is_range k)) = push is_item k
build_keeps b_make_file (push is_range (push is_named (push is_range k))) = push is_item k
build_keeps b_make_integer (push is_named k) = push is_item k
build_keeps b_make_wire (push is_named (push is_range k)) = push is_item k
build_keeps b_make_assign (push is_right (push is_named k)) = push is_item k
build_keeps b_no_items k = push is_items k
build_keeps b_one_item (push is_item (push is_items k)) = push is_items k
build_keeps b_init_reg (push is_literal (push is_named k)) = push is_init k
build_keeps b_init_word (push is_literal (push is_number (push is_named k))) = push is_init k
build_keeps b_init_fill (push is_literal (push is_named (push is_named (push is_number (push is_named (push is_named (push is_number (push is_named (push is_number (push is_named k)))))))))) = push is_init k
build_keeps b_no_inits k = push is_inits k
build_keeps b_one_init (push is_init (push is_inits k)) = push is_inits k
build_keeps b_no_values k = push is_values k
build_keeps b_one_value (push is_literal (push is_named (push is_values k))) = push is_values k
build_keeps b_no_reset k = push is_perhaps_reset k
build_keeps b_some_reset (push is_values (push is_named k)) = push is_perhaps_reset k
build_keeps b_update_reg (push is_named (push is_named k)) = push is_update k
build_keeps b_update_file (push is_named (push is_named (push is_named (push is_named k)))) = push is_update k
build_keeps b_no_updates k = push is_updates k
build_keeps b_first_update (push is_update k) = push is_updates (push is_perhaps_reset k)
build_keeps b_one_update (push is_update (push is_updates k)) = push is_updates k
build_keeps b_make_module (push is_updates (push is_perhaps_reset (push is_named (push is_inits (push is_items (push is_port (push is_port (push is_port (push is_ports (push is_port (push is_perhaps_named (push is_named (push is_named k))))))))))))) = push is_whole k

-- what a name finds and leaves
data Names : ℕ → List Ty → List Ty → Type 0 where
  n_MODULE : {ts : List Ty} → Names l.MODULE (ts) (a_whole ∷ ts)
  n_WIRE : {ts : List Ty} → Names l.WIRE (ts) (ts)
  n_RANGE : {ts : List Ty} → Names l.RANGE (ts) (a_range ∷ ts)
  n_PORT : {ts : List Ty} → Names l.PORT (ts) (a_port ∷ ts)
  n_STALLS : {ts : List Ty} → Names l.STALLS (ts) (a_port ∷ a_perhaps_named ∷ ts)
  n_SAMPLES : {ts : List Ty} → Names l.SAMPLES (a_ports ∷ ts) (a_ports ∷ ts)
  n_ITEMS : {ts : List Ty} → Names l.ITEMS (a_items ∷ ts) (a_items ∷ ts)
  n_ITEM : {ts : List Ty} → Names l.ITEM (ts) (a_item ∷ ts)
  n_DECLARED : {ts : List Ty} → Names l.DECLARED (a_named ∷ a_range ∷ ts) (a_item ∷ ts)
  n_RIGHT : {ts : List Ty} → Names l.RIGHT (ts) (a_right ∷ ts)
  n_BEHIND : {ts : List Ty} → Names l.BEHIND (a_named ∷ ts) (a_right ∷ ts)
  n_INDEX : {ts : List Ty} → Names l.INDEX (a_named ∷ ts) (a_right ∷ ts)
  n_INITS : {ts : List Ty} → Names l.INITS (a_inits ∷ ts) (a_inits ∷ ts)
  n_INIT : {ts : List Ty} → Names l.INIT (ts) (a_init ∷ ts)
  n_START : {ts : List Ty} → Names l.START (a_named ∷ ts) (a_init ∷ ts)
  n_BODY : {ts : List Ty} → Names l.BODY (ts) (a_updates ∷ a_perhaps_reset ∷ ts)
  n_CONDITION : {ts : List Ty} → Names l.CONDITION (a_named ∷ ts) (a_updates ∷ a_perhaps_reset ∷ ts)
  n_VALUES : {ts : List Ty} → Names l.VALUES (a_values ∷ ts) (a_values ∷ ts)
  n_UPDATES : {ts : List Ty} → Names l.UPDATES (a_updates ∷ ts) (a_updates ∷ ts)
  n_UPDATE : {ts : List Ty} → Names l.UPDATE (ts) (a_update ∷ ts)
  n_NAMES10 : {ts : List Ty} → Names (l.NAMES 10) (a_names ∷ ts) (a_names ∷ ts)
  n_NAMES9 : {ts : List Ty} → Names (l.NAMES 9) (a_names ∷ ts) (a_names ∷ ts)
  n_NAMES8 : {ts : List Ty} → Names (l.NAMES 8) (a_names ∷ ts) (a_names ∷ ts)
  n_NAMES7 : {ts : List Ty} → Names (l.NAMES 7) (a_names ∷ ts) (a_names ∷ ts)
  n_NAMES6 : {ts : List Ty} → Names (l.NAMES 6) (a_names ∷ ts) (a_names ∷ ts)
  n_NAMES5 : {ts : List Ty} → Names (l.NAMES 5) (a_names ∷ ts) (a_names ∷ ts)
  n_NAMES4 : {ts : List Ty} → Names (l.NAMES 4) (a_names ∷ ts) (a_names ∷ ts)
  n_NAMES3 : {ts : List Ty} → Names (l.NAMES 3) (a_names ∷ ts) (a_names ∷ ts)
  n_NAMES2 : {ts : List Ty} → Names (l.NAMES 2) (a_names ∷ ts) (a_names ∷ ts)
  n_NAMES1 : {ts : List Ty} → Names (l.NAMES 1) (a_names ∷ ts) (a_names ∷ ts)
  n_NAMES0 : {ts : List Ty} → Names (l.NAMES 0) (a_names ∷ ts) (a_names ∷ ts)

-- symbols that lead to a module
data Fits : List Sym → List Ty → Type 0 where
  done : Fits [] (a_whole ∷ [])
  token : {c : ℕ} {way : Way} {s : List Sym} {ts us : List Ty} → Reads way ts us → Fits s us → Fits (Terminal c way ∷ s) ts
  action : {a : Step} {s : List Sym} {ts us : List Ty} → Builds a ts us → Fits s us → Fits (Action a ∷ s) ts
  name : {n : ℕ} {s : List Sym} {ts us : List Ty} → Names n ts us → Fits s us → Fits (Nonterminal n ∷ s) ts

-- symbols that each of these leads to, before others
abbrev EachFits : List (List Sym) → List Sym → List Ty → Type 0
EachFits [] s ts = Unit {0}
EachFits (b ∷ bs) s ts = Fits (b ++ s) ts × EachFits bs s ts

one_of : {b : List Sym} {bs : List (List Sym)} (s : List Sym) (ts : List Ty) → Has b bs → EachFits bs s ts → Fits (b ++ s) ts
one_of s ts here h = h.0
one_of s ts (there m) h = one_of s ts m h.1

-- the rest of a binary operation
two : {c d : ℕ} {op : BinOp} {s : List Sym} {ts : List Ty} → Fits s (a_right ∷ ts) → Fits (Terminal c l.dropped ∷ Terminal d l.as_name ∷ Action (l.make_binary op) ∷ s) (a_named ∷ ts)
two f = token r_dropped (token r_as_name (action b_make_binary f))

-- the alternatives of a name do what the name does
expand : {n : ℕ} {ts us : List Ty} {s : List Sym} → Names n ts us → Fits s us → EachFits (alternatives rules n) s ts
expand n_MODULE f = (token r_dropped (token r_as_name (token r_dropped (token r_dropped (name n_WIRE (token r_as_name (token r_dropped (token r_dropped (name n_WIRE (name n_STALLS (action b_no_ports (name n_SAMPLES (token r_dropped (name n_PORT (token r_dropped (token r_dropped (name n_PORT (token r_dropped (token r_dropped (name n_PORT (token r_dropped (token r_dropped (action b_no_items (name n_ITEMS (token r_dropped (token r_dropped (action b_no_inits (name n_INITS (token r_dropped (token r_dropped (token r_dropped (token r_dropped (token r_dropped (token r_as_name (token r_dropped (token r_dropped (name n_BODY (token r_dropped (token r_dropped (action b_make_module f))))))))))))))))))))))))))))))))))))))), tt)
expand n_WIRE f = (token r_dropped f, (f, tt))
expand n_RANGE f = (token r_dropped (token r_as_number (token r_dropped (token r_as_number (token r_dropped (action b_make_range f))))), tt)
expand n_PORT f = (name n_WIRE (name n_RANGE (token r_as_name (action b_make_port f))), tt)
expand n_STALLS f = (token r_as_name (action b_some_reset_port (token r_dropped (token r_dropped (name n_PORT (token r_dropped f))))), (action b_no_reset_port (name n_RANGE (token r_as_name (action b_make_port (token r_dropped f)))), tt))
expand n_SAMPLES f = (token r_dropped (name n_PORT (token r_dropped (action b_one_port (name n_SAMPLES f)))), (f, tt))
expand n_ITEMS f = (name n_ITEM (action b_one_item (name n_ITEMS f)), (f, tt))
expand n_ITEM f = (token r_dropped (name n_RANGE (token r_as_name (name n_DECLARED f))), (token r_dropped (token r_as_name (token r_dropped (action b_make_integer f))), (token r_dropped (name n_RANGE (token r_as_name (token r_dropped (action b_make_wire f)))), (token r_dropped (token r_as_name (token r_dropped (name n_RIGHT (token r_dropped (action b_make_assign f))))), tt))))
expand n_DECLARED f = (name n_RANGE (token r_dropped (action b_make_file f)), (token r_dropped (action b_make_reg f), tt))
expand n_RIGHT f = (token r_as_literal (action b_make_literal f), (token r_dropped (token r_as_name (action b_make_not f)), (token r_dropped (token r_as_name (token r_dropped (token r_as_name (action b_two_names (name n_NAMES10 (token r_dropped (action b_make_concat f))))))), (token r_as_name (name n_BEHIND f), tt))))
expand n_BEHIND f = (two f, (two f, (two f, (two f, (two f, (two f, (two f, (two f, (two f, (two f, (token r_dropped (token r_as_name (token r_dropped (token r_as_name (action b_make_choice f)))), (token r_dropped (name n_INDEX f), (action b_make_name f, tt)))))))))))))
expand n_INDEX f = (token r_as_number (token r_dropped (token r_as_number (token r_dropped (action b_make_slice f)))), (token r_as_name (token r_dropped (action b_make_word f)), tt))
expand n_INITS f = (name n_INIT (action b_one_init (name n_INITS f)), (f, tt))
expand n_INIT f = (token r_dropped (token r_dropped (token r_as_name (token r_dropped (token r_as_number (token r_dropped (token r_as_name (token r_dropped (token r_as_number (token r_dropped (token r_as_name (token r_dropped (token r_as_name (token r_dropped (token r_as_number (token r_dropped (token r_as_name (token r_dropped (token r_as_name (token r_dropped (token r_dropped (token r_as_literal (token r_dropped (action b_init_fill f))))))))))))))))))))))), (token r_as_name (name n_START f), tt))
expand n_START f = (token r_dropped (token r_as_literal (token r_dropped (action b_init_reg f))), (token r_dropped (token r_as_number (token r_dropped (token r_dropped (token r_as_literal (token r_dropped (action b_init_word f)))))), tt))
expand n_BODY f = (token r_dropped (token r_dropped (token r_as_name (token r_dropped (name n_CONDITION f)))), (token r_as_name (token r_dropped (token r_as_name (token r_dropped (action b_update_reg (action b_first_update (name n_UPDATES f)))))), (action b_no_reset (action b_no_updates f), tt)))
expand n_CONDITION f = (token r_dropped (action b_no_values (name n_VALUES (token r_dropped (action b_some_reset (token r_dropped (token r_dropped (action b_no_updates (name n_UPDATES (token r_dropped f))))))))), (token r_as_name (token r_dropped (token r_as_name (token r_dropped (token r_dropped (token r_as_name (token r_dropped (action b_update_file (action b_first_update (name n_UPDATES f))))))))), tt))
expand n_VALUES f = (token r_as_name (token r_dropped (token r_as_literal (token r_dropped (action b_one_value (name n_VALUES f))))), (f, tt))
expand n_UPDATES f = (name n_UPDATE (action b_one_update (name n_UPDATES f)), (f, tt))
expand n_UPDATE f = (token r_dropped (token r_dropped (token r_as_name (token r_dropped (token r_as_name (token r_dropped (token r_as_name (token r_dropped (token r_dropped (token r_as_name (token r_dropped (action b_update_file f))))))))))), (token r_as_name (token r_dropped (token r_as_name (token r_dropped (action b_update_reg f)))), tt))
expand n_NAMES10 f = (token r_dropped (token r_as_name (action b_one_name (name n_NAMES9 f))), (f, tt))
expand n_NAMES9 f = (token r_dropped (token r_as_name (action b_one_name (name n_NAMES8 f))), (f, tt))
expand n_NAMES8 f = (token r_dropped (token r_as_name (action b_one_name (name n_NAMES7 f))), (f, tt))
expand n_NAMES7 f = (token r_dropped (token r_as_name (action b_one_name (name n_NAMES6 f))), (f, tt))
expand n_NAMES6 f = (token r_dropped (token r_as_name (action b_one_name (name n_NAMES5 f))), (f, tt))
expand n_NAMES5 f = (token r_dropped (token r_as_name (action b_one_name (name n_NAMES4 f))), (f, tt))
expand n_NAMES4 f = (token r_dropped (token r_as_name (action b_one_name (name n_NAMES3 f))), (f, tt))
expand n_NAMES3 f = (token r_dropped (token r_as_name (action b_one_name (name n_NAMES2 f))), (f, tt))
expand n_NAMES2 f = (token r_dropped (token r_as_name (action b_one_name (name n_NAMES1 f))), (f, tt))
expand n_NAMES1 f = (token r_dropped (token r_as_name (action b_one_name (name n_NAMES0 f))), (f, tt))
expand n_NAMES0 f = (f, tt)

one_module : {vs : List Value} → Stack (a_whole ∷ []) vs → (m : VModule) × (vs ≡ l.whole m ∷ [])
one_module (push (is_whole {x = m}) empty) = (m, refl)

-- what is accepted is a module
accepts_module : {over : List Value → Bool} {s : List Sym} {v w : List Value} {xs : List Token} {o : Outcome (List Value)} {ts : List Ty} → Leads verilog over tables s v xs o → Fits s ts → Stack ts v
    → o ≡ Accepts w → (m : VModule) × (w ≡ l.whole m ∷ [])
accepts_module {v = v} {w = w} accept done k is = let same : w ≡ v = cc is in let r = one_module k in (r.0, same ∙ r.1)
accepts_module more f k is = cc is
accepts_module {xs = xs} (goes {n = n} body p rest) (name nt f) k is = accepts_module rest (one_of _ _ (picks_rule rules tables n _ body p) (expand nt f)) k is
accepts_module (take {x = x} same within rest) (token r f) k is = accepts_module rest f (read_keeps x r k) is
accepts_module (make rest) (action b f) k is = accepts_module rest f (build_keeps b k) is
accepts_module (wrong p) f k is = cc is
accepts_module (lost p) f k is = cc is
accepts_module (exceed p q) f k is = cc is

pub reads_module : {over : List Value → Bool} {w : List Value} {xs : List Token} → Leads verilog over tables (Nonterminal l.MODULE ∷ []) [] xs (Accepts w) → (m : VModule) × (w ≡ l.whole m ∷ [])
reads_module leads = accepts_module leads (name n_MODULE done) empty refl

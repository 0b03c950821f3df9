-- The rows of a target, the candidates that are computed from them, and the value of a read.
use Rattle.std.proofs.Common.{◌%◌, suc, zero, get_or, ◌&&◌, ◌||◌, ◌≡◌, ◌∙◌, ℕ, ◌<◌, ◌^◌, Bool, true, false, not, cond, List, [], ◌∷◌, ◌++◌, length, Option, Some, None, refl, sym, ap, subst, arith, ◌==◌}
use Rattle.std.proofs.lemmas.{Bool.eq-eqb, List.Elements.All-head, List.Elements.All-tail}
use Rattle.std.specs.Prelude.{All, slice_get, is_some}
use Rattle.kp_net.specs.{declared.node.NodeId.NodeId, Nodes.Cells, Nodes.at, Nodes.on, Nodes.word_at, Nodes.word_of_node, Growth.Held, Growth.Wire, Growth.Kept}
use Rattle.kp_net.proofs.{Values.at_fits, Growing.wire_kept}
use Rattle.kp_synth_registers.specs.{Meaning.PutFits, Holding.optional}
use Rattle.kp_synth_stage.specs.Rows.{AskOk, row_hits, rows_view, own_value, source_view, view_of, OwnOk, SourceOk, SourcesOk, Sees, RowOk, RowsOk, AddressOk, asked, address_is}
use Rattle.kp_synth_stage.specs.Reading.{lacks, value_or_zero, Matched, given, AskInside, ask_width}
use Rattle.kp_synth_stage.specs.declared.row.{Row.Row, Own.Own, Own.TheVariants.Register, Own.TheVariants.File, Source.Source}
use Rattle.kp_fwd.specs.{declared.entries.Candidate.Candidate, Forward.CandidateOk, Forward.first_ok, Forward.first_value, Forward.BitOk, Forward.enable_on}
use Rattle.kp_machine.specs.{Slots.targets_of, Slots.is_register, Machine.files_before}
use Rattle.kp_design.specs.Numbers.{target_at}
use Rattle.kp_ast.specs.declared.tree.Job.{Job}
use Rattle.kp_bits.specs.Word as bits
use Rattle.kp_net.specs.declared.node.Kind.TheVariants as kinds

-- a node of no bits is 0
pub at_none : (p : Held) (n : NodeId) (c : Cells) → Wire p n 0 → (at c p.nodes n.0 == 0) ≡ true
at_none p n c h =
    let f : at c p.nodes n.0 < 2 ^ 0 = subst (λ k. at c p.nodes n.0 < 2 ^ k) h.wide (at_fits c p.nodes n.0 h.inside) in
    eq-eqb (at c p.nodes n.0) 0 (omega arith)

pub given_value : (when ok : Bool) (value miss : ℕ) → cond when (cond ok value miss) 0 ≡ given when (optional ok value) miss
given_value true true value miss = refl
given_value true false value miss = refl
given_value false ok value miss = refl

-- candidates of rows stay while the pool grows, and one more comes
pub matched_kept : (c : Cells) (p : Held) (a : ℕ) (q q' : Held) (k w : ℕ) (rs : List Row) (xs : List Candidate) → Kept q q' k → All (CandidateOk q w) xs → Matched c p a q rs xs → Matched c p a q' rs xs
matched_kept c p a q q' k w (r ∷ rs) (x ∷ xs) g ok h = (g.tests c x.hit.0 (All-head (CandidateOk q w) x xs ok).hit.inside ∙ h.0, h.1, h.2, matched_kept c p a q q' k w rs xs g (All-tail (CandidateOk q w) x xs ok) h.3)
matched_kept c p a q q' k w _ _ g ok h = h

pub matched_more : (c : Cells) (p : Held) (a : ℕ) (q : Held) (rs : List Row) (xs : List Candidate) (r : Row) (x : Candidate) → Matched c p a q rs xs
    → on c q.nodes x.hit.0 ≡ row_hits c p r a → x.ok ≡ r.ok → x.value ≡ r.value → Matched c p a q (rs ++ r ∷ []) (xs ++ x ∷ [])
matched_more c p a q [] [] r x h e f g = (e, f, g, tt)
matched_more c p a q (s ∷ rs) (y ∷ xs) r x h e f g = (h.0, h.1, h.2, matched_more c p a q rs xs r x h.3 e f g)
matched_more c p a q _ _ r x h e f g = absurd h

-- the row at an index
abbrev pub no_row : Row
no_row = record { full = record { 0 = 0 }; known = false; enable = None; address = None; ok = record { 0 = 0 }; value = record { 0 = 0 } }

pub row_at : (p : Held) (a w : ℕ) (rs : List Row) (i : ℕ) → RowsOk p a w rs → i < length rs → RowOk p a w (get_or rs i no_row)
row_at p a w [] i h l = absurd (omega arith)
row_at p a w (x ∷ rs) zero h l = h.0
row_at p a w (x ∷ rs) (suc i) h l = row_at p a w rs i h.1 (omega arith)

pub bit_kept : (p q : Held) (k : ℕ) (o : Option NodeId) → Kept p q k → BitOk p o → BitOk q o
bit_kept p q k None g b = tt
bit_kept p q k (Some n) g b = wire_kept p q k n 1 g b

pub enable_kept : (c : Cells) (p q : Held) (k : ℕ) (o : Option NodeId) → Kept p q k → BitOk p o → enable_on c q o ≡ enable_on c p o
enable_kept c p q k None g b = refl
enable_kept c p q k (Some n) g b = g.tests c n.0 b.inside

pub row_kept : (p q : Held) (k a w : ℕ) (r : Row) → Kept p q k → RowOk p a w r → RowOk q a w r
row_kept p q k a w r g h = record {
  full = wire_kept p q k r.full 1 g h.full;
  enable = bit_kept p q k r.enable g h.enable;
  address = address_kept r.address h.address;
  ok = wire_kept p q k r.ok 1 g h.ok;
  value = wire_kept p q k r.value w g h.value;
} where
  address_kept : (o : Option NodeId) → AddressOk p a o → AddressOk q a o
  address_kept None b = tt
  address_kept (Some e) b = wire_kept p q k e a g b

pub rows_kept : (p q : Held) (k a w : ℕ) (rs : List Row) → Kept p q k → RowsOk p a w rs → RowsOk q a w rs
rows_kept p q k a w [] g h = tt
rows_kept p q k a w (r ∷ rs) g h = (row_kept p q k a w r g h.0, rows_kept p q k a w rs g h.1)

-- the value of the first candidate that hits is the truth
pub first_view : (c : Cells) (p q : Held) (k a b w : ℕ) (rs : List Row) (xs : List Candidate) (own : ℕ) → Kept p q k → RowsOk p b w rs → Matched c p a q rs xs
    → optional (first_ok c q xs) (first_value c q xs own) ≡ rows_view c p rs own a
first_view c p q k a b w [] [] own g ok h = refl
first_view c p q k a b w [] (x ∷ xs) own g ok h = absurd h
first_view c p q k a b w (r ∷ rs) [] own g ok h = absurd h
first_view c p q k a b w (r ∷ rs) (x ∷ xs) own g ok h =
    let o : on c q.nodes x.ok.0 ≡ on c p.nodes r.ok.0 = ap (λ (n : NodeId). on c q.nodes n.0) h.1 ∙ g.tests c r.ok.0 ok.0.ok.inside in
    let v : at c q.nodes x.value.0 ≡ at c p.nodes r.value.0 = ap (λ (n : NodeId). at c q.nodes n.0) h.2 ∙ g.same c r.value.0 ok.0.value.inside in
    let rest = first_view c p q k a b w rs xs own g ok.1 h.3 in
    let hit : on c q.nodes x.hit.0 ≡ row_hits c p r a = h.0 in
    choice (on c q.nodes x.hit.0) (on c q.nodes x.ok.0) (first_ok c q xs) (at c q.nodes x.value.0) (first_value c q xs own) ∙ (λ i. cond (hit i) (optional (o i) (v i)) (rest i))
  where
    choice : (t b d : Bool) (m n : ℕ) → optional (cond t b d) (cond t m n) ≡ cond t (optional b m) (optional d n)
    choice true b d m n = refl
    choice false b d m n = refl

-- a requested address is preserved
pub ask_width_kept : (p q : Held) (k : ℕ) (a : Option NodeId) → Kept p q k → AskInside p a → ask_width q a ≡ ask_width p a
ask_width_kept p q k None g h = refl
ask_width_kept p q k (Some n) g h = g.widths n.0 h

pub asked_kept : (p q : Held) (k : ℕ) (a : Option NodeId) → Kept p q k → AskInside p a → (c : Cells) → asked c q a ≡ asked c p a
asked_kept p q k None g h c = refl
asked_kept p q k (Some n) g h c = g.same c n.0 h

pub hits_kept : (p q : Held) (k a w : ℕ) (r : Row) → Kept p q k → RowOk p a w r → (c : Cells) (x : ℕ) → row_hits c q r x ≡ row_hits c p r x
hits_kept p q k a w r g h c x =
    let f = g.tests c r.full.0 h.full.inside in
    let e = enable_kept c p q k r.enable g h.enable in
    let d = address_same r.address h.address in
    λ i. f i && (not r.known || (e i && d i))
  where
    address_same : (o : Option NodeId) → AddressOk p a o → address_is c q o x ≡ address_is c p o x
    address_same None b = refl
    address_same (Some n) b = ap (λ (v : ℕ). v == x) (g.same c n.0 b.inside)

-- a requested address
pub ask_inside : (p : Held) (a : ℕ) (o : Option NodeId) → AskOk p a o → AskInside p o
ask_inside p a None h = tt
ask_inside p a (Some n) h = h.inside

pub ask_wide : (p : Held) (a : ℕ) (o : Option NodeId) → AskOk p a o → ask_width p o ≡ a
ask_wide p a None h = sym h
ask_wide p a (Some n) h = h.wide

pub ask_kept : (p q : Held) (k a : ℕ) (o : Option NodeId) → Kept p q k → AskOk p a o → AskOk q a o
ask_kept p q k a None g h = h
ask_kept p q k a (Some n) g h = wire_kept p q k n a g h

-- sources stay while the pool grows
pub rows_view_kept : (c : Cells) (p q : Held) (k a w : ℕ) (rs : List Row) (own x : ℕ) → Kept p q k → RowsOk p a w rs → rows_view c q rs own x ≡ rows_view c p rs own x
rows_view_kept c p q k a w [] own x g h = refl
rows_view_kept c p q k a w (r ∷ rs) own x g h =
    let e = hits_kept p q k a w r g h.0 c x in
    let o = g.tests c r.ok.0 h.0.ok.inside in
    let v = g.same c r.value.0 h.0.value.inside in
    let rest = rows_view_kept c p q k a w rs own x g h.1 in
    λ i. cond (e i) (optional (o i) (v i)) (rest i)

own_kept : (job : Job) (c : Cells) (p q : Held) (k t w : ℕ) (o : Own) (x : ℕ) → Kept p q k → OwnOk job p t o → own_value c q w o x ≡ own_value c p w o x
own_kept job c p q k t w (Register n) x g h = g.same c n.0 h.1.inside
own_kept job c p q k t w (File f) x g h = refl

own_ok_kept : (job : Job) (p q : Held) (k t : ℕ) (o : Own) → Kept p q k → OwnOk job p t o → OwnOk job q t o
own_ok_kept job p q k t (Register n) g h = (h.0, wire_kept p q k n _ g h.1)
own_ok_kept job p q k t (File f) g h = h

pub source_view_kept : (job : Job) (c : Cells) (p q : Held) (k t : ℕ) (s : Source) (x : ℕ) → Kept p q k → SourceOk job p t s → source_view c q s x ≡ source_view c p s x
source_view_kept job c p q k t s x g h =
    rows_view_kept c p q k _ _ s.rows.items (own_value c q s.width s.own x) x g h.rows
    ∙ ap (λ v. rows_view c p s.rows.items v x) (own_kept job c p q k t s.width s.own x g h.own)

pub source_kept : (job : Job) (p q : Held) (k t : ℕ) (s : Source) → Kept p q k → SourceOk job p t s → SourceOk job q t s
source_kept job p q k t s g h = record {
  width = h.width;
  positive = h.positive;
  at_most = h.at_most;
  own = own_ok_kept job p q k t s.own g h.own;
  rows = rows_kept p q k _ _ s.rows.items g h.rows;
  few = h.few;
  stages = h.stages;
}

pub sources_kept : (job : Job) (p q : Held) (k : ℕ) (ss : List Source) → Kept p q k → SourcesOk job p ss → SourcesOk job q ss
sources_kept job p q k ss g h = record { count = h.count; each = λ t s e. source_kept job p q k t s g (h.each t s e) }

view_of_kept : (job : Job) (c : Cells) (p q : Held) (k t : ℕ) (o : Option Source) (x : ℕ) → Kept p q k → ((s : Source) → o ≡ Some s → SourceOk job p t s) → view_of c q o x ≡ view_of c p o x
view_of_kept job c p q k t None x g h = refl
view_of_kept job c p q k t (Some s) x g h = source_view_kept job c p q k t s x g (h s refl)

pub sees_kept : (job : Job) (c : Cells) (p q : Held) (k : ℕ) (ss : List Source) (v : ℕ → ℕ → Option ℕ) → Kept p q k → SourcesOk job p ss → Sees job c p ss v → Sees job c q ss v
unfolding Sees
sees_kept job c p q k ss v g h see = λ t a l m. view_of_kept job c p q k t (slice_get ss t) a g (h.each t) ∙ see t a l m

-- the word of a file at an address, as a node of the netlist
pub word_value : (c : Cells) (p q : Held) (n a : NodeId) (w f : ℕ) → word_at c q.nodes n.0 ≡ word_of_node c (word_at c p.nodes) (record { width = w; kind = kinds.Word f a }) → at c q.nodes n.0 ≡ c.word f (at c p.nodes a.0) % 2 ^ w
unfolding at
word_value c p q n a w f e = ap (λ (x : bits.Word). x.value) e

pub file_own : (job : Job) (p : Held) (t f : ℕ) (o : Own) → o ≡ File f → OwnOk job p t o → (is_register (target_at job t) ≡ false) × (f ≡ files_before (targets_of job.decls) t)
file_own job p t f (Register n) e h = cc
file_own job p t f (File g) e h = let z : g ≡ f = cc in (h.0, sym z ∙ h.1)

pub orzero_kept : (c : Cells) (p q : Held) (k w : ℕ) (o : Option NodeId) → Kept p q k → PutFits p w o → value_or_zero c q o ≡ value_or_zero c p o
orzero_kept c p q k w None g h = refl
orzero_kept c p q k w (Some n) g h = g.same c n.0 h.inside

-- the truth of a read is missing if the bit for it is 0
there_is : (b : Bool) (v : ℕ) → is_some (optional b v) ≡ b
there_is true v = refl
there_is false v = refl

pub lacks_is : (lacking when ok when' : Bool) (v : ℕ) (o : Option ℕ) → lacking ≡ (when && not ok) → when ≡ when' → optional ok v ≡ o → lacking ≡ lacks when' o
lacks_is lacking when ok when' v o e f g = e ∙ ap (λ b. b && not ok) f ∙ ap (λ b. when' && not b) (sym (there_is ok v) ∙ ap is_some g)

-- THE PARTS are those of the job: each register is that of its key, and each file that of its target. They fit the nodes, and have the names of the job and numbers.
use Rattle.std.proofs.Common.{◌≡◌, ◌∙◌, ℕ, zero, suc, ◌+◌, ◌-◌, ◌^◌, ◌<◌, ◌≤◌, List, [], ◌∷◌, ◌++◌, map, Option, Some, None, false, All, length, take, drop, get_or, length-append, refl, ap, sym, subst, arith, ⊎_elim}
use Rattle.std.proofs.lemmas.{Bool.cases_lt, List.get_or_append_left, List.get_or-append_right, List.get_or-drop, List.length-map, List.map-append}
use Rattle.std.proofs.lemmas.List.{Elements.All-get_or, Elements.All-from_get_or, Elements.All-map, Sums.sum_by-cons}
use Rattle.std.proofs.Math.Seq.{take-append_seam, drop-append_seam}
use Rattle.std.specs.{Prelude.codes, Prelude.not, Prelude.◌==◌, Prelude.sum_by, List.filter}
use Rattle.kp_bits.specs.Word.{Word, IsWord}
use Rattle.kp_ast.specs.declared.tree.{Decl.Decl, Job.Job}
use Rattle.kp_ast.specs.declared.tree.Decl.TheVariants as decls
use Rattle.kp_width.{specs.Names.nothing, specs.Widths.widths_of, proofs.Unbroken.Unbroken}
use Rattle.kp_stage.specs.{Counts.files_in, Stages.broken_of, Start.start_of, Start.IsStartOf, declared.start.Start.Start}
use Rattle.kp_machine.specs.{Slots.Slot, Slots.targets_of, Slots.samples_of, Slots.is_register, Machine.files_before, Machine.hint_starts}
use Rattle.kp_machine.proofs.{Apart.samples_apart, Text.declared_right, Widths.Fine, Widths.job_fine}
use Rattle.kp_net.specs.declared.{node.Node.Node, node.NodeId.NodeId, node.Kind.Kind, netlist.Port.Port, netlist.WritePort.WritePort, netlist.NetReg.NetReg}
use Rattle.kp_net.specs.{declared.netlist.NetFile.NetFile, declared.netlist.Parts.Parts, Growth.Held, Growth.Wire, Widths.no_node}
use Rattle.kp_net.specs.Parts.{NodeIs, CellOk, AllCells, PortOk, RegOk, WriteOk, FileOk, PartsOk, no_port, no_reg, no_file}
use Rattle.kp_net.specs.{Netlist.Net, Names.Differ, Names.IsSpelled, Names.is_reg_name, Names.is_file_name, Names.is_sample_name, Names.IsNamed}
use Rattle.kp_net.specs.declared.node.Kind.TheVariants as kinds
use Rattle.kp_synth_registers.specs.declared.key.Key.{Key}
use Rattle.kp_synth_registers.specs.declared.key.Key.TheVariants.{Visible, Full, Pipe, Value, Guess, Hint}
use Rattle.kp_design.specs.Numbers.{target_at, sample_at}
use Rattle.kp_synth_registers.specs.Keys.{HasKey, keys_of, key_at, key_width, key_start}
use Rattle.kp_design.specs.Fits.{IsWidth, Fits}
use Rattle.kp_design.proofs.{Apart.targets_apart, Fitting.fits, Limits.few, Limits.limits}
use Rattle.kp_synth_registers.proofs.{Counting.keys_few, Places.key_had}
use Rattle.kp_synth_registers.specs.{declared.outcome.Outcome.Outcome, Meaning.CellFits, Meaning.CellsFit, Meaning.node_at}
use Rattle.kp_synth_next.specs.{declared.control.RowNodes.RowNodes, Nexts.Closes, Nexts.NextIs, Nexts.port_word, Nexts.PortFits, Nexts.no_node_id}
use Rattle.kp_synth_next.specs.{Control.ShowRow, Closed.Starts, Closed.Closed}
use Rattle.kp_synth_next.specs.Shows.{named_with, reg_slot, file_slot, port_slot, registers_of, files_of, other_names, NamedBy, Shows}
use Rattle.kp_synth_next.proofs.Whole.{shows_over, words_always, shows_anew, holds_over, holds_anew}
use Rattle.kp_synth.specs.inner.Built.{no_word, reg_count, file_count, visible_regs, other_reg, other_regs, first_start, net_regs, net_parts, made_net, SpelledReg, SpelledFile, SpelledPort, Spelled}
use Rattle.kp_synth.proofs.Parts.{zero_plus, visible_named, wide, visible_counted, visible_at, others_counted, others_named, other_at, ports_named, port_at, ports_counted, FileIs, file_at, files_counted, files_named}
use Rattle.kp_synth.proofs.{Numbers.is_file, Numbers.register_place, Numbers.file_found, Places.file_number}
use Rattle.kp_synth.proofs.Begins.{hints_fit, first_word, regs_given, files_given, WordsFit, words_given, reg_value, file_word}
use Rattle.kp_synth.proofs.Spelled.{all_spelled}
use Rattle.kp_synth.proofs.Named.{Own, own_apart, own_from, own_filter, led_name, differ_led, differ_both, names_through}
use Rattle.kp_synth.proofs.Visible.{is_visible, keys_rest, keys_count, key_seen, key_behind}

-- What the netlist is made of.
pub record Source (job : Job) (p : Held) (outs : List Outcome) (start : Start) (nexts : List NodeId) (ports : List (Option WritePort)) (row : RowNodes) : Type 0 where
  pub names : Unbroken (widths_of job)
  pub stages : broken_of job ≡ None
  pub begins : start ≡ start_of job
  pub suits : IsStartOf job start
  pub next_count : length nexts ≡ length (keys_of job)
  pub port_count : length ports ≡ length (targets_of job.decls)
  pub closes : Closes job p outs (node_at nexts) (λ t. get_or ports t None)
  pub shows : ShowRow job p row
  pub cells : CellsFit job p

-- the start value of a key that isn't one of a register
first_is : (job : Job) (start : Start) (key : Key) → is_visible key ≡ false → first_start (hint_starts job.decls) key ≡ key_start job start key
first_is job start (Visible t) e = cc
first_is job start _ e = refl

key_wide : (job : Job) (key : Key) → Fits job → HasKey job key → IsWidth (key_width job key)
key_wide job (Visible t) fit h = fit.targets t h.0
key_wide job (Pipe x k) fit h = fit.pipes x h.0
key_wide job (Value t k) fit h = fit.targets t h.0
key_wide job (Guess g k) fit h = fit.guess_widths g h.0
key_wide job (Hint x) fit h = fit.hints x h
key_wide job _ fit h = record { positive = omega arith; at_most = omega arith }

-- A register that is that of key r.
record RegIs (job : Job) (start : Start) (nexts : List NodeId) (r : ℕ) (x : NetReg) : Type 0 where
  width : x.start.width ≡ key_width job (key_at job r)
  value : x.start.value ≡ key_start job start (key_at job r)
  word : IsWord x.start
  next : x.next ≡ get_or nexts r no_node_id

same_reg : (job : Job) (start : Start) (nexts : List NodeId) (r : ℕ) (x y : NetReg) → x ≡ y → RegIs job start nexts r y → RegIs job start nexts r x
same_reg job start nexts r x y e h = subst (RegIs job start nexts r) (sym e) h

-- A file with its width, its addresses, its words and its port fits the nodes.
file_ok : (ns : List Node) (x : NetFile) (w a : ℕ) (words : List ℕ) (o : Option WritePort) → x.width ≡ w → x.address_width ≡ a → x.words ≡ words → x.port ≡ o
    → IsWidth w → 1 ≤ a → a ≤ 16 → length words ≡ 2 ^ a → All (λ v. v < 2 ^ w) words → WriteOk ns w a o → FileOk ns x
file_ok ns x w a words o ew ea es eo wide low high full fit port =
    let y : NetFile = record { name = x.name; width = w; address_width = a; words = words; port = o } in
    let e : x ≡ y = λ i. record { name = x.name; width = ew i; address_width = ea i; words = es i; port = eo i } in
    subst (FileOk ns) (sym e) (record {
      positive = wide.positive;
      at_most = wide.at_most;
      addressed = low;
      addressed_at_most = high;
      full = full;
      words = fit;
      port = port;
    })

write_ok : (job : Job) (p : Held) (t : ℕ) (o : Option WritePort) → PortFits job p t o → WriteOk p.nodes (target_at job t).width (target_at job t).address o
write_ok job p t None f = tt
write_ok job p t (Some q) f = ((f.0.inside, f.0.wide), (f.1.inside, f.1.wide), (f.2.inside, f.2.wide))

has_address : (a : ℕ) → (a == 0) ≡ false → 1 ≤ a
has_address zero e = cc
has_address (suc a) e = omega arith

files_summed : (ds : List Decl) → file_count ds ≡ sum_by files_in ds
files_summed [] = refl
files_summed (decls.File n width address ∷ ds) = let more = files_summed ds in omega (arith, more, sum_by-cons files_in (decls.File n width address) ds)
files_summed (d ∷ ds) = let more = files_summed ds in omega (arith, more, sum_by-cons files_in d ds)

module _ (job : Job) (p : Held) (outs : List Outcome) (start : Start) (nexts : List NodeId) (ports : List (Option WritePort)) (row : RowNodes)
    (s : Source job p outs start nexts ports row) where
  pub fine : Fine job.decls
  fine = job_fine job s.names

  pub fit : Fits job
  fit = fits job s.names s.stages

  abbrev made : Parts
  made = net_parts job start nexts ports row

  abbrev targets : List Slot
  targets = targets_of job.decls

  abbrev first : ℕ
  first = reg_count job.decls

  abbrev front : List NetReg
  front = visible_regs start.regs nexts 0 job.decls

  abbrev back : List NetReg
  back = other_regs job nexts first first (drop first (keys_of job))

  -- a register of the job
  front_is : (r : ℕ) → r < first → RegIs job start nexts r (get_or made.regs r no_reg)
  front_is r m =
      let k = key_seen job start.regs r fine s.suits.regs m in
      let c = visible_counted start.regs nexts 0 job.decls in
      let q = visible_at start.regs nexts 0 job.decls r m in
      let here : (get_or front r no_reg).start ≡ get_or start.regs r no_word = q.0 ∙ ap (λ i. get_or start.regs i no_word) (zero_plus r) in
      let next : (get_or front r no_reg).next ≡ get_or nexts r no_node_id = q.1 ∙ ap (λ i. get_or nexts i no_node_id) (zero_plus r) in
      let key : key_at job r ≡ Visible k.target = k.is ∙ ap Visible (zero_plus k.target) in
      let e : get_or made.regs r no_reg ≡ get_or front r no_reg = get_or_append_left front back no_reg r (omega (arith, m, c)) in
      let given = regs_given job.decls start.regs s.suits.regs in
      let v = reg_value job start k.target k.inside k.register (omega (arith, k.before, given, m)) in
      same_reg job start nexts r (get_or made.regs r no_reg) (get_or front r no_reg) e (record {
        width = ap (λ (w : Word). w.width) here ∙ k.width ∙ sym (ap (key_width job) key);
        value = ap (λ (w : Word). w.value) here ∙ ap (λ n. (get_or start.regs n no_word).value) (sym k.before) ∙ sym v ∙ sym (ap (key_start job start) key);
        word = subst IsWord (sym here) k.word;
        next = next;
      })

  -- and another one
  back_is : (r : ℕ) → first ≤ r → r < length (keys_of job) → RegIs job start nexts r (get_or made.regs r no_reg)
  back_is r m l =
      let c = visible_counted start.regs nexts 0 job.decls in
      let n = keys_count job fine in
      let same = keys_rest job fine in
      let z : first + (r - first) ≡ r = omega (arith, m) in
      let key : get_or (drop first (keys_of job)) (r - first) (Full 0) ≡ key_at job r = get_or-drop first (keys_of job) (r - first) (Full 0) ∙ ap (λ i. get_or (keys_of job) i (Full 0)) z in
      let e : get_or made.regs r no_reg ≡ other_reg job nexts first r (key_at job r)
      = get_or-append_right front back first r no_reg c m
      ∙ other_at job nexts first first (drop first (keys_of job)) (r - first) (omega (arith, ap length same, n, l, m))
      ∙ (λ i. other_reg job nexts first (z i) (key i)) in
      let hidden : is_visible (key_at job r) ≡ false = ap is_visible (sym key ∙ ap (λ ks. get_or ks (r - first) (Full 0)) same) ∙ key_behind job (r - first) fine (omega (arith, n, l, m)) in
      let has = key_had job r l in
      let wide = key_wide job (key_at job r) fit has in
      same_reg job start nexts r (get_or made.regs r no_reg) (other_reg job nexts first r (key_at job r)) e (record {
        width = refl;
        value = first_is job start (key_at job r) hidden;
        word = first_word job (key_at job r) (key_width job (key_at job r)) (hints_fit job s.names) has wide.positive wide.at_most refl;
        next = refl;
      })

  reg_is : (r : ℕ) → r < length (keys_of job) → RegIs job start nexts r (get_or made.regs r no_reg)
  reg_is r l = ⊎_elim (λ (m : r < first). front_is r m) (λ (m : first ≤ r). back_is r m l) (cases_lt r first)

  pub regs_counted : length (net_regs job start.regs nexts) ≡ length (keys_of job)
  regs_counted = omega (arith, length-append front back, visible_counted start.regs nexts 0 job.decls, others_counted job nexts first first (drop first (keys_of job)), ap length (keys_rest job fine), keys_count job fine)

  -- a file
  file_is : (t : ℕ) → t < length targets → is_register (target_at job t) ≡ false
      → (files_before targets t < length made.files) × FileIs job start.files ports t (files_before targets t) (get_or made.files (files_before targets t) no_file)
  file_is t l e =
      let b = length (filter is_file (take t targets)) in
      let f = file_at job start.files ports 0 0 job.decls fine t l e in
      let g = subst (λ k. (b < length made.files) × FileIs job start.files ports k (0 + b) (get_or made.files b no_file)) (zero_plus t) f in
      let h = subst (λ k. (b < length made.files) × FileIs job start.files ports t k (get_or made.files b no_file)) (zero_plus b) g in
      subst (λ m. (m < length made.files) × FileIs job start.files ports t m (get_or made.files m no_file)) (sym (file_number targets t (omega (arith, l)))) h

  file_given : (t : ℕ) → t < length targets → is_register (target_at job t) ≡ false → files_before targets t < length start.files
  file_given t l e = omega (arith, (file_is t l e).0, files_counted job start.files ports 0 0 job.decls, files_given job.decls start.files s.suits.files)

  words_fit : (t : ℕ) → t < length targets → is_register (target_at job t) ≡ false → WordsFit (target_at job t) (get_or start.files (files_before targets t) [])
  words_fit t l e = subst (λ m. WordsFit (target_at job t) (get_or start.files m [])) (sym (file_number targets t (omega (arith, l))))
      (words_given job.decls start.files t fine s.suits.files l e)

  sample_is : (x : ℕ) → x < length (samples_of job.decls) → (x < length made.samples) × ((get_or made.samples x no_port).width ≡ (sample_at job x).width)
  sample_is x l = let q = port_at job 0 job.decls x l in (q.0, q.1 ∙ ap (λ k. (sample_at job k).width) (zero_plus x))

  abbrev net : Net
  net = made_net job p start nexts ports row

  pub starts : Starts job (made_net job p start nexts ports row) start
  starts = record {
    regs = regs_counted;
    values = λ r l. (reg_is r l).value;
    fits = λ r l. subst (λ w. (get_or made.regs r no_reg).start.value < 2 ^ w) (reg_is r l).width (reg_is r l).word.fits;
    places = λ t l e. register_place job t l e;
    files = λ t l e. (file_is t l e).0;
    sizes = λ t l e. ap length (file_is t l e).1.2 ∙ (words_fit t l e).0;
    words = λ t a l e m. ap (λ ws. get_or ws a 0) (file_is t l e).1.2 ∙ sym (file_word job start t l a e (file_given t l e));
    word_fits = λ t a l e m. subst (λ v. v < 2 ^ (target_at job t).width) (sym (file_word job start t l a e (file_given t l e)))
        (All-get_or (λ v. v < 2 ^ (target_at job t).width) (get_or start.files (files_before targets t) []) a 0 (omega (arith, m, (words_fit t l e).0)) (words_fit t l e).1);
  }

  pub closed : Closed job (made_net job p start nexts ports row) start outs p
  closed = record {
    nodes = refl;
    reset = refl;
    some = omega (arith, fit.at_least);
    fits = fit;
    guesses = fit.guesses;
    closes = record {
      says = s.closes.says;
      wires = λ r l. subst (λ (n : NodeId). Wire p n (key_width job (key_at job r))) (sym (reg_is r l).next) (s.closes.wires r l);
      next = λ c st i w r l. subst (λ (n : NodeId). NextIs job p outs n c st i (key_at job r)) (sym (reg_is r l).next) (s.closes.next c st i w r l);
      port_wires = λ t l e. subst (PortFits job p t) (sym (file_is t l e).1.3) (s.closes.port_wires t l e);
      port = λ c st i w t a l e d. s.closes.port c st i w t a l e d ∙ ap (λ (o : Option WritePort). port_word c p o a (st.visible t a)) (sym (file_is t l e).1.3);
    };
    outputs = record { full = s.shows.full_bits; ue = s.shows.ue_bits; back = s.shows.back_value };
    starts = starts;
  }

  -- each cell that a node reads is there
  cell_ok : (k : ℕ) (kind : Kind) → CellFits job p k kind → CellOk p.nodes made k kind
  cell_ok k kinds.Ext h = h
  cell_ok k (kinds.Sample x) h = let q = sample_is x h.0 in (q.0, q.1 ∙ sym h.1)
  cell_ok k (kinds.Reg r) h = (omega (arith, h.0, regs_counted), (reg_is r h.0).width ∙ sym h.1)
  cell_ok k (kinds.Word f a) h = let x = file_is h.0 h.1 h.2 in rw h.3 (x.0, x.1.0 ∙ sym h.4, h.5.wide ∙ sym x.1.1)
  cell_ok k _ h = tt

  cells_ok : AllCells p.nodes made
  unfolding CellsFit
  cells_ok = λ i l. cell_ok (get_or p.nodes i no_node).width (get_or p.nodes i no_node).kind (s.cells i l)

  -- THE PARTS FIT the nodes.
  file_fits : (t : ℕ) → t < length targets → is_register (target_at job t) ≡ false → FileOk p.nodes (get_or made.files (files_before targets t) no_file)
  file_fits t l e =
      let x = file_is t l e in
      let w = words_fit t l e in
      file_ok p.nodes (get_or made.files (files_before targets t) no_file) (target_at job t).width (target_at job t).address (get_or start.files (files_before targets t) []) (get_or ports t None)
      x.1.0 x.1.1 x.1.2 x.1.3 (fit.targets t l) (has_address (target_at job t).address e) (fit.addresses t l) w.0 w.1
      (write_ok job p t (get_or ports t None) (s.closes.port_wires t l e))

  files_are : map file_slot made.files ≡ map (named_with (codes "f_")) (files_of job)
  files_are = files_named job start.files ports 0 0 job.decls fine (λ i l. ap (target_at job) (zero_plus i))

  pub parts_ok : PartsOk p.nodes (net_parts job start nexts ports row)
  parts_ok = record {
    ext_positive = omega (arith, fit.at_least);
    ext_at_most = omega (arith, fit.at_most);
    sample_count = omega (arith, ports_counted job 0 job.decls, (few job s.stages).samples);
    reg_count = omega (arith, regs_counted, keys_few job s.stages fit.at_most);
    file_count = omega (arith, files_counted job start.files ports 0 0 job.decls, files_summed job.decls, (limits job s.stages).files);
    samples = All-from_get_or PortOk made.samples no_port (λ x l.
        let m : x < length (samples_of job.decls) = omega (arith, l, ports_counted job 0 job.decls) in
        let e = (sample_is x m).1 in
        let w = fit.samples x m in
        record { positive = omega (arith, e, w.positive); at_most = omega (arith, e, w.at_most) });
    regs = All-from_get_or (RegOk p.nodes) made.regs no_reg (λ r l.
        let m : r < length (keys_of job) = omega (arith, l, regs_counted) in
        let x = reg_is r m in
        let w = s.closes.wires r m in
        record { start = x.word; next = subst (λ (n : NodeId). NodeIs p.nodes n (get_or made.regs r no_reg).start.width) (sym x.next) (w.inside, w.wide ∙ sym x.width) });
    files = All-from_get_or (FileOk p.nodes) made.files no_file (λ f l.
        let t = file_found job f (omega (arith, l, ap length files_are, length-map made.files file_slot, length-map {B = Slot} (files_of job) (named_with (codes "f_")))) in
        subst (λ m. FileOk p.nodes (get_or made.files m no_file)) t.3 (file_fits t.0 t.1 t.2));
    cells = cells_ok;
    full = s.shows.full_wire.inside;
    ue = s.shows.ue_wire.inside;
    back = s.shows.back_wire.inside;
  }

  -- THE NAMES of the parts
  front_named : map reg_slot front ≡ map (named_with (codes "r_")) (registers_of job)
  front_named = visible_named start.regs nexts 0 job.decls fine (wide start.regs nexts 0 job.decls start.regs (λ j. ap (λ k. get_or start.regs k no_word) (zero_plus j)) s.suits.regs)

  front_count : length (registers_of job) ≡ length front
  front_count = omega (arith, ap length front_named, length-map front reg_slot, length-map (registers_of job) (named_with (codes "r_")))

  back_named : map (λ (r : NetReg). r.name) back ≡ other_names 0 (length back)
  back_named = others_named job nexts first first 0 (drop first (keys_of job)) (omega arith) ∙ ap (other_names 0) (sym (others_counted job nexts first first (drop first (keys_of job))))

  samples_are : map port_slot made.samples ≡ map (named_with (codes "s_")) (samples_of job.decls)
  samples_are = ports_named job 0 job.decls (λ i l. ap (sample_at job) (zero_plus i))

  named_by : NamedBy net job
  named_by = record {
    name = refl;
    visible = ap (λ k. map reg_slot (take k (front ++ back))) front_count ∙ ap (map reg_slot) (take-append_seam front back) ∙ front_named;
    others = ap (λ k. map (λ (r : NetReg). r.name) (drop k (front ++ back))) front_count ∙ ap (map (λ (r : NetReg). r.name)) (drop-append_seam front back) ∙ back_named
        ∙ ap (other_names 0) (omega (arith, length-append front back, front_count));
    files = files_are;
    samples = samples_are;
  }

  -- THE NETLIST SHOWS THE PIPELINE.
  pub shows : Shows (made_net job p start nexts ports row) job
  shows = record {
    names = named_by;
    ext = refl;
    full = s.shows.full_wire.wide;
    ue = s.shows.ue_wire.wide;
    back = s.shows.back_wire.wide;
    reset = refl;
    runs = λ ins q. shows_over job net start outs p closed s.begins ins q;
    words = λ ins. words_always job net start outs p closed ins;
    anew = λ st i ins h r q. shows_anew job net start outs p closed s.begins st i ins h r q;
    holds = λ ins q. holds_over job net start outs p closed s.begins ins q;
    holds_anew = λ st i ins h r q. holds_anew job net start outs p closed s.begins st i ins h r q;
  }

  -- and a text can have its names
  own_targets : Own (targets_of job.decls)
  own_targets = own_from (targets_of job.decls) (targets_apart job s.names)

  regs_differ : Differ (map (λ (r : NetReg). r.name) (front ++ back))
  regs_differ =
      let e : map (λ (r : NetReg). r.name) front ≡ map (led_name 114 95) (registers_of job)
      = sym (names_through reg_slot front) ∙ ap (map (λ (x : Slot). x.name)) front_named ∙ names_through (named_with (codes "r_")) (registers_of job) in
      subst Differ (sym (map-append (λ (r : NetReg). r.name) front back ∙ (λ i. e i ++ back_named i)))
      (differ_both (registers_of job) 0 (length back) (own_filter is_register (targets_of job.decls) own_targets) (omega (arith, length-append front back, regs_counted, keys_few job s.stages fit.at_most)))

  files_differ : Differ (map (λ (f : NetFile). f.name) made.files)
  files_differ = subst Differ
      (sym (sym (names_through file_slot made.files) ∙ ap (map (λ (x : Slot). x.name)) files_are ∙ names_through (named_with (codes "f_")) (files_of job)))
      (differ_led 102 95 (files_of job) (own_filter (λ x. not (is_register x)) (targets_of job.decls) own_targets))

  samples_differ : Differ (map (λ (x : Port). x.name) made.samples)
  samples_differ = subst Differ
      (sym (sym (names_through port_slot made.samples) ∙ ap (map (λ (x : Slot). x.name)) samples_are ∙ names_through (named_with (codes "s_")) (samples_of job.decls)))
      (differ_led 115 95 (samples_of job.decls) (own_apart (samples_of job.decls) (samples_apart job.decls nothing (declared_right job s.names))))

  pub is_named : Spelled (net_parts job start nexts ports row) → IsNamed (made_net job p start nexts ports row)
  is_named h = record {
    name = h.name;
    samples = All-map (IsSpelled is_sample_name) (λ (x : Port). x.name) made.samples (all_spelled SpelledPort _ h.samples);
    regs = All-map (IsSpelled is_reg_name) (λ (r : NetReg). r.name) (front ++ back) (all_spelled SpelledReg _ h.regs);
    files = All-map (IsSpelled is_file_name) (λ (f : NetFile). f.name) made.files (all_spelled SpelledFile _ h.files);
    samples_differ = samples_differ;
    regs_differ = regs_differ;
    files_differ = files_differ;
    at_least = fit.at_least;
    at_most = fit.at_most;
    full = s.shows.full_wire.wide;
    ue = s.shows.ue_wire.wide;
    back = s.shows.back_wire.wide;
  }

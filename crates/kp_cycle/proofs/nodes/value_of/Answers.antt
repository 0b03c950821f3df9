use Rattle.std.proofs.Common.{◌≡◌, false, List, get_or, map, refl, sym, ap, ◌∙◌}
use Rattle.std.proofs.lemmas.List.{get_or_default}
use Rattle.kp_bits.specs.Word as bits
use Rattle.kp_bits.specs.Operators.{joined_of}
use Rattle.kp_net.specs.declared.node.{NodeId.NodeId, Kind.TheVariants.Binary, Kind.TheVariants.Concat, Kind.TheVariants.Slice, Node.Node}
use Rattle.kp_net.specs.Widths.{no_node}
use Rattle.kp_cycle.{specs.Steps.given, proofs.Settling.whole, proofs.Settling.kind_ok}
use Rattle.kp_cycle_plan.specs.Storage.{seen, cells}
use Rattle.kp_cycle.proofs.nodes.value_of.Goals as goal

pub apply-requires : goal.apply-requires
apply-requires c = λ s.
    let ns = c.args.net.now.nodes in
    let x = c.index-nodes-i.result in
    let same : x ≡ get_or ns c.args.i no_node = c.index-nodes-i.is ∙ ap (λ (ms : List Node). get_or ms c.args.i x) c.nodes.ensures.nodes ∙ get_or_default ns c.args.i x no_node c.requires.inside in
    let ok = kind_ok ns c.args.i (Binary c.in-Binary.op c.in-Binary.a c.in-Binary.b) c.requires.fits.right.right c.requires.inside (ap (λ (n : Node). n.kind) (sym same) ∙ c.in-Binary.is) in
    ap (λ (w : bits.Word). w.width) c.operand-left.ensures.word ∙ ok.2.1 s ∙ sym (ap (λ (w : bits.Word). w.width) c.operand-right.ensures.word)

pub returns-in-Concat : goal.returns-in-Concat
returns-in-Concat c =
    let ns = c.args.net.now.nodes in
    let values = c.args.memory.now.nodes in
    let x = c.index-nodes-i.result in
    let same : x ≡ get_or ns c.args.i no_node = c.index-nodes-i.is ∙ ap (λ (ms : List Node). get_or ms c.args.i x) c.nodes.ensures.nodes ∙ get_or_default ns c.args.i x no_node c.requires.inside in
    let word = c.joined.ensures ∙ ap (λ (ps : List NodeId). joined_of (map (λ a. seen ns values a.0) ps)) c.nodes-in-Concat.ensures.nodes in
    c.value-in-Concat.ensures.value ∙ ap (λ (w : bits.Word). w.value) word
    ∙ whole (cells (given c.args.ext false c.args.samples.now) c.args.memory.now) ns values c.args.i (Concat c.in-Concat.parts) c.requires.fits.right.right c.requires.inside c.requires.known (ap (λ (n : Node). n.kind) (sym same) ∙ c.in-Concat.is) refl

pub returns-in-Slice : goal.returns-in-Slice
returns-in-Slice c =
    let ns = c.args.net.now.nodes in
    let values = c.args.memory.now.nodes in
    let x = c.index-nodes-i.result in
    let same : x ≡ get_or ns c.args.i no_node = c.index-nodes-i.is ∙ ap (λ (ms : List Node). get_or ms c.args.i x) c.nodes.ensures.nodes ∙ get_or_default ns c.args.i x no_node c.requires.inside in
    let word = c.slice.ensures ∙ ap (λ (w : bits.Word). bits.slice_of w c.in-Slice.hi c.in-Slice.lo) c.operand-in-Slice.ensures.word in
    c.value-in-Slice.ensures.value ∙ ap (λ (w : bits.Word). w.value) word
    ∙ whole (cells (given c.args.ext false c.args.samples.now) c.args.memory.now) ns values c.args.i (Slice c.in-Slice.a c.in-Slice.hi c.in-Slice.lo) c.requires.fits.right.right c.requires.inside c.requires.known (ap (λ (n : Node). n.kind) (sym same) ∙ c.in-Slice.is) refl

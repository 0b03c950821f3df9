-- A request of the program, as what it asks for.
use Rattle.std.specs.Prelude.{ℕ, List, Option, None, map, string_bytes, option_map}
use Rattle.kp_command_line.specs.{declared.Input.Input, Words.file_seen}
use Rattle.kp_view_words.specs.Words.{Asked, Beside, Order, Pair, Run, Task, bad_words, help, version, show, diagram, window, labelled, svg, page, paths, paths_svg, stalls, depth}
use Rattle.kp_view_words.specs.declared.words.Request.{Request}
use Rattle.kp_view_words.specs.declared.task.Order as code_order
use Rattle.kp_view_words.specs.declared.task.WithLabels as code_beside
use Rattle.kp_view_words.specs.declared.task.Order.TheVariants as orders
use Rattle.kp_view_words.specs.declared.pair.Pair as code_pair
use Rattle.kp_view_words.specs.declared.task.Cycles as code_cycles
use Rattle.kp_view_words.specs.declared.task.Run as code_run
use Rattle.kp_view_words.specs.declared.task.Task as code_task
use Rattle.kp_view_words.specs.declared.words.Request.TheVariants as requests

abbrev pub run_seen : code_run.Run → Run
run_seen run = record { count = run.count; names = map string_bytes run.names.now }

abbrev pub cycles_seen : code_cycles.Cycles → Run
cycles_seen cycles = record { count = cycles.count; names = map string_bytes cycles.names.now }

abbrev pub beside_seen : code_beside.WithLabels → Beside
beside_seen shown = record { label = shown.label.now; file = option_map (λ word. string_bytes word.now) shown.file; listing = shown.listing.now }

abbrev pub order_seen : code_order.Order → Order
order_seen (orders.Diagram run) = diagram (run_seen run)
order_seen (orders.Window later) = window later.from (run_seen later.run)
order_seen (orders.Labelled shown) = labelled shown.later.from (run_seen shown.later.run) (beside_seen shown)
order_seen (orders.Svg run) = svg (run_seen run)
order_seen (orders.Page run) = page (run_seen run)
order_seen (orders.Paths names) = paths (map string_bytes names.now)
order_seen (orders.PathsSvg names) = paths_svg (map string_bytes names.now)
order_seen (orders.Stalls cycles) = stalls (cycles_seen cycles)
order_seen (orders.Depth memories) = depth memories

abbrev pub task_seen : code_task.Task → Task
task_seen task = record { order = order_seen task.order; file = option_map (λ word. string_bytes word.now) task.file }

abbrev pub asked : Request → Asked
asked (requests.BadWords topic) = bad_words topic
asked (requests.Help topic) = help topic
asked requests.Version = version
asked (requests.Show task) = show (task_seen task)

-- the file of what is shown
abbrev pub file_asked : Asked → Option (List ℕ)
file_asked (show task) = task.file
file_asked _ = None

abbrev pub pair_seen : code_pair.Pair → Pair
pair_seen pair = record { first = file_seen pair.first; second = file_seen pair.second }

-- What a comparison of written words reads of one target.
use Rattle.std.proofs.Common.{◌≡◌, ◌≢◌, ◌∙◌, ℕ, ◌<◌, List, length, get_or, Option, Some, ap, sym, subst, arith}
use Rattle.std.proofs.lemmas.{Grind.get_or_default_zero, List.get_or-map}
use Rattle.kp_ast.specs.declared.tree.Job.{Job}
use Rattle.kp_machine.specs.{Slots.targets_of, Words.HasWord, Words.target}
use Rattle.kp_run.specs.{Homes.home_of, Places.IsPlace, Places.place_in, declared.places.Place.Place, declared.places.Place.TheVariants.File}
use Rattle.kp_run.proofs.Placing.{place_at, place_there}
use Rattle.kp_seq.specs.{Running.Running, Running.state, Recorded.Recorded}
use Rattle.kp_implements.specs.Naming.{value_shown}
use Rattle.kp_watch.specs.declared.{lockstep.Beside.Beside, compare.Tables.Tables}
use Rattle.kp_watch.specs.inner.{Changes.IsComparable, Changes.noted_at, Changes.last_write, Changes.no_record, Changes.record_by, Machines.due_by}
use Rattle.kp_watch.specs.inner.Results.{result_in}
use Rattle.kp_watch.proofs.Lanes.{machine_at}

module _ (job : Job) (tables : Tables) (both : Beside) (t : ℕ) (comparable : IsComparable job tables both) (within : t < length (targets_of job.decls)) where
  abbrev machines : List Running
  machines = both.machines.items

  pub place_is : (place d : Place) → place ≡ get_or tables.places.items t d → place ≡ place_in both.sim.net (target job t)
  place_is place d is = is ∙ place_at job both.sim.net tables.places.items t d comparable.places within

  pub home_is : (home d : ℕ) → home ≡ get_or tables.homes.items t d → home ≡ home_of job t
  home_is home d is =
      let there : t < length tables.homes.items = omega (arith, within, comparable.homes.count) in
      is ∙ get_or_default_zero tables.homes.items t d there ∙ comparable.homes.homes t there

  pub number_is : (number d : ℕ) → number ≡ get_or tables.results.items t d → number ≡ result_in job t
  number_is number d is =
      let there : t < length tables.results.items = omega (arith, within, comparable.results.count) in
      is ∙ get_or_default_zero tables.results.items t d there ∙ comparable.results.each t there

  -- its machine is one of the job, and has its value
  pub machine_is : (k d : ℕ) (m : Running) → k ≡ get_or tables.homes.items t d → m ≡ get_or machines k m → (m.job ≡ job) × (due_by job machines t ≡ state m t)
  machine_is k d m place is = machine_at job machines tables.homes.items t d k m comparable.homes comparable.count comparable.jobs within place is

  -- and so is its record of the last instruction
  pub record_is : (k : ℕ) (m : Running) → k ≡ home_of job t → m ≡ get_or machines k m → m.last ≡ record_by machines (home_of job t)
  record_is k m home is =
      let low : k < length machines = omega (arith, home, comparable.homes.within t, comparable.count) in
      ap (λ (x : Running). x.last) is ∙ sym (get_or-map (λ (x : Running). x.last) machines k m no_record low) ∙ ap (record_by machines) home

  -- the file of the target is one of the netlist
  pub file_noted : (place : Place) → place ≡ place_in both.sim.net (target job t) → (f words : ℕ) → place ≡ File f words → f < length both.written.items
  file_noted place is f words file =
      let there = subst (IsPlace both.sim.net) file (place_there job both.sim.net t place comparable.of_job within is) in
      omega (arith, there.0, comparable.noted)

  -- the record has an entry for its result
  pub wrote_fits : (home number : ℕ) (recorded : Recorded) → home ≡ home_of job t → number ≡ result_in job t → recorded ≡ record_by machines (home_of job t)
      → home < both.monitor.stages → 0 < get_or both.monitor.passed home 0 → number < length recorded.writes
  wrote_fits home number recorded at is same stage some =
      let low : home_of job t < both.monitor.stages = omega (arith, stage, at) in
      let any : 0 < get_or both.monitor.passed (home_of job t) 0 = subst (λ (h : ℕ). 0 < get_or both.monitor.passed h 0) at some in
      let fits : result_in job t < length (record_by machines (home_of job t)).writes = comparable.recorded t within low any in
      subst (λ (x : Recorded). number < length x.writes) (sym same) (omega (arith, is, fits))

  -- the netlist and the machine agree at all addresses but these two
  pub agree_here : (place : Place) (home number : ℕ) (m : Running) (noted wrote : Option ℕ) → place ≡ place_in both.sim.net (target job t) → home ≡ home_of job t
      → number ≡ result_in job t → m.job ≡ job → due_by job machines t ≡ state m t → m.last ≡ record_by machines (home_of job t)
      → noted ≡ noted_at both.written.items place → wrote ≡ last_write both.monitor home m.last number
      → (a : ℕ) → HasWord m.job t a → noted ≢ Some a → wrote ≢ Some a → value_shown m.job both.sim.net both.sim.state t a ≡ state m t a
  agree_here place home number m noted wrote placed at is same due recorded noted_is wrote_is a there not_noted not_wrote =
      let here : HasWord job t a = subst (λ (j : Job). HasWord j t a) same there in
      let agree =
      comparable.elsewhere t a here (λ z. not_noted (noted_is ∙ ap (noted_at both.written.items) placed ∙ z))
      (λ z. not_wrote (wrote_is ∙ (λ i. last_write both.monitor (at i) (recorded i) (is i)) ∙ z)) in
      subst (λ (j : Job). value_shown j both.sim.net both.sim.state t a ≡ state m t a) (sym same) (agree ∙ ap (λ (f : ℕ → ℕ). f a) due)

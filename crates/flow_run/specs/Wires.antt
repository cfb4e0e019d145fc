-- Pipes at their start, and the ends that each worker gets.
use Rattle.std.specs.Prelude.{◌≡◌, ◌<◌, ◌+◌, ◌*◌, ◌&&◌, nat_lt, ℕ, Bool, true, false, List, [], Option, Some, None, get_or, length, map, replicate}
use Rattle.batch_channel.specs.Ends.{APipe, AnEnd}
use Rattle.plan_trees.specs.Physicals.{PhysicalData}
use Rattle.flow_run.specs.Ends.{EndTable, PipeTables, goes_along}
use Rattle.flow_instance.specs.Instances.{Instance}
use Rattle.flow_run.specs.Tables.{IsChangedIn, IsShaped, cell_in}
use Rattle.flow_run.specs.declared.workers.Worker.{Worker}

abbrev pub EndTables : Type 0
EndTables = List EndTable

-- an end that has put or taken nothing
abbrev pub new_end : APipe → AnEnd
new_end p = record { name = p.name; notes = [] }

-- if the pipe should exist, it does, with both ends; otherwise neither it nor an end exists
abbrev pub IsWiredIf : Bool → (depth : ℕ) → Option APipe → Option AnEnd → Option AnEnd → Type 0
IsWiredIf false depth pipe put take = (pipe ≡ None) × (put ≡ None) × (take ≡ None)
IsWiredIf true depth pipe put take = (p : APipe) × (pipe ≡ Some p) × (p.depth ≡ depth) × (put ≡ Some (new_end p)) × (take ≡ Some (new_end p))

-- the number of a pipe, in the order in which they are made; there are at most 16 workers
abbrev pub number_of : (edge from to : ℕ) → ℕ
number_of edge from to = 256 * edge + (16 * from + to)

-- Each pipe with a number below `upto` is at its place if it should exist, and its ends are with their workers. The
-- tables have all places.
pub record AreWired (p : PhysicalData) (count depth upto : ℕ) (pipes : PipeTables) (puts takes : EndTables) : Type 0 where
  pub each : (edge from to : ℕ) → IsWiredIf (goes_along p edge from to && nat_lt (number_of edge from to) upto) depth (cell_in pipes edge from to) (cell_in puts from edge to) (cell_in takes to edge from)
  pub pipe_places : IsShaped count p.workers p.workers pipes
  pub put_places : IsShaped p.workers count p.workers puts
  pub take_places : IsShaped p.workers count p.workers takes

-- one pipe was made
pub record IsMade (depth edge from to : ℕ) (pipes : PipeTables) (puts takes : EndTables) (pipes' : PipeTables) (puts' takes' : EndTables) : Type 0 where
  pub pipe : APipe
  pub deep : pipe.depth ≡ depth
  pub pipe_made : IsChangedIn pipes edge from to (Some pipe) pipes'
  pub put_made : IsChangedIn puts from edge to (Some (new_end pipe)) puts'
  pub take_made : IsChangedIn takes to edge from (Some (new_end pipe)) takes'

-- ---- workers with their ends

-- each number is at its place
abbrev pub AreNumbered : List ℕ → Type 0
AreNumbered numbers = (k : ℕ) → k < length numbers → get_or numbers k 0 ≡ k

module _ {L W : Type 0} where
  abbrev pub numbers_in : List (Worker L W) → List ℕ
  numbers_in ws = map (λ (w : Worker L W). w.number) ws

  abbrev pub instances_in : List (Worker L W) → List (List Instance)
  instances_in ws = map (λ (w : Worker L W). w.instances.items) ws

  abbrev pub puts_in : List (Worker L W) → EndTables
  puts_in ws = map (λ (w : Worker L W). w.puts) ws

  abbrev pub takes_in : List (Worker L W) → EndTables
  takes_in ws = map (λ (w : Worker L W). w.takes) ws

  -- the first `count` workers, in the order of their numbers, without an instance
  pub record HaveNone (count : ℕ) (ws : List (Worker L W)) : Type 0 where
    pub numbered : AreNumbered (numbers_in ws)
    pub none : instances_in ws ≡ replicate count []

  -- numbers and instances are as before
  pub record KeepInstances (old new : List (Worker L W)) : Type 0 where
    pub numbers : numbers_in new ≡ numbers_in old
    pub instances : instances_in new ≡ instances_in old

  -- numbers and ends are as before
  pub record KeepEnds (old new : List (Worker L W)) : Type 0 where
    pub numbers : numbers_in new ≡ numbers_in old
    pub puts : puts_in new ≡ puts_in old
    pub takes : takes_in new ≡ takes_in old

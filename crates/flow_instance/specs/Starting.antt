-- The part of a program and a physical plan that an instance keeps, and instances at their start.
use Rattle.std.specs.Prelude.{◌≡◌, ◌≤◌, ◌<◌, ℕ, true, false, Option, Some, None, List, [], map, slice_get}
use Rattle.flow_instance.specs.Instances.{Instance}
use Rattle.flow_instance.specs.Local.{IsLocal}
use Rattle.flow_instance.specs.Spots.{ports_of, setting, spot}
use Rattle.flow_instance.specs.Steps.{Started}
use Rattle.pact_operators.specs.Allowed.{Bag}
use Rattle.pact_operators.specs.PlanOps.{body_at, is_source_kind, kind_at, left_keys_in, plan_ops, right_keys_in}
use Rattle.pact_operators.specs.Programs.{HasArity, HasKeyLists, IsKindFor, ProgramData, nulls_match}
use Rattle.pact_record.specs.Widths.{AreBelow, AreWide}
use Rattle.plan_trees.specs.Sending.{share_from}
use Rattle.plan_trees.specs.Physicals.{PhysicalData, ship_at}
use Rattle.plan_trees.specs.Plans.{has, subtree_of}
use Rattle.tac_syntax.specs.Valid.{WithFields}
use Rattle.tac_syntax.specs.declared.declarations.OpKind.TheVariants.{Source}
use Rattle.flow_instance.specs.States.{port_of}
use Rattle.flow_instance.specs.declared.parts.Part.{Part}
use Rattle.flow_instance.specs.declared.before_start.Unstarted.{Unstarted}

-- ---- of the program

-- if the number is a source's, the rows are the worker's share
abbrev pub IsShareOf : ProgramData → List Bag → (at workers worker : ℕ) → Bag → Type 0
IsShareOf p inputs at workers worker rows = kind_at p.ops at ≡ Source → rows ≡ share_from 0 workers worker ((plan_ops p inputs).rows at)

-- the function that an operator calls; a source has none
pub record IsFunctionAt (p : ProgramData) (at : ℕ) (f : WithFields) : Type 0 where
  pub fields : f.fields ≡ p.fields
  pub body : f.function.body ≡ body_at p at
  pub kind : IsKindFor (kind_at p.ops at) f.function.kind
  pub keys : HasKeyLists (kind_at p.ops at) f.function.keys (left_keys_in (slice_get p.ops at)) (right_keys_in (slice_get p.ops at))
  pub left_below : AreBelow p.fields (left_keys_in (slice_get p.ops at))
  pub right_below : AreBelow p.fields (right_keys_in (slice_get p.ops at))

-- only a source has no function
abbrev pub IsCalledAt : ProgramData → ℕ → Option WithFields → Type 0
IsCalledAt p at None = kind_at p.ops at ≡ Source
IsCalledAt p at (Some f) = IsFunctionAt p at f

-- the part has what the program and the plan say at this number
pub record IsPartAt (p : ProgramData) (physical : PhysicalData) (number worker_number size : ℕ) (part : Part) : Type 0 where
  pub at : part.at ≡ number
  pub kind : part.kind ≡ kind_at p.ops number
  pub called : IsCalledAt p number part.called
  pub left_keys : part.left_keys ≡ left_keys_in (slice_get p.ops number)
  pub right_keys : part.right_keys ≡ right_keys_in (slice_get p.ops number)
  pub nulls : part.nulls ≡ nulls_match p
  pub fields : part.fields ≡ p.fields
  pub worker : part.worker ≡ worker_number
  pub workers : part.workers ≡ physical.workers
  pub batch : part.batch ≡ size
  pub ports : map port_of part.ports.items ≡ ports_of physical (subtree_of number physical.tree)
  pub out : part.out ≡ ship_at physical number

-- ---- before the start

-- The data from which the instance of a source or operator on a worker starts. Only a source has rows of its own.
pub record IsUnstarted (p : ProgramData) (physical : PhysicalData) (at worker size : ℕ) (share : Bag) (u : Unstarted) : Type 0 where
  pub part : IsPartAt p physical at worker size u.part
  pub rows : u.rows ≡ share
  pub here : has at physical.tree ≡ true
  pub arity : HasArity p.ops physical.tree
  pub below : worker < physical.workers
  pub some : 1 ≤ size
  pub wide : AreWide p.fields share
  pub none : is_source_kind (kind_at p.ops at) ≡ false → share ≡ []

-- the data belongs to some program's plan
pub record CanStart (u : Unstarted) : Type 0 where
  pub program : ProgramData
  pub physical : PhysicalData
  pub number : ℕ
  pub worker : ℕ
  pub size : ℕ
  pub share : Bag
  pub is : IsUnstarted program physical number worker size share u

-- an instance at its start: nothing was taken or put
pub record IsStartedAt (p : ProgramData) (physical : PhysicalData) (number worker_number size : ℕ) (share : Bag) (i : Instance) : Type 0 where
  pub at : i.part.at ≡ number
  pub worker : i.part.worker ≡ worker_number
  pub batch : i.part.batch ≡ size
  pub started : (inputs : List Bag) → IsShareOf p inputs number physical.workers worker_number share → Started (spot (setting p inputs physical) (subtree_of number physical.tree)) worker_number i
  pub local : (inputs : List Bag) → IsShareOf p inputs number physical.workers worker_number share
      → IsLocal (spot (setting p inputs physical) (subtree_of number physical.tree)) worker_number i (λ port from. []) (λ to. [])

-- The instance starts as the plan says, for any plan to which the data belongs.
abbrev pub IsStartedFrom : Unstarted → Instance → Type 0
IsStartedFrom u i = (p : ProgramData) (physical : PhysicalData) (at worker size : ℕ) (share : Bag) → IsUnstarted p physical at worker size share u → IsStartedAt p physical at worker size share i

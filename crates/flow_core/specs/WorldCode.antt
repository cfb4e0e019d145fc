-- How a world is stored in the logic.
use Rattle.std.specs.Prelude.{ℕ, List, refl}
use Rattle.std.specs.Coded.{Coded, code_by, coded×, coded_list, coded_ℕ}
use Rattle.plan_trees.specs.PhysicalCode.{coded_physical}
use Rattle.plan_trees.specs.Physicals.{PhysicalData}
use Rattle.flow_instance.specs.InstanceCode.{coded_instance}
use Rattle.flow_instance.specs.Instances.{Instance}
use Rattle.flow_instance.specs.contracts.notes.Note.{the_row as note_row}
use Rattle.flow_instance.specs.declared.notes.Note.{Note}
use Rattle.flow_core.specs.Worlds.{QueuedInstanceData, WorldData}

-- an instance and its pipes
abbrev pub coded_queued_instance : Coded QueuedInstanceData
coded_queued_instance =
    code_by (Instance × List (List Note)) (coded× coded_instance (coded_list (coded_list note_row.coded))) (λ s. (s.instance, s.queues))
    (λ q. record { instance = q.0; queues = q.1 }) (λ _. refl)

-- the queued instances of one source or operator
abbrev pub coded_queued_instances : Coded (List QueuedInstanceData)
coded_queued_instances = coded_list coded_queued_instance

-- all queued instances, with the physical plan and the depth
abbrev pub coded_world : Coded WorldData
coded_world =
    code_by (PhysicalData × (ℕ × List (List QueuedInstanceData))) (coded× coded_physical (coded× coded_ℕ (coded_list coded_queued_instances)))
    (λ w. (w.physical, (w.depth, w.queued_instances))) (λ q. record { physical = q.0; depth = q.1.0; queued_instances = q.1.1 }) (λ _. refl)

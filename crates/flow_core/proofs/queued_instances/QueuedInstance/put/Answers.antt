use Rattle.std.proofs.Common.{ap, ◌∙◌}
use Rattle.flow_instance.specs.Instances.{want}
use Rattle.flow_core.specs.Worlds.{QueuedInstanceData}
use Rattle.flow_core.proofs.queued_instances.QueuedInstance.put.Goals as goal

pub offer-note-requires-clause-put : goal.offer-note-requires-clause-put
offer-note-requires-clause-put g c κs within = (c.args.to, ap (λ (s : QueuedInstanceData). want s.instance) c.self.view_is ∙ c.requires.wanted)

use Rattle.std.proofs.Common.{Ok, take}
use Rattle.pact_operators.specs.PlanOps.{sources_of}
use Rattle.pact_load.specs.Answers.{Comes}
use Rattle.pact_load.specs.Stages.{each}
use Rattle.pact_load.specs.Loading.{source_file}
use Rattle.pact_load.proofs.loading.load_sources.Given as goal

abbrev pub invariant-loop-op : goal.invariant-loop-op
invariant-loop-op g l =
    Comes (λ files. each (source_file l.fields files) (sources_of (take l.op-index l.op-items))) (g.F.Feed.shows l.fn.feed) (g.F.Feed.shows l.feed) (Ok l.inputs)
